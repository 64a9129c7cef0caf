-- Reading what each processor waits for.
use Rattle.std.proofs.Common.{◌≡◌, ℕ, zero, suc, ◌%◌, ◌^◌, ◌<◌, true, ◌&&◌, ◌==◌, ltb, leb, List, [], ◌∷◌, ◌++◌, length, Option, Some, None, Result, Ok, refl, ap, subst, ◌∙◌, arith}
use Rattle.std.proofs.lemmas.Bool.{and_from, ltb-true, lt-ltb, leb-true, le-leb}
use Rattle.std.proofs.lemmas.Bool.Decides.{nat_tests}
use Rattle.mig_base.specs.declared.TheConstants.{MAX_CPUS}
use Rattle.mig_base.specs.declared.command.Command.{Command}
use Rattle.mig_base.specs.declared.command.Command.TheVariants.{Load, Store}
use Rattle.mig_base.specs.declared.phase.Received.{Received}
use Rattle.mig_base.specs.Flat.{is_width, is_aligned}
use Rattle.foundation.proofs.TestLemmas.{and_first, and_second}
use Rattle.mig_model.specs.Bounds.{AreRightAccesses, IsCpuCount}
use Rattle.page_stream.specs.Texts.{command_text, commands_text, state_code}
use Rattle.page_stream.proofs.Encodable.{fits_value}
use Rattle.page_stream.specs.Rules.{IsProperWait}
use Rattle.frame_decoder.specs.declared.fault.StreamFault.{StreamFault}
use Rattle.frame_decoder.specs.Reading.{tested, byte_at, many_at, load_at, store_at, command_at, commands_at, is_cpu_count, state_at}
use Rattle.frame_decoder.proofs.FieldLemmas.{IsBytes, IsBytes-rest, AllFrom, bind_split, bind_then, checked_ok, ok_is, Takes, IsReader, two_takes, two_again, three_takes, three_again, reads_64, reads_byte, counted_takes, counted_again}

-- One command

width_small : (width : ℕ) → is_width width ≡ true → width < 256
width_small width h = grind (arith, nat_tests)

aligned_width : (addr width : ℕ) → is_aligned addr width ≡ true → is_width width ≡ true
aligned_width addr width h = and_first (is_width width) (addr % width == 0) h

abbrev load_step : ℕ → ℕ → List ℕ → Result (Option Command × List ℕ) StreamFault
load_step addr width rest = tested (is_aligned addr width) (Some (Load addr width), rest)

abbrev store_step : ℕ → ℕ → ℕ → List ℕ → Result (Option Command × List ℕ) StreamFault
store_step addr width value rest = tested (is_aligned addr width && ltb value (256 ^ width)) (Some (Store addr width value), rest)

abbrev Taken : List ℕ → Option Command × List ℕ → Type 0
Taken bytes x = Takes bytes (command_text x.0) x.1 × IsProperWait x.0

load_takes : (bytes : List ℕ) (x : Option Command × List ℕ) → IsBytes bytes → load_at bytes ≡ Ok x → Taken (1 ∷ bytes) x
unfolding load_at
load_takes bytes x fits e =
    let p = two_takes reads_64 reads_byte load_step bytes x fits e in
    let g = checked_ok (is_aligned p.0 p.1) (Some (Load p.0 p.1), p.2) x p.6 in
    subst (Taken (1 ∷ bytes)) g.1 (record { parts = ap (λ (t : List ℕ). 1 ∷ t) p.3.parts; rest_fits = p.3.rest_fits }, (g.0, p.4))

store_takes : (bytes : List ℕ) (x : Option Command × List ℕ) → IsBytes bytes → store_at bytes ≡ Ok x → Taken (2 ∷ bytes) x
unfolding store_at
store_takes bytes x fits e =
    let p = three_takes reads_64 reads_byte reads_64 store_step bytes x fits e in
    let g = checked_ok (is_aligned p.0 p.1 && ltb p.2 (256 ^ p.1)) (Some (Store p.0 p.1 p.2), p.3) x p.8 in
    subst (Taken (2 ∷ bytes)) g.1
    (record { parts = ap (λ (t : List ℕ). 2 ∷ t) p.4.parts; rest_fits = p.4.rest_fits }, (and_first (is_aligned p.0 p.1) (ltb p.2 (256 ^ p.1)) g.0, ltb-true _ _ (and_second (is_aligned p.0 p.1) (ltb p.2 (256 ^ p.1)) g.0), p.5))

command_takes : (bytes : List ℕ) (x : Option Command × List ℕ) → IsBytes bytes → command_at bytes ≡ Ok x → Taken bytes x
unfolding command_at
command_takes [] x fits e = absurd cc
command_takes (zero ∷ rest) x fits e = subst (Taken (0 ∷ rest)) (ok_is (None, rest) x e) (record { parts = refl; rest_fits = IsBytes-rest 0 rest fits }, tt)
command_takes (suc zero ∷ rest) x fits e = load_takes rest x (IsBytes-rest 1 rest fits) e
command_takes (suc (suc zero) ∷ rest) x fits e = store_takes rest x (IsBytes-rest 2 rest fits) e
command_takes (suc (suc (suc b)) ∷ rest) x fits e = absurd cc

command_again : (command : Option Command) (rest : List ℕ) → IsProperWait command → command_at (command_text command ++ rest) ≡ Ok (command, rest)
unfolding command_at load_at store_at
command_again None rest h = refl
command_again (Some (Load addr width)) rest h = two_again reads_64 reads_byte load_step addr width rest h.1 (width_small width (aligned_width addr width h.0)) ∙ rw h.0 refl
command_again (Some (Store addr width value)) rest h =
    let w = aligned_width addr width h.0 in
    three_again reads_64 reads_byte reads_64 store_step addr width value rest h.2 (width_small width w) (fits_value width value w h.1) ∙ rw (h.0, lt-ltb value (256 ^ width) h.1) refl
command_again (Some command) rest h = absurd h

reads_command : (state : Unit {0}) → IsReader command_at command_text IsProperWait
reads_command state = record { takes = command_takes; again = command_again }

-- All of them

abbrev stays : Unit {0} → Option Command → Unit {0}
stays state command = state

abbrev AllRight : List (Option Command) → Type 0
AllRight commands = AllFrom (λ (_ : Unit {0}). IsProperWait) stays tt commands

right_accesses : (commands : List (Option Command)) → AllRight commands → AreRightAccesses commands
right_accesses [] h = tt
right_accesses (None ∷ commands) h = right_accesses commands h.1
right_accesses (Some command ∷ commands) h = (h.0, right_accesses commands h.1)

all_right : (commands : List (Option Command)) → AreRightAccesses commands → AllRight commands
all_right [] h = tt
all_right (None ∷ commands) h = (tt, all_right commands h)
all_right (Some command ∷ commands) h = (h.0, all_right commands h.1)

abbrev pub AreWaiting : List (Option Command) → Type 0
AreWaiting commands = AreRightAccesses commands × IsCpuCount (length commands)

commands_takes : (bytes : List ℕ) (x : List (Option Command) × List ℕ) → IsBytes bytes → commands_at bytes ≡ Ok x → Takes bytes (commands_text x.0) x.1 × AreWaiting x.0
unfolding commands_at
commands_takes bytes x fits e =
    let b = bind_split (byte_at bytes) (λ n. many_at command_at n.0 n.1) (λ commands. tested (is_cpu_count (length commands.0)) commands) x e in
    let g = checked_ok (is_cpu_count (length b.0.0)) b.0 x b.2 in
    let p = counted_takes reads_byte reads_command stays tt bytes b.0 fits b.1 in
    subst (λ (x : List (Option Command) × List ℕ). Takes bytes (commands_text x.0) x.1 × AreWaiting x.0) g.1
    (p.0, (right_accesses b.0.0 p.2, (ltb-true _ _ (and_first (ltb 0 (length b.0.0)) (leb (length b.0.0) MAX_CPUS) g.0), leb-true _ _ (and_second (ltb 0 (length b.0.0)) (leb (length b.0.0) MAX_CPUS) g.0))))

commands_again : (commands : List (Option Command)) (rest : List ℕ) → AreWaiting commands → commands_at (commands_text commands ++ rest) ≡ Ok (commands, rest)
unfolding commands_at
commands_again commands rest h =
    let few = h.1.1 in
    bind_then (byte_at (commands_text commands ++ rest)) (λ n. many_at command_at n.0 n.1) (λ commands. tested (is_cpu_count (length commands.0)) commands) (commands, rest)
    (counted_again reads_byte reads_command stays tt commands rest (omega (arith, few)) (all_right commands h.0))
    ∙ rw (and_from (ltb 0 (length commands)) (leb (length commands) MAX_CPUS) (lt-ltb 0 (length commands) h.1.0) (le-leb (length commands) MAX_CPUS few)) refl

pub reads_commands : IsReader commands_at commands_text AreWaiting
reads_commands = record { takes = commands_takes; again = commands_again }

-- How far the destination has come

abbrev pub state_text : Received → List ℕ
state_text state = state_code state ∷ []

state_takes : (bytes : List ℕ) (x : Received × List ℕ) → IsBytes bytes → state_at bytes ≡ Ok x → Takes bytes (state_text x.0) x.1 × Unit {0}
unfolding state_at
state_takes [] x fits e = absurd cc
state_takes (zero ∷ rest) x fits e = subst (λ (x : Received × List ℕ). Takes (0 ∷ rest) (state_text x.0) x.1 × Unit {0}) (ok_is (Received.NotRun, rest) x e) (record { parts = refl; rest_fits = IsBytes-rest 0 rest fits }, tt)
state_takes (suc zero ∷ rest) x fits e = subst (λ (x : Received × List ℕ). Takes (1 ∷ rest) (state_text x.0) x.1 × Unit {0}) (ok_is (Received.Running, rest) x e) (record { parts = refl; rest_fits = IsBytes-rest 1 rest fits }, tt)
state_takes (suc (suc zero) ∷ rest) x fits e =
    subst (λ (x : Received × List ℕ). Takes (2 ∷ rest) (state_text x.0) x.1 × Unit {0}) (ok_is (Received.Ended, rest) x e) (record { parts = refl; rest_fits = IsBytes-rest 2 rest fits }, tt)
state_takes (suc (suc (suc b)) ∷ rest) x fits e = absurd cc

state_again : (state : Received) (rest : List ℕ) → Unit {0} → state_at (state_text state ++ rest) ≡ Ok (state, rest)
unfolding state_at
state_again Received.NotRun rest h = refl
state_again Received.Running rest h = refl
state_again Received.Ended rest h = refl

pub reads_state : IsReader state_at state_text (λ _. Unit {0})
reads_state = record { takes = state_takes; again = state_again }
