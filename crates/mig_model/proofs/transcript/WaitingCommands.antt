-- A command that waits is changed by no step but the Retry that answers it.
use Rattle.std.proofs.Common.{◌≡◌, ℕ, zero, suc, Bool, true, false, Option, Some, List, [], ◌∷◌, refl, sym, ap, ◌∙◌, subst, arith, IsOk, ◌⊎◌, inl, inr, ⊎_elim, not, ltb, length}
use Rattle.std.specs.Prelude.{map, set}
use Rattle.std.specs.Ordering.{nat_cmp}
use Rattle.std.specs.FinMap.{FinMap}
use Rattle.std.specs.FinSet.{FinSet}
use Rattle.std.proofs.lemmas.Bool.Decides.{nat_tests}
use Rattle.std.proofs.lemmas.Bool.{false≢true, eq-eqb}
use Rattle.std.proofs.lemmas.Option.{none-some}
use Rattle.mig_base.specs.declared.cpu_state.CpuState.{CpuState}
use Rattle.mig_base.specs.declared.schedule.Step.{Step}
use Rattle.mig_base.specs.declared.Prot.{Prot}
use Rattle.mig_base.specs.declared.command.Command.{Command}
use Rattle.mig_base.specs.declared.message.Message.{Message}
use Rattle.mig_base.specs.declared.message.Message.TheVariants.{PageFault}
use Rattle.mig_base.specs.Commands.{is_access}
use Rattle.mig_model.specs.Guest.{Guest, is_left_by, read_guest, took_by, tried}
use Rattle.mig_model.specs.Cpus.Took.{Sleep}
use Rattle.mig_model.specs.Wire.{Frame, Sent}
use Rattle.mig_model.specs.Wire.Frame.{Package}
use Rattle.mig_model.specs.Migration.{World, next, guest_by, guest_of, outcome}
use Rattle.mig_model.proofs.steps.StepWorlds.{after_command, after_deliver}
use Rattle.mig_model.specs.Invariant.{IsSoundWorld}
use Rattle.mig_model.specs.Promises.{is_retry_of, Slept}
use Rattle.mig_model.proofs.invariant.FirstFrame.{delivered}
use Rattle.mig_model.proofs.steps.StepCases.{made-next, made-ok}
use Rattle.mig_model.proofs.steps.WokenSteps.{IsWoken, guest_woken, wakes-next, wakes-taken}
use Rattle.mig_model.specs.Cpus.{idle_processors, all_woken, is_idle, message_less, outstanding, processor_after, processor_at, taken_over, Took}
use Rattle.mig_model.specs.Source.{is_stopped, commands_of}
use Rattle.mig_model.proofs.memory.Facts.{some_command}

-- Processors

pub set_same : (processors : List CpuState) (i : ℕ) (new : CpuState) → outstanding new ≡ outstanding (processor_at processors i) → (k : ℕ) →
    outstanding (processor_at (set processors i new) k) ≡ outstanding (processor_at processors k)
set_same [] i new same k = refl
set_same (p ∷ ps) zero new same zero = same
set_same (p ∷ ps) zero new same (suc k) = refl
set_same (p ∷ ps) (suc i) new same zero = refl
set_same (p ∷ ps) (suc i) new same (suc k) = set_same ps i new same k

pub idle_at : (count k : ℕ) → processor_at (idle_processors count) k ≡ CpuState.Idle
idle_at zero k = refl
idle_at (suc count) zero = refl
idle_at (suc count) (suc k) = idle_at count k

pub map_at : (f : CpuState → CpuState) (ps : List CpuState) (k : ℕ) → f CpuState.Idle ≡ CpuState.Idle → processor_at (map f ps) k ≡ f (processor_at ps k)
map_at f [] k idle = sym idle
map_at f (p ∷ ps) zero idle = refl
map_at f (p ∷ ps) (suc k) idle = map_at f ps k idle

-- waking leaves what waits
pub woken_keeps : (test : ℕ → Bool) (ps : List CpuState) (k : ℕ) → outstanding (processor_at (all_woken test ps) k) ≡ outstanding (processor_at ps k)
woken_keeps test ps k = grind (arith, nat_tests, map_at)

pub less_same : (p : CpuState) → outstanding (message_less p) ≡ outstanding p
less_same p = grind (arith, nat_tests)

taken_outstanding : (p : CpuState) → outstanding (taken_over (outstanding p)) ≡ outstanding p
taken_outstanding p = grind (arith, nat_tests)

-- the destination takes over what waits
pub taken_keeps : (ps : List CpuState) (k : ℕ) → outstanding (processor_at (map taken_over (commands_of ps)) k) ≡ outstanding (processor_at ps k)
taken_keeps [] k = refl
taken_keeps (p ∷ ps) zero = taken_outstanding p
taken_keeps (p ∷ ps) (suc k) = taken_keeps ps k

-- Guests

-- the second guest must make what the first must, and nothing else
abbrev pub SameWaits : Guest → Guest → Type 0
SameWaits old new = (k : ℕ) → outstanding (processor_at new.cpus k) ≡ outstanding (processor_at old.cpus k)

read_same : (guest : Guest) (cpu : ℕ) (message : Message) (k : ℕ) →
    outstanding (processor_at (all_woken (is_left_by message) (set guest.cpus cpu (message_less (processor_at guest.cpus cpu)))) k) ≡ outstanding (processor_at guest.cpus k)
read_same guest cpu message k =
    woken_keeps (is_left_by message) (set guest.cpus cpu (message_less (processor_at guest.cpus cpu))) k
    ∙ set_same guest.cpus cpu (message_less (processor_at guest.cpus cpu)) (less_same (processor_at guest.cpus cpu)) k

pub waits_read : (guest : Guest) (cpu : ℕ) (message : Message) → SameWaits guest (read_guest guest cpu message)
waits_read guest cpu (PageFault addr write wp tid) k = refl
waits_read guest cpu message k = read_same guest cpu message k

-- where the guest runs, by the node that changes
pub waits_source : (ran : Bool) (old new to : Guest) → SameWaits old new → SameWaits (guest_by ran old to) (guest_by ran new to)
waits_source ran old new to same k = grind (arith, nat_tests)

pub waits_destination : (ran : Bool) (from old new : Guest) → SameWaits old new → SameWaits (guest_by ran from old) (guest_by ran from new)
waits_destination ran from old new same k = grind (arith, nat_tests)

-- Steps

-- the guest once a command was tried
pub tried_guest : (world : World) (cpu : ℕ) (command : Command) → guest_of (after_command world cpu command) ≡ tried (is_access command) (guest_of world) cpu command
tried_guest world cpu command = grind (arith, nat_tests)

-- another processor has tried a command
pub set_other : (processors : List CpuState) (i k : ℕ) (new : CpuState) → (i ≡ k → ⊥) → processor_at (set processors i new) k ≡ processor_at processors k
set_other [] i k new other = refl
set_other (p ∷ ps) zero zero new other = absurd (other refl)
set_other (p ∷ ps) zero (suc k) new other = refl
set_other (p ∷ ps) (suc i) zero new other = refl
set_other (p ∷ ps) (suc i) (suc k) new other = set_other ps i k new (λ e. other (ap suc e))

pub tried_other : (world : World) (cpu : ℕ) (tries : Command) (k : ℕ) → (cpu ≡ k → ⊥) → outstanding (processor_at (guest_of (after_command world cpu tries)).cpus k) ≡ outstanding (processor_at (guest_of world).cpus k)
tried_other world cpu tries k other = grind (arith, nat_tests, set_other)

idle_none : (p : CpuState) (command : Command) → is_idle p ≡ true → outstanding p ≡ Some command → ⊥
idle_none p command h e = grind (arith, nat_tests)

-- Deliveries

pub package_next : (epoch : ℕ) (areas : FinMap nat_cmp Prot) (owed : FinSet nat_cmp) (commands : List (Option Command)) (rest : List Sent) (world : World) → world.up ≡ true → world.forward.frames ≡ record { epoch = epoch; frame = Package areas owed commands } ∷ rest → IsSoundWorld world →
    (commands ≡ commands_of world.source.guest.cpus) × (world.destination.has_run ≡ false) × (is_stopped world.source.phase ≡ true)
package_next epoch areas owed commands rest world up first kept = grind (arith, nat_tests)

package_same : (epoch : ℕ) (areas : FinMap nat_cmp Prot) (owed : FinSet nat_cmp) (commands : List (Option Command)) (rest : List Sent) (world : World) → world.up ≡ true → world.forward.frames ≡ record { epoch = epoch; frame = Package areas owed commands } ∷ rest → IsSoundWorld world →
    SameWaits (guest_of world) (guest_of (delivered world (record { epoch = epoch; frame = Package areas owed commands } ∷ rest)))
package_same epoch areas owed commands rest world up first kept k = grind (arith, nat_tests, taken_keeps)

-- every step but an Issue and a Retry leaves what each processor must make
abbrev pub WaitsAs : World → World → Type 0
WaitsAs world new = SameWaits (guest_of world) (guest_of new)

abbrev pub is_try : Step → Bool
is_try (Step.Issue cpu command) = true
is_try (Step.Retry cpu) = true
is_try step = false

-- waking leaves what waits
pub woken_waits : (old new : List CpuState) → IsWoken old new → (k : ℕ) → outstanding (processor_at new k) ≡ outstanding (processor_at old k)
woken_waits old new w k = ap (λ ps. outstanding (processor_at ps k)) w.is ∙ woken_keeps w.test old k

taken_same : (frame : Frame) (epoch : ℕ) (rest : List Sent) (world : World) → world.up ≡ true → world.forward.frames ≡ record { epoch = epoch; frame = frame } ∷ rest → IsSoundWorld world → WaitsAs world (after_deliver world (record { epoch = epoch; frame = frame }) rest)
taken_same frame epoch rest world up first kept k = grind (arith, nat_tests, package_same, guest_woken, wakes-taken)

pub same_waits : (world : World) (step : Step) → IsSoundWorld world → is_try step ≡ false → WaitsAs world (next world step)
same_waits world (Step.Issue cpu tries) kept other = absurd (false≢true (sym other))
same_waits world (Step.Retry cpu) kept other = absurd (false≢true (sym other))
same_waits world Step.SourceRead kept other =
    made-next (WaitsAs world) world Step.SourceRead (λ k. refl)
    (λ noted is started unswitched. waits_source world.destination.has_run world.source.guest _ world.destination.guest (waits_read world.source.guest noted.cpu noted.message))
same_waits world Step.DestRead kept other =
    made-next (WaitsAs world) world Step.DestRead (λ k. refl)
    (λ noted is ran. waits_destination world.destination.has_run world.source.guest world.destination.guest _ (waits_read world.destination.guest noted.cpu noted.message))
same_waits world (Step.Deliver n) kept other =
    made-next (WaitsAs world) world (Step.Deliver n) (λ k. refl) ((λ sent rest is short k. refl), (λ sent rest is full started up free early. taken_same sent.frame sent.epoch rest world up is kept))
same_waits world step kept other = woken_waits _ _ (guest_woken world _ (wakes-next world step kept refl))

-- a processor of a number still has to make its command
abbrev WaitsIn : ℕ → Command → World → Type 0
WaitsIn k command world = outstanding (processor_at (guest_of world).cpus k) ≡ Some command

pub waiting_command : (world : World) (step : Step) (k : ℕ) (command : Command) → IsSoundWorld world → is_retry_of step k ≡ false → outstanding (processor_at (guest_of world).cpus k) ≡ Some command →
    outstanding (processor_at (guest_of (next world step)).cpus k) ≡ Some command
waiting_command world (Step.Issue cpu tries) k command kept other h =
    made-next (WaitsIn k command) world (Step.Issue cpu tries) h
    (λ there idle may.
    tried_other world cpu tries k (λ e. idle_none (processor_at (guest_of world).cpus cpu) command idle (ap (λ i. outstanding (processor_at (guest_of world).cpus i)) e ∙ h)) ∙ h)
waiting_command world (Step.Retry cpu) k command kept other h =
    made-next (WaitsIn k command) world (Step.Retry cpu) h (λ tries is woken may. tried_other world cpu tries k (λ e. false≢true (sym other ∙ eq-eqb cpu k e)) ∙ h)
waiting_command world step k command kept other h = same_waits world step kept refl k ∙ h

-- Who begins to wait

sleeps_by : (took : Took) (tries command : Command) → outstanding (processor_after tries took) ≡ Some command → (tries ≡ command) × (took ≡ Sleep)
sleeps_by took tries command h = grind (arith, nat_tests)

-- what stands at a place of a list where one was set
set_at : (processors : List CpuState) (i k : ℕ) (new : CpuState) (command : Command) → outstanding (processor_at (set processors i new) k) ≡ Some command →
    ((i ≡ k) × (outstanding new ≡ Some command)) ⊎ (outstanding (processor_at processors k) ≡ Some command)
set_at [] i k new command h = inr h
set_at (p ∷ ps) zero zero new command h = inl (refl, h)
set_at (p ∷ ps) zero (suc k) new command h = inr h
set_at (p ∷ ps) (suc i) zero new command h = inr h
set_at (p ∷ ps) (suc i) (suc k) new command h = ⊎_elim (λ (one : (i ≡ k) × (outstanding new ≡ Some command)). inl (ap suc one.0, one.1)) (λ (two : outstanding (processor_at ps k) ≡ Some command). inr two) (set_at ps i k new command h)

-- a processor has a command to make only if it had it, or its own Issue slept
abbrev ArisesIn : World → Step → ℕ → Command → World → Type 0
ArisesIn world step k command new = WaitsIn k command new → WaitsIn k command world ⊎ Slept world step k command

tried_waits : (world : World) (cpu : ℕ) (tries : Command) (k : ℕ) (command : Command) → WaitsIn k command (after_command world cpu tries) →
    ((cpu ≡ k) × (tries ≡ command) × (took_by (is_access tries) (guest_of world).space tries ≡ Sleep)) ⊎ WaitsIn k command world
tried_waits world cpu tries k command h =
    let took = took_by (is_access tries) (guest_of world).space tries in
    ⊎_elim
    (λ (one : (cpu ≡ k) × (outstanding (processor_after tries took) ≡ Some command)). let told = sleeps_by took tries command one.1 in inl (one.0, told.0, told.1))
    (λ (two : outstanding (processor_at (guest_of world).cpus k) ≡ Some command). inr two)
    (set_at (guest_of world).cpus cpu k (processor_after tries took) command (sym (ap (λ g. outstanding (processor_at g.cpus k)) (tried_guest world cpu tries)) ∙ h))

issue_same : (cpu k : ℕ) (tries command : Command) → cpu ≡ k → tries ≡ command → Step.Issue cpu tries ≡ Step.Issue k command
issue_same cpu k tries command a b = ap (λ i. Step.Issue i tries) a ∙ ap (λ c. Step.Issue k c) b

pub waits_arise : (world : World) (step : Step) (k : ℕ) (command : Command) → IsSoundWorld world → WaitsIn k command (next world step) → WaitsIn k command world ⊎ Slept world step k command
waits_arise world (Step.Issue cpu tries) k command kept =
    made-next (ArisesIn world (Step.Issue cpu tries) k command) world (Step.Issue cpu tries) (λ h. inl h)
    (λ there idle may h.
    ⊎_elim
    (λ (one : (cpu ≡ k) × (tries ≡ command) × (took_by (is_access tries) (guest_of world).space tries ≡ Sleep)).
    inr (record { step_is = issue_same cpu k tries command one.0 one.1; sleeps = subst (λ c. took_by (is_access c) (guest_of world).space c ≡ Sleep) one.1 one.2 }))
    (λ (two : WaitsIn k command world). inl two) (tried_waits world cpu tries k command h))
waits_arise world (Step.Retry cpu) k command kept =
    made-next (ArisesIn world (Step.Retry cpu) k command) world (Step.Retry cpu) (λ h. inl h)
    (λ tries is woken may h.
    ⊎_elim
    (λ (one : (cpu ≡ k) × (tries ≡ command) × (took_by (is_access tries) (guest_of world).space tries ≡ Sleep)).
    inl (ap (λ i. outstanding (processor_at (guest_of world).cpus i)) (sym one.0) ∙ is ∙ ap (λ c. Some c) one.1))
    (λ (two : WaitsIn k command world). inl two) (tried_waits world cpu tries k command h))
waits_arise world step k command kept = λ h. inl (sym (same_waits world step kept refl k) ∙ h)

-- How a try changes its processor

pub set_here : (processors : List CpuState) (i : ℕ) (new : CpuState) (command : Command) → outstanding (processor_at processors i) ≡ Some command → processor_at (set processors i new) i ≡ new
set_here [] i new command h = absurd (none-some command h)
set_here (p ∷ ps) zero new command h = refl
set_here (p ∷ ps) (suc i) new command h = set_here ps i new command h

pub retried_at : (world : World) (cpu : ℕ) (command : Command) → IsOk (outcome world (Step.Retry cpu)) → outstanding (processor_at (guest_of world).cpus cpu) ≡ Some command →
    processor_at (guest_of (next world (Step.Retry cpu))).cpus cpu ≡ processor_after command (took_by (is_access command) (guest_of world).space command)
retried_at world cpu command ok waits =
    made-ok (λ new. processor_at (guest_of new).cpus cpu ≡ processor_after command (took_by (is_access command) (guest_of world).space command)) world (Step.Retry cpu)
    (λ other is woken may.
    let same = some_command other command (sym is ∙ waits) in
    ap (λ g. processor_at g.cpus cpu) (tried_guest world cpu other)
    ∙ set_here (guest_of world).cpus cpu (processor_after other (took_by (is_access other) (guest_of world).space other)) command waits
    ∙ ap (λ c. processor_after c (took_by (is_access c) (guest_of world).space c)) same) ok

no_place : (i : ℕ) → not (ltb i 0) ≡ false → ⊥
no_place i h = grind (arith, nat_tests)

fewer : (i n : ℕ) → not (ltb (suc i) (suc n)) ≡ false → not (ltb i n) ≡ false
fewer i n h = grind (arith, nat_tests)

pub set_there : (processors : List CpuState) (i : ℕ) (new : CpuState) → not (ltb i (length processors)) ≡ false → processor_at (set processors i new) i ≡ new
set_there [] i new h = absurd (no_place i h)
set_there (p ∷ ps) zero new h = refl
set_there (p ∷ ps) (suc i) new h = set_there ps i new (fewer i (length ps) h)

pub issued_at : (world : World) (cpu : ℕ) (command : Command) → IsOk (outcome world (Step.Issue cpu command)) →
    processor_at (guest_of (next world (Step.Issue cpu command))).cpus cpu ≡ processor_after command (took_by (is_access command) (guest_of world).space command)
issued_at world cpu command ok =
    made-ok (λ new. processor_at (guest_of new).cpus cpu ≡ processor_after command (took_by (is_access command) (guest_of world).space command)) world (Step.Issue cpu command)
    (λ there idle may.
    ap (λ g. processor_at g.cpus cpu) (tried_guest world cpu command) ∙ set_there (guest_of world).cpus cpu (processor_after command (took_by (is_access command) (guest_of world).space command)) there) ok
