-- How long a text gets: a set has no more runs than pages, and mapped pages are no more areas.
use Rattle.std.proofs.lemmas.Bool.Decides.{nat_tests}
use Rattle.std.proofs.Common.{◌≡◌, ℕ, zero, suc, ◌+◌, ◌-◌, ◌*◌, ◌^◌, ◌<◌, ◌≤◌, Bool, true, false, cond, Option, List, [], ◌∷◌, length, refl, arith}
use Rattle.std.specs.Ordering.{nat_cmp}
use Rattle.std.specs.FinMap as finmap
use Rattle.std.specs.FinMap.{FinMap, get, contains_key}
use Rattle.std.specs.FinSet as finset
use Rattle.std.specs.FinSet.{FinSet, contains}
use Rattle.std.proofs.lemmas.Bool.{false_from_ne_true}
use Rattle.mig_base.specs.declared.Prot.{Prot}
use Rattle.mig_base.specs.declared.TheConstants.{HIGH_PAGE, LOW_PAGE, MAX_PAGES, MAX_CPUS}
use Rattle.mig_base.specs.declared.command.Command.{Command}
use Rattle.mig_base.specs.declared.phase.Received.{Received}
use Rattle.foundation.specs.Ranges.{count_below}
use Rattle.mig_base.proofs.PageLemmas.{count_below-contains_key}
use Rattle.foundation.proofs.RangeLemmas.{count_below-append, count_below-constant}
use Rattle.mig_model.specs.Lengths.{begins_run, begins_area, run_count, area_count, command_len, commands_len, body_len, text_len}
use Rattle.page_stream.specs.Texts.{AreBelow, AreMappedBelow}
use Rattle.mig_model.specs.Bounds.{IsFrame}
use Rattle.mig_model.specs.Wire.{Frame}
use Rattle.mig_model.specs.Wire.Frame.{Discard, Package, Recv}
use Rattle.mig_model.proofs.memory.Facts.{and_left, missing_none}
use Rattle.mig_base.proofs.SetSizes.{count_below-few, len-below}

one_of_two : (b c : Bool) (n : ℕ) → (b ≡ true → c ≡ false) → n + cond b 1 0 + cond c 1 0 ≤ suc n
one_of_two b c n h = grind (arith, nat_tests)

-- a test that never passes twice running
count_below-apart : (p : ℕ → Bool) (n : ℕ) → ((i : ℕ) → p i ≡ true → p (suc i) ≡ false) → count_below p (2 * n) ≤ n
unfolding count_below
count_below-apart p zero h = omega arith
count_below-apart p (suc n) h =
    let twice : 2 * suc n ≡ suc (suc (2 * n)) = omega arith in
    let before = count_below-apart p n h in
    let here = one_of_two (p (2 * n)) (p (suc (2 * n))) (count_below p (2 * n)) (h (2 * n)) in
    rw twice (omega (arith, before, here))

-- Sets and mapped pages

pub run_count-len : (set : FinSet nat_cmp) → AreBelow set → run_count set ≤ finset.len set
unfolding run_count
run_count-len set below =
    let all = len-below set HIGH_PAGE (λ q high. false_from_ne_true (contains set q) (λ there. let low = below q there in omega (arith, low, high))) in
    let fewer : count_below (begins_run set) HIGH_PAGE ≤ count_below (contains set) HIGH_PAGE = count_below-few (begins_run set) (contains set) HIGH_PAGE (λ i. and_left (contains set i) _) in
    omega (arith, fewer, all)

pub area_count-len : (areas : FinMap nat_cmp Prot) → AreMappedBelow areas → area_count areas ≤ finmap.len areas
unfolding area_count
area_count-len areas below =
    let pages : ℕ → Bool = λ q. contains_key areas q in
    let all : count_below pages HIGH_PAGE ≡ finmap.len areas = count_below-contains_key HIGH_PAGE areas (λ q high. missing_none (get areas q) (false_from_ne_true (contains_key areas q) (λ there. let low = below q there in omega (arith, low, high)))) in
    let fewer : count_below (begins_area areas) HIGH_PAGE ≤ count_below pages HIGH_PAGE = count_below-few (begins_area areas) pages HIGH_PAGE (λ i. and_left (contains_key areas i) _) in
    omega (arith, fewer, all)

not_behind : (set : FinSet nat_cmp) (i : ℕ) → begins_run set i ≡ true → begins_run set (suc i) ≡ false
not_behind set i h = grind (arith, nat_tests)

-- between two runs is a page, so half of the pages begin one at most
run_count-half : (set : FinSet nat_cmp) → ((page : ℕ) → contains set page ≡ true → LOW_PAGE ≤ page) → 2 * run_count set ≤ HIGH_PAGE - LOW_PAGE
unfolding run_count
run_count-half set low =
    let split : count_below (begins_run set) HIGH_PAGE ≡ count_below (begins_run set) 16 + count_below (λ i. begins_run set (16 + i)) 1048560 = count_below-append (begins_run set) 16 1048560 in
    let none : count_below (begins_run set) 16 ≡ 0 = count_below-constant (begins_run set) false 16 (λ i below. not_low i (begins_run set i) below refl) in
    let half : count_below (λ i. begins_run set (16 + i)) (2 * 524280) ≤ 524280 =
    count_below-apart (λ i. begins_run set (16 + i)) 524280 (λ i h. let next : 16 + suc i ≡ suc (16 + i) = omega arith in rw next (not_behind set (16 + i) h)) in
    omega (arith, split, none, half)
  where
    not_low : (i : ℕ) (b : Bool) → i < 16 → begins_run set i ≡ b → b ≡ false
    not_low i true below e = absurd (let high = low i (and_left (contains set i) _ e) in omega (arith, high))
    not_low i false below e = refl

-- Texts

command_len-bound : (command : Option Command) → command_len command ≤ 18
command_len-bound command = grind (arith, nat_tests)

pub commands_len-bound : (commands : List (Option Command)) → commands_len commands ≤ 18 * length commands
commands_len-bound [] = omega arith
commands_len-bound (command ∷ commands) = let first = command_len-bound command in let rest = commands_len-bound commands in omega (arith, first, rest)

pub discard-bound : (set : FinSet nat_cmp) → ((page : ℕ) → contains set page ≡ true → LOW_PAGE ≤ page) → body_len (Discard set) ≤ 4 + 4 * (HIGH_PAGE - LOW_PAGE)
discard-bound set low = let half = run_count-half set low in omega (arith, half)

pub package-bound : (areas : FinMap nat_cmp Prot) (owed : FinSet nat_cmp) (commands : List (Option Command)) → AreMappedBelow areas → AreBelow owed → finmap.len areas ≤ MAX_PAGES → finset.len owed ≤ MAX_PAGES → length commands ≤ MAX_CPUS
    → body_len (Package areas owed commands) ≤ 9 + 17 * MAX_PAGES + 18 * MAX_CPUS
package-bound areas owed commands mapped below few due cpus = grind (arith, nat_tests, area_count-len, run_count-len, commands_len-bound)

pub recv-bound : (state : Received) (owed : FinSet nat_cmp) → AreBelow owed → finset.len owed ≤ MAX_PAGES → body_len (Recv state owed) ≤ 5 + 8 * MAX_PAGES
recv-bound state owed below due = let r = run_count-len owed below in omega (arith, r, due)

-- the text of a frame is shorter than 2^32 bytes
pub text_short : (frame : Frame) → IsFrame frame → text_len frame < 2 ^ 32
text_short frame is = grind (arith, nat_tests, discard-bound, package-bound, recv-bound)
