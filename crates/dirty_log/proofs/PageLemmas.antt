-- Sets of pages that lose pages, and runs of pages.
use Rattle.std.proofs.Common.{◌≡◌, ℕ, zero, suc, ◌+◌, ◌-◌, ◌/◌, ◌<◌, ◌≤◌, ◌&&◌, ◌||◌, Bool, true, false, not, min, refl, sym, ap, ◌∙◌, ⊎_elim, arith}
use Rattle.std.specs.Ordering.{nat_cmp}
use Rattle.std.specs.FinSet.{FinSet, contains, retain, contains-retain, nat_cmp-IsAntisymmetric}
use Rattle.std.proofs.lemmas.Bool.{cases_lt}
use Rattle.mig_base.specs.declared.TheConstants.{HIGH_PAGE}
use Rattle.foundation.specs.Ranges.{in_range}
use Rattle.mig_base.specs.Sets.{without, run_length}
use Rattle.foundation.proofs.RangeLemmas.{ranges}
use Rattle.mig_base.proofs.SetLemmas.{same_members, member_without}
use Rattle.mig_model.specs.Guest.{in_bytes}

-- a set without the pages that pass a test
pub member_kept : (s : FinSet nat_cmp) (test : ℕ → Bool) (q : ℕ) → contains (retain s (λ n. not (test n))) q ≡ (contains s q && not (test q))
member_kept s test q = contains-retain s (λ n. not (test n)) q (λ x e. ap (λ k. not (test k)) (sym (nat_cmp-IsAntisymmetric q x e)))

-- the pages of a set taken out run by run

pub none_out_yet : (was none : Bool) → none ≡ false → was ≡ (was && not none)
none_out_yet was none h = grind arith

pub more_out : (was before run after : Bool) → after ≡ (before || run) → ((was && not before) && not run) ≡ (was && not after)
more_out was before run after h = grind arith

-- the pages of a range of bytes

same_out : (q a b first end : ℕ) (was : Bool) → (HIGH_PAGE ≤ q → was ≡ false) → first ≡ min a HIGH_PAGE → end ≡ min b HIGH_PAGE →
    (was && not (in_range first (end - first) q)) ≡ (was && not (in_range a (b - a) q))
same_out q a b first end was past low high = grind (arith, ranges)

pub span_out : (pages : FinSet nat_cmp) (start len first end : ℕ) → ((q : ℕ) → HIGH_PAGE ≤ q → contains pages q ≡ false) → first ≡ min (start / 4096) HIGH_PAGE → end ≡ min ((start + len) / 4096) HIGH_PAGE →
    without pages first (end - first) ≡ retain pages (λ page. not (in_bytes start (start + len) page))
span_out pages start len first end past low high =
    same_members _ _ (λ q. member_without pages first (end - first) q ∙ same_out q (start / 4096) ((start + len) / 4096) first end (contains pages q) (past q) low high ∙ sym (member_kept pages (in_bytes start (start + len)) q))

both_out : (was one other : Bool) → ((was && not one) && not other) ≡ (was && not (one || other))
both_out false one other = refl
both_out true true other = refl
both_out true false other = refl

pub two_out : (pages : FinSet nat_cmp) (one other : ℕ → Bool) → retain (retain pages (λ q. not (one q))) (λ q. not (other q)) ≡ retain pages (λ q. not (one q || other q))
two_out pages one other =
    same_members _ _ (λ q. member_kept (retain pages (λ q. not (one q))) other q ∙ ap (λ b. b && not (other q)) (member_kept pages one q) ∙ both_out (contains pages q) (one q) (other q) ∙ sym (member_kept pages (λ q. one q || other q) q))

none_out_at : (was : Bool) → was ≡ (was && not false)
none_out_at true = refl
none_out_at false = refl

pub none_out : (pages : FinSet nat_cmp) → pages ≡ retain pages (λ q. not false)
none_out pages = same_members _ _ (λ q. none_out_at (contains pages q) ∙ sym (member_kept pages (λ q. false) q))

-- runs

pub out_at_end : (s : FinSet nat_cmp) (end : ℕ) → (end < HIGH_PAGE → contains s end ≡ false) → ((q : ℕ) → HIGH_PAGE ≤ q → contains s q ≡ false) → contains s end ≡ false
out_at_end s end here past = ⊎_elim here (past end) (cases_lt end HIGH_PAGE)

pub run_length-is : (s : FinSet nat_cmp) (first run most : ℕ) → ((q : ℕ) → first ≤ q → q < first + run → contains s q ≡ true) → contains s (first + run) ≡ false → run_length s first most ≡ min run most
unfolding run_length
run_length-is s first run zero h k = omega arith
run_length-is s first zero (suc most) h k =
    let none : contains s first ≡ false = ap (contains s) (omega arith) ∙ k in
    rw none (omega arith)
run_length-is s first (suc run) (suc most) h k =
    let here : contains s first ≡ true = h first (omega arith) (omega arith) in
    let rest = run_length-is s (1 + first) run most (λ q l m. h q (omega arith) (omega arith)) (ap (contains s) (omega arith) ∙ k) in
    rw here (omega (arith, rest))
