-- The pages of a range that moves, one after another.
use Rattle.std.proofs.Common.{◌≡◌, ◌∙◌, ℕ, ◌+◌, Bool, true, List, [], ◌++◌, Option, Some, refl, sym, ap}
use Rattle.std.specs.Prelude.{◌==◌, ◌/◌}
use Rattle.foundation.specs.Bits.{is_one}
use Rattle.foundation.specs.Ranges.{pages_of}
use Rattle.foundation.specs.declared.TheConstants.{PAGE_SIZE}
use Rattle.uffd_log.specs.declared.line.Answer.{Answer}
use Rattle.uffd_log.specs.declared.line.Answer.TheVariants.{Value}
use Rattle.std.proofs.Math.Numerals.{add-one}
use Rattle.kernel_rules.specs.declared.known.Page.{Page}
use Rattle.kernel_rules.specs.MapCalls.{arrivals, arrived, grown_page, is_mappable, leavings, may_move, moved, mremapped, with_number}
use Rattle.kernel_rules.specs.State.{Kernel, allowed}

pub arrivals_none : (kernel : Kernel) (space from count to : ℕ) → [] ≡ arrivals kernel space from count to 0
unfolding arrivals
arrivals_none kernel space from count to = refl

pub arrivals_more : (kernel : Kernel) (space from count to n : ℕ) (old new : List (ℕ × Option Page)) → old ≡ arrivals kernel space from count to n
    → new ≡ old ++ with_number (to + n) (arrived kernel space from count n (to == from)) → new ≡ arrivals kernel space from count to (n + 1)
unfolding arrivals
arrivals_more kernel space from count to n old new so_far is = rw add-one (is ∙ ap (λ (ps : List (ℕ × Option Page)). ps ++ with_number (to + n) (arrived kernel space from count n (to == from))) so_far)

pub leavings_none : (kernel : Kernel) (space from : ℕ) → [] ≡ leavings kernel space from 0
unfolding leavings
leavings_none kernel space from = refl

pub leavings_more : (kernel : Kernel) (space from n : ℕ) (old new : List (ℕ × Option Page)) → old ≡ leavings kernel space from n
    → new ≡ old ++ with_number (from + n) (grown_page (kernel.pages space (from + n))) → new ≡ leavings kernel space from (n + 1)
unfolding leavings
leavings_more kernel space from n old new so_far is = rw add-one (is ∙ ap (λ (ps : List (ℕ × Option Page)). ps ++ with_number (from + n) (grown_page (kernel.pages space (from + n)))) so_far)

-- mremap(2)
pub mremapped_is : (kernel after : Kernel) (key space addr old_len new_len flags target : ℕ) (answer : Answer) → answer ≡ Value target → is_mappable (addr / PAGE_SIZE) (pages_of old_len) ≡ true
    → is_mappable (target / PAGE_SIZE) (pages_of new_len) ≡ true → after ≡ moved kernel key space (addr / PAGE_SIZE) (pages_of old_len) (target / PAGE_SIZE) (pages_of new_len) (is_one flags 2)
    → mremapped kernel key space addr old_len new_len flags answer ≡ Some after
mremapped_is kernel after key space addr old_len new_len flags target answer is may new_may after_is =
    let both : may_move (addr / PAGE_SIZE) (pages_of old_len) (target / PAGE_SIZE) (pages_of new_len) ≡ true = rw (may, new_may) refl in
    ap (λ (w : Answer). mremapped kernel key space addr old_len new_len flags w) is
    ∙ ap (λ (b : Bool). allowed b (moved kernel key space (addr / PAGE_SIZE) (pages_of old_len) (target / PAGE_SIZE) (pages_of new_len) (is_one flags 2))) both
    ∙ ap (λ (k : Kernel). Some k) (sym after_is)
