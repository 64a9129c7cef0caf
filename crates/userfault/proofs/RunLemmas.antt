-- The sets of both modes once a run is registered in place.
use Rattle.std.proofs.Common.{◌≡◌, ℕ, ◌+◌, ◌≤◌, ◌&&◌, ◌||◌, Bool, true, false, not, ap, ◌∙◌}
use Rattle.std.specs.Ordering.{nat_cmp}
use Rattle.std.specs.FinSet.{FinSet, contains}
use Rattle.mig_base.specs.declared.TheConstants.{HIGH_PAGE}
use Rattle.foundation.specs.Ranges.{in_range}
use Rattle.userfault.specs.Modes.{registered_set}
use Rattle.userfault.proofs.ModeLemmas.{is_registered_set, asked_put, other_kept, all_kept}

module _ (own other set : FinSet nat_cmp) (first count : ℕ) (asked other_asked : Bool) (inside : first + count ≤ HIGH_PAGE) (law : (q : ℕ) → HIGH_PAGE ≤ q → contains own q ≡ false) where
  -- this mode is asked for
  pub run_put : asked ≡ true → ((q : ℕ) → contains set q ≡ (in_range first count q || contains own q)) → set ≡ registered_set own other first count asked other_asked
  run_put e is = is_registered_set own other set first count asked other_asked inside law (λ q. is q ∙ asked_put (in_range first count q) (contains own q) (contains other q) asked other_asked e)

  -- the other mode alone is
  pub run_kept : asked ≡ false → other_asked ≡ true → ((q : ℕ) → contains set q ≡ (contains own q && not (in_range first count q && not (contains other q)))) → set ≡ registered_set own other first count asked other_asked
  run_kept e f is = is_registered_set own other set first count asked other_asked inside law (λ q. is q ∙ other_kept (in_range first count q) (contains own q) (contains other q) asked other_asked e f)

  -- no mode is
  pub run_left : asked ≡ false → other_asked ≡ false → set ≡ own → set ≡ registered_set own other first count asked other_asked
  run_left e f is = is_registered_set own other set first count asked other_asked inside law (λ q. ap (λ s. contains s q) is ∙ all_kept (in_range first count q) (contains own q) (contains other q) asked other_asked e f)
