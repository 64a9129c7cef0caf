use Rattle.std.proofs.Common.{◌-◌, ◌≡◌, ℕ, ◌<◌, ◌≤◌}
use Rattle.std.specs.FinSet.{contains}
use Rattle.mig_base.specs.declared.TheConstants.{HIGH_PAGE}
use Rattle.mig_base.proofs.page_set.PageSet.is_same.Given as goal

abbrev pub invariant-loop-at : goal.invariant-loop-at
invariant-loop-at l = record {
  range : l.at ≤ HIGH_PAGE;
  same : (q : ℕ) → q < l.at → contains l.self q ≡ contains l.other q;
}

abbrev pub decreases-loop-at : goal.decreases-loop-at
decreases-loop-at l = HIGH_PAGE - l.at
