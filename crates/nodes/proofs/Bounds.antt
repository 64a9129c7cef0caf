-- The number of pages of a run.
use Rattle.std.proofs.Common.{◌≡◌, ℕ, ◌<◌, ◌≤◌, arith}
use Rattle.std.proofs.lemmas.Bool.Decides.{nat_tests}
use Rattle.mig_base.specs.declared.TheConstants.{MAX_RUN}
use Rattle.mig_model.specs.SourceSteps.{run_bound}

pub bound_some : (most : ℕ) → 0 < run_bound most
bound_some most = grind (arith, nat_tests)

pub bound_few : (most : ℕ) → run_bound most ≤ MAX_RUN
bound_few most = grind (arith, nat_tests)

-- a number within the bound is its own bound
within_bound : (most : ℕ) → 0 < most → most ≤ MAX_RUN → run_bound most ≡ most
within_bound most some few = grind (arith, nat_tests)

pub bound_again : (most : ℕ) → run_bound (run_bound most) ≡ run_bound most
bound_again most = within_bound (run_bound most) (bound_some most) (bound_few most)
