use Rattle.std.proofs.Common.{◌≡◌, ℕ, true, false}
use Rattle.std.specs.FinSet.{contains}
use Rattle.mig_base.proofs.Taken.{IsPart, taken}
use Rattle.fault_handler.proofs.kept.meet.Given as goal

abbrev pub invariant-loop-run : goal.invariant-loop-run
invariant-loop-run l = record {
  part : IsPart l.one l.run-iterator;
  apart : (q : ℕ) → taken l.one l.run-iterator q ≡ true → contains l.other q ≡ false;
}
