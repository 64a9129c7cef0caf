use Rattle.std.proofs.Common.{◌≡◌, ℕ, ◌&&◌, not}
use Rattle.std.specs.FinSet.{contains}
use Rattle.mig_base.proofs.Taken.{IsPart, taken}
use Rattle.dirty_log.proofs.sets.subtract.Given as goal

abbrev pub invariant-loop-run : goal.invariant-loop-run
invariant-loop-run l = record {
  part : IsPart l.other l.run-iterator;
  out : (q : ℕ) → contains l.pages q ≡ (contains l.fn.pages q && not (taken l.other l.run-iterator q));
}
