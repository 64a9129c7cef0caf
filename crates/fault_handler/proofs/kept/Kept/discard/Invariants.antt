use Rattle.std.proofs.Common.{◌≡◌, ℕ, cond, None}
use Rattle.std.specs.FinMap.{get}
use Rattle.mig_base.proofs.Taken.{IsPart, taken}
use Rattle.fault_handler.proofs.kept.Kept.discard.Given as goal

abbrev pub invariant-loop-run : goal.invariant-loop-run
invariant-loop-run l = record {
  part : IsPart l.pages l.run-iterator;
  out : (q : ℕ) → get l.self q ≡ cond (taken l.pages l.run-iterator q) None (get l.fn.self q);
}
