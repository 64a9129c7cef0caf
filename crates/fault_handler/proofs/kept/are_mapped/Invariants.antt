use Rattle.std.proofs.Common.{◌≡◌, ℕ, true}
use Rattle.std.specs.FinMap.{contains_key}
use Rattle.mig_base.proofs.Taken.{IsPart, taken}
use Rattle.fault_handler.proofs.kept.are_mapped.Given as goal

abbrev pub invariant-loop-run : goal.invariant-loop-run
invariant-loop-run l = record {
  part : IsPart l.pages l.run-iterator;
  mapped : (q : ℕ) → taken l.pages l.run-iterator q ≡ true → contains_key l.areas q ≡ true;
}
