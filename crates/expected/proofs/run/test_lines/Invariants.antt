use Rattle.std.proofs.Common.{◌*◌, ◌≤◌, [], ℕ}
use Rattle.expected.specs.Parts.{Ran}
use Rattle.expected.proofs.Whole.{RanFrom}
use Rattle.expected.proofs.run.test_lines.Given as goal

abbrev pub invariant-loop : goal.invariant-loop
invariant-loop g l = record {
  ran : (cpus : ℕ) → Ran cpus [] l.fn.tester → RanFrom cpus (g.R.Read.remaining l.fn.reader) (g.R.Read.remaining l.reader) l.tester;
  number : l.tester.number ≤ 16384 * l.counter;
}
