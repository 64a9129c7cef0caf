use Rattle.std.proofs.Common.{◌+◌, ◌≤◌, length, List, ℕ}
use Rattle.expected.specs.Parts.{Ran}
use Rattle.expected.proofs.Pieces.{Fed}
use Rattle.expected.proofs.tester.Tester.feed.Given as goal

abbrev pub invariant-loop-line : goal.invariant-loop-line
invariant-loop-line l = record {
  fed : (cpus : ℕ) (front : List ℕ) → Ran cpus front l.fn.self → Fed cpus front l.bytes l.line-iterator.bytes l.self;
  number : l.self.number + length l.line-iterator.bytes ≤ l.fn.self.number + length l.bytes;
}
