use Rattle.std.proofs.Common.{◌≡◌, ◌-◌, length}
use Rattle.wires.specs.Chunks.{bytes_from, pieces}
use Rattle.wires.proofs.chunks.Chunks.front.Given as goal

abbrev pub invariant-loop-bytes : goal.invariant-loop-bytes
invariant-loop-bytes l = bytes_from (pieces l.self) l.bytes l.at ≡ bytes_from (pieces l.self) l.fn.rest l.fn.next

abbrev pub decreases-loop-bytes : goal.decreases-loop-bytes
decreases-loop-bytes l = length (pieces l.self) - l.at
