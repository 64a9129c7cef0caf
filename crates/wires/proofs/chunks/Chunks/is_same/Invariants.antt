use Rattle.std.proofs.Common.{◌≡◌, length, []}
use Rattle.wires.specs.Chunks.{bytes_from, in_flight, pieces}
use Rattle.wires.proofs.PieceLemmas.{Tells}
use Rattle.wires.proofs.chunks.Chunks.is_same.Given as goal

abbrev pub invariant-loop-len : goal.invariant-loop-len
invariant-loop-len l = record {
  tells : Tells (in_flight l.self ≡ in_flight l.other) (bytes_from (pieces l.self) l.mine l.next) (bytes_from (pieces l.other) l.theirs l.other_next);
  none : l.mine ≡ [] → bytes_from (pieces l.self) l.mine l.next ≡ [];
  none_theirs : l.theirs ≡ [] → bytes_from (pieces l.other) l.theirs l.other_next ≡ [];
}

abbrev pub decreases-loop-len : goal.decreases-loop-len
decreases-loop-len l = length (bytes_from (pieces l.self) l.mine l.next)
