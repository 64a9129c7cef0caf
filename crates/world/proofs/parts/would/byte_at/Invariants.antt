use Rattle.std.proofs.Common.{◌≡◌, drop, get_or}
use Rattle.std.specs.List.{concat}
use Rattle.world.proofs.parts.would.byte_at.Given as goal

abbrev pub invariant-loop-index : goal.invariant-loop-index
invariant-loop-index l = record {
  byte : get_or (concat (drop l.index l.wire.pieces)) l.left 0 ≡ get_or (concat l.wire.pieces) l.place 0;
}
