use Rattle.std.proofs.Common.{take}
use Rattle.area_map.proofs.MoveLemmas.{IsMovedFrom}
use Rattle.area_map.proofs.moves.map_moved.Given as goal

abbrev pub invariant-loop-area : goal.invariant-loop-area
invariant-loop-area l = IsMovedFrom (take l.area-index l.areas) l.fn.moved l.moved l.from l.to l.count
