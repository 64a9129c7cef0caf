use Rattle.std.proofs.Common.{◌≡◌, take}
use Rattle.area_map.proofs.MappedLemmas.{mapped_of}
use Rattle.area_map.proofs.count.pages_within.Given as goal

abbrev pub invariant-loop-area : goal.invariant-loop-area
invariant-loop-area l = l.mapped ≡ mapped_of (take l.area-index l.areas) l.first l.count
