use Rattle.std.proofs.Common.{drop}
use Rattle.area_map.proofs.GapLemmas.{IsSearched}
use Rattle.area_map.proofs.gap.free_page.Given as goal

abbrev pub invariant-loop-area : goal.invariant-loop-area
invariant-loop-area l = IsSearched l.areas (drop l.area-index l.areas) l.count l.start
