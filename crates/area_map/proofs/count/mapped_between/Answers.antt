use Rattle.std.proofs.Common.{◌∙◌}
use Rattle.area_map.proofs.AreaLemmas.{AreRuns-take}
use Rattle.area_map.proofs.MappedLemmas.{from_index, from_index-drop, AreRuns-from, mapped_of-between}
use Rattle.area_map.proofs.count.mapped_between.Goals as goal

pub beginning_by-high-requires : goal.beginning_by-high-requires
beginning_by-high-requires c = AreRuns-from c.args.areas.now c.ending_before-low.result c.requires.runs

pub pages_within-requires-clause-runs : goal.pages_within-requires-clause-runs
pages_within-requires-clause-runs c = AreRuns-take c.beginning_by-high.result (from_index c.args.areas.now c.ending_before-low.result) (AreRuns-from c.args.areas.now c.ending_before-low.result c.requires.runs)

pub returns : goal.returns
returns c =
    c.pages_within.ensures
    ∙ mapped_of-between c.args.areas.now (from_index c.args.areas.now c.ending_before-low.result) c.ending_before-low.result c.beginning_by-high.result c.args.first c.args.count
    (from_index-drop c.args.areas.now c.ending_before-low.result) c.ending_before-low.ensures.before c.beginning_by-high.ensures.after
