use Rattle.std.proofs.Common.{◌≤◌, ◌<◌, ◌+◌, arith}
use Rattle.std.proofs.lemmas.Bool.Decides.{nat_tests}
use Rattle.area_map.proofs.AreaLemmas.{AreRuns-take}
use Rattle.area_map.proofs.MappedLemmas.{from_index, from_index-drop, AreRuns-from, between}
use Rattle.area_map.proofs.within.areas_between.Goals as goal

pub beginning_by-high-requires : goal.beginning_by-high-requires
beginning_by-high-requires c = AreRuns-from c.args.areas.now c.ending_before-low.result c.requires.runs

pub returns-clause-runs : goal.returns-clause-runs
returns-clause-runs c = AreRuns-take c.beginning_by-high.result (from_index c.args.areas.now c.ending_before-low.result) (AreRuns-from c.args.areas.now c.ending_before-low.result c.requires.runs)

pub returns-clause-pages : goal.returns-clause-pages
returns-clause-pages c = λ page here.
    let low : c.args.first ≤ page = grind (arith, nat_tests) in
    let high : page < c.args.first + c.args.count = grind (arith, nat_tests) in
    between c.args.areas.now (from_index c.args.areas.now c.ending_before-low.result) c.ending_before-low.result c.beginning_by-high.result c.args.first (c.args.first + c.args.count) page
    (from_index-drop c.args.areas.now c.ending_before-low.result) c.ending_before-low.ensures.before c.beginning_by-high.ensures.after low high
