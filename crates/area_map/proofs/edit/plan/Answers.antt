use Rattle.std.proofs.Common.{ap}
use Rattle.area_map.proofs.EditLemmas.{IsEdit-with, middle_of}
use Rattle.area_map.proofs.edit.plan.Goals as goal

pub returns-in-Some : goal.returns-in-Some
returns-in-Some c =
    IsEdit-with c.args.areas.now c.below-below.result c.above-above.result _ c.args.first c.args.count c.args.prot c.requires.some c.below-below.ensures c.above-above.ensures
    (ap (middle_of c.below-below.result.page c.above-above.result.page) c.in-Some.is)

pub returns-in-None : goal.returns-in-None
returns-in-None c =
    IsEdit-with c.args.areas.now c.below-below.result c.above-above.result _ c.args.first c.args.count c.args.prot c.requires.some c.below-below.ensures c.above-above.ensures
    (ap (middle_of c.below-below.result.page c.above-above.result.page) c.in-None.is)
