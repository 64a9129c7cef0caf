use Rattle.std.proofs.Common.{◌∙◌}
use Rattle.area_map.proofs.MappedLemmas.{mapped_answer}
use Rattle.area_map.proofs.AreaMap.mapped_in.Goals as goal

pub returns : goal.returns
returns c = c.mapped_between.ensures ∙ mapped_answer c.self.inside.areas.items c.deref.result.now c.args.self.now c.args.first c.args.count c.deref.ensures.value c.self.view_is
