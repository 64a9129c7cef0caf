use Rattle.std.proofs.Common.{◌∙◌}
use Rattle.area_map.proofs.ViewLemmas.{prot_at_answer}
use Rattle.area_map.proofs.AreaMap.prot_at.Goals as goal

pub returns : goal.returns
returns c = c.prot_of.ensures ∙ prot_at_answer c.self.inside.areas.items c.deref.result.now c.args.self.now c.args.page c.deref.ensures.value c.self.view_is
