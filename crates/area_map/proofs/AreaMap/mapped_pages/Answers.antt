use Rattle.std.proofs.Common.{◌∙◌, sym, ap}
use Rattle.std.specs.FinMap.{len}
use Rattle.area_map.proofs.CountLemmas.{len-pages_in}
use Rattle.area_map.proofs.AreaMap.mapped_pages.Goals as goal

pub returns : goal.returns
returns c = c.self.invariant.count ∙ sym (len-pages_in c.self.inside.areas.items c.self.invariant.runs) ∙ ap (λ m. len m) c.self.view_is
