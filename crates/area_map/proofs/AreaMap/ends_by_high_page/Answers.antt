use Rattle.area_map.proofs.ViewLemmas.{get-past}
use Rattle.area_map.proofs.AreaMap.ends_by_high_page.Goals as goal

pub returns : goal.returns
returns c = λ page past. get-past c.self.inside.areas.items c.args.self.now page c.self.invariant.runs c.self.view_is past
