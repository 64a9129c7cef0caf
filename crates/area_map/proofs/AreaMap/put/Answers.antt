use Rattle.area_map.proofs.ViewLemmas.{put_answer}
use Rattle.area_map.proofs.AreaMap.put.Goals as goal

pub returns-clause-ok : goal.returns-clause-ok
returns-clause-ok c =
    put_answer c.self.inside.areas.items _ _ c.args.self.now c.plan-edit.result c.args.first c.args.count c.args.prot c.plan-edit.ensures c.deref.ensures.value c.self.view_is c.in_ok-apply.ensures.ok
