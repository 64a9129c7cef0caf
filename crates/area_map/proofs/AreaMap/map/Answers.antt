use Rattle.area_map.proofs.ViewLemmas.{set_answer}
use Rattle.area_map.proofs.AreaMap.map.Goals as goal

pub returns-clause-ok : goal.returns-clause-ok
returns-clause-ok c = set_answer c.put.result c.args.self.now c.put.new.self c.args.first c.args.count c.args.prot c.put.ensures.ok
