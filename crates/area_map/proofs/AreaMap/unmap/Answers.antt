use Rattle.area_map.proofs.ViewLemmas.{remove_answer}
use Rattle.area_map.proofs.AreaMap.unmap.Goals as goal

pub returns-clause-ok : goal.returns-clause-ok
returns-clause-ok c = remove_answer c.put.result c.args.self.now c.put.new.self c.args.first c.args.count c.put.ensures.ok
