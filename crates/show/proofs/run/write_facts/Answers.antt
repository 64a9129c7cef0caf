use Rattle.show.proofs.Reached.{text_cut}
use Rattle.show.proofs.run.write_facts.Goals as goal

pub returns-clause-fault : goal.returns-clause-fault
returns-clause-fault g c = text_cut _ c.args.asked _ _ _ _ _ c.in_ok-text.ensures c.as_bytes.ensures.value c.write_out.ensures.fault c.write_out.ensures.front
