use Rattle.nodes.proofs.Taking.{is_urgent_answer}
use Rattle.nodes.proofs.destination.frames.DestinationNode.take_urgent.Goals as goal

pub returns-clause-answer : goal.returns-clause-answer
returns-clause-answer c =
    is_urgent_answer c.args.bytes.now c.args.self.now c.take_aside.result c.take_aside.new.self c.take_aside.ensures.taken c.take_aside.ensures.refused
