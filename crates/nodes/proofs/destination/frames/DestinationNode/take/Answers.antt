use Rattle.nodes.proofs.Taking.{is_answer}
use Rattle.nodes.proofs.destination.frames.DestinationNode.take.Goals as goal

pub returns-clause-answer : goal.returns-clause-answer
returns-clause-answer c =
    is_answer c.args.bytes.now c.args.self.now c.take_what_is_said.result c.take_what_is_said.new.self c.take_what_is_said.ensures.taken c.take_what_is_said.ensures.refused
