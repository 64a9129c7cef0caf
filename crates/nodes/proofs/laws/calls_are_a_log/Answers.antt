use Rattle.nodes.proofs.DestinationLines as there
use Rattle.nodes.proofs.SourceLines as here
use Rattle.nodes.proofs.laws.calls_are_a_log.Goals as goal

pub returns-clause-source : goal.returns-clause-source
returns-clause-source c old new lines calls = here.log-node old new lines calls

pub returns-clause-destination : goal.returns-clause-destination
returns-clause-destination c old new lines calls = there.log-node old new lines calls
