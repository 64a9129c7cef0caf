use Rattle.mig_laws.proofs.GuestSteps.{issue-under, retry-under}
use Rattle.mig_laws.proofs.nodes.commands_of_a_changed_guest.Goals as goal

pub returns : goal.returns
returns c f guest it = record {
  issue = λ bytes runs cpu command. issue-under f it.map bytes guest it.whole runs cpu command;
  retry = λ bytes runs cpu. retry-under f it.map bytes guest it.whole runs cpu;
}
