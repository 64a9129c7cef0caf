use Rattle.mig_laws.proofs.Replies.{host_replied}
use Rattle.mig_laws.proofs.Hosts.{host_after-under}
use Rattle.mig_laws.proofs.SpaceCommands.{access_of-under, accessed-under, called-under, queued_by-under}
use Rattle.mig_laws.proofs.spaces.commands_of_a_changed_space.Goals as goal

pub returns-clause-reply : goal.returns-clause-reply
returns-clause-reply c f host command it = host_replied f it.map host it.whole command

pub returns-clause-host : goal.returns-clause-host
returns-clause-host c f host command it = host_after-under f it.map host it.whole command

pub returns-clause-space : goal.returns-clause-space
returns-clause-space c f space it = record {
  access = λ command. access_of-under f it.map space it.whole command;
  accessed = λ cpu command. accessed-under f it.map space cpu it.whole command;
  called = λ cpu command. called-under f it.map space cpu it.whole command;
  messages = λ command. queued_by-under f it.map space it.whole command;
}
