use Rattle.std.proofs.Common.{refl}
use Rattle.mig_base.specs.Flat.{reply_of}
use Rattle.mig_model.specs.Host.{memory}
use Rattle.mig_model.proofs.memory.CommandLemmas.{memory-changed, IsSound-changed}
use Rattle.mig_model.proofs.laws.every_command.Goals as goal

pub returns-clause-memory : goal.returns-clause-memory
returns-clause-memory c host command sound = memory-changed host command (reply_of (memory host) command) sound refl

pub returns-clause-sound : goal.returns-clause-sound
returns-clause-sound c host command sound = IsSound-changed host command (reply_of (memory host) command) sound refl
