use Rattle.std.proofs.Common.{refl}
use Rattle.mig_base.specs.declared.schedule.Step.{Step}
use Rattle.mig_model.specs.DestinationSteps as destination
use Rattle.world.specs.Worlds.{world_of}
use Rattle.world.proofs.StepLemmas.{destination_acts_so}
use Rattle.world.proofs.parts.Parts.install.Goals as goal

pub returns : goal.returns
returns c = destination_acts_so (world_of c.args.self.now) Step.Install (destination.install c.args.self.now.destination) c.install.result c.install.new.self refl refl c.install.ensures.made c.install.ensures.refused c.install.ensures.err
