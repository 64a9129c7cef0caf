use Rattle.std.proofs.Common.{refl}
use Rattle.mig_base.specs.declared.schedule.Step.{Step}
use Rattle.mig_model.specs.DestinationSteps as destination
use Rattle.world.specs.Worlds.{world_of}
use Rattle.world.proofs.StepLemmas.{destination_acts_so}
use Rattle.world.proofs.parts.Parts.destination_read.Goals as goal

pub returns : goal.returns
returns c = destination_acts_so (world_of c.args.self.now) Step.DestRead (destination.read c.args.self.now.destination) c.read.result c.read.new.self refl refl c.read.ensures.made c.read.ensures.refused c.read.ensures.err
