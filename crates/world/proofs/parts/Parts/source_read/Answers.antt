use Rattle.std.proofs.Common.{refl}
use Rattle.mig_base.specs.declared.schedule.Step.{Step}
use Rattle.mig_model.specs.SourceSteps as source
use Rattle.world.specs.Worlds.{world_of}
use Rattle.world.proofs.StepLemmas.{source_acts_so}
use Rattle.world.proofs.parts.Parts.source_read.Goals as goal

pub returns : goal.returns
returns c = source_acts_so (world_of c.args.self.now) Step.SourceRead (source.read c.args.self.now.source) c.read.result c.read.new.self refl refl c.read.ensures.made c.read.ensures.refused c.read.ensures.err
