use Rattle.std.proofs.Common.{refl}
use Rattle.mig_base.specs.declared.schedule.Step.{Step}
use Rattle.mig_model.specs.SourceSteps as source
use Rattle.world.specs.Worlds.{world_of}
use Rattle.world.proofs.StepLemmas.{source_acts_so}
use Rattle.world.proofs.parts.Parts.round.Goals as goal

pub returns : goal.returns
returns c = source_acts_so (world_of c.args.self.now) Step.Round (source.round c.args.self.now.source) c.round.result c.round.new.self refl refl c.round.ensures.made c.round.ensures.refused c.round.ensures.err
