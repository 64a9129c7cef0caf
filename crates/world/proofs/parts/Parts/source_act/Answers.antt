use Rattle.std.proofs.Common.{refl}
use Rattle.mig_base.specs.declared.schedule.Step.{Step}
use Rattle.mig_model.specs.SourceSteps as source
use Rattle.world.specs.Worlds.{world_of}
use Rattle.world.proofs.StepLemmas.{source_acts_so}
use Rattle.world.proofs.parts.Parts.source_act.Goals as goal

pub returns : goal.returns
returns c = source_acts_so (world_of c.args.self.now) Step.SourceAct (source.act c.args.self.now.source) c.act.result c.act.new.self refl refl c.act.ensures.made c.act.ensures.refused c.act.ensures.err
