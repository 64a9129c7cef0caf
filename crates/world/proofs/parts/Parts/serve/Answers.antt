use Rattle.std.proofs.Common.{ap, refl}
use Rattle.mig_base.specs.declared.schedule.Step.{Step}
use Rattle.mig_model.specs.Migration.{source_acts}
use Rattle.mig_model.specs.SourceSteps as source
use Rattle.mig_model.proofs.steps.StepLemmas.{is-up}
use Rattle.world.specs.Worlds.{world_of}
use Rattle.world.proofs.StepLemmas.{refused_down, source_acts_always}
use Rattle.world.proofs.parts.Parts.serve.Goals as goal

pub returns-then-not-self : goal.returns-then-not-self
returns-then-not-self c = refused_down (world_of c.args.self.now) Step.Serve (source.serve c.args.self.now.source) _ _ refl c.if-not-self.true c.refused.ensures

pub returns : goal.returns
returns c =
    source_acts_always (world_of c.args.self.now) Step.Serve (source.serve c.args.self.now.source) c.serve.result c.serve.new.self
    (ap (source_acts (world_of c.args.self.now)) (is-up c.args.self.now.up (source.serve c.args.self.now.source) c.if-not-self.false)) c.serve.ensures.made c.serve.ensures.refused c.serve.ensures.err
