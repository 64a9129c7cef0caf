use Rattle.std.proofs.Common.{[], refl, ◌∙◌, ◌∷◌}
use Rattle.std.proofs.lemmas.Result.{err_from_is_err_and}
use Rattle.mig_base.specs.declared.schedule.Step.{Step}
use Rattle.mig_model.specs.SourceSteps as source
use Rattle.mig_model.specs.Wire.{wire_with}
use Rattle.page_stream.specs.Frames.{frame_of}
use Rattle.world.specs.Worlds.{world_of}
use Rattle.world.proofs.StepLemmas.{happens_kept, node_refused, source_sent}
use Rattle.world.proofs.parts.Parts.start.Goals as goal

pub returns-then-is_err : goal.returns-then-is_err
returns-then-is_err c = happens_kept (world_of c.args.self.now) _ Step.Start _ (λ i. record (world_of c.args.self.now) { forward = c.reserve.ensures.stays i }) refl c.refused.ensures

pub returns-in_err-effect : goal.returns-in_err-effect
returns-in_err-effect c =
    let p = err_from_is_err_and c.from_residual.result c.from_residual.ensures.1 in
    rw (p.1, p.2, c.reserve.ensures.stays, c.in_err-effect.ensures.err)
    (node_refused (world_of c.args.self.now) Step.Start (source.start c.args.self.now.source) _ _ (λ x. refl) refl refl c.in_err-effect.ensures.refused)

pub returns : goal.returns
returns c =
    source_sent (world_of c.args.self.now) (world_of c.args.self.now) Step.Start (source.start c.args.self.now.source) _ (frame_of c.in_ok-effect.frame ∷ []) _ _ refl c.in_ok-effect.ensures.made
    (c.push.ensures.wire ∙ (λ i. wire_with (c.reserve.ensures.stays i) (c.epoch.ensures i) (frame_of c.in_ok-effect.frame ∷ [])))
