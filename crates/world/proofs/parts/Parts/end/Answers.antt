use Rattle.std.proofs.Common.{[], ap, inl, refl, ◌∙◌, ◌∷◌}
use Rattle.std.proofs.lemmas.Result.{err_from_is_err_and}
use Rattle.mig_base.specs.declared.schedule.Step.{Step}
use Rattle.mig_model.specs.SourceSteps as source
use Rattle.mig_model.specs.Wire.{wire_with}
use Rattle.page_stream.specs.Frames.{frame_of}
use Rattle.world.specs.Worlds.{world_of}
use Rattle.world.proofs.StepLemmas.{happens_kept, node_refused, source_sent, up_sends}
use Rattle.world.proofs.parts.Parts.end.Goals as goal
use Rattle.world.proofs.parts.Parts.end.Goals.{then-not-self-via-else-not-self+then-is_err, then-not-self-via-then-not-self}

pub returns-then-not-self : goal.returns-then-not-self
returns-then-not-self c =
    happens_kept (world_of c.args.self.now) (world_of c.then-not-self.self) Step.End _
    (elim c.then-not-self.branch [ then-not-self-via-then-not-self w ↦ ap world_of w.self-is | then-not-self-via-else-not-self+then-is_err w ↦ ap world_of w.self-is ∙ (λ i. record (world_of c.args.self.now) { forward = w.reserve.ensures.stays i }) ])
    refl c.refused.ensures

pub returns-in_err-effect : goal.returns-in_err-effect
returns-in_err-effect c =
    let p = err_from_is_err_and c.from_residual.result c.from_residual.ensures.1 in
    rw (p.1, p.2, c.reserve.ensures.stays, c.in_err-effect.ensures.err)
    (node_refused (world_of c.args.self.now) Step.End (source.end c.args.self.now.source) _ _ (λ x. refl) (up_sends (world_of c.args.self.now) (source.end c.args.self.now.source) c.if-not-self.false) refl (inl c.in_err-effect.ensures.refused))

pub returns : goal.returns
returns c =
    source_sent (world_of c.args.self.now) (world_of c.args.self.now) Step.End (source.end c.args.self.now.source) _ (frame_of c.in_ok-effect.frame ∷ []) _ _ (up_sends (world_of c.args.self.now) (source.end c.args.self.now.source) c.if-not-self.false) c.in_ok-effect.ensures.made
    (c.push.ensures.wire ∙ (λ i. wire_with (c.reserve.ensures.stays i) (c.epoch.ensures i) (frame_of c.in_ok-effect.frame ∷ [])))
