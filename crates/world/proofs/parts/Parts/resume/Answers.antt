use Rattle.std.proofs.Common.{◌≡◌, [], true, ap, inl, refl, ◌∙◌, ◌∷◌, arith}
use Rattle.std.proofs.lemmas.Bool.Decides.{nat_tests}
use Rattle.std.proofs.lemmas.Result.{err_from_is_err_and}
use Rattle.mig_base.specs.declared.schedule.Step.{Step}
use Rattle.mig_model.specs.Destination.{is_dest_paused}
use Rattle.mig_model.specs.Migration.{source_sends}
use Rattle.mig_model.specs.NodeSteps.{in_phase}
use Rattle.mig_model.specs.SourceSteps as source
use Rattle.mig_model.specs.Wire.{wire_with}
use Rattle.mig_model.proofs.steps.StepLemmas.{is-down}
use Rattle.page_stream.specs.Frames.{frame_of}
use Rattle.world.specs.Worlds.{world_of}
use Rattle.world.proofs.StepLemmas.{happens_kept, node_refused, source_sent}
use Rattle.world.proofs.parts.Parts.resume.Goals as goal
use Rattle.world.proofs.parts.Parts.resume.Goals.{then-self-via-else-self+else-not-is_dest_paused+then-is_err, then-self-via-else-self+then-not-is_dest_paused, then-self-via-then-self}

pub returns-then-self : goal.returns-then-self
returns-then-self c =
    happens_kept (world_of c.args.self.now) (world_of c.then-self.self) Step.Resume _
    (elim c.then-self.branch [
      | then-self-via-then-self w ↦ ap world_of w.self-is
      | then-self-via-else-self+then-not-is_dest_paused w ↦ ap world_of w.self-is
      | then-self-via-else-self+else-not-is_dest_paused+then-is_err w ↦ ap world_of w.self-is ∙ (λ i. record (world_of c.args.self.now) { forward = w.reserve.ensures.stays i })
    ])
    refl c.refused.ensures

pub returns-in_err-effect : goal.returns-in_err-effect
returns-in_err-effect c =
    let world = world_of c.args.self.now in
    let resumes = source.resume world.source in
    let tested = c.if-not-is_dest_paused.false in
    let paused = c.is_dest_paused.ensures in
    let is : is_dest_paused world.destination.phase ≡ true = grind (arith, nat_tests, tested, paused) in
    let p = err_from_is_err_and c.from_residual.result c.from_residual.ensures.1 in
    rw (p.1, p.2, c.reserve.ensures.stays, c.in_err-effect.ensures.err)
    (node_refused world Step.Resume resumes _ _ (λ x. refl)
    (ap (source_sends (record world { up = true })) (is-down world.up (in_phase (is_dest_paused world.destination.phase) resumes) c.if-self.false ∙ ap (λ b. in_phase b resumes) is)) refl (inl c.in_err-effect.ensures.refused))

pub returns : goal.returns
returns c =
    let world = world_of c.args.self.now in
    let resumes = source.resume world.source in
    let tested = c.if-not-is_dest_paused.false in
    let paused = c.is_dest_paused.ensures in
    let is : is_dest_paused world.destination.phase ≡ true = grind (arith, nat_tests, tested, paused) in
    source_sent world (record world { up = true }) Step.Resume resumes _ (frame_of c.in_ok-effect.frame ∷ []) _ _
    (ap (source_sends (record world { up = true })) (is-down world.up (in_phase (is_dest_paused world.destination.phase) resumes) c.if-self.false ∙ ap (λ b. in_phase b resumes) is)) c.in_ok-effect.ensures.made
    (c.push.ensures.wire ∙ (λ i. wire_with (c.reserve.ensures.stays i) (c.epoch.ensures i) (frame_of c.in_ok-effect.frame ∷ [])))
