use Rattle.std.proofs.Common.{[], ap, refl, sym, ◌∙◌, ◌∷◌}
use Rattle.std.proofs.lemmas.Result.{MatchResult-at_err, MatchResult-at_ok, err_from_is_err_and}
use Rattle.mig_base.specs.declared.schedule.Step.{Step}
use Rattle.mig_model.specs.Migration.{source_sends_urgently}
use Rattle.mig_model.specs.SourceSteps as source
use Rattle.mig_model.specs.Wire.{wire_with}
use Rattle.mig_model.proofs.steps.StepLemmas.{is-up}
use Rattle.dirty_log.specs.Sending.{frame_sent}
use Rattle.precopy.specs.Sending.{IsPushedUrgently}
use Rattle.world.specs.Worlds.{world_of}
use Rattle.world.proofs.StepLemmas.{happens_kept, source_sent_urgently}
use Rattle.world.proofs.UrgentLemmas.{urgent_refused}
use Rattle.world.proofs.parts.Parts.push_urgent.Goals as goal
use Rattle.world.proofs.parts.Parts.push_urgent.Goals.{then-not-self-via-else-not-self+then-is_err, then-not-self-via-then-not-self}

pub returns-then-not-self : goal.returns-then-not-self
returns-then-not-self c =
    happens_kept (world_of c.args.self.now) (world_of c.then-not-self.self) (Step.PushUrgent c.args.ticket) _
    (elim c.then-not-self.branch [ then-not-self-via-then-not-self w ↦ ap world_of w.self-is | then-not-self-via-else-not-self+then-is_err w ↦ ap world_of w.self-is ∙ (λ i. record (world_of c.args.self.now) { urgent = w.reserve.ensures.stays i }) ])
    refl c.refused.ensures

pub returns-in_err-effect : goal.returns-in_err-effect
returns-in_err-effect c =
    let p = err_from_is_err_and c.from_residual.result c.from_residual.ensures.1 in
    let kept = MatchResult-at_err _ _ _ c.in_err-effect.was c.push_urgent.follows.holds-at-none in
    rw (p.1, p.2, c.reserve.ensures.stays, kept) (urgent_refused (world_of c.args.self.now) c.args.ticket _ c.requires c.if-not-self.false c.in_err-effect.ensures.refused)

pub returns : goal.returns
returns c =
    let world = world_of c.args.self.now in
    let page = c.args.ticket.page in
    let done : IsPushedUrgently c.args.self.now.source c.args.ticket c.in_ok-effect.effect (frame_sent page c.in_ok-effect.sent) c.push_urgent.follows.lender-at-none = MatchResult-at_ok _ _ _ c.in_ok-effect.was c.push_urgent.follows.holds-at-none in
    source_sent_urgently world (Step.PushUrgent c.args.ticket) (source.push_urgent world.source c.args.ticket) _ (frame_sent page c.in_ok-effect.sent ∷ []) _ _
    (ap (source_sends_urgently world) (is-up world.up (source.push_urgent world.source c.args.ticket) c.if-not-self.false)) done.made
    (c.send_page.ensures ∙ (λ i. wire_with (c.reserve.ensures.stays i) ((c.epoch-epoch.ensures ∙ sym done.epoch) i) (frame_sent page c.in_ok-effect.sent ∷ [])))
