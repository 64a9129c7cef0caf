use Rattle.std.proofs.Common.{◌+◌, refl, sym, ap, ◌∙◌, inl, inr}
use Rattle.std.proofs.lemmas.Result.{err_from_is_err_and}
use Rattle.mig_model.specs.Guest.{is_present}
use Rattle.mig_model.specs.Source.{Source, bytes_of, is_released, space_of}
use Rattle.mig_model.specs.Wire.{page_frame}
use Rattle.dirty_log.proofs.SendLemmas.{page_of_present}
use Rattle.mig_model.specs.SourceSteps.{push_urgent}
use Rattle.precopy.proofs.PushLemmas.{push_unreleased, urgent_done}
use Rattle.precopy.proofs.StepLemmas.{passes_ok, refused_if}
use Rattle.precopy.proofs.source.Source.push_urgent.Goals as goal

pub returns-in_err-check_push : goal.returns-in_err-check_push
returns-in_err-check_push c =
    let p = err_from_is_err_and c.from_residual.result c.from_residual.ensures.1 in
    rw (p.1, p.2) (
      (refl, λ _. tt, refl),
      record { made = tt; sent = tt; frame = tt; present = tt; refused = inl (refused_if (push_urgent c.args.self.now c.args.ticket) _ (sym c.in_err-check_push.was ∙ c.check_push.ensures.urgent)) },
    )

pub returns-then-self : goal.returns-then-self
returns-then-self c = (
  (refl, λ _. tt, refl),
  record { made = tt; sent = tt; frame = tt; present = tt; refused = inr (refl, rw (← c.self.view_is, c.if-self.true) refl, passes_ok (push_urgent c.args.self.now c.args.ticket) (sym c.in_ok-check_push.was ∙ c.check_push.ensures.urgent)) },
)

pub returns : goal.returns
returns c =
    let node = c.args.self.now in
    let page = c.args.ticket.page in
    let passed = sym c.in_ok-check_push.was ∙ c.check_push.ensures.urgent in
    let here = c.in_ok-check_push.ensures.present in
    let same = c.self-2.view_is ∙ c.take_owed.ensures in
    let sent = c.read-sent.ensures.sent ∙ ap (λ (n : Source). page_frame page (bytes_of n page)) same in
    let lent = c.self-2.invariant.0.lent (ap (λ (n : Source). is_released n.phase) same ∙ push_unreleased node c.args.ticket (sym c.in_ok-check_push.was ∙ c.check_push.ensures.push)) in (
      (
        refl,
        λ _. tt,
        record {
          made = urgent_done node _ c.args.ticket _ _ passed sent (c.page_effect.ensures (bytes_of node page) sent) (ap (λ (n : Source). record n { urgent_sent = n.urgent_sent + 1 }) same);
          epoch = ap (λ (n : Source). n.epoch) same;
        },
      ),
      record {
        made = tt;
        sent = sent;
        frame = c.read-sent.ensures.frame (page_of_present c.self-2.inside.space page lent c.is_in_order.ensures (ap (λ (n : Source). is_present (space_of n) page) same ∙ here));
        present = here;
        refused = tt;
      },
    )
