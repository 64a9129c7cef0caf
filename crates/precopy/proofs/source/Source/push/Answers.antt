use Rattle.std.proofs.Common.{refl, sym, ap, ◌∙◌}
use Rattle.std.proofs.lemmas.Result.{err_from_is_err_and}
use Rattle.mig_model.specs.Guest.{is_present}
use Rattle.mig_model.specs.Source.{Source, bytes_of, is_released, space_of}
use Rattle.mig_model.specs.Wire.{page_frame}
use Rattle.dirty_log.proofs.SendLemmas.{page_of_present}
use Rattle.mig_model.specs.SourceSteps.{push}
use Rattle.precopy.proofs.PushLemmas.{push_done, push_unreleased}
use Rattle.precopy.proofs.StepLemmas.{refused_if}
use Rattle.precopy.proofs.source.Source.push.Goals as goal

pub returns-in_err-check_push : goal.returns-in_err-check_push
returns-in_err-check_push c =
    let p = err_from_is_err_and c.from_residual.result c.from_residual.ensures.1 in
    rw (p.1, p.2) (
      (refl, λ _. tt, refl),
      record { made = tt; sent = tt; frame = tt; present = tt; refused = refused_if (push c.args.self.now c.args.ticket) _ (sym c.in_err-check_push.was ∙ c.check_push.ensures.push) },
    )

pub returns : goal.returns
returns c =
    let node = c.args.self.now in
    let page = c.args.ticket.page in
    let passed = sym c.in_ok-check_push.was ∙ c.check_push.ensures.push in
    let here = c.in_ok-check_push.ensures.present in
    let same = c.self.view_is ∙ c.take_owed.ensures in
    let sent = c.read-sent.ensures.sent ∙ ap (λ (n : Source). page_frame page (bytes_of n page)) same in
    let lent = c.self.invariant.0.lent (ap (λ (n : Source). is_released n.phase) same ∙ push_unreleased node c.args.ticket passed) in (
      (refl, λ _. tt, record { made = push_done node _ c.args.ticket _ _ passed sent (c.page_effect.ensures (bytes_of node page) sent) same; epoch = ap (λ (n : Source). n.epoch) same }),
      record {
        made = tt;
        sent = sent;
        frame = c.read-sent.ensures.frame (page_of_present c.self.inside.space page lent c.is_in_order.ensures (ap (λ (n : Source). is_present (space_of n) page) same ∙ here));
        present = here;
        refused = tt;
      },
    )
