use Rattle.std.proofs.Common.{◌≡◌, ◌↔◌, Some, refl, sym, ap, ◌∙◌, subst}
use Rattle.std.proofs.lemmas.Result.{err_from_is_err_and}
use Rattle.mig_base.specs.Bytes.{contents, zero_page}
use Rattle.mig_base.specs.declared.refusal.Refusal.{Refusal}
use Rattle.mig_model.specs.Source.{Source, bytes_of}
use Rattle.mig_model.specs.Wire.{page_frame}
use Rattle.mig_model.proofs.memory.Facts.{counted_is}
use Rattle.dirty_log.specs.Answers.{IsRefusedAs, send_refusal}
use Rattle.dirty_log.specs.declared.page_content.PageContent.{PageContent}
use Rattle.dirty_log.proofs.SendLemmas.{one_sent, zero_shown}
use Rattle.mig_model.specs.SourceSteps.{next_to_send}
use Rattle.precopy.proofs.OrderLemmas.{sent_order}
use Rattle.precopy.proofs.SendLemmas.{send_done, send_refused, send_stopped}
use Rattle.precopy.proofs.source.Source.send_next.Goals as goal

pub returns-in_err-page : goal.returns-in_err-page
returns-in_err-page c =
    let p = err_from_is_err_and c.from_residual.result c.from_residual.ensures.1 in
    rw (p.1, p.2) (
      (refl, λ _. tt, c.self.view_is),
      record { made = tt; sent = tt; frame = tt; refused = send_refused c.args.self.now _ (ap next_to_send (sym c.self.view_is) ∙ sym c.next_to_send.ensures.answer ∙ c.in_err-page.was); zero = tt },
    )

pub returns-in_err-protect_page : goal.returns-in_err-protect_page
returns-in_err-protect_page c =
    let stopped = λ (refusal : Refusal) (why : IsRefusedAs (send_refusal c.self.inside.space c.in_ok-page.page 1) refusal).
    send_stopped c.args.self.now c.in_ok-page.page refusal (ap next_to_send (sym c.self.view_is) ∙ sym c.next_to_send.ensures.answer ∙ c.in_ok-page.was) (rw (← c.self.view_is) c.self.invariant.0.todo) (rw (← c.self.view_is) why) in
    let p = err_from_is_err_and c.from_residual-in_err-protect_page.result c.from_residual-in_err-protect_page.ensures.1 in
    let kept = c.in_err-protect_page.ensures.err in
    rw (p.1, p.2) (
      (refl, λ _. tt, rw (kept.0, kept.1) c.self.view_is),
      record { made = tt; sent = tt; frame = tt; refused = stopped _ c.in_err-protect_page.ensures.refused; zero = tt },
    )

pub invariant_of-self-2 : goal.invariant_of-self-2
invariant_of-self-2 c = (
  sent_order _ _ c.self.inside.space _ c.self.inside.log _ c.in_ok-page.page 1 c.is_in_order.ensures c.in_ok-protect_page.ensures.accepted c.in_ok-protect_page.ensures.space c.protect_page.ensures.lent
      (c.in_ok-protect_page.ensures.log ∙ sym (one_sent c.self.inside.log c.in_ok-page.page)) c.self.invariant.0,
  rw c.in_ok-protect_page.ensures.space c.self.invariant.1,
)

pub returns : goal.returns
returns c =
    let node = c.args.self.now in
    let page = c.in_ok-page.page in
    let done = c.in_ok-protect_page.ensures in
    let inside = c.read-sent.ensures.sent ∙ ap (λ space. page_frame page (contents space.host.bytes page)) done.space in
    let sent = inside ∙ ap (λ (n : Source). page_frame page (bytes_of n page)) c.self.view_is in (
      (
        refl,
        λ _. tt,
        record {
          made = send_done node _ page _ _ (ap next_to_send (sym c.self.view_is) ∙ sym c.next_to_send.ensures.answer ∙ c.in_ok-page.was) sent (c.page_effect.ensures (bytes_of node page) sent)
              (rw (done.log, done.space, c.saturating_add-self-inside.ensures, counted_is, ← c.self.view_is) refl);
          epoch = ap (λ (n : Source). n.epoch) c.self.view_is;
          protected = done.protected;
          bytes = done.bytes ∙ ap (λ (n : Source). Some (bytes_of n page)) c.self.view_is;
        },
      ),
      record {
        made = tt;
        sent = sent;
        frame = c.read-sent.ensures.frame done.present.1;
        refused = tt;
        zero = subst (λ (n : Source). (c.read-sent.result ≡ PageContent.Zero) ↔ (bytes_of n page ≡ zero_page)) c.self.view_is (zero_shown c.self.inside.space page c.read-sent.result c.is_in_order.ensures done.accepted inside);
      },
    )
