use Rattle.std.proofs.Common.{refl, ap, ◌∙◌, arith}
use Rattle.std.proofs.lemmas.Result.{err_from_is_err_and}
use Rattle.mig_base.specs.declared.refusal.Refusal.{Refusal}
use Rattle.mig_model.specs.Source.{Source, is_released}
use Rattle.dirty_log.specs.Answers.{IsRefusedAs, send_refusal}
use Rattle.precopy.proofs.OrderLemmas.{sent_order}
use Rattle.dirty_log.proofs.SendLemmas.{page_of_present, page_there}
use Rattle.precopy.proofs.SendLemmas.{send_unreleased}
use Rattle.precopy.proofs.RunLemmas.{run_found, run_frame, run_stopped}
use Rattle.precopy.proofs.source.Source.send_run.Goals as goal

pub returns-in_err-sent-clause-refused : goal.returns-in_err-sent-clause-refused
returns-in_err-sent-clause-refused c =
    let first = c.in_ok-first.first in
    let pages = c.in_ok-first.pages in
    let found = c.in_ok-first.ensures in
    let few = run_found c.args.self.now c.args.count first pages found.first found.run in
    let stopped = λ (refusal : Refusal) (why : IsRefusedAs (send_refusal c.self.inside.space first pages) refusal).
    run_stopped c.args.self.now first c.args.count pages refusal found.first few (rw (← c.self.view_is) c.self.invariant.0.todo) (rw (← c.self.view_is) why) in
    let p = err_from_is_err_and c.from_residual-in_err-sent.result c.from_residual-in_err-sent.ensures.1 in
    rw (p.1, p.2) (stopped _ c.in_err-sent.ensures.refused)

pub invariant_of-self-2 : goal.invariant_of-self-2
invariant_of-self-2 c = (
  sent_order _ _ c.self.inside.space _ c.self.inside.log _ c.in_ok-first.first c.in_ok-first.pages c.is_in_order.ensures c.in_ok-sent.ensures.accepted c.in_ok-sent.ensures.space c.send_run.ensures.lent c.in_ok-sent.ensures.log c.self.invariant.0,
  rw c.in_ok-sent.ensures.space c.self.invariant.1,
)

pub returns-clause-frame : goal.returns-clause-frame
returns-clause-frame c =
    let first = c.in_ok-first.first in
    let pages = c.in_ok-first.pages in
    let found = c.in_ok-first.ensures in
    let lent = c.self.invariant.0.lent (ap (λ (n : Source). is_released n.phase) c.self.view_is ∙ send_unreleased c.args.self.now first found.first) in
    let here = page_there c.self.inside.space first pages first c.in_ok-sent.ensures.accepted (omega arith) (omega (arith, found.pages.0)) in
    run_frame c.args.self.now first pages c.in_ok-sent.sent.items _ c.effect_and_run.ensures.frame (c.in_ok-sent.ensures.bytes c.args.self.now (rw (← c.self.view_is) refl)) found.pages.0 found.pages.1
    (page_of_present c.self.inside.space first lent c.is_in_order.ensures here).0 found.pages.2 c.effect_and_run.ensures.whole
