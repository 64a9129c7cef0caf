use Rattle.std.proofs.lemmas.Result.{err_from_is_err_and}
use Rattle.mig_base.specs.declared.refusal.Refusal.{Refusal}
use Rattle.dirty_log.specs.Answers.{IsRefusedAs, send_refusal}
use Rattle.precopy.proofs.OrderLemmas.{sent_order}
use Rattle.precopy.proofs.RunLemmas.{run_found, run_stopped}
use Rattle.precopy.proofs.source.Source.run_sent.Goals as goal

pub returns-in_err-protect_run-clause-refused : goal.returns-in_err-protect_run-clause-refused
returns-in_err-protect_run-clause-refused c =
    let first = c.in_ok-first.first in
    let count = c.in_ok-first.count in
    let found = c.in_ok-first.ensures in
    let few = run_found c.args.self.now c.args.most first count found.first found.run in
    let stopped = λ (refusal : Refusal) (why : IsRefusedAs (send_refusal c.self.inside.space first count) refusal).
    run_stopped c.args.self.now first c.args.most count refusal found.first few (rw (← c.self.view_is) c.self.invariant.0.todo) (rw (← c.self.view_is) why) in
    let p = err_from_is_err_and c.from_residual-in_err-protect_run.result c.from_residual-in_err-protect_run.ensures.1 in
    rw (p.1, p.2) (stopped _ c.in_err-protect_run.ensures.refused)

pub invariant_of-self-2 : goal.invariant_of-self-2
invariant_of-self-2 c = (
  sent_order _ _ c.self.inside.space _ c.self.inside.log _ c.in_ok-first.first c.in_ok-first.count c.is_in_order.ensures c.in_ok-protect_run.ensures.accepted c.in_ok-protect_run.ensures.space c.protect_run.ensures.lent
      c.in_ok-protect_run.ensures.log c.self.invariant.0,
  rw c.in_ok-protect_run.ensures.space c.self.invariant.1,
)
