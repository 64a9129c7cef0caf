use Rattle.mig_base.specs.declared.schedule.Step.{Step}
use Rattle.std.proofs.Common.{sym, ap, ◌∙◌, subst}
use Rattle.std.specs.Prelude.{Ok}
use Rattle.mig_model.specs.Runs.{Happens}
use Rattle.rig.proofs.SectionLemmas.{retry_enters, refused_stays, same_woken, told_of}
use Rattle.rig.proofs.section.retry_in.Goals as goal

pub returns-in-Ok-clause-woken : goal.returns-in-Ok-clause-woken
returns-in-Ok-clause-woken c command waits =
    let old = c.args.world.now in
    let new = c.step.new.self in
    let effect = c.in-Ok.effect in
    let woken = sym c.cpu_state.ensures ∙ c.in-Ok-Woken.is ∙ ap (λ s. Ok s) c.in-Ok-Woken.field-0-is in
    let entered = retry_enters old new c.args.cpu c.in-Ok-Woken.command effect c.step.result woken c.in-Ok.is c.step.ensures.happens in (
      same_woken old c.args.cpu c.in-Ok-Woken.command command woken waits,
      (
        effect,
        subst (λ r. Happens old (Step.Retry c.args.cpu) r new) c.in-Ok.is c.step.ensures.happens,
        c.tried_as.ensures.by_effect old.transcript c.args.cpu c.in-Ok-Woken.command entered,
      ),
    )

pub returns-in-Ok-clause-entered : goal.returns-in-Ok-clause-entered
returns-in-Ok-clause-entered c =
    c.tried_as.ensures.entered c.args.world.now.transcript c.args.cpu c.in-Ok-Woken.command
    (retry_enters c.args.world.now c.step.new.self c.args.cpu c.in-Ok-Woken.command c.in-Ok.effect c.step.result (sym c.cpu_state.ensures ∙ c.in-Ok-Woken.is ∙ ap (λ s. Ok s) c.in-Ok-Woken.field-0-is) c.in-Ok.is c.step.ensures.happens)

pub returns-in-Ok-clause-told : goal.returns-in-Ok-clause-told
returns-in-Ok-clause-told c reached =
    let command = c.in-Ok-Woken.command in
    let woken = sym c.cpu_state.ensures ∙ c.in-Ok-Woken.is ∙ ap (λ s. Ok s) c.in-Ok-Woken.field-0-is in
    told_of c.args.world.now c.step.new.self (Step.Retry c.args.cpu) c.args.cpu command c.tried_as.result reached ((returns-in-Ok-clause-woken c command woken).1) (returns-in-Ok-clause-entered c)

pub returns-in-Err-step-clause-refused : goal.returns-in-Err-step-clause-refused
returns-in-Err-step-clause-refused c = refused_stays c.args.world.now c.step.new.self (Step.Retry c.args.cpu) c.in-Err-step.refusal c.step.result c.in-Err-step.is c.step.ensures.happens
