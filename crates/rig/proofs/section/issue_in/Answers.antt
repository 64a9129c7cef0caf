use Rattle.std.proofs.Common.{subst}
use Rattle.mig_base.specs.declared.schedule.Step.{Step}
use Rattle.mig_model.specs.Runs.{Happens}
use Rattle.rig.proofs.SectionLemmas.{issue_enters, refused_stays, told_of}
use Rattle.rig.proofs.section.issue_in.Goals as goal

pub returns-in-Ok-clause-step : goal.returns-in-Ok-clause-step
returns-in-Ok-clause-step c =
    let old = c.args.world.now in
    let new = c.step.new.self in
    let effect = c.in-Ok.effect in
    let entered = issue_enters old new c.args.cpu c.args.command effect c.step.result c.in-Ok.is c.step.ensures.happens in (
      effect,
      subst (λ r. Happens old (Step.Issue c.args.cpu c.args.command) r new) c.in-Ok.is c.step.ensures.happens,
      c.tried_as.ensures.by_effect old.transcript c.args.cpu c.args.command entered,
    )

pub returns-in-Ok-clause-entered : goal.returns-in-Ok-clause-entered
returns-in-Ok-clause-entered c =
    c.tried_as.ensures.entered c.args.world.now.transcript c.args.cpu c.args.command
    (issue_enters c.args.world.now c.step.new.self c.args.cpu c.args.command c.in-Ok.effect c.step.result c.in-Ok.is c.step.ensures.happens)

pub returns-in-Ok-clause-told : goal.returns-in-Ok-clause-told
returns-in-Ok-clause-told c reached =
    told_of c.args.world.now c.step.new.self (Step.Issue c.args.cpu c.args.command) c.args.cpu c.args.command c.tried_as.result reached (returns-in-Ok-clause-step c) (returns-in-Ok-clause-entered c)

pub returns-in-Err-clause-refused : goal.returns-in-Err-clause-refused
returns-in-Err-clause-refused c = refused_stays c.args.world.now c.step.new.self (Step.Issue c.args.cpu c.args.command) c.in-Err.refusal c.step.result c.in-Err.is c.step.ensures.happens
