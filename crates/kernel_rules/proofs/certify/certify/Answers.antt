use Rattle.std.proofs.Common.{sym, ◌∙◌}
use Rattle.std.proofs.lemmas.List.{length-map}
use Rattle.std.specs.Prelude.{map}
use Rattle.kernel_rules.specs.Held.{kernel_of}
use Rattle.kernel_rules.specs.Runs.{event_of}
use Rattle.kernel_rules.specs.Worlds.{place_of}
use Rattle.kernel_rules.proofs.Laws.{certified_clean, certified_none, certified_run, certified_short, certified_some}
use Rattle.kernel_rules.proofs.certify.certify.Goals as goal

pub returns-then-not-branch-clause-exact : goal.returns-then-not-branch-clause-exact
returns-then-not-branch-clause-exact c =
    sym
    (certified_none (map event_of c.args.log.now) c.args.run.now (place_of c.new-world.result) (place_of c.steps.new.self) c.in_ok-steps.field-0 c.new-world.ensures.fresh c.in_ok-steps.ensures.steps
    c.if-not-branch.true)

pub returns-then-world-log-clause-exact : goal.returns-then-world-log-clause-exact
returns-then-world-log-clause-exact c =
    sym
    (certified_short (map event_of c.args.log.now) c.args.run.now (place_of c.new-world.result) (place_of c.steps.new.self) c.in_ok-steps.field-0 c.new-world.ensures.fresh c.in_ok-steps.ensures.steps
    c.if-not-branch.false (λ e. c.if-world-log.true (e ∙ length-map c.args.log.now event_of)))

pub returns-clause-run : goal.returns-clause-run
returns-clause-run c =
    certified_run (map event_of c.args.log.now) c.args.run.now (kernel_of c.steps.new.self.kernel)
    (certified_some (map event_of c.args.log.now) c.args.run.now (place_of c.new-world.result) (place_of c.steps.new.self) c.in_ok-steps.field-0 c.new-world.ensures.fresh c.in_ok-steps.ensures.steps
    c.if-not-branch.false (c.if-world-log.false ∙ sym (length-map c.args.log.now event_of)))

pub returns-clause-clean : goal.returns-clause-clean
returns-clause-clean c =
    certified_clean (map event_of c.args.log.now) c.args.run.now c.steps.new.self.kernel
    (certified_some (map event_of c.args.log.now) c.args.run.now (place_of c.new-world.result) (place_of c.steps.new.self) c.in_ok-steps.field-0 c.new-world.ensures.fresh c.in_ok-steps.ensures.steps
    c.if-not-branch.false (c.if-world-log.false ∙ sym (length-map c.args.log.now event_of)))

pub returns-clause-exact : goal.returns-clause-exact
returns-clause-exact c =
    sym
    (certified_some (map event_of c.args.log.now) c.args.run.now (place_of c.new-world.result) (place_of c.steps.new.self) c.in_ok-steps.field-0 c.new-world.ensures.fresh c.in_ok-steps.ensures.steps
    c.if-not-branch.false (c.if-world-log.false ∙ sym (length-map c.args.log.now event_of)))
