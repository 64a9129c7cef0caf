use Rattle.std.proofs.Common.{None, arith, subst, sym}
use Rattle.std.specs.Option.{IfSome}
use Rattle.std.specs.Prelude.{◌≡◌, ◌↔◌, ◌⊎◌, true}
use Rattle.mig_model.specs.Promises.{IsComplete}
use Rattle.finish.specs.Finishing.{IsDue, needs_epoch}
use Rattle.finish.proofs.Strategy.{none_exactly, step_is_due}
use Rattle.finish.proofs.next_step.next_from.Goals as goal

pub returns-clause-due : goal.returns-clause-due
returns-clause-due c =
    let many = c.cpus-cpus.ensures.count in
    let range = c.cpus-cpus.ensures.range in
    subst (λ step. IfSome step (IsDue c.args.world.now)) (sym c.named_step.ensures) (step_is_due c.args.world.now c.headline.ensures.reached (omega (arith, many, range.0), omega (arith, many, range.1)))

pub returns-clause-none : goal.returns-clause-none
returns-clause-none c = subst (λ step. (step ≡ None) ↔ (IsComplete c.args.world.now ⊎ (needs_epoch c.args.world.now ≡ true))) (sym c.named_step.ensures) (none_exactly c.args.world.now c.headline.ensures.reached)
