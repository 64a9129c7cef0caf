use Rattle.std.proofs.lemmas.Result.{err_from_is_err_and}
use Rattle.mig_base.specs.declared.effect.Effect.{Effect}
use Rattle.mig_base.specs.declared.schedule.Step.{Step}
use Rattle.mig_model.specs.Migration.{cut}
use Rattle.world.specs.Worlds.{world_of}
use Rattle.world.proofs.StepLemmas.{breaks, breaks_not, happens_made, happens_refused}
use Rattle.world.proofs.parts.Parts.break_link.Goals as goal

pub returns-in_err-check_break : goal.returns-in_err-check_break
returns-in_err-check_break c =
    let p = err_from_is_err_and c.from_residual.result c.from_residual.ensures.1 in
    rw (p.1, p.2) (happens_refused (world_of c.args.self.now) Step.Break _ (breaks_not (world_of c.args.self.now) _ c.in_err-check_break.ensures))

pub returns : goal.returns
returns c =
    let world = world_of c.args.self.now in
    rw (c.clear.ensures.wire, c.clear-2.ensures.wire, c.clear-3.ensures.wire) (happens_made world (cut world) Step.Break Effect.Broken (breaks world c.in_ok-check_break.ensures))
