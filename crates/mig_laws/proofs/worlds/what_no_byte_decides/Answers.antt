use Rattle.std.proofs.Common.{sym, subst}
use Rattle.mig_model.specs.Migration.{after_steps}
use Rattle.mig_model.specs.Promises.{IsComplete}
use Rattle.mig_laws.specs.Runs.{DecideAlike}
use Rattle.mig_laws.proofs.ChangedRuns.{after-under, alike_run, decide-alike, kept_run}
use Rattle.mig_laws.proofs.WholeWorlds.{whole-reached}
use Rattle.mig_laws.proofs.worlds.what_no_byte_decides.Goals as goal

pub returns-clause-world : goal.returns-clause-world
returns-clause-world c f world = decide-alike f world

pub returns-clause-run : goal.returns-clause-run
returns-clause-run c f world steps is reached none =
    subst (DecideAlike (after_steps world steps)) (sym (after-under f is world (whole-reached world reached) steps (alike_run f world steps none))) (decide-alike f (after_steps world steps))

pub returns-clause-kept_run : goal.returns-clause-kept_run
returns-clause-kept_run c f world steps is keeps reached =
    let whole = whole-reached world reached in
    subst (DecideAlike (after_steps world steps)) (sym (after-under f is world whole steps (kept_run f keeps world whole steps))) (decide-alike f (after_steps world steps))

pub returns-clause-complete : goal.returns-clause-complete
returns-clause-complete c f world steps is reached none =
    let same = after-under f is world (whole-reached world reached) steps (alike_run f world steps none) in
    ((λ done. subst IsComplete (sym same) done), (λ done. subst IsComplete same done))
