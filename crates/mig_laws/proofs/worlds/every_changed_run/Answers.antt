use Rattle.mig_laws.proofs.ChangedRuns.{after-under, alike_run, first-under, kept_run, long_run, outcomes-under}
use Rattle.mig_laws.proofs.WholeWorlds.{whole-reached}
use Rattle.mig_laws.proofs.worlds.every_changed_run.Goals as goal

pub returns-clause-world : goal.returns-clause-world
returns-clause-world c f world steps is reached none = after-under f is world (whole-reached world reached) steps (alike_run f world steps none)

pub returns-clause-answers : goal.returns-clause-answers
returns-clause-answers c f world steps is reached none = outcomes-under f is world (whole-reached world reached) steps (alike_run f world steps none)

pub returns-clause-kept_world : goal.returns-clause-kept_world
returns-clause-kept_world c f world steps is keeps reached = let whole = whole-reached world reached in after-under f is world whole steps (kept_run f keeps world whole steps)

pub returns-clause-kept_answers : goal.returns-clause-kept_answers
returns-clause-kept_answers c f world steps is keeps reached = let whole = whole-reached world reached in outcomes-under f is world whole steps (kept_run f keeps world whole steps)

pub returns-clause-long : goal.returns-clause-long
returns-clause-long c world steps h = long_run world steps h

pub returns-clause-first : goal.returns-clause-first
returns-clause-first c f cpus epoch rounds = first-under f cpus epoch rounds
