use Rattle.std.proofs.Common.{ap, ◌∙◌}
use Rattle.mig_laws.specs.Worlds.{outcome_under}
use Rattle.mig_laws.proofs.ChangedRuns.{long_whole, outcome-under}
use Rattle.mig_laws.proofs.WholeWorlds.{whole-reached}
use Rattle.mig_laws.proofs.WorldSteps.{alike_kept, alike_whole, answer-under}
use Rattle.mig_laws.proofs.worlds.every_changed_step.Goals as goal

pub returns-clause-answer : goal.returns-clause-answer
returns-clause-answer c f world step is reached part = answer-under f is world (whole-reached world reached) step (alike_whole f world step part)

pub returns-clause-kept : goal.returns-clause-kept
returns-clause-kept c f world step is keeps reached = let whole = whole-reached world reached in answer-under f is world whole step (alike_kept f keeps world whole step)

pub returns-clause-long : goal.returns-clause-long
returns-clause-long c world step h = long_whole world step h

pub returns-clause-refused : goal.returns-clause-refused
returns-clause-refused c f world step is reached part refusal h =
    outcome-under f is world (whole-reached world reached) step (alike_whole f world step part) ∙ ap (outcome_under f world step) h
