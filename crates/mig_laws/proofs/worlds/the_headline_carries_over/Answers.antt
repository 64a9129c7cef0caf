use Rattle.std.proofs.Common.{sym, ◌∙◌}
use Rattle.mig_model.proofs.steps.EveryStep.{kept-reached}
use Rattle.mig_laws.specs.Worlds.{world_under}
use Rattle.mig_laws.proofs.ChangedRuns.{kept-reached-under, reached-under, seen_memory-under}
use Rattle.mig_laws.proofs.worlds.the_headline_carries_over.Goals as goal

pub returns-clause-reached : goal.returns-clause-reached
returns-clause-reached c f world is reached = reached-under f is world reached

pub returns-clause-kept : goal.returns-clause-kept
returns-clause-kept c f world is keeps reached = kept-reached-under f is keeps world reached

pub returns-clause-transcript : goal.returns-clause-transcript
returns-clause-transcript c f world is reached = (kept-reached (world_under f world) (reached-under f is world reached)).memory.flat

pub returns-clause-seen : goal.returns-clause-seen
returns-clause-seen c f world is = seen_memory-under f is.keeps_zero world

pub returns-clause-memory : goal.returns-clause-memory
returns-clause-memory c f world is reached = sym (seen_memory-under f is.keeps_zero world) ∙ (kept-reached (world_under f world) (reached-under f is world reached)).memory.holds
