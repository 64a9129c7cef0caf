use Rattle.engine.proofs.Lacking.{lost_step, made_or_not}
use Rattle.engine.proofs.Transcripts.{longer}
use Rattle.engine.proofs.line_runner.make_step.Goals as goal

pub slice_bounds-print_entries-count : goal.slice_bounds-print_entries-count
slice_bounds-print_entries-count c = longer _ _ _ _ _ _ c.step-outcome.ensures.happens c.transcript-count.ensures.entries c.transcript.ensures.entries

pub slice_bounds-print_entries-start : goal.slice_bounds-print_entries-start
slice_bounds-print_entries-start c = longer _ _ _ _ _ _ c.step-outcome.ensures.happens c.transcript-count.ensures.entries c.transcript.ensures.entries

pub returns-in-Err-NoMemory-clause-lost : goal.returns-in-Err-NoMemory-clause-lost
returns-in-Err-NoMemory-clause-lost c = made_or_not c.args.mode _ _ _ _ c.step-outcome.ensures.happens

pub returns-in_err-print_line-in-Lines-clause-lost : goal.returns-in_err-print_line-in-Lines-clause-lost
returns-in_err-print_line-in-Lines-clause-lost c = lost_step _ c.args.mode _ _ _ _ c.step-outcome.ensures.happens

pub returns-in_err-print_entries-in-Transcript-clause-lost : goal.returns-in_err-print_entries-in-Transcript-clause-lost
returns-in_err-print_entries-in-Transcript-clause-lost c = lost_step _ c.args.mode _ _ _ _ c.step-outcome.ensures.happens
