use Rattle.engine.proofs.Transcripts.{lines_printed}
use Rattle.engine.proofs.line_runner.print_entries.Goals as goal

pub loop-entry-preserved : goal.loop-entry-preserved
loop-entry-preserved c = lines_printed _ _ _ c.args.entries.now c.loop-entry.entry-index _ c.loop-entry-test.true c.loop-entry.invariant c.in_ok-print_entry.ensures.ok
