use Rattle.page_stream.proofs.RunTexts.{AreWritten}
use Rattle.page_stream.proofs.writing.put_runs.Given as goal

abbrev pub invariant-loop-run : goal.invariant-loop-run
invariant-loop-run l = AreWritten l.fn.into l.into l.pages l.run-iterator
