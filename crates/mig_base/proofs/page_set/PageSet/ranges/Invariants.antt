use Rattle.mig_base.proofs.RunLemmas.{AreRunsTaken}
use Rattle.mig_base.proofs.page_set.PageSet.ranges.Given as goal

abbrev pub invariant-loop-run : goal.invariant-loop-run
invariant-loop-run l = AreRunsTaken l.self l.run-iterator l.runs.items
