use Rattle.std.specs.List.{All}
use Rattle.history.specs.Contradictions.{Contradicts}
use Rattle.history_judge.proofs.decision.keep_true.Given as goal

abbrev pub invariant-loop-contradiction : goal.invariant-loop-contradiction
invariant-loop-contradiction l = All (Contradicts l.clock l.operations) l.kept.items
