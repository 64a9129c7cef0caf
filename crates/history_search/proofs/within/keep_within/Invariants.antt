use Rattle.std.specs.List.{All}
use Rattle.history_search.specs.Proposals.{IsWithin}
use Rattle.history_search.proofs.within.keep_within.Given as goal

abbrev pub invariant-loop-contradiction : goal.invariant-loop-contradiction
invariant-loop-contradiction l = All (IsWithin l.count) l.kept.items
