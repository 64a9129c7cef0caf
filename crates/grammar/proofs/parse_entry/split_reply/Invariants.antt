use Rattle.std.proofs.Common.{take}
use Rattle.grammar.proofs.Entries.{HasNoArrow}
use Rattle.grammar.proofs.parse_entry.split_reply.Given as goal

abbrev pub invariant-loop-at : goal.invariant-loop-at
invariant-loop-at l = HasNoArrow (take l.at l.tokens)
