use Rattle.std.proofs.Common.{take}
use Rattle.std.specs.Prelude.{string_bytes}
use Rattle.explain.specs.Explaining.{ListsWrong}
use Rattle.explain.proofs.explain.list.Given as goal

abbrev pub invariant-loop-wrong : goal.invariant-loop-wrong
invariant-loop-wrong l = ListsWrong l.reasons (take l.wrong-index l.wrongs) (string_bytes l.text)
