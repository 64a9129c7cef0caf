use Rattle.std.proofs.Common.{◌≡◌, ◌++◌, take}
use Rattle.diagram.specs.Escapes.{escaped}
use Rattle.diagram.proofs.escape.push_escaped.Given as goal

abbrev pub invariant-loop-byte : goal.invariant-loop-byte
invariant-loop-byte l = l.bytes.items ≡ l.initial.bytes.items ++ escaped (take l.byte-index l.text)
