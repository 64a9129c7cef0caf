use Rattle.std.proofs.Common.{◌≡◌, take}
use Rattle.wires.proofs.ChunkLemmas.{bytes_in}
use Rattle.wires.proofs.chunks.copy_full.Given as goal

abbrev pub invariant-loop-i : goal.invariant-loop-i
invariant-loop-i l = bytes_in l.copy.items ≡ bytes_in (take l.i l.chunks.items)
