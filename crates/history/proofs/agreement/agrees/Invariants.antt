use Rattle.std.proofs.Common.{◌≡◌, length}
use Rattle.history.proofs.Agreeing.{Agrees}
use Rattle.history.proofs.agreement.agrees.Given as goal

abbrev pub invariant-loop-operation : goal.invariant-loop-operation
invariant-loop-operation l = record { agree : Agrees l.operations l.operation-index l.latest l.ends l.lines; room : length l.ends ≡ 256; room_too : length l.lines ≡ 256 }
