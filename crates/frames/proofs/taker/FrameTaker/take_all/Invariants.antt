use Rattle.frames.proofs.Handing.{Handed}
use Rattle.frames.proofs.taker.FrameTaker.take_all.Given as goal

abbrev pub invariant-loop-epoch : goal.invariant-loop-epoch
invariant-loop-epoch l = Handed l.fn.self.destination l.fn.self.output.items l.fn.self.refused l.yielded l.self.destination l.self.output.items l.self.refused
