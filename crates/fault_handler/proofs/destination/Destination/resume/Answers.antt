use Rattle.fault_handler.proofs.destination.Destination.resume.Goals as goal
use Rattle.fault_handler.proofs.destination.Destination.resume.Goals.{in-NotRun, in-Running, in-Ended}

pub invariant_of-self : goal.invariant_of-self
invariant_of-self c = elim c.match-received.branch [
  | in-NotRun w ↦ rw w.self-inside-is c.self.invariant
  | in-Running w ↦ rw w.self-inside-is c.self.invariant
  | in-Ended w ↦ rw w.self-inside-is c.self.invariant
]
