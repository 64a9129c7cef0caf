use Rattle.std.proofs.Common.{◌≡◌, ◌≢◌, Some}
use Rattle.std.specs.Prelude.{IfSome}
use Rattle.pusher.specs.Seats.{IsSeatOf}
use Rattle.rig.specs.Claiming.{Continues}
use Rattle.rig.specs.declared.gate.Worker.{Worker}
use Rattle.rig.specs.declared.turns.Leave.{Leave}
use Rattle.rig.proofs.sending.serve_turns.Given as goal

abbrev pub invariant-loop-turn : goal.invariant-loop-turn
invariant-loop-turn g l =
    IsSeatOf l.claims l.seat × Continues l.fn.seat l.seat
    × (g.T.Turns.who l.turns ≡ Worker.Serve) × (g.T.Turns.turn l.turns ≡ l.turn) × (g.T.Turns.leave l.turns ≢ Leave.Over)
    × IfSome (g.T.Turns.due l.turns) (λ due. l.ticket ≡ Some due)
