use Rattle.std.proofs.Common.{◌≡◌, ℕ, List, ◌<◌, ◌≤◌, ◌++◌, length, subst}
use Rattle.std.specs.Prelude.{IfOk}
use Rattle.rig.specs.Seats.{Seat, answers_of, list_of, seats_of}
use Rattle.rig.proofs.SeatLemmas.{answered-answers, answered-once}
use Rattle.rig.proofs.rig.Rig.close.Goals as goal

pub returns-clause-answers : goal.returns-clause-answers
returns-clause-answers c =
    subst (λ (seats : List Seat). IfOk c.close_with.result (λ world. (k : ℕ) → k < length world.source.guest.cpus → answers_of k world.transcript ≡ answers_of k c.args.self.opening ++ list_of k seats))
    c.deref.ensures.value (answered-answers c.args.self c.deref.result.now c.close_with.result c.close_with.ensures.answered)

pub returns-clause-once : goal.returns-clause-once
returns-clause-once c =
    subst (λ (seats : List Seat). IfOk c.close_with.result (λ world. (k : ℕ) → k < length world.source.guest.cpus → seats_of k seats ≤ 1))
    c.deref.ensures.value (answered-once c.args.self c.deref.result.now c.close_with.result c.close_with.ensures.answered)
