use Rattle.std.proofs.lemmas.Result.{err_from_is_err_and}
use Rattle.std.proofs.Common.{ap, arith, sym, ◌∙◌}
use Rattle.mig_model.specs.Migration.{has_started}
use Rattle.world.specs.Worlds.{world_of}
use Rattle.mig_model.specs.NodeSteps.{checked}
use Rattle.world.proofs.DeliveryLemmas.{can_arrive, deliver_refused}
use Rattle.world.proofs.EndLemmas.{end_fits, end_installs, end_waits, held_few, other_fits}
use Rattle.world.proofs.parts.Parts.check_deliver.Goals as goal

pub overflow_sub-held : goal.overflow_sub-held
overflow_sub-held c =
    let can = can_arrive c.args.self.now.up c.has_started.result (has_started (world_of c.args.self.now)) c.args.self.now.forward.wire c.has_started.ensures c.in_ok-ensure_in_flight.ensures in
    let few = held_few c.args.self.now.forward.wire.frames can.sent can.rest c.args.self.now.forward.wire.held can.first c.held.ensures.short (sym c.if-not-is_end_first.false ∙ c.is_end_first.ensures can.sent can.rest can.first) in
    let held = c.held.ensures.count in
    omega (arith, few, held)

pub returns-then-not-is_empty : goal.returns-then-not-is_empty
returns-then-not-is_empty c =
    let can = can_arrive c.args.self.now.up c.has_started.result (has_started (world_of c.args.self.now)) c.args.self.now.forward.wire c.has_started.ensures c.in_ok-ensure_in_flight.ensures in
    let enough = c.if-n-held.false in
    let held = c.held.ensures.count in
    let copies = c.arrivals.ensures in
    let none = c.if-arrivals-gt0.false in
    end_waits (world_of c.args.self.now) c.args.n can c.requires.reached (sym c.if-not-is_end_first.false ∙ c.is_end_first.ensures can.sent can.rest can.first) (omega (arith, enough, held)) (omega (arith, none, copies)) (sym c.is_empty.ensures ∙ c.if-not-is_empty.true)

pub returns : goal.returns
returns c =
    let can = can_arrive c.args.self.now.up c.has_started.result (has_started (world_of c.args.self.now)) c.args.self.now.forward.wire c.has_started.ensures c.in_ok-ensure_in_flight.ensures in
    let enough = c.if-n-held.false in
    let held = c.held.ensures.count in
    let copies = c.arrivals.ensures in
    let none = c.if-arrivals-gt0.false in
    end_fits (world_of c.args.self.now) c.args.n can c.requires.reached (sym c.if-not-is_end_first.false ∙ c.is_end_first.ensures can.sent can.rest can.first) (omega (arith, enough, held)) (omega (arith, none, copies)) (sym c.is_empty.ensures ∙ c.if-not-is_empty.false)

pub returns-in_err-ensure_in_flight : goal.returns-in_err-ensure_in_flight
returns-in_err-ensure_in_flight c =
    let p = err_from_is_err_and c.from_residual.result c.from_residual.ensures.1 in
    rw (p.1, p.2) (sym (ap checked (deliver_refused (world_of c.args.self.now) c.args.n _ c.has_started.result c.has_started.ensures c.in_err-ensure_in_flight.ensures)))

pub returns-then-not-is_end_first : goal.returns-then-not-is_end_first
returns-then-not-is_end_first c =
    let can = can_arrive c.args.self.now.up c.has_started.result (has_started (world_of c.args.self.now)) c.args.self.now.forward.wire c.has_started.ensures c.in_ok-ensure_in_flight.ensures in
    other_fits (world_of c.args.self.now) c.args.n can (sym (c.is_end_first.ensures can.sent can.rest can.first) ∙ c.if-not-is_end_first.true)

pub returns-then-arrivals-gt0 : goal.returns-then-arrivals-gt0
returns-then-arrivals-gt0 c =
    let can = can_arrive c.args.self.now.up c.has_started.result (has_started (world_of c.args.self.now)) c.args.self.now.forward.wire c.has_started.ensures c.in_ok-ensure_in_flight.ensures in
    let enough = c.if-n-held.false in
    let held = c.held.ensures.count in
    let copies = c.arrivals.ensures in
    let some = c.if-arrivals-gt0.true in
    end_installs (world_of c.args.self.now) c.args.n can (sym c.if-not-is_end_first.false ∙ c.is_end_first.ensures can.sent can.rest can.first) (omega (arith, enough, held)) (omega (arith, some, copies))
