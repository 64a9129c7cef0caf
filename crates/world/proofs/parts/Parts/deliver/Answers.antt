use Rattle.std.proofs.lemmas.Result.{err_from_is_err_and}
use Rattle.mig_base.specs.declared.schedule.Step.{Step}
use Rattle.mig_model.specs.Migration.{has_started}
use Rattle.world.specs.Worlds.{world_of}
use Rattle.world.proofs.DeliveryLemmas.{arrived_moved, arrived_whole, can_arrive, deliver_lacking, deliver_moved, deliver_not, deliver_refused, deliver_took, forward_right, not_none, taken_off}
use Rattle.world.proofs.StepLemmas.{happens_refused}
use Rattle.world.proofs.parts.Parts.deliver.Goals as goal

pub returns-in_err-ensure_in_flight : goal.returns-in_err-ensure_in_flight
returns-in_err-ensure_in_flight c =
    let p = err_from_is_err_and c.from_residual.result c.from_residual.ensures.1 in
    rw (p.1, p.2) (happens_refused (world_of c.args.self.now) (Step.Deliver c.args.n) _ (deliver_refused (world_of c.args.self.now) c.args.n _ c.has_started.result c.has_started.ensures c.in_err-ensure_in_flight.ensures))

pub returns-in_default : goal.returns-in_default
returns-in_default c =
    let can = can_arrive c.args.self.now.up c.has_started.result (has_started (world_of c.args.self.now)) c.args.self.now.forward.wire c.has_started.ensures c.in_ok-ensure_in_flight.ensures in
    let whole = c.in_default.ensures.arrived.0 in
    rw c.in_default.ensures.arrived.1 (deliver_lacking (world_of c.args.self.now) c.args.n whole.sent whole.rest can whole.first whole.whole)

pub returns-in_default-arrived : goal.returns-in_default-arrived
returns-in_default-arrived c =
    let can = can_arrive c.args.self.now.up c.has_started.result (has_started (world_of c.args.self.now)) c.args.self.now.forward.wire c.has_started.ensures c.in_ok-ensure_in_flight.ensures in
    deliver_moved (world_of c.args.self.now) c.args.n _ can (arrived_moved c.args.self.now.forward.wire c.args.n c.in-Ok.arrived c.arrive.new.self.wire (not_none c.args.self.now.forward.wire can.sent can.rest can.first) c.in_default-arrived.is c.in-Ok.ensures.arrived)

pub receive-requires-clause-right : goal.receive-requires-clause-right
receive-requires-clause-right c =
    let can = can_arrive c.args.self.now.up c.has_started.result (has_started (world_of c.args.self.now)) c.args.self.now.forward.wire c.has_started.ensures c.in_ok-ensure_in_flight.ensures in
    let whole = arrived_whole c.args.self.now.forward.wire c.args.n c.in-Ok.arrived c.in-Some.sent c.arrive.new.self.wire c.in-Some.is c.in-Ok.ensures.arrived in
    forward_right (world_of c.args.self.now) c.args.n c.in-Some.sent c.requires.reached can whole.0

pub returns-in_err-effect : goal.returns-in_err-effect
returns-in_err-effect c =
    let p = err_from_is_err_and c.from_residual-in_err-effect.result c.from_residual-in_err-effect.ensures.1 in
    let can = can_arrive c.args.self.now.up c.has_started.result (has_started (world_of c.args.self.now)) c.args.self.now.forward.wire c.has_started.ensures c.in_ok-ensure_in_flight.ensures in
    let whole = arrived_whole c.args.self.now.forward.wire c.args.n c.in-Ok.arrived c.in-Some.sent c.arrive.new.self.wire c.in-Some.is c.in-Ok.ensures.arrived in
    rw (p.1, p.2, whole.1, c.in_err-effect.ensures.err.0, c.in_err-effect.ensures.err.1) (deliver_not (world_of c.args.self.now) c.args.n c.in-Some.sent _ can whole.0 c.in_err-effect.ensures.refused)

pub returns : goal.returns
returns c =
    let can = can_arrive c.args.self.now.up c.has_started.result (has_started (world_of c.args.self.now)) c.args.self.now.forward.wire c.has_started.ensures c.in_ok-ensure_in_flight.ensures in
    let whole = arrived_whole c.args.self.now.forward.wire c.args.n c.in-Ok.arrived c.in-Some.sent c.arrive.new.self.wire c.in-Some.is c.in-Ok.ensures.arrived in
    rw (taken_off c.args.self.now.forward.wire c.arrive.new.self.wire c.drop_first.new.self.wire c.args.n c.in-Some.sent whole.0 whole.1 c.drop_first.ensures.first)
    (deliver_took (world_of c.args.self.now) c.args.n c.in-Some.sent _ _ _ can whole.0 c.in_ok-effect.ensures.took c.in_ok-effect.ensures.answered)
