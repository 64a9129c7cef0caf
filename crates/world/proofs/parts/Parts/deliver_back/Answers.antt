use Rattle.std.proofs.lemmas.Result.{err_from_is_err_and}
use Rattle.mig_base.specs.declared.schedule.Step.{Step}
use Rattle.mig_model.specs.Migration.{has_started}
use Rattle.wires.specs.Lanes.{sent_of}
use Rattle.world.specs.Worlds.{world_of}
use Rattle.world.proofs.DeliveryLemmas.{arrived_moved, arrived_whole, back_lacking, back_moved, back_refused, back_right, back_took, can_arrive, not_none, taken_off}
use Rattle.world.proofs.StepLemmas.{happens_refused}
use Rattle.world.proofs.parts.Parts.deliver_back.Goals as goal

pub returns-in_err-ensure_in_flight : goal.returns-in_err-ensure_in_flight
returns-in_err-ensure_in_flight c =
    let p = err_from_is_err_and c.from_residual.result c.from_residual.ensures.1 in
    rw (p.1, p.2) (happens_refused (world_of c.args.self.now) (Step.DeliverBack c.args.n) _ (back_refused (world_of c.args.self.now) c.args.n _ c.has_started.result c.has_started.ensures c.in_err-ensure_in_flight.ensures))

pub returns-in_default : goal.returns-in_default
returns-in_default c =
    let can = can_arrive c.args.self.now.up c.has_started.result (has_started (world_of c.args.self.now)) c.args.self.now.back.wire c.has_started.ensures c.in_ok-ensure_in_flight.ensures in
    let whole = c.in_default.ensures.arrived.0 in
    rw c.in_default.ensures.arrived.1 (back_lacking (world_of c.args.self.now) c.args.n whole.sent whole.rest can whole.first whole.whole)

pub returns-in_default-arrived : goal.returns-in_default-arrived
returns-in_default-arrived c =
    let can = can_arrive c.args.self.now.up c.has_started.result (has_started (world_of c.args.self.now)) c.args.self.now.back.wire c.has_started.ensures c.in_ok-ensure_in_flight.ensures in
    back_moved (world_of c.args.self.now) c.args.n _ can (arrived_moved c.args.self.now.back.wire c.args.n c.in-Ok.arrived c.arrive.new.self.wire (not_none c.args.self.now.back.wire can.sent can.rest can.first) c.in_default-arrived.is c.in-Ok.ensures.arrived)

pub receive_back-requires-clause-right : goal.receive_back-requires-clause-right
receive_back-requires-clause-right c =
    let can = can_arrive c.args.self.now.up c.has_started.result (has_started (world_of c.args.self.now)) c.args.self.now.back.wire c.has_started.ensures c.in_ok-ensure_in_flight.ensures in
    let whole = arrived_whole c.args.self.now.back.wire c.args.n c.in-Ok.arrived c.in-Some.sent c.arrive.new.self.wire c.in-Some.is c.in-Ok.ensures.arrived in
    back_right (world_of c.args.self.now) c.args.n c.in-Some.sent c.requires.reached can whole.0

pub returns-in_default-receive_back : goal.returns-in_default-receive_back
returns-in_default-receive_back c =
    let can = can_arrive c.args.self.now.up c.has_started.result (has_started (world_of c.args.self.now)) c.args.self.now.back.wire c.has_started.ensures c.in_ok-ensure_in_flight.ensures in
    let whole = arrived_whole c.args.self.now.back.wire c.args.n c.in-Ok.arrived c.in-Some.sent c.arrive.new.self.wire c.in-Some.is c.in-Ok.ensures.arrived in
    rw (whole.1, c.in_default-receive_back.ensures.err.0, c.in_default-receive_back.ensures.err.1) (back_lacking (world_of c.args.self.now) c.args.n (sent_of c.in-Some.sent) whole.0.rest can whole.0.first whole.0.whole)

pub returns : goal.returns
returns c =
    let can = can_arrive c.args.self.now.up c.has_started.result (has_started (world_of c.args.self.now)) c.args.self.now.back.wire c.has_started.ensures c.in_ok-ensure_in_flight.ensures in
    let whole = arrived_whole c.args.self.now.back.wire c.args.n c.in-Ok.arrived c.in-Some.sent c.arrive.new.self.wire c.in-Some.is c.in-Ok.ensures.arrived in
    rw (taken_off c.args.self.now.back.wire c.arrive.new.self.wire c.drop_first.new.self.wire c.args.n c.in-Some.sent whole.0 whole.1 c.drop_first.ensures.first)
    (back_took (world_of c.args.self.now) c.args.n c.in-Some.sent _ _ _ can whole.0 c.in-Ok-receive_back.ensures.took c.in-Ok-receive_back.ensures.answered)
