use Rattle.std.proofs.lemmas.Result.{err_from_is_err_and}
use Rattle.mig_base.specs.declared.schedule.Step.{Step}
use Rattle.wires.specs.Lanes.{sent_of}
use Rattle.world.specs.Worlds.{world_of}
use Rattle.world.proofs.DeliveryLemmas.{arrived_moved, arrived_whole, can_arrive, not_none, taken_off, urgent_did, urgent_lacking, urgent_moved, urgent_refused, urgent_right}
use Rattle.world.proofs.StepLemmas.{happens_refused}
use Rattle.world.proofs.parts.Parts.deliver_urgent.Goals as goal

pub returns-in_err-ensure_in_flight : goal.returns-in_err-ensure_in_flight
returns-in_err-ensure_in_flight c =
    let p = err_from_is_err_and c.from_residual.result c.from_residual.ensures.1 in
    rw (p.1, p.2) (happens_refused (world_of c.args.self.now) (Step.DeliverUrgent c.args.n) _ (urgent_refused (world_of c.args.self.now) c.args.n _ c.has_run.result c.has_run.ensures c.in_err-ensure_in_flight.ensures))

pub returns-in_default : goal.returns-in_default
returns-in_default c =
    let can = can_arrive c.args.self.now.up c.has_run.result c.args.self.now.destination.has_run c.args.self.now.urgent.wire c.has_run.ensures c.in_ok-ensure_in_flight.ensures in
    let whole = c.in_default.ensures.arrived.0 in
    rw c.in_default.ensures.arrived.1 (urgent_lacking (world_of c.args.self.now) c.args.n whole.sent whole.rest can whole.first whole.whole)

pub returns-in_default-arrived : goal.returns-in_default-arrived
returns-in_default-arrived c =
    let can = can_arrive c.args.self.now.up c.has_run.result c.args.self.now.destination.has_run c.args.self.now.urgent.wire c.has_run.ensures c.in_ok-ensure_in_flight.ensures in
    urgent_moved (world_of c.args.self.now) c.args.n _ can (arrived_moved c.args.self.now.urgent.wire c.args.n c.in-Ok.arrived c.arrive.new.self.wire (not_none c.args.self.now.urgent.wire can.sent can.rest can.first) c.in_default-arrived.is c.in-Ok.ensures.arrived)

pub receive_urgent-requires-clause-right : goal.receive_urgent-requires-clause-right
receive_urgent-requires-clause-right c =
    let can = can_arrive c.args.self.now.up c.has_run.result c.args.self.now.destination.has_run c.args.self.now.urgent.wire c.has_run.ensures c.in_ok-ensure_in_flight.ensures in
    let whole = arrived_whole c.args.self.now.urgent.wire c.args.n c.in-Ok.arrived c.in-Some.sent c.arrive.new.self.wire c.in-Some.is c.in-Ok.ensures.arrived in
    urgent_right (world_of c.args.self.now) c.args.n c.in-Some.sent c.requires.reached can whole.0

pub returns-in_default-receive_urgent : goal.returns-in_default-receive_urgent
returns-in_default-receive_urgent c =
    let can = can_arrive c.args.self.now.up c.has_run.result c.args.self.now.destination.has_run c.args.self.now.urgent.wire c.has_run.ensures c.in_ok-ensure_in_flight.ensures in
    let whole = arrived_whole c.args.self.now.urgent.wire c.args.n c.in-Ok.arrived c.in-Some.sent c.arrive.new.self.wire c.in-Some.is c.in-Ok.ensures.arrived in
    rw (whole.1, c.in_default-receive_urgent.ensures.err) (urgent_lacking (world_of c.args.self.now) c.args.n (sent_of c.in-Some.sent) whole.0.rest can whole.0.first whole.0.whole)

pub returns : goal.returns
returns c =
    let can = can_arrive c.args.self.now.up c.has_run.result c.args.self.now.destination.has_run c.args.self.now.urgent.wire c.has_run.ensures c.in_ok-ensure_in_flight.ensures in
    let whole = arrived_whole c.args.self.now.urgent.wire c.args.n c.in-Ok.arrived c.in-Some.sent c.arrive.new.self.wire c.in-Some.is c.in-Ok.ensures.arrived in
    rw (taken_off c.args.self.now.urgent.wire c.arrive.new.self.wire c.drop_first.new.self.wire c.args.n c.in-Some.sent whole.0 whole.1 c.drop_first.ensures.first)
    (urgent_did (world_of c.args.self.now) c.args.n c.in-Some.sent _ _ can whole.0 c.in-Ok-receive_urgent.ensures.took)
