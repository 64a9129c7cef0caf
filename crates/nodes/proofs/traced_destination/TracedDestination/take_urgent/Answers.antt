use Rattle.std.proofs.Common.{rules}
use Rattle.nodes.specs.DestinationCalls.{IsTakenUrgently}
use Rattle.nodes.proofs.DestinationLines.{urgent-line, urgent-order}
use Rattle.nodes.proofs.traced_destination.TracedDestination.take_urgent.Goals as goal

pub returns-clause-logged : goal.returns-clause-logged
returns-clause-logged c =
    let taken : IsTakenUrgently c.args.bytes.now c.args.self.now.node c.in_ok-effect.effect c.take_urgent.new.self = search rules in
    urgent-line c.args.bytes.now c.args.self.now.node c.in_ok-effect.effect c.take_urgent.new.self taken

pub returns-clause-phase : goal.returns-clause-phase
returns-clause-phase c =
    let taken : IsTakenUrgently c.args.bytes.now c.args.self.now.node c.in_ok-effect.effect c.take_urgent.new.self = search rules in
    urgent-order c.args.bytes.now c.args.self.now.node c.in_ok-effect.effect c.take_urgent.new.self taken
