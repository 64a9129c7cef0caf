use Rattle.std.proofs.Common.{rules}
use Rattle.nodes.specs.DestinationCalls.{IsLeft, IsTaken}
use Rattle.nodes.proofs.DestinationLines.{left-order, take-line, take-order}
use Rattle.nodes.proofs.traced_destination.TracedDestination.take.Goals as goal

pub returns-clause-logged : goal.returns-clause-logged
returns-clause-logged c =
    let taken : IsTaken c.args.bytes.now c.args.self.now.node c.in_ok-effect.effect c.take.new.self = search rules in
    take-line c.args.bytes.now c.args.self.now.node c.in_ok-effect.effect c.take.new.self taken

pub returns-clause-phase : goal.returns-clause-phase
returns-clause-phase c =
    let taken : IsTaken c.args.bytes.now c.args.self.now.node c.in_ok-effect.effect c.take.new.self = search rules in
    take-order c.args.bytes.now c.args.self.now.node c.in_ok-effect.effect c.take.new.self taken

pub returns-in_err-effect-clause-phase : goal.returns-in_err-effect-clause-phase
returns-in_err-effect-clause-phase c =
    let left : IsLeft c.args.bytes.now c.args.self.now.node c.take.new.self = search rules in
    left-order c.args.bytes.now c.args.self.now.node c.take.new.self left
