use Rattle.std.proofs.Common.{◌≡◌}
use Rattle.nodes.specs.DestinationCalls.{zeros_taken}
use Rattle.nodes.proofs.Waiting.{posting}
use Rattle.nodes.proofs.destination.frames.DestinationNode.take_run.Given as goal

abbrev pub invariant-loop-i : goal.invariant-loop-i
invariant-loop-i l = posting l.self-inside.node l.self-inside.wire.wire ≡ zeros_taken l.fn.self l.epoch l.first l.i
