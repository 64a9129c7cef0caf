use Rattle.std.proofs.Common.{◌-◌}
use Rattle.frame_decoder.proofs.Filling.{SetFills}
use Rattle.frame_decoder.proofs.lists.read_runs.Given as goal

abbrev pub invariant-loop : goal.invariant-loop
invariant-loop l = SetFills l.pages l.low (l.count - l.counter) l.rest l.count l.bytes
