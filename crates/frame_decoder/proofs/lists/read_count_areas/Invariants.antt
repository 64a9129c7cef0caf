use Rattle.std.proofs.Common.{◌-◌}
use Rattle.frame_decoder.proofs.Filling.{MapFills}
use Rattle.frame_decoder.proofs.lists.read_count_areas.Given as goal

abbrev pub invariant-loop : goal.invariant-loop
invariant-loop l = MapFills l.areas l.low l.last (l.count - l.counter) l.rest l.count l.bytes
