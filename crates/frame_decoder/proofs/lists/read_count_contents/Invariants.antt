use Rattle.std.proofs.Common.{◌-◌}
use Rattle.frame_decoder.specs.Reading.{many_at, content_at}
use Rattle.frame_decoder.proofs.Loop.{Reads}
use Rattle.frame_decoder.proofs.lists.read_count_contents.Given as goal

abbrev pub invariant-loop : goal.invariant-loop
invariant-loop l = Reads (λ (_ : Unit {0}). content_at) (λ state _. state) l.items.items tt (l.count - l.counter) l.rest (many_at content_at l.count l.bytes)
