use Rattle.call_log.proofs.Reading.{Led}
use Rattle.call_log.proofs.input.LineReader.feed.Given as goal

abbrev pub invariant-loop-line : goal.invariant-loop-line
invariant-loop-line l = Led l.fn.self l.bytes l.line-iterator.bytes l.self
