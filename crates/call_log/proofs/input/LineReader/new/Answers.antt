use Rattle.std.proofs.Common.{rules}
use Rattle.call_log.proofs.Reading.{at_new}
use Rattle.call_log.proofs.input.LineReader.new.Goals as goal

pub returns : goal.returns
returns c = λ before. at_new _ _ before c.in_ok-lines.ensures (search rules)
