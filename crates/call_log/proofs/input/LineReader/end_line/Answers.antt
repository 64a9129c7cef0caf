use Rattle.call_log.proofs.input.LineReader.end_line.Goals as goal

pub returns : goal.returns
returns c = record { takes = rw c.deref.ensures.value at c.in_ok-take_line.ensures; held = c.clear.ensures.items }
