use Rattle.call_log.proofs.Reading.{ran_new}
use Rattle.call_log.proofs.input.read_lines.Goals as goal

pub loop-init : goal.loop-init
loop-init g c = λ name at. ran_new name _ _ _ at

pub loop-preserved : goal.loop-preserved
loop-preserved g c = λ name at. rw c.if-not-more.false at (c.in_ok-more.ensures name _ _ (c.loop.invariant name at))

pub returns-then-not-more : goal.returns-then-not-more
returns-then-not-more g c = λ name at. rw c.if-not-more.true at (c.in_ok-more.ensures name _ _ (c.loop.invariant name at))
