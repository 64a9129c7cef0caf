use Rattle.std.proofs.Common.{rules, ◌≡◌}
use Rattle.rig.proofs.SeatLemmas.{continues-more}
use Rattle.rig.proofs.check.continues.Goals as goal

pub loop-answer-preserved : goal.loop-answer-preserved
loop-answer-preserved c =
    let same : c.in-Some.answer ≡ c.in-Some-next_wanted.wanted = search rules in
    continues-more _ _ _ _ c.in-Some.answer c.in-Some-next_wanted.wanted _ c.in-Some.ensures.some c.in-Some-next_wanted.ensures.some same c.loop-answer.invariant
