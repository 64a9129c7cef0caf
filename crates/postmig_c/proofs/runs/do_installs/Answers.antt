use Rattle.std.proofs.Common.{add-one}
use Rattle.postmig_c.proofs.runs.do_installs.Goals as goal

pub loop-index-preserved : goal.loop-index-preserved
loop-index-preserved c =
    rw (add-one c.loop-index.index)
    (c.loop-index.effect, c.loop-index.node, c.loop-index.invariant, record { effect = c.in-Ok.done; made = c.in-Ok.ensures.made; numbers_are = c.effect_numbers.ensures; line = c.in-Ok.ensures.line })
