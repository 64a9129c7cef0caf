use Rattle.std.proofs.lemmas.List.{take_rest}
use Rattle.call_log.proofs.Writes.{wrote_more}
use Rattle.call_log.proofs.input.write_out.Goals as goal

pub loop-rest-preserved : goal.loop-rest-preserved
loop-rest-preserved g c =
    rw (take_rest c.loop-rest.rest.now c.in-Ok.taken) (wrote_more c.args.bytes.now c.loop-rest.rest.now c.in-Ok.taken _ _ _ c.loop-rest.invariant c.in-Ok.ensures.bytes)
