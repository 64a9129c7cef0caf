use Rattle.rig.proofs.SeatLemmas.{kept_opening}
use Rattle.rig.proofs.rig.Rig.new.Goals as goal

pub invariant_of-result : goal.invariant_of-result
invariant_of-result c = kept_opening _ c.in-Ok.opening.items _ _ _ c.in-Ok.ensures c.in-Ok-none_handed.ensures.count c.cpus.ensures.count c.cpus.ensures.range c.transcript.ensures.within
