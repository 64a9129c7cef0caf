use Rattle.fault_handler.proofs.KeptLemmas.{kept_nothing}
use Rattle.fault_handler.proofs.kept.Kept.new.Goals as goal

pub invariant_of-result : goal.invariant_of-result
invariant_of-result c = kept_nothing c.new.result c.new-2.result c.new.ensures.0 c.new.ensures.1 c.new-2.ensures
