use Rattle.mig_model.proofs.invariant.Bounded.{memory_bounded}
use Rattle.mig_model.proofs.memory.MappingLemmas.{flat_within}
use Rattle.mig_model.proofs.bounds.memory_is_bounded.Goals as goal

pub returns-clause-flat : goal.returns-clause-flat
returns-clause-flat c entries = flat_within entries

pub returns-clause-world : goal.returns-clause-world
returns-clause-world c world reached = memory_bounded world reached
