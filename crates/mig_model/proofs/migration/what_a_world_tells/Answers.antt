use Rattle.mig_model.proofs.completion.ViewPromises.{complete_left, new_reached, phase_complete}
use Rattle.mig_model.proofs.migration.what_a_world_tells.Goals as goal

pub returns-clause-complete : goal.returns-clause-complete
returns-clause-complete c world = phase_complete world

pub returns-clause-new : goal.returns-clause-new
returns-clause-new c cpus epoch rounds world h = new_reached cpus epoch rounds world h

pub returns-clause-left : goal.returns-clause-left
returns-clause-left c world reached done = complete_left world reached done
