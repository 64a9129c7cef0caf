use Rattle.std.proofs.Common.{[], refl}
use Rattle.mig_model.specs.Migration.{first_world}
use Rattle.mig_model.proofs.completion.Completion.{epoch_left-completes, link_up-completes}
use Rattle.mig_model.proofs.migration.a_migration_can_complete.Goals as goal

pub returns-clause-first : goal.returns-clause-first
returns-clause-first c cpus = epoch_left-completes (first_world cpus) (record { cpus = cpus; epoch = 0; rounds = 0; steps = []; is = refl }) refl

pub returns-clause-epoch_left : goal.returns-clause-epoch_left
returns-clause-epoch_left c world reached free = epoch_left-completes world reached free

pub returns-clause-link_up : goal.returns-clause-link_up
returns-clause-link_up c world reached started up = link_up-completes world reached started up
