use Rattle.mig_model.proofs.transcript.WorldLaws.{installs_nothing_over, zeroes_missing}
use Rattle.mig_model.proofs.migration.no_page_is_installed_over_another.Goals as goal

pub returns-clause-installs : goal.returns-clause-installs
returns-clause-installs c world reached = installs_nothing_over world reached

pub returns-clause-zeros : goal.returns-clause-zeros
returns-clause-zeros c world = zeroes_missing world
