use Rattle.mig_model.proofs.transcript.WorldLaws.{settles_installs, settles_right}
use Rattle.mig_model.proofs.migration.the_settled_relation.Goals as goal

pub returns-clause-right : goal.returns-clause-right
returns-clause-right c world reached = settles_right world reached

pub returns-clause-installs : goal.returns-clause-installs
returns-clause-installs c world = settles_installs world
