use Rattle.mig_model.proofs.steps.StepLemmas.{next-refused}
use Rattle.mig_model.proofs.steps.PartsChanged.{changes_parts}
use Rattle.mig_model.proofs.migration.each_step_changes_its_parts.Goals as goal

pub returns-clause-refused : goal.returns-clause-refused
returns-clause-refused c world step refusal answered = next-refused world step refusal answered

pub returns-clause-parts : goal.returns-clause-parts
returns-clause-parts c world step = changes_parts world step
