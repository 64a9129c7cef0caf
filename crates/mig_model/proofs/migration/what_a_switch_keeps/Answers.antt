use Rattle.mig_model.proofs.delivery.Unbroken.{keeps_clean}
use Rattle.mig_model.proofs.migration.what_a_switch_keeps.Goals as goal

pub returns : goal.returns
returns c world steps n owed reached takes = keeps_clean world steps n owed reached takes.switched takes.up takes.taken
