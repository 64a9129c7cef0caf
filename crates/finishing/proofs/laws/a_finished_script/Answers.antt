use Rattle.finishing.proofs.Behind.{finished}
use Rattle.finishing.proofs.laws.a_finished_script.Goals as goal

pub returns : goal.returns
returns c = finished
