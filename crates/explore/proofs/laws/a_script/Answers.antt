use Rattle.explore.proofs.Going.{explored_reads}
use Rattle.explore.proofs.laws.a_script.Goals as goal

pub returns : goal.returns
returns c = explored_reads
