use Rattle.kernel_laws.proofs.Counterpart.{counterpart}
use Rattle.kernel_laws.proofs.a_space_has_a_counterpart.Goals as goal

pub returns : goal.returns
returns c space sound none are = counterpart space sound none are
