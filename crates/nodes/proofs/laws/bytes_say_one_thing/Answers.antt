use Rattle.nodes.proofs.Sayings.{one_saying}
use Rattle.nodes.proofs.laws.bytes_say_one_thing.Goals as goal

pub returns : goal.returns
returns c = one_saying
