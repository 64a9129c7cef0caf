use Rattle.std.proofs.lemmas.Slice.Eq.{slice_eq-Decides}
use Rattle.userfault.proofs.QueueLemmas.{same_noted}
use Rattle.userfault.proofs.noted.is_same_queue.Goals as goal

pub returns : goal.returns
returns c = slice_eq-Decides same_noted c.args.queue.now.items c.args.other.now.items c.eq.result c.eq.ensures
