use Rattle.std.proofs.lemmas.Slice.Eq.{slice_eq-Decides}
use Rattle.mig_base.proofs.EqualLemmas.{same_entries}
use Rattle.world.proofs.parts.are_same_entries.Goals as goal

pub returns : goal.returns
returns c = slice_eq-Decides same_entries c.args.entries.now.items c.args.others.now.items c.eq.result c.eq.ensures
