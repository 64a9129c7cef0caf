use Rattle.std.proofs.lemmas.Bool.Decides.{Decides-eqb}
use Rattle.std.proofs.lemmas.Slice.Eq.{slice_eq-Decides}
use Rattle.precopy.proofs.source.are_same_pages.Goals as goal

pub returns : goal.returns
returns c = slice_eq-Decides Decides-eqb c.args.pages.now.items c.args.others.now.items c.eq.result c.eq.ensures
