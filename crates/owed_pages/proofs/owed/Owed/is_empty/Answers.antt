use Rattle.std.proofs.Common.{◌∙◌, sym, ap, eqb}
use Rattle.std.specs.FinMap.{len}
use Rattle.owed_pages.proofs.owed.Owed.is_empty.Goals as goal

pub returns : goal.returns
returns c = ap (λ n. eqb n 0) (sym c.self.inside.links.kept.counted ∙ ap len c.self.view_is)
