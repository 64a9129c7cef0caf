use Rattle.std.proofs.Common.{◌∙◌, sym}
use Rattle.std.proofs.lemmas.Bool.Decides.{Decides-like}
use Rattle.page_table.proofs.ViewLemmas.{same_cells_shown, same_cells_seen}
use Rattle.page_table.proofs.page_table.PageTable.is_same.Goals as goal

pub returns : goal.returns
returns c =
    let places = c.self.inside.places.items in
    let others = c.other.inside.places.items in
    Decides-like c.are_same.result
    (λ same. sym c.self.view_is ∙ same_cells_shown others places c.args.other.now c.other.invariant.few c.self.invariant.few c.other.view_is same)
    (same_cells_seen places others c.args.self.now c.args.other.now c.self.invariant.few c.other.invariant.few c.self.view_is c.other.view_is)
    c.are_same.ensures
