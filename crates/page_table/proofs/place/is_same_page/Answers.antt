use Rattle.std.proofs.Common.{◌∙◌, true≢false, sym, ap, ap₂}
use mathlib.Core.Bool.{beq}
use Rattle.page_table.proofs.TableLemmas.{same_read, same_cell}
use Rattle.page_table.specs.Leaves.{cell_in}
use Rattle.page_table.proofs.place.is_same_page.Goals as goal

pub returns-then-has_same_bytes : goal.returns-then-has_same_bytes
returns-then-has_same_bytes c =
    let one = c.place_get.result in
    let other = c.place_get-2.result in
    let bytes = sym c.place_get.ensures ∙ (same_read one other).0 (sym c.eq-has_same_bytes.ensures ∙ c.if-has_same_bytes.true) ∙ c.place_get-2.ensures in
    same_cell (cell_in c.args.place.now c.args.i) (cell_in c.args.other.now c.args.i) bytes (beq c.place_is_protected.result c.place_is_protected-then-has_same_bytes.result)
    (ap₂ beq c.place_is_protected.ensures c.place_is_protected-then-has_same_bytes.ensures)

pub returns-else-has_same_bytes : goal.returns-else-has_same_bytes
returns-else-has_same_bytes c = (
  λ e. absurd (true≢false (sym e ∙ c.if-has_same_bytes.false)),
  λ same. c.eq-has_same_bytes.ensures ∙ (same_read c.place_get.result c.place_get-2.result).1 (c.place_get.ensures ∙ ap (λ x. x.0) same ∙ sym c.place_get-2.ensures),
)
