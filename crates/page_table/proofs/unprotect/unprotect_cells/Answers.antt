use Rattle.std.proofs.Common.{◌≡◌, ◌≤◌, ◌+◌, ◌-◌, ◌*◌, ◌∙◌, ap, arith, min, length}
use Rattle.std.proofs.Math.ListN.{length-set}
use Rattle.foundation.specs.Ranges.{in_range}
use Rattle.mig_base.proofs.PlaceLemmas.{read_place}
use Rattle.page_table.specs.Leaves.{cell_in, cell_at, opened_cell}
use Rattle.page_table.proofs.OpenedLemmas.{opened_more, opened_past}
use Rattle.page_table.proofs.unprotect.unprotect_cells.Goals as goal
use Rattle.page_table.proofs.unprotect.unprotect_cells.Goals.{then-at-len, else-at-len}

pub loop-at-preserved : goal.loop-at-preserved
loop-at-preserved c =
    let low : c.saturating_sub-low.result ≡ c.args.first - 1024 * c.loop-at.at = omega arith in
    let high : c.min-high.result ≡ min (c.args.first + c.args.count - 1024 * c.loop-at.at) 1024 = omega arith in
    let order : c.saturating_sub-low.result ≤ c.min-high.result = omega arith in
    elim c.if-at-len.branch [
      | then-at-len w ↦ record {
        opened = λ q. ap (λ v. cell_at v.items q) w.places-is ∙ opened_more c.args.places.now.items c.loop-at.places.items c.args.first c.args.count c.loop-at.at c.saturating_sub-low.result c.min-high.result w.place_unprotect.new.place (omega arith) c.loop-at.invariant.opened
            (λ i. w.place_unprotect.ensures i ∙ ap (λ o. opened_cell (cell_in o i) (in_range c.saturating_sub-low.result (c.min-high.result - c.saturating_sub-low.result) i)) (read_place c.loop-at.places.items c.loop-at.at w.index_mut.result.now (omega arith) w.index_mut.ensures.value))
            low high order q;
        size = ap (λ v. length v.items) w.places-is ∙ length-set c.loop-at.places.items c.loop-at.at w.place_unprotect.new.place ∙ c.loop-at.invariant.size;
      }
      | else-at-len w ↦ record {
        opened = λ q. ap (λ v. cell_at v.items q) w.places-is ∙ opened_past c.args.places.now.items c.loop-at.places.items c.args.first c.args.count c.loop-at.at c.loop-at.invariant.size (omega arith) c.loop-at.invariant.opened q;
        size = ap (λ v. length v.items) w.places-is ∙ c.loop-at.invariant.size;
      }
    ]
