use Rattle.std.proofs.Common.{◌≡◌, ◌≤◌, ◌+◌, ◌-◌, ◌*◌, ◌∙◌, cond, ap, arith, min, length}
use Rattle.std.proofs.Math.ListN.{length-set}
use Rattle.foundation.specs.Ranges.{in_range}
use Rattle.mig_base.proofs.PlaceLemmas.{read_place, places_stay}
use Rattle.page_table.specs.Leaves.{cell_in, cell_at, has_place, is_place, no_cell}
use Rattle.page_table.proofs.TableLemmas.{cleared_more, cleared_past}
use Rattle.page_table.proofs.table.clear_range.Goals as goal
use Rattle.page_table.proofs.table.clear_range.Goals.{then-at-len, else-at-len}

pub loop-at-preserved : goal.loop-at-preserved
loop-at-preserved c =
    let low : c.saturating_sub-low.result ≡ c.args.first - 1024 * c.loop-at.at = omega (arith, c.saturating_sub-low.ensures) in
    let high : c.min-high.result ≡ min (c.args.first + c.args.count - 1024 * c.loop-at.at) 1024 = omega (arith, c.min-high.ensures) in
    let order : c.saturating_sub-low.result ≤ c.min-high.result = omega arith in
    elim c.if-at-len.branch [
      | then-at-len w ↦ record {
        cleared = λ q. ap (λ v. cell_at v.items q) w.places-is ∙ cleared_more c.args.places.now.items c.loop-at.places.items c.args.first c.args.count c.loop-at.at c.saturating_sub-low.result c.min-high.result w.place_clear.new.place (omega arith) c.loop-at.invariant.cleared
            (λ i. w.place_clear.ensures.cleared i ∙ ap (λ o. cond (in_range c.saturating_sub-low.result (c.min-high.result - c.saturating_sub-low.result) i) no_cell (cell_in o i)) (read_place c.loop-at.places.items c.loop-at.at w.index_mut.result.now (omega arith) w.index_mut.ensures.value))
            low high order q;
        kept = λ q. ap (λ v. has_place v.items q) w.places-is ∙ places_stay c.loop-at.places.items c.loop-at.at w.place_clear.new.place (omega arith) (w.place_clear.ensures.stays ∙ ap is_place (read_place c.loop-at.places.items c.loop-at.at w.index_mut.result.now (omega arith) w.index_mut.ensures.value)) q ∙ c.loop-at.invariant.kept q;
        size = ap (λ v. length v.items) w.places-is ∙ length-set c.loop-at.places.items c.loop-at.at w.place_clear.new.place ∙ c.loop-at.invariant.size;
      }
      | else-at-len w ↦ record {
        cleared = λ q. ap (λ v. cell_at v.items q) w.places-is ∙ cleared_past c.args.places.now.items c.loop-at.places.items c.args.first c.args.count c.loop-at.at c.loop-at.invariant.size (omega arith) c.loop-at.invariant.cleared q;
        kept = λ q. ap (λ v. has_place v.items q) w.places-is ∙ c.loop-at.invariant.kept q;
        size = ap (λ v. length v.items) w.places-is ∙ c.loop-at.invariant.size;
      }
    ]
