use Rattle.std.proofs.Common.{◌≡◌, ◌≤◌, ◌<◌, ◌+◌, ◌-◌, ◌*◌, ◌∙◌, ◌/◌, ◌||◌, ap, arith, min, true, None, get_or, length}
use Rattle.std.proofs.Math.ListN.{length-set}
use Rattle.foundation.specs.Ranges.{in_range}
use Rattle.mig_base.specs.PageSets.{in_chunk, is_chunk}
use Rattle.mig_base.proofs.PageSetLemmas.{chunk_inside, chunk_met, chunks_kept, put_more}
use Rattle.mig_base.proofs.PlaceLemmas.{read_place}
use Rattle.mig_base.proofs.chunks.put_pages.Goals as goal

pub index_mut-requires : goal.index_mut-requires
index_mut-requires c = omega (arith, chunk_inside c.loop-at.chunks.items c.loop-at.at (chunk_met c.loop-at.chunks.items c.args.first c.args.count c.loop-at.at (omega arith) (omega arith) (omega arith) c.loop-at.invariant.there))

pub slot_fill-requires-clause-there : goal.slot_fill-requires-clause-there
slot_fill-requires-clause-there c =
    let met : is_chunk (get_or c.loop-at.chunks.items c.loop-at.at None) ≡ true = chunk_met c.loop-at.chunks.items c.args.first c.args.count c.loop-at.at (omega arith) (omega arith) (omega arith) c.loop-at.invariant.there in
    ap is_chunk (read_place c.loop-at.chunks.items c.loop-at.at c.index_mut.result.now (chunk_inside c.loop-at.chunks.items c.loop-at.at met) c.index_mut.ensures.value) ∙ met

pub loop-at-preserved : goal.loop-at-preserved
loop-at-preserved c =
    let inside : c.loop-at.at < length c.loop-at.chunks.items = chunk_inside c.loop-at.chunks.items c.loop-at.at (chunk_met c.loop-at.chunks.items c.args.first c.args.count c.loop-at.at (omega arith) (omega arith) (omega arith) c.loop-at.invariant.there) in
    let low : c.saturating_sub-low.result ≡ c.args.first - 1024 * c.loop-at.at = omega (arith, c.saturating_sub-low.ensures) in
    let high : c.min-high.result ≡ min (c.args.first + c.args.count - 1024 * c.loop-at.at) 1024 = omega (arith, c.min-high.ensures) in
    let order : c.saturating_sub-low.result ≤ c.min-high.result = omega arith in
    record {
      put = put_more c.args.chunks.now.items c.loop-at.chunks.items c.args.first c.args.count c.loop-at.at c.saturating_sub-low.result c.min-high.result c.slot_fill.new.slot inside c.loop-at.invariant.put
          (λ i. c.slot_fill.ensures.put i ∙ ap (λ o. in_range c.saturating_sub-low.result (c.min-high.result - c.saturating_sub-low.result) i || in_chunk o i) (read_place c.loop-at.chunks.items c.loop-at.at c.index_mut.result.now inside c.index_mut.ensures.value))
          low high order;
      size = length-set c.loop-at.chunks.items c.loop-at.at c.slot_fill.new.slot ∙ c.loop-at.invariant.size;
      there = λ q a b. chunks_kept c.loop-at.chunks.items c.loop-at.at c.slot_fill.new.slot inside (λ h. c.slot_fill.ensures.stays) (q / 1024) (c.loop-at.invariant.there q a b);
    }
