use Rattle.std.proofs.Common.{ltb, ltb-true, rules, ◌+◌}
use Rattle.std.proofs.lemmas.List.Sorted.{IsPartitionPoint-from_clause, IsPartitionedBy-ltb}
use Rattle.std.proofs.lemmas.Bool.{ltb-false}
use Rattle.area_map.specs.Areas.{EndsBefore, EndsFrom}
use Rattle.area_map.proofs.SearchLemmas.{end_in_order, below_point, above_point}
use Rattle.area_map.proofs.search.ending_before.Goals as goal

pub returns : goal.returns
returns c =
    let parted = IsPartitionedBy-ltb (λ p. p.first + p.count) _ c.args.page (end_in_order c.args.areas.now c.requires) in
    let point = IsPartitionPoint-from_clause (λ p. ltb (p.first + p.count) c.args.page) _ _ c.partition_point.ensures.partitioned parted (λ a r q k. search rules) in
    record {
      within = c.partition_point.ensures.bound;
      before = below_point (λ x. ltb (x.first + x.count) c.args.page) (EndsBefore c.args.page) _ _ c.partition_point.ensures.bound (λ x h. ltb-true _ _ h) point.0;
      from = above_point (λ x. ltb (x.first + x.count) c.args.page) (EndsFrom c.args.page) _ _ c.partition_point.ensures.bound (λ x h. ltb-false (x.first + x.count) c.args.page h) point.1;
    }
