use Rattle.std.proofs.Common.{leb, leb-true, rules}
use Rattle.std.proofs.lemmas.List.Sorted.{IsPartitionPoint-from_clause, IsPartitionedBy-leb}
use Rattle.std.proofs.lemmas.Bool.{leb-false}
use Rattle.area_map.specs.Areas.{BeginsBy, BeginsAfter}
use Rattle.area_map.proofs.SearchLemmas.{begin_in_order, below_point, above_point}
use Rattle.area_map.proofs.search.beginning_by.Goals as goal

pub returns : goal.returns
returns c =
    let parted = IsPartitionedBy-leb (λ p. p.first) _ c.args.page (begin_in_order c.args.areas.now c.requires) in
    let point = IsPartitionPoint-from_clause (λ p. leb p.first c.args.page) _ _ c.partition_point.ensures.partitioned parted (λ a r q k. search rules) in
    record {
      within = c.partition_point.ensures.bound;
      by = below_point (λ x. leb x.first c.args.page) (BeginsBy c.args.page) _ _ c.partition_point.ensures.bound (λ x h. leb-true _ _ h) point.0;
      after = above_point (λ x. leb x.first c.args.page) (BeginsAfter c.args.page) _ _ c.partition_point.ensures.bound (λ x h. leb-false x.first c.args.page h) point.1;
    }
