use Rattle.std.proofs.Common.{◌≡◌, ◌≤◌, ◌+◌, subst, arith, take}
use Rattle.std.proofs.lemmas.List.{take_all}
use Rattle.area_map.proofs.AreaLemmas.{runs_at}
use Rattle.area_map.proofs.MappedLemmas.{mapped_of, mapped_of-none, mapped_of-more}
use Rattle.area_map.proofs.count.pages_within.Goals as goal
use Rattle.foundation.proofs.RangeLemmas.{count_below-few}

pub loop-area-init : goal.loop-area-init
loop-area-init c = mapped_of-none c.args.first c.args.count

pub clipped-mapped-requires-clause-area : goal.clipped-mapped-requires-clause-area
clipped-mapped-requires-clause-area c = (runs_at c.args.areas.now c.loop-area.area-index c.requires.runs c.loop-area-test.true).0.bound

pub overflow_add-mapped : goal.overflow_add-mapped
overflow_add-mapped c =
    let part = c.clipped-mapped.ensures in
    let more = mapped_of-more c.args.areas.now c.loop-area.area-index c.args.first c.args.count c.loop-area.mapped c.clipped-mapped.result c.requires.runs c.loop-area-test.true
    (record { first = part.first; end = part.end; prot = part.prot }) c.loop-area.invariant in
    let few : mapped_of (take (c.loop-area.area-index + 1) c.args.areas.now) c.args.first c.args.count ≤ c.args.count = count_below-few _ c.args.count in
    omega (arith, more, few)

pub loop-area-preserved : goal.loop-area-preserved
loop-area-preserved c =
    let part = c.clipped-mapped.ensures in
    mapped_of-more c.args.areas.now c.loop-area.area-index c.args.first c.args.count c.loop-area.mapped c.clipped-mapped.result c.requires.runs c.loop-area-test.true
    (record { first = part.first; end = part.end; prot = part.prot }) c.loop-area.invariant

pub returns : goal.returns
returns c =
    subst (λ areas. c.loop-area.mapped ≡ mapped_of areas c.args.first c.args.count) (take_all c.loop-area.area-index c.args.areas.now c.loop-area-test.false) c.loop-area.invariant
