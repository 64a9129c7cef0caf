use Rattle.std.proofs.Common.{subst}
use Rattle.std.proofs.lemmas.List.{take_all}
use Rattle.area_map.proofs.AreaLemmas.{runs_at}
use Rattle.area_map.proofs.MoveLemmas.{IsMovedFrom, IsMovedFrom-none, IsMovedFrom-more}
use Rattle.area_map.proofs.moves.map_moved.Goals as goal

pub loop-area-init : goal.loop-area-init
loop-area-init c = IsMovedFrom-none c.args.moved.now c.args.from c.args.to c.args.count c.requires.free

pub clipped-part-requires-clause-area : goal.clipped-part-requires-clause-area
clipped-part-requires-clause-area c = (runs_at c.args.areas.now c.loop-area.area-index c.requires.runs c.loop-area-test.true).0.bound

pub loop-area-preserved : goal.loop-area-preserved
loop-area-preserved c =
    let part = c.clipped-part.ensures in
    IsMovedFrom-more c.args.areas.now c.loop-area.area-index c.args.moved.now c.loop-area.moved c.map.new.self c.clipped-part.result c.args.from c.args.to c.args.count c.requires.runs c.loop-area-test.true
    (record { first = part.first; end = part.end; prot = part.prot }) c.loop-area.invariant c.in_ok-map.ensures.ok

pub returns : goal.returns
returns c =
    subst (λ areas. IsMovedFrom areas c.args.moved.now c.loop-area.moved c.args.from c.args.to c.args.count) (take_all c.loop-area.area-index c.args.areas.now c.loop-area-test.false) c.loop-area.invariant
