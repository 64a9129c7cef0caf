use Rattle.std.proofs.lemmas.Result.{err_from_is_err_and}
use Rattle.frame_decoder.proofs.Filling.{map_begins, map_goes_on, map_ends, map_done}
use Rattle.frame_decoder.proofs.lists.read_count_areas.Goals as goal

pub loop-init : goal.loop-init
loop-init c = rw c.new-areas.ensures (map_begins c.args.count c.args.bytes.now)

pub returns-in_err-area : goal.returns-in_err-area
returns-in_err-area c =
    let p = err_from_is_err_and c.from_residual.result c.from_residual.ensures.1 in
    rw (p.1, p.2) (map_ends c.loop.areas c.loop.low c.loop.last c.loop.counter c.loop.rest.now c.args.count c.args.bytes.now c.in_err-area.field-0.0 c.loop-test.true c.in_err-area.ensures.gives c.loop.invariant)

pub loop-preserved : goal.loop-preserved
loop-preserved c =
    rw c.in_ok-map.ensures.ok (map_goes_on c.loop.areas c.loop.low c.loop.last c.loop.counter c.loop.rest.now c.in_ok-area.after.now c.args.count c.args.bytes.now c.in_ok-area.area c.loop-test.true c.in_ok-area.ensures.gives c.in_ok-area.ensures.past c.loop.invariant)

pub returns : goal.returns
returns c = map_done c.loop.areas c.loop.low c.loop.last c.loop.counter c.loop.rest.now c.args.count c.args.bytes.now c.loop-test.false c.loop.invariant
