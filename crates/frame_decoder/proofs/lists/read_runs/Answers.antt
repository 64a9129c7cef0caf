use Rattle.std.proofs.lemmas.Result.{err_from_is_err_and}
use Rattle.frame_decoder.proofs.Filling.{set_begins, set_goes_on, set_ends, set_done}
use Rattle.frame_decoder.proofs.lists.read_runs.Goals as goal

pub loop-init : goal.loop-init
loop-init c = rw c.new-pages.ensures (set_begins c.args.count c.args.bytes.now)

pub returns-in_err-run : goal.returns-in_err-run
returns-in_err-run c =
    let p = err_from_is_err_and c.from_residual.result c.from_residual.ensures.1 in
    rw (p.1, p.2) (set_ends c.loop.pages c.loop.low c.loop.counter c.loop.rest.now c.args.count c.args.bytes.now c.in_err-run.field-0.0 c.loop-test.true c.in_err-run.ensures.gives c.loop.invariant)

pub loop-preserved : goal.loop-preserved
loop-preserved c =
    set_goes_on c.loop.pages c.insert_range.new.self c.loop.low c.loop.counter c.loop.rest.now c.in_ok-run.after.now c.args.count c.args.bytes.now c.in_ok-run.run' c.loop-test.true c.in_ok-run.ensures.gives c.in_ok-insert_range.ensures.ok c.loop.invariant

pub returns : goal.returns
returns c = set_done c.loop.pages c.loop.low c.loop.counter c.loop.rest.now c.args.count c.args.bytes.now c.loop-test.false c.ends_by_high_page.ensures c.loop.invariant
