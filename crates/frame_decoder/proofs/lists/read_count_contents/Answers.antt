use Rattle.std.proofs.lemmas.Result.{err_from_is_err_and}
use Rattle.frame_decoder.specs.Reading.{many_at, content_at}
use Rattle.frame_decoder.proofs.Loop.{begins, goes_on, ends, is_done}
use Rattle.frame_decoder.proofs.lists.read_count_contents.Goals as goal

pub loop-init : goal.loop-init
loop-init c = rw c.new-items.ensures.items (begins (λ (_ : Unit {0}). content_at) (λ state _. state) tt c.args.count c.args.bytes.now)

pub returns-in_err-item : goal.returns-in_err-item
returns-in_err-item c =
    let p = err_from_is_err_and c.from_residual.result c.from_residual.ensures.1 in
    rw (p.1, p.2)
    (ends (λ (_ : Unit {0}). content_at) (λ state _. state) c.in_err-item.field-0.0 c.loop.items.items tt c.args.count c.loop.counter c.loop.rest.now (many_at content_at c.args.count c.args.bytes.now) c.loop-test.true c.in_err-item.ensures c.loop.invariant)

pub loop-preserved : goal.loop-preserved
loop-preserved c =
    rw c.in_ok-push.ensures.items
    (goes_on (λ (_ : Unit {0}). content_at) (λ state _. state) c.loop.items.items tt c.args.count c.loop.counter c.loop.rest.now c.in_ok-item.item c.in_ok-item.after.now (many_at content_at c.args.count c.args.bytes.now) c.loop-test.true c.in_ok-item.ensures c.loop.invariant)

pub returns : goal.returns
returns c = is_done (λ (_ : Unit {0}). content_at) (λ state _. state) c.loop.items.items tt c.args.count c.loop.counter c.loop.rest.now (many_at content_at c.args.count c.args.bytes.now) c.loop-test.false c.loop.invariant
