use Rattle.std.proofs.Common.{◌∷◌, [], ◌++◌, true, false, length, ap, ◌∙◌, arith, length-append}
use Rattle.std.proofs.lemmas.Result.{err_from_is_err_and}
use Rattle.lines.specs.Lines.{Left}
use Rattle.lines.proofs.Cuts.{ended_cut, line_cut, open_cut}
use Rattle.engine.proofs.Reading.{led_none, led_then, led_all, breaks_then}
use Rattle.engine.proofs.line_reader.LineReader.feed.Goals as goal

pub loop-line-init : goal.loop-line-init
loop-line-init g c =
    let all = ap (λ (l : Left). l.bytes) (c.into_iter-line-iterator.ensures.into_iter_gives ∙ c.new-line-items.ensures) in
    rw all (record { led = led_none g.S.LineSink.takes c.args.sink.now c.args.self.now c.args.bytes.now; number = omega arith })

pub loop-line-preserved-in-Continue-1 : goal.loop-line-preserved-in-Continue-1
loop-line-preserved-in-Continue-1 g c =
    let next = c.in-Some.ensures.steps in
    let cut = line_cut c.loop-line.line-iterator c.in-Some.line c.next.new.self true next c.if-line.true in
    record {
      led = led_then g.S.LineSink.takes c.args.sink.now c.args.self.now c.loop-line.sink c.loop-line.self c.end_whole.new.sink c.end_whole.new.self c.args.bytes.now c.loop-line.line-iterator.bytes _ c.next.new.self.bytes c.loop-line.invariant.led cut c.in_ok-end_whole.ensures.ok;
      number = omega (arith, c.loop-line.invariant.number, c.in_ok-end_whole.ensures.number, c.in_ok-end_whole.ensures.len, ap length (ended_cut c.loop-line.line-iterator c.in-Some.line c.next.new.self next c.if-line.true), length-append c.in-Some.line.raw.now (10 ∷ c.next.new.self.bytes));
    }

pub loop-line-preserved : goal.loop-line-preserved
loop-line-preserved g c =
    let next = c.in-Some.ensures.steps in
    let cut = line_cut c.loop-line.line-iterator c.in-Some.line c.next.new.self false next c.if-line.false in
    record {
      led = led_then g.S.LineSink.takes c.args.sink.now c.args.self.now c.loop-line.sink c.loop-line.self c.loop-line.sink c.keep_open.new.self c.args.bytes.now c.loop-line.line-iterator.bytes _ c.next.new.self.bytes c.loop-line.invariant.led cut c.in_ok-keep_open.ensures.ok;
      number = omega (arith, c.loop-line.invariant.number, c.in_ok-keep_open.ensures.number, c.in_ok-keep_open.ensures.len, ap length cut, length-append c.in-Some.line.raw.now c.next.new.self.bytes);
    }

pub returns-in_err-end_whole-clause-fault : goal.returns-in_err-end_whole-clause-fault
returns-in_err-end_whole-clause-fault g c =
    let p = err_from_is_err_and c.from_residual.result c.from_residual.ensures.1 in
    let next = c.in-Some.ensures.steps in
    let cut = ended_cut c.loop-line.line-iterator c.in-Some.line c.next.new.self next c.if-line.true in
    rw (p.1, p.2) (λ w. breaks_then g.S.LineSink.takes g.S.LineSink.refuses c.args.sink.now c.args.self.now c.loop-line.sink c.loop-line.self c.args.bytes.now c.loop-line.line-iterator.bytes _ _ w _ c.loop-line.invariant.led cut (c.in_err-end_whole.ensures.fault w c.next.new.self.bytes))

pub returns-in_err-keep_open-clause-fault : goal.returns-in_err-keep_open-clause-fault
returns-in_err-keep_open-clause-fault g c =
    let p = err_from_is_err_and c.from_residual-in_err-keep_open.result c.from_residual-in_err-keep_open.ensures.1 in
    let next = c.in-Some.ensures.steps in
    let cut = open_cut c.loop-line.line-iterator c.in-Some.line c.next.new.self next c.if-line.false in
    rw (p.1, p.2) (λ w. breaks_then g.S.LineSink.takes g.S.LineSink.refuses c.args.sink.now c.args.self.now c.loop-line.sink c.loop-line.self c.args.bytes.now c.loop-line.line-iterator.bytes _ _ w _ c.loop-line.invariant.led cut (c.in_err-keep_open.ensures.fault w))

pub returns-clause-ok : goal.returns-clause-ok
returns-clause-ok g c = led_all g.S.LineSink.takes c.args.sink.now c.args.self.now c.loop-line.sink c.loop-line.self c.args.bytes.now c.loop-line.line-iterator.bytes c.loop-line.invariant.led c.in-None.ensures.steps.0
