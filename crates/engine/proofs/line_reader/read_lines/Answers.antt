use Rattle.std.proofs.Common.{◌≡◌, length, arith, rules, []}
use Rattle.std.proofs.lemmas.Result.{on_ok_weaker, IfErr-weaker, err_from_is_err_and}
use Rattle.std.proofs.KnownBytes.{Keeps-refl}
use Rattle.engine.specs.Lines.{Finishes, Stops}
use Rattle.engine.proofs.Reading.{ran_new, ran_then, ran_end, ran_stops, ran_fault}
use Rattle.engine.proofs.Whole.{at_end}
use Rattle.engine.proofs.line_reader.read_lines.Goals as goal

pub returns-in-Ok-eq0-clause-ok : goal.returns-in-Ok-eq0-clause-ok
returns-in-Ok-eq0-clause-ok g c =
    let end = at_end _ _ _ c.read.new.buf c.in-Ok-eq0.field-0-test (search rules) c.in-Ok-eq0.ensures.bytes in
    let ran = c.loop.invariant.ran in
    let takes = g.S.LineSink.takes in
    let w0 = g.W.Write.contents c.args.writer.now in
    let w1 = g.W.Write.contents c.finish.new.writer in
    on_ok_weaker c.finish.result (λ f. ran_end takes (λ input _. Finishes takes c.args.sink.now input c.finish.new.sink [] w0 w1) c.args.sink.now c.loop.sink c.loop.lines _ _ _ _ _ ran end.0 end.1 (f c.args.sink.now ran.read w0 ran.at)) c.finish.ensures.ok

pub returns-in-Ok-eq0-clause-fault : goal.returns-in-Ok-eq0-clause-fault
returns-in-Ok-eq0-clause-fault g c =
    let end = at_end _ _ _ c.read.new.buf c.in-Ok-eq0.field-0-test (search rules) c.in-Ok-eq0.ensures.bytes in
    let ran = c.loop.invariant.ran in
    let takes = g.S.LineSink.takes in
    let w0 = g.W.Write.contents c.args.writer.now in
    let w1 = g.W.Write.contents c.finish.new.writer in
    IfErr-weaker c.finish.result _ _
    (λ fault f. ran_end takes (λ input unread. Stops takes g.S.LineSink.refuses c.args.sink.now input unread fault w0 w1) c.args.sink.now c.loop.sink c.loop.lines _ _ _ _ _ ran end.0 end.1 (f c.args.sink.now ran.read w0 ran.at))
    c.finish.ensures.fault

pub returns-in_err-run_piece-in-Ok-clause-fault : goal.returns-in_err-run_piece-in-Ok-clause-fault
returns-in_err-run_piece-in-Ok-clause-fault g c =
    let p = err_from_is_err_and c.from_residual.result c.from_residual.ensures.1 in
    rw (p.1, p.2) (ran_stops g.S.LineSink.takes g.S.LineSink.refuses c.args.sink.now c.loop.sink c.loop.lines _ _ _ _ _ _ _ _ c.loop.invariant.ran c.in-Ok.ensures.bytes.0 c.in_err-run_piece-in-Ok.ensures.fault)

pub returns-in-Err-clause-fault : goal.returns-in-Err-clause-fault
returns-in-Err-clause-fault g c = ran_fault g.S.LineSink.takes g.S.LineSink.refuses c.args.sink.now c.loop.sink c.loop.lines _ _ _ _ _ c.loop.invariant.ran c.loop.invariant.clean c.in-Err.ensures.bytes

pub returns-clause-fault : goal.returns-clause-fault
returns-clause-fault g c = ran_fault g.S.LineSink.takes g.S.LineSink.refuses c.args.sink.now c.loop.sink c.loop.lines _ _ _ _ _ c.loop.invariant.ran c.loop.invariant.clean (Keeps-refl _)

pub loop-init : goal.loop-init
loop-init g c =
    let new = c.new-lines.ensures in
    record {
      ran = ran_new g.S.LineSink.takes c.args.sink.now c.new-lines.result _ _ new.line new.len new.number new.output;
      clean = new.output;
      number = omega (arith, new.number, new.len);
    }

pub loop-preserved : goal.loop-preserved
loop-preserved g c = record {
  ran = ran_then g.S.LineSink.takes c.args.sink.now c.loop.sink c.loop.lines c.run_piece.new.sink c.run_piece.new.self _ _ _ _ _ _ _ c.loop.invariant.ran c.in-Ok.ensures.bytes.0 c.in_ok-run_piece-in-Ok.ensures.ok;
  clean = c.in_ok-run_piece-in-Ok.ensures.clean;
  number =
      let size : length c.read.new.buf ≡ 16384 = search rules in
      omega (arith, c.loop.invariant.number, c.in_ok-run_piece-in-Ok.ensures.number, c.in-Ok.ensures.bound.0, c.in-Ok.ensures.bound.1, size);
}
