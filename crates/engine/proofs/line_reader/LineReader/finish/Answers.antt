use Rattle.std.proofs.Common.{Some, []}
use Rattle.std.proofs.lemmas.Result.{on_ok_weaker, IfErr-weaker, err_from_is_err_and}
use Rattle.engine.proofs.Reading.{finishes_written, stops_written, last_unwritten}
use Rattle.engine.proofs.line_reader.LineReader.finish.Goals as goal

pub returns-in_err-write_out-clause-fault : goal.returns-in_err-write_out-clause-fault
returns-in_err-write_out-clause-fault g c =
    let p = err_from_is_err_and c.from_residual.result c.from_residual.ensures.1 in
    rw (p.1, p.2, c.in_err-write_out.ensures.fault)
    (last_unwritten g.S.LineSink.takes g.S.LineSink.refuses c.end_last-ended.result c.args.sink.now c.end_last-ended.new.sink c.args.self.now _ _ _ c.end_last-ended.ensures.ok c.end_last-ended.ensures.fault (rw c.deref.ensures.value at c.in_err-write_out.ensures.front))

pub returns-clause-ok : goal.returns-clause-ok
returns-clause-ok g c =
    on_ok_weaker c.end_last-ended.result
    (λ ends start read before at. finishes_written g.S.LineSink.takes start c.end_last-ended.new.sink read c.end_last-ended.new.self.output.items before _ _ (ends _ start read before at) (rw c.deref.ensures.value at c.in_ok-write_out.ensures.ok))
    c.end_last-ended.ensures.ok

pub returns-clause-fault : goal.returns-clause-fault
returns-clause-fault g c =
    IfErr-weaker c.end_last-ended.result _ _
    (λ fault breaks start read before at. stops_written g.S.LineSink.takes g.S.LineSink.refuses start read c.end_last-ended.new.self.output.items (Some []) before _ _ fault (breaks _ start read before at) (rw c.deref.ensures.value at c.in_ok-write_out.ensures.ok))
    c.end_last-ended.ensures.fault
