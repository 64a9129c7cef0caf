use Rattle.std.proofs.Common.{refl, Some}
use Rattle.std.proofs.lemmas.Result.{on_ok_weaker, IfErr-weaker, err_from_is_err_and}
use Rattle.engine.proofs.Reading.{leads_written, stops_written, piece_unwritten}
use Rattle.engine.proofs.line_reader.LineReader.run_piece.Goals as goal

pub returns-in_err-write_out-clause-fault : goal.returns-in_err-write_out-clause-fault
returns-in_err-write_out-clause-fault g c =
    let p = err_from_is_err_and c.from_residual.result c.from_residual.ensures.1 in
    rw (p.1, p.2, c.in_err-write_out.ensures.fault)
    (piece_unwritten g.S.LineSink.takes g.S.LineSink.refuses c.feed-fed.result c.args.sink.now c.args.self.now c.feed-fed.new.sink c.feed-fed.new.self c.args.bytes.now _ _ c.feed-fed.ensures.ok c.feed-fed.ensures.fault (rw c.deref.ensures.value at c.in_err-write_out.ensures.front))

pub returns-clause-ok : goal.returns-clause-ok
returns-clause-ok g c =
    on_ok_weaker c.feed-fed.result
    (λ leads. leads_written g.S.LineSink.takes c.args.sink.now c.args.self.now c.feed-fed.new.sink c.feed-fed.new.self _ _ _ _ c.args.bytes.now (leads _) (rw c.deref.ensures.value at c.in_ok-write_out.ensures.ok) refl refl refl c.clear.ensures.items)
    c.feed-fed.ensures.ok

pub returns-clause-fault : goal.returns-clause-fault
returns-clause-fault g c =
    IfErr-weaker c.feed-fed.result _ _
    (λ fault breaks start read before more at. stops_written g.S.LineSink.takes g.S.LineSink.refuses start _ c.feed-fed.new.self.output.items (Some more) before _ _ fault (breaks _ start read before more at) (rw c.deref.ensures.value at c.in_ok-write_out.ensures.ok))
    c.feed-fed.ensures.fault
