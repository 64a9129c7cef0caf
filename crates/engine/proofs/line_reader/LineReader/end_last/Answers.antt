use Rattle.std.proofs.Common.{◌<◌, arith}
use Rattle.std.proofs.lemmas.Result.{on_ok_weaker}
use Rattle.engine.proofs.Reading.{finishes_none, finishes_last, breaks_last}
use Rattle.engine.proofs.line_reader.LineReader.end_last.Goals as goal

pub returns-then-self-eq0-clause-ok : goal.returns-then-self-eq0-clause-ok
returns-then-self-eq0-clause-ok g c = λ w start read before at. finishes_none g.S.LineSink.takes start c.args.sink.now read before w c.args.self.now c.if-self-eq0.true at

pub returns-clause-ok : goal.returns-clause-ok
returns-clause-ok g c =
    let some : 0 < c.args.self.now.len = omega (arith, c.if-self-eq0.false) in
    on_ok_weaker c.end_line.result (λ e w start read before at. finishes_last g.S.LineSink.takes start c.args.sink.now c.end_line.new.sink read before w c.args.self.now c.end_line.new.self some e at) c.end_line.ensures.ok

pub returns-clause-fault : goal.returns-clause-fault
returns-clause-fault g c = breaks_last g.S.LineSink.takes g.S.LineSink.refuses c.end_line.result c.args.sink.now c.args.self.now c.end_line.new.self c.end_line.ensures.fault c.end_line.ensures.kept
