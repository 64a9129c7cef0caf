use Rattle.std.proofs.Common.{refl}
use Rattle.std.proofs.lemmas.Result.{err_from_is_err_and}
use Rattle.engine.proofs.Reading.{leads_added, breaks_short, breaks_long}
use Rattle.engine.proofs.line_reader.LineReader.keep_open.Goals as goal

pub returns-in_err-hold-clause-fault : goal.returns-in_err-hold-clause-fault
returns-in_err-hold-clause-fault g c =
    let p = err_from_is_err_and c.from_residual.result c.from_residual.ensures.1 in
    rw (p.1, p.2) (λ w. breaks_short g.S.LineSink.takes g.S.LineSink.refuses c.args.sink.now c.args.self.now c.args.bytes.now c.hold.new.self.output.items w c.hold.ensures.kept)

pub returns-else-self-clause-ok : goal.returns-else-self-clause-ok
returns-else-self-clause-ok g c = λ w. leads_added g.S.LineSink.takes c.args.sink.now c.args.self.now c.hold.new.self w c.args.bytes.now c.requires.feed c.in_ok-hold.ensures.ok

pub returns-in_ok-overrun-clause-ok : goal.returns-in_ok-overrun-clause-ok
returns-in_ok-overrun-clause-ok g c = λ w. leads_added g.S.LineSink.takes c.args.sink.now c.args.self.now c.hold.new.self w c.args.bytes.now c.requires.feed c.in_ok-hold.ensures.ok

pub returns-in_err-overrun-clause-fault : goal.returns-in_err-overrun-clause-fault
returns-in_err-overrun-clause-fault g c =
    let p = err_from_is_err_and c.from_residual-in_err-overrun.result c.from_residual-in_err-overrun.ensures.1 in
    rw (p.1, p.2)
    (λ w. breaks_long g.S.LineSink.takes g.S.LineSink.refuses c.args.sink.now c.args.self.now c.hold.new.self c.args.bytes.now c.hold.new.self.output.items w _ c.requires.feed c.in_ok-hold.ensures.ok refl c.if-self.true (c.in_err-overrun.ensures _ c.if-self.true))
