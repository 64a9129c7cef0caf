use Rattle.std.proofs.Common.{◌∷◌, ◌++◌, [], ◌∙◌, ap, ◌+◌, ℕ}
use Rattle.std.proofs.lemmas.Result.{on_ok_weaker, err_from_is_err_and}
use Rattle.engine.proofs.Reading.{leads_added, leads_ended, leads_then, breaks_short, breaks_ended}
use Rattle.engine.proofs.line_reader.LineReader.end_whole.Goals as goal

pub returns-in_err-hold-clause-fault : goal.returns-in_err-hold-clause-fault
returns-in_err-hold-clause-fault g c =
    let p = err_from_is_err_and c.from_residual.result c.from_residual.ensures.1 in
    rw (p.1, p.2) (λ w behind. breaks_short g.S.LineSink.takes g.S.LineSink.refuses c.args.sink.now c.args.self.now (c.args.bytes.now ++ 10 ∷ behind) c.hold.new.self.output.items w c.hold.ensures.kept)

pub returns-clause-ok : goal.returns-clause-ok
returns-clause-ok g c =
    let takes = g.S.LineSink.takes in
    on_ok_weaker c.end_line.result
    (λ e w. leads_then takes c.args.sink.now c.args.self.now c.args.sink.now c.hold.new.self c.end_line.new.sink c.end_line.new.self w w w c.args.bytes.now (10 ∷ [])
    (leads_added takes c.args.sink.now c.args.self.now c.hold.new.self w c.args.bytes.now c.requires.feed c.in_ok-hold.ensures.ok) (leads_ended takes c.args.sink.now c.hold.new.self c.end_line.new.sink c.end_line.new.self w e))
    c.end_line.ensures.ok

pub returns-clause-number : goal.returns-clause-number
returns-clause-number g c = on_ok_weaker c.end_line.result (λ e. e.number ∙ ap (λ (n : ℕ). n + 1) c.in_ok-hold.ensures.ok.number) c.end_line.ensures.ok

pub returns-clause-len : goal.returns-clause-len
returns-clause-len g c = on_ok_weaker c.end_line.result (λ e. e.len) c.end_line.ensures.ok

pub returns-clause-fault : goal.returns-clause-fault
returns-clause-fault g c =
    breaks_ended g.S.LineSink.takes g.S.LineSink.refuses c.end_line.result c.args.sink.now c.args.self.now c.hold.new.self c.end_line.new.self c.args.bytes.now c.requires.feed c.in_ok-hold.ensures.ok c.end_line.ensures.fault c.end_line.ensures.kept
