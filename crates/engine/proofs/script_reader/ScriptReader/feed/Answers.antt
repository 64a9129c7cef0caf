use Rattle.std.proofs.Common.{◌∷◌, ◌∙◌, true, false, length, ap, arith, length-append}
use Rattle.std.proofs.lemmas.Result.{err_from_is_err_and}
use Rattle.lines.proofs.Cuts.{ended_cut, line_cut}
use Rattle.engine.proofs.Pieces.{feeds_line, feeds_until, feeds_all}
use Rattle.engine.proofs.Runs.{fed_held}
use Rattle.engine.proofs.script_reader.ScriptReader.feed.Goals as goal

pub returns-in_err-end_line-clause-fault : goal.returns-in_err-end_line-clause-fault
returns-in_err-end_line-clause-fault c =
    let p = err_from_is_err_and c.from_residual.result c.from_residual.ensures.1 in
    let cut = line_cut c.loop-line.line-iterator c.in-Some.line c.next.new.self true c.in-Some.ensures.steps c.if-line.true in
    rw (p.1, p.2) (feeds_until c.args.self.now c.loop-line.self c.args.bytes.now c.loop-line.line-iterator.bytes _ c.next.new.self.bytes _ _ c.loop-line.invariant.feeds cut c.in_err-end_line.ensures.fault)

pub returns-in_err-hold-clause-fault : goal.returns-in_err-hold-clause-fault
returns-in_err-hold-clause-fault c =
    let p = err_from_is_err_and c.from_residual-in_err-hold.result c.from_residual-in_err-hold.ensures.1 in
    let cut = line_cut c.loop-line.line-iterator c.in-Some.line c.next.new.self false c.in-Some.ensures.steps c.if-line.false in
    rw (p.1, p.2) (feeds_until c.args.self.now c.loop-line.self c.args.bytes.now c.loop-line.line-iterator.bytes _ c.next.new.self.bytes _ _ c.loop-line.invariant.feeds cut c.in_err-hold.ensures.fault)

pub loop-line-preserved-in-Continue-1 : goal.loop-line-preserved-in-Continue-1
loop-line-preserved-in-Continue-1 c =
    let next = c.in-Some.ensures.steps in
    let cut = line_cut c.loop-line.line-iterator c.in-Some.line c.next.new.self true next c.if-line.true in
    record {
      feeds = feeds_line c.args.self.now c.loop-line.self c.end_line.new.self c.args.bytes.now c.loop-line.line-iterator.bytes _ c.next.new.self.bytes c.loop-line.invariant.feeds cut c.in_ok-end_line.ensures.ok;
      number = omega (arith, c.loop-line.invariant.number, c.in_ok-end_line.ensures.number, ap length (ended_cut c.loop-line.line-iterator c.in-Some.line c.next.new.self next c.if-line.true), length-append c.in-Some.line.raw.now (10 ∷ c.next.new.self.bytes));
    }

pub loop-line-preserved : goal.loop-line-preserved
loop-line-preserved c =
    let cut = line_cut c.loop-line.line-iterator c.in-Some.line c.next.new.self false c.in-Some.ensures.steps c.if-line.false in
    record {
      feeds = feeds_line c.args.self.now c.loop-line.self c.hold.new.self c.args.bytes.now c.loop-line.line-iterator.bytes _ c.next.new.self.bytes c.loop-line.invariant.feeds cut (fed_held c.loop-line.self c.hold.new.self c.in-Some.line.raw.now c.in_ok-hold.ensures.ok);
      number = grind (arith, c.loop-line.invariant.number, c.in_ok-hold.ensures.ok, ap length cut, length-append c.in-Some.line.raw.now c.next.new.self.bytes);
    }

pub returns-clause-ok : goal.returns-clause-ok
returns-clause-ok c = feeds_all c.args.self.now c.loop-line.self c.args.bytes.now c.loop-line.line-iterator.bytes c.loop-line.invariant.feeds c.in-None.ensures.steps.0
