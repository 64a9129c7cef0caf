use Rattle.std.proofs.Common.{sym, ap, ◌∙◌, length, length-append, arith, ◌+◌}
use Rattle.lines.specs.Lines.{Left}
use Rattle.wiretap.proofs.OneLine.{ends_one}
use Rattle.wiretap.proofs.Whole.{done_none, done_line, done_all}
use Rattle.wiretap.proofs.run.run_lines.Goals as goal

pub run_bytes-requires-clause-one : goal.run_bytes-requires-clause-one
run_bytes-requires-clause-one g c =
    let next = c.in-Some.ensures.steps in
    let line = c.in-Some.line in
    ends_one line.ended line.raw.now line.whole.now next.one next.whole

pub loop-line-init : goal.loop-line-init
loop-line-init g c =
    let all = ap (λ (l : Left). l.bytes) (c.into_iter-line-iterator.ensures.into_iter_gives ∙ c.new-line-items.ensures) in
    rw all (record {
      done = done_none g.T.Write.contents c.args.script.now c.args.bytes.now _ c.args.taps.now;
      clean = c.requires.clean;
      one = c.requires.open;
      runs = c.requires.runs;
      number = omega arith;
    })

pub loop-line-preserved : goal.loop-line-preserved
loop-line-preserved g c =
    let next = c.in-Some.ensures.steps in
    let line = c.in-Some.line.whole.now in
    let behind = c.next.new.self.bytes in
    let size = ap length next.cut ∙ length-append line behind in
    record {
      done = done_line g.T.Write.contents c.args.script.now c.loop-line.script c.run_bytes.new.script c.args.bytes.now c.loop-line.line-iterator.bytes line behind _ _ _ _ _ _ c.loop-line.invariant.done next.cut c.in_ok-run_bytes.ensures.ok;
      clean = c.in_ok-run_bytes.ensures.clean;
      one = c.in_ok-run_bytes.ensures.open;
      runs = c.in_ok-run_bytes.ensures.runs;
      number = omega (arith, c.loop-line.invariant.number, c.in_ok-run_bytes.ensures.number, size);
    }

pub returns-clause-ok : goal.returns-clause-ok
returns-clause-ok g c = done_all g.T.Write.contents c.args.script.now c.loop-line.script c.args.bytes.now c.loop-line.line-iterator.bytes _ _ _ _ c.loop-line.invariant.done c.in-None.ensures.steps.0
