use Rattle.std.proofs.Common.{true, false, ap, ◌∙◌}
use Rattle.lines.specs.Lines.{Left}
use Rattle.lines.proofs.Cuts.{line_cut}
use Rattle.call_log.proofs.Reading.{ended_leads, led_all, led_none, led_then}
use Rattle.call_log.proofs.input.LineReader.feed.Goals as goal

pub loop-line-init : goal.loop-line-init
loop-line-init c =
    let all = ap (λ (l : Left). l.bytes) (c.into_iter-line-iterator.ensures.into_iter_gives ∙ c.new-line-items.ensures) in
    rw all (led_none c.args.self.now c.args.bytes.now)

pub loop-line-preserved-in-Continue-branch-2 : goal.loop-line-preserved-in-Continue-branch-2
loop-line-preserved-in-Continue-branch-2 c =
    let cut = line_cut c.loop-line.line-iterator c.in-Some.line c.next.new.self true c.in-Some.ensures.steps c.if-line.true in
    led_then c.args.self.now c.loop-line.self c.end_line.new.self c.args.bytes.now c.loop-line.line-iterator.bytes _ c.next.new.self.bytes c.loop-line.invariant cut
    (ended_leads c.loop-line.self c.hold.new.self c.end_line.new.self c.in-Some.line.raw.now c.in_ok-hold.ensures c.in_ok-end_line.ensures)

pub loop-line-preserved : goal.loop-line-preserved
loop-line-preserved c =
    let cut = line_cut c.loop-line.line-iterator c.in-Some.line c.next.new.self false c.in-Some.ensures.steps c.if-line.false in
    led_then c.args.self.now c.loop-line.self c.hold.new.self c.args.bytes.now c.loop-line.line-iterator.bytes _ c.next.new.self.bytes c.loop-line.invariant cut c.in_ok-hold.ensures

pub returns : goal.returns
returns c = led_all c.args.self.now c.loop-line.self c.args.bytes.now c.loop-line.line-iterator.bytes c.loop-line.invariant c.in-None.ensures.steps.0
