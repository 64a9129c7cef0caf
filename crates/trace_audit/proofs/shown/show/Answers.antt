use Rattle.trace_audit.specs.ShownText.{shown_line, shown_text}
use Rattle.trace_audit.proofs.ShownText.{added_end, added_step, step_added, text_end, text_step_in}
use Rattle.trace_audit.proofs.shown.show.Goals as goal

pub loop-line-preserved : goal.loop-line-preserved
loop-line-preserved c =
    added_step c.loop-line.output.items c.push.new.self.items 10 (shown_line c.args.name.now c.args.lines.now c.in-Some.line.now) (shown_text c.args.name.now c.args.lines.now c.loop-line.rest.now) _
    (shown_text c.args.name.now c.args.lines.now c.in-Some.behind.now) c.loop-line.invariant (text_step_in _ _ _ _ _ c.in-Some.ensures.whole c.in-Some.ensures.front)
    (step_added c.loop-line.output.items c.add_line.new.output.items c.push.new.self.items (shown_line c.args.name.now c.args.lines.now c.in-Some.line.now) 10 c.in_ok-add_line.ensures c.in_ok-push.ensures.items)

pub returns : goal.returns
returns c = added_end _ _ _ _ _ c.loop-line.invariant (text_end _ _ _ c.in_default.ensures.none) c.in_ok-add_line-2.ensures
