use Rattle.std.proofs.lemmas.Result.{on_ok_weaker}
use Rattle.trace_audit.specs.ShownText.{shown_one, shown_said}
use Rattle.trace_audit.proofs.ShownText.{added_end, added_step, said_end, said_step_in, step_added}
use Rattle.trace_audit.proofs.shown.add_words.Goals as goal

pub loop-word-preserved : goal.loop-word-preserved
loop-word-preserved c =
    added_step c.loop-word.output.items c.push.new.self.items 32 (shown_one c.args.lines.now c.loop-word.is_next c.in-Some.word.now) (shown_said c.args.lines.now c.loop-word.is_next c.loop-word.rest.now) _
    (shown_said c.args.lines.now c.names_line-is_next.result c.in-Some.behind.now) c.loop-word.invariant
    (said_step_in _ _ _ _ _ _ c.in-Some.ensures.whole c.in-Some.ensures.front c.names_line-is_next.ensures)
    (step_added c.loop-word.output.items c.add_word.new.output.items c.push.new.self.items (shown_one c.args.lines.now c.loop-word.is_next c.in-Some.word.now) 32 c.in_ok-add_word.ensures c.in_ok-push.ensures.items)

pub returns : goal.returns
returns c = on_ok_weaker c.add_word-2.result (λ added. added_end _ _ _ _ _ c.loop-word.invariant (said_end _ _ _ c.in_default.ensures.none) added) c.add_word-2.ensures
