use Rattle.std.proofs.Common.{List, ℕ, ◌∙◌, subst}
use Rattle.page_stream.specs.Writing.{Puts}
use Rattle.page_stream.proofs.RunTexts.{written_all, written_begin, written_more, written_room}
use Rattle.page_stream.proofs.writing.put_runs.Goals as goal

pub loop-run-init : goal.loop-run-init
loop-run-init c =
    written_begin c.args.into.now c.put.new.into c.args.pages.now c.into_iter-run-iterator.result c.run_count.result (subst (λ (b : List ℕ). Puts c.args.into.now c.put.new.into b) c.to_be_bytes.ensures c.put.ensures) c.run_count.ensures
    (c.into_iter-run-iterator.ensures.into_iter_gives ∙ c.runs-run-items.ensures)

pub put_run-requires : goal.put_run-requires
put_run-requires c =
    let steps = c.in-Some.ensures.steps in
    written_room c.args.into.now c.loop-run.into c.args.pages.now c.loop-run.run-iterator c.next.new.self c.in-Some.run' c.loop-run.invariant steps.0 steps.1 c.requires

pub loop-run-preserved : goal.loop-run-preserved
loop-run-preserved c =
    let steps = c.in-Some.ensures.steps in
    written_more c.args.into.now c.loop-run.into c.args.pages.now c.loop-run.run-iterator c.next.new.self c.in-Some.run' c.loop-run.invariant steps.0 steps.1 c.put_run.new.into c.put_run.ensures

pub returns : goal.returns
returns c = written_all c.args.into.now c.loop-run.into c.args.pages.now c.loop-run.run-iterator c.loop-run.invariant c.in-None.ensures.steps.0
