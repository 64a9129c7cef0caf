use Rattle.std.proofs.Common.{◌∙◌}
use Rattle.show.proofs.OwedLines.{all_pushed, none_pushed, one_pushed}
use Rattle.show.proofs.owed.write_pushes.Goals as goal

pub loop-page-init : goal.loop-page-init
loop-page-init c = none_pushed c.args.pages.now _ _ (c.into_iter-page-iterator.ensures.into_iter_gives ∙ c.iter-page-items.ensures)

pub loop-page-preserved : goal.loop-page-preserved
loop-page-preserved c =
    let steps = c.in-Some.ensures.steps in
    one_pushed c.args.pages.now c.loop-page.page-iterator c.next.new.self _ _ _ c.in-Some.page c.loop-page.invariant steps.0 steps.1 c.in_ok-write_push.ensures

pub returns : goal.returns
returns c = all_pushed c.args.pages.now c.loop-page.page-iterator _ _ c.loop-page.invariant c.in-None.ensures.steps.0
