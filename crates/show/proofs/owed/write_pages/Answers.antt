use Rattle.std.proofs.Common.{◌∙◌}
use Rattle.show.proofs.OwedLines.{all_owed, none_owed, one_owed}
use Rattle.show.proofs.owed.write_pages.Goals as goal

pub loop-origin-init : goal.loop-origin-init
loop-origin-init c = none_owed c.args.world.now c.args.pages.now _ _ (c.into_iter-origin-iterator.ensures.into_iter_gives ∙ c.iter-origin-items.ensures)

pub loop-origin-preserved : goal.loop-origin-preserved
loop-origin-preserved c =
    let steps = c.in-Some.ensures.steps in
    one_owed c.args.world.now c.args.pages.now c.loop-origin.origin-iterator c.next.new.self _ _ _ c.in-Some.origin c.loop-origin.invariant steps.0 steps.1 c.in_ok-write_page.ensures

pub returns : goal.returns
returns c = all_owed c.args.world.now c.args.pages.now c.loop-origin.origin-iterator _ _ c.loop-origin.invariant c.in-None.ensures.steps.0
