use Rattle.std.proofs.Common.{◌∙◌, subst, sym}
use Rattle.mig_base.proofs.Taken.{all_left, all_taken, none_taken, not_taken, part_page, taken, taken_page}
use Rattle.rig.proofs.RemainingLemmas.{AreListed, listed_all, none_listed, one_more}
use Rattle.rig.proofs.remaining.listed.Goals as goal

pub loop-page-init : goal.loop-page-init
loop-page-init c =
    let all = c.into_iter-page-iterator.ensures.into_iter_gives ∙ c.iter-page-items.ensures in
    record { part = all_left c.args.set.now _ all; listed = subst (AreListed _) (sym c.in_ok-pages.ensures.items) (none_listed _ (none_taken c.args.set.now _ all)) }

pub loop-page-preserved : goal.loop-page-preserved
loop-page-preserved c =
    let steps = c.in-Some.ensures.steps in
    let page = c.in-Some.page in
    let set = c.args.set.now in
    let left = c.loop-page.page-iterator in
    let rest = c.next.new.self in
    record {
      part = part_page set left rest page steps.0 steps.1 c.loop-page.invariant.part;
      listed = subst (AreListed (taken set rest)) (sym c.in_ok-push.ensures.items)
          (one_more (taken set left) (taken set rest) page c.loop-page.pages.items c.loop-page.invariant.listed (taken_page set left rest page steps.0 steps.1 c.loop-page.invariant.part) (not_taken set left page steps.0.here));
    }

pub returns : goal.returns
returns c = listed_all c.args.set.now _ c.loop-page.pages.items c.loop-page.invariant.listed (λ q. all_taken c.args.set.now c.loop-page.page-iterator q c.in-None.ensures.steps.0)
