use Rattle.std.proofs.Common.{◌≡◌, ◌∙◌, true, ap, sym, arith}
use Rattle.std.proofs.lemmas.Bool.{false≢true, eqb-true}
use Rattle.mig_base.proofs.Taken.{all_left, all_taken, each_more, none_taken, page_is, part_page, taken_page}
use Rattle.mig_model.specs.Guest.{is_present}
use Rattle.precopy.proofs.RecoveryLemmas.{all_present, one_missing}
use Rattle.precopy.proofs.source.back.are_present.Goals as goal

pub loop-page-init : goal.loop-page-init
loop-page-init c =
    let all = c.into_iter-page-iterator.ensures.into_iter_gives ∙ c.iter-page-items.ensures in
    record { part = all_left c.args.pages.now _ all; all = λ q h. absurd (false≢true (sym (none_taken c.args.pages.now _ all q) ∙ h)) }

pub returns-then-is_none : goal.returns-then-is_none
returns-then-is_none c =
    let steps = c.in-Some.ensures.steps in
    sym (one_missing c.args.space.now c.args.pages.now c.in-Some.page (page_is c.args.pages.now c.loop-page.page-iterator c.next.new.self c.in-Some.page steps.0 steps.1 c.loop-page.invariant.part) (grind arith))

pub loop-page-preserved : goal.loop-page-preserved
loop-page-preserved c =
    let steps = c.in-Some.ensures.steps in
    let page = c.in-Some.page in
    let pages = c.args.pages.now in
    let left = c.loop-page.page-iterator in
    let rest = c.next.new.self in
    let here : is_present c.args.space.now page ≡ true = grind arith in
    record {
      part = part_page pages left rest page steps.0 steps.1 c.loop-page.invariant.part;
      all = λ q. each_more _ _ _ (taken_page pages left rest page steps.0 steps.1 c.loop-page.invariant.part q) (λ e. ap (is_present c.args.space.now) (eqb-true q page e) ∙ here) (c.loop-page.invariant.all q);
    }

pub returns : goal.returns
returns c =
    sym (all_present c.args.space.now c.args.pages.now c.is_in_order.ensures (λ q here. c.loop-page.invariant.all q (all_taken c.args.pages.now c.loop-page.page-iterator q c.in-None.ensures.steps.0 ∙ here)))
