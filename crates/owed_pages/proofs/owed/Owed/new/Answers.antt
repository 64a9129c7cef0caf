use Rattle.std.proofs.Common.{◌∙◌}
use Rattle.mig_base.proofs.Taken.{all_left, all_taken, none_taken, not_taken, part_page, taken, taken_page}
use Rattle.owed_pages.proofs.LinkLemmas.{own_free}
use Rattle.owed_pages.proofs.OwedLemmas.{own_none, own_more, own_all, own_only, own_here}
use Rattle.owed_pages.proofs.owed.Owed.new.Goals as goal

pub loop-page-init : goal.loop-page-init
loop-page-init c =
    let all = c.into_iter-page-iterator.ensures.into_iter_gives ∙ c.iter-page-items.ensures in
    record { part = all_left c.args.pages.now _ all; own = own_none c.new-links.result.forth.items _ c.new-links.ensures (none_taken c.args.pages.now _ all) }

pub link_itself-requires-clause-page : goal.link_itself-requires-clause-page
link_itself-requires-clause-page c = c.in-Some.ensures.steps.0.low

pub link_itself-requires-clause-free : goal.link_itself-requires-clause-free
link_itself-requires-clause-free c =
    let page = c.in-Some.page in
    let reached = taken c.args.pages.now c.loop-page.page-iterator in
    let here = own_here c.loop-page.links.forth.items reached page (not_taken c.args.pages.now c.loop-page.page-iterator page c.in-Some.ensures.steps.0.here) c.loop-page.invariant.own in (
      here,
      own_free c.loop-page.links.forth.items c.loop-page.links.back.items c.loop-page.links.count page c.loop-page.links.kept (own_only c.loop-page.links.forth.items reached page c.loop-page.invariant.own) here,
    )

pub loop-page-preserved : goal.loop-page-preserved
loop-page-preserved c =
    let steps = c.in-Some.ensures.steps in
    let page = c.in-Some.page in
    let pages = c.args.pages.now in
    let left = c.loop-page.page-iterator in
    let rest = c.next.new.self in
    record {
      part = part_page pages left rest page steps.0 steps.1 c.loop-page.invariant.part;
      own = own_more c.loop-page.links.forth.items c.link_itself.new.self.forth.items (taken pages left) (taken pages rest) page (taken_page pages left rest page steps.0 steps.1 c.loop-page.invariant.part) c.loop-page.invariant.own c.in_ok-link_itself.ensures.pairs;
    }

pub returns : goal.returns
returns c = own_all c.loop-page.links.forth.items c.args.pages.now _ c.loop-page.links.kept.few (λ q. all_taken c.args.pages.now c.loop-page.page-iterator q c.in-None.ensures.steps.0) c.loop-page.invariant.own
