use Rattle.std.proofs.Common.{◌∙◌, ap}
use Rattle.std.specs.FinMap as map
use Rattle.std.specs.FinSet as set
use Rattle.mig_base.proofs.SetLemmas.{member_inserted}
use Rattle.uffd_ioctl.proofs.RegisterLemmas.{one_there, one_gone, is_there}
use Rattle.uffd_ioctl.proofs.protect.protect_present.Goals as goal
use Rattle.uffd_ioctl.proofs.protect.protect_present.Goals.{then-is_some, else-is_some}

pub loop-page-preserved : goal.loop-page-preserved
loop-page-preserved c =
    let first = c.args.range.first in
    let page = c.loop-page.page in
    let old = c.args.pages.now in
    let now = c.loop-page.pages in
    let was = c.loop-page.invariant in
    elim c.if-is_some.branch [
      | then-is_some w ↦ record {
        bytes = ap (λ p. p.bytes) w.pages-is ∙ w.protect.ensures.bytes ∙ was.bytes;
        protected = λ q. ap (λ p. set.contains p.protected q) w.pages-is
            ∙ ap (λ s. set.contains s q) w.protect.ensures.protected
            ∙ member_inserted now.protected page q
            ∙ one_there first page q (map.contains_key old.bytes q) (set.contains old.protected q) (set.contains now.protected q) c.loop-page.auto.page (was.protected q)
            (is_there now.bytes old.bytes page q c.get.result _ _ c.get.ensures was.bytes c.is_some.ensures w.if-is_some.true);
      }
      | else-is_some w ↦ record {
        bytes = ap (λ p. p.bytes) w.pages-is ∙ was.bytes;
        protected = λ q. ap (λ p. set.contains p.protected q) w.pages-is
            ∙ one_gone first page q (map.contains_key old.bytes q) (set.contains old.protected q) (set.contains now.protected q) c.loop-page.auto.page (was.protected q)
            (is_there now.bytes old.bytes page q c.get.result _ _ c.get.ensures was.bytes c.is_some.ensures w.if-is_some.false);
      }
    ]
