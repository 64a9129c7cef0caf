use Rattle.mig_base.proofs.PageSetViews.{none_past}
use Rattle.mig_base.proofs.page_set.PageSet.ends_by_high_page.Goals as goal

pub returns : goal.returns
returns c q past = none_past c.self.inside.chunks.items c.args.self.now q c.self.invariant c.self.view_is past
