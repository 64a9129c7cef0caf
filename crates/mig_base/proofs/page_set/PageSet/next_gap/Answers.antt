use Rattle.std.proofs.Common.{◌∙◌, sym}
use Rattle.mig_base.proofs.PageSetViews.{seen}
use Rattle.mig_base.proofs.page_set.PageSet.next_gap.Goals as goal

pub returns-clause-before : goal.returns-clause-before
returns-clause-before c = λ q l h. sym (seen c.self.inside.chunks.items c.args.self.now q c.self.invariant c.self.view_is) ∙ c.next_page.ensures.before q l h

pub returns-clause-here : goal.returns-clause-here
returns-clause-here c = λ h. sym (seen c.self.inside.chunks.items c.args.self.now c.next_page.result c.self.invariant c.self.view_is) ∙ c.next_page.ensures.here h
