use Rattle.std.proofs.Common.{◌∙◌, ap}
use Rattle.std.specs.FinMap as map
use Rattle.std.specs.FinSet as set
use Rattle.foundation.specs.Ranges.{in_range}
use Rattle.mig_base.proofs.SetLemmas.{member_without}
use Rattle.uffd_ioctl.proofs.RegisterLemmas.{present_set, all_cleared}
use Rattle.uffd_ioctl.proofs.protect.set_protection.Goals as goal

pub returns-then-protect-clause-protected : goal.returns-then-protect-clause-protected
returns-then-protect-clause-protected c = λ q.
    c.protect_present.ensures.protected q
    ∙ present_set (in_range c.args.range.first c.args.range.count q) c.args.protect (map.contains_key c.args.pages.now.bytes q) (set.contains c.args.pages.now.protected q) c.if-protect.true (c.requires.present q)

pub returns-else-protect-clause-protected : goal.returns-else-protect-clause-protected
returns-else-protect-clause-protected c = λ q.
    ap (λ s. set.contains s q) c.unprotect_range.ensures.protected
    ∙ member_without c.args.pages.now.protected c.args.range.first c.args.range.count q
    ∙ all_cleared (in_range c.args.range.first c.args.range.count q) c.args.protect (map.contains_key c.args.pages.now.bytes q) (set.contains c.args.pages.now.protected q) c.if-protect.false
