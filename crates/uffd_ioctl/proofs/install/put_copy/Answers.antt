use Rattle.std.proofs.Common.{◌∙◌, ap}
use Rattle.std.specs.FinMap as map
use Rattle.uffd_ioctl.proofs.AnswerLemmas.{has_put}
use Rattle.uffd_ioctl.proofs.InstallLemmas.{protected_one}
use Rattle.uffd_ioctl.proofs.install.put_copy.Goals as goal

pub protect-requires : goal.protect-requires
protect-requires c = ap (λ b. map.contains_key b c.args.page) c.in_default-put.ensures.ok ∙ has_put c.args.pages.now.bytes c.args.page c.in-Ok.copy

pub returns-then-protect-clause-protected : goal.returns-then-protect-clause-protected
returns-then-protect-clause-protected c =
    protected_one c.args.pages.now.protected c.put.new.self.protected c.protect.new.self.protected c.args.page c.args.protect c.put.ensures.protected c.protect.ensures.protected c.if-protect.true
