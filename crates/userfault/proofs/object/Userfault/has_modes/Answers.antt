use Rattle.std.proofs.Common.{◌∙◌, ◌||◌, not, ap}
use Rattle.std.specs.FinSet.{contains}
use Rattle.mig_base.specs.Userfault.{has_modes}
use Rattle.foundation.specs.Tests.{is_every}
use Rattle.userfault.specs.Modes.{mode_of}
use Rattle.userfault.proofs.EveryLemmas.{both_true, both_false}
use Rattle.userfault.proofs.object.Userfault.has_modes.Goals as goal

pub returns-then-missing : goal.returns-then-missing
returns-then-missing c =
    both_true (λ page. not c.args.mode.missing || contains c.self.inside.missing page) (λ page. not c.args.mode.protect || contains c.self.inside.protect page) c.args.first c.args.count _ _ c.has_all-missing.ensures c.has_all-protect.ensures c.if-missing.true
    ∙ ap (λ o. is_every (λ page. has_modes o page (mode_of c.args.mode)) c.args.first c.args.count) c.self.view_is

pub returns-else-missing : goal.returns-else-missing
returns-else-missing c =
    both_false (λ page. not c.args.mode.missing || contains c.self.inside.missing page) (λ page. not c.args.mode.protect || contains c.self.inside.protect page) c.args.first c.args.count _ c.has_all-missing.ensures c.if-missing.false
    ∙ ap (λ o. is_every (λ page. has_modes o page (mode_of c.args.mode)) c.args.first c.args.count) c.self.view_is
