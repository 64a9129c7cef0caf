use Rattle.std.proofs.Common.{◌∙◌, ap}
use Rattle.foundation.specs.Ranges.{in_range}
use Rattle.mig_base.specs.Userfault.{registered_where}
use Rattle.userfault.specs.Modes.{mode_of}
use Rattle.userfault.proofs.ModeLemmas.{is_registered_where}
use Rattle.userfault.proofs.object.Userfault.register.Goals as goal

pub returns-clause-ok : goal.returns-clause-ok
returns-clause-ok c =
    is_registered_where _ c.in_ok-missing.missing c.in_ok-protect.protect c.args.first c.args.count (mode_of c.args.mode) c.in_ok-missing.ensures c.in_ok-protect.ensures
    ∙ ap (λ o. registered_where o (in_range c.args.first c.args.count) (mode_of c.args.mode)) c.self.view_is
