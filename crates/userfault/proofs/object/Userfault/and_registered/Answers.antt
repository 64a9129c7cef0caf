use Rattle.std.proofs.Common.{◌∙◌, ap}
use Rattle.foundation.specs.Ranges.{in_range}
use Rattle.mig_base.specs.Userfault.{registered_where}
use Rattle.userfault.specs.Modes.{mode_of}
use Rattle.userfault.proofs.ModeLemmas.{is_registered_where}
use Rattle.userfault.proofs.object.Userfault.and_registered.Goals as goal

pub returns : goal.returns
returns c =
    is_registered_where _ c.register_run.new.missing c.register_run.new.protect c.args.first c.args.count (mode_of c.args.mode) c.in_ok-register_run.ensures.missing c.in_ok-register_run.ensures.protect
    ∙ ap (λ o. registered_where o (in_range c.args.first c.args.count) (mode_of c.args.mode)) c.object.view_is
