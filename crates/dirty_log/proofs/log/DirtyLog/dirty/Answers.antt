use Rattle.std.proofs.Common.{◌∙◌, ap}
use Rattle.mig_model.specs.Log.{less}
use Rattle.dirty_log.proofs.SpaceLemmas.{present_is}
use Rattle.dirty_log.proofs.log.DirtyLog.dirty.Goals as goal

pub returns : goal.returns
returns c =
    rw (← c.self.view_is) (c.subtract.ensures ∙ ap (λ s. less s c.self.inside.clean) (present_is c.args.space.now c.in_ok-pages.pages c.is_in_order.ensures c.in_ok-pages.ensures))
