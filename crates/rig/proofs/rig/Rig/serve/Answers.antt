use Rattle.std.proofs.Common.{sym, subst, ◌∙◌}
use Rattle.mig_model.specs.Promises.{IsReached}
use Rattle.rig.proofs.rig.Rig.serve.Goals as goal

pub returns : goal.returns
returns g c =
    (c.deref_mut.result.now, subst IsReached (c.deref.ensures ∙ sym c.deref_mut.ensures.value) c.headline.ensures.reached, c.serve_in-outcome.ensures.stale, c.serve_in-outcome.ensures.served)
