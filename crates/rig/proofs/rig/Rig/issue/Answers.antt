use Rattle.std.proofs.Common.{sym, subst, ◌∙◌}
use Rattle.mig_model.specs.Promises.{IsReached}
use Rattle.rig.proofs.rig.Rig.issue.Goals as goal

pub returns-in-Ok-clause-told : goal.returns-in-Ok-clause-told
returns-in-Ok-clause-told g c = c.in-Ok.ensures.told (subst IsReached (c.deref.ensures ∙ sym c.deref_mut.ensures.value) c.headline.ensures.reached)
