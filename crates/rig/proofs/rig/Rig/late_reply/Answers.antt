use Rattle.std.proofs.Common.{sym, subst, ◌∙◌}
use Rattle.mig_model.specs.Promises.{IsReached}
use Rattle.rig.specs.declared.section.Attempt.{Attempt}
use Rattle.rig.specs.Sections.{IsToldOf}
use Rattle.rig.proofs.rig.Rig.late_reply.Goals as goal

pub returns-in-Ok-default-Replied-clause-entered : goal.returns-in-Ok-default-Replied-clause-entered
returns-in-Ok-default-Replied-clause-entered g c =
    let reached = subst IsReached (c.deref.ensures ∙ sym c.deref_mut.ensures.value) c.headline.ensures.reached in
    subst (λ (tried : Attempt). IsToldOf c.args.cpu c.in-Ok-default-Replied.command tried) c.in-Ok-default-Replied.field-0-1-is (c.in-Ok-default-Replied.ensures.told reached)
