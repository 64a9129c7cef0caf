use Rattle.std.proofs.Common.{◌≡◌, None, Some, inr, sym, ◌∙◌}
use Rattle.mig_base.specs.declared.fault.TakeFault.{TakeFault}
use Rattle.mig_model.specs.Destination.{destination_answers}
use Rattle.mig_model.specs.Faults.{take_fault}
use Rattle.mig_model.specs.NodeSteps.{sent}
use Rattle.page_stream.specs.Frames.{frame_of}
use Rattle.world.proofs.DeliveryLemmas.{some_fault, takes}
use Rattle.world.proofs.frames.receive.Goals as goal

pub returns-in-Ok-clause-took : goal.returns-in-Ok-clause-took
returns-in-Ok-clause-took c =
    takes c.args.destination.now c.args.sent.epoch (frame_of c.args.sent.frame) None c.requires.right c.in-Ok.ensures.accepted
    ∙ (λ i. sent (sym c.effect-effect.ensures i) (destination_answers c.args.destination.now (frame_of c.args.sent.frame)) (sym c.in-Ok.ensures.took i))

pub returns-in-Err-InstallFirst-clause-refused : goal.returns-in-Err-InstallFirst-clause-refused
returns-in-Err-InstallFirst-clause-refused c =
    inr (takes c.args.destination.now c.args.sent.epoch (frame_of c.args.sent.frame) (Some TakeFault.InstallFirst) c.requires.right
    (some_fault (take_fault c.args.destination.now c.args.sent.epoch (frame_of c.args.sent.frame)) TakeFault.InstallFirst (sym c.in-Err-InstallFirst.field-0-is ∙ c.in-Err-InstallFirst.ensures.refused) (λ h. let no : TakeFault.InstallFirst ≡ TakeFault.NoMemory = h in cc)))

pub returns-in-Err-UrgentFirst-clause-refused : goal.returns-in-Err-UrgentFirst-clause-refused
returns-in-Err-UrgentFirst-clause-refused c =
    inr (takes c.args.destination.now c.args.sent.epoch (frame_of c.args.sent.frame) (Some TakeFault.UrgentFirst) c.requires.right
    (some_fault (take_fault c.args.destination.now c.args.sent.epoch (frame_of c.args.sent.frame)) TakeFault.UrgentFirst (sym c.in-Err-UrgentFirst.field-0-is ∙ c.in-Err-UrgentFirst.ensures.refused) (λ h. let no : TakeFault.UrgentFirst ≡ TakeFault.NoMemory = h in cc)))
