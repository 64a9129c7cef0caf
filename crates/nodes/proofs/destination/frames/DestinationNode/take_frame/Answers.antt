use Rattle.std.proofs.Common.{◌≡◌, ◌⊎◌, Some, ap, ◌∙◌, refl, subst}
use Rattle.mig_base.specs.declared.fault.TakeFault.{TakeFault}
use Rattle.mig_model.specs.Faults.{take_fault}
use Rattle.mig_model.specs.Wire.{wire_with}
use Rattle.page_stream.specs.Frames.{frame_of}
use Rattle.nodes.specs.DestinationCalls.{taken}
use Rattle.nodes.specs.Faults.{of_take, taking_fault}
use Rattle.nodes.specs.Nodes.{PostingDestination}
use Rattle.nodes.specs.declared.fault.FrameFault.{FrameFault}
use Rattle.nodes.proofs.Waiting.{named, posting, took_posted}
use Rattle.nodes.proofs.destination.frames.DestinationNode.take_frame.Goals as goal

pub returns-in-Ok-take-clause-taken : goal.returns-in-Ok-take-clause-taken
returns-in-Ok-take-clause-taken c =
    let f = frame_of c.args.frame in
    let node = c.self.inside.node in
    let wire = c.self.inside.wire.wire in
    took_posted (posting node wire) c.take.new.self c.push_all.new.self.wire c.args.epoch f c.in-Ok-take.ensures.took
    (c.push_all.ensures ∙ (λ i. wire_with (c.reserve.ensures.stays i) (c.epoch.ensures i) (c.in-Ok.ensures.frames i)))
    ∙ ap (λ (s : PostingDestination). taken s c.args.epoch f) c.self.view_is

pub returns-in-Err-clause-refused : goal.returns-in-Err-clause-refused
returns-in-Err-clause-refused c =
    subst (λ (s : PostingDestination). (c.of_take.result ≡ FrameFault.NoMemory) ⊎ (taking_fault s.node c.args.epoch (frame_of c.args.frame) ≡ Some c.of_take.result)) c.self.view_is
    (named of_take TakeFault.NoMemory (take_fault c.self.inside.node c.args.epoch (frame_of c.args.frame)) c.in-Err.fault c.of_take.result refl c.in-Err.ensures.refused c.of_take.ensures)
