use Rattle.std.proofs.Common.{inl, inr, refl}
use Rattle.mig_model.specs.Wire as machine
use Rattle.page_stream.specs.Frames.{frame_of}
use Rattle.nodes.proofs.Taking.{is_said, no_frame_said, not_taken_urgently, was_taken_urgently}
use Rattle.nodes.proofs.destination.frames.DestinationNode.take_aside.Goals as goal

pub returns-in-Some-clause-taken : goal.returns-in-Some-clause-taken
returns-in-Some-clause-taken c =
    was_taken_urgently c.args.bytes.now c.args.self.now (record { epoch = c.in-Some.epoch; frame = machine.Frame.Zero c.in-Some.page }) c.take_urgent_frame.result c.take_urgent_frame.new.self
    (inr (c.in-Some.page, c.in-Some.ensures.some, refl)) c.take_urgent_frame.ensures.accepted c.take_urgent_frame.ensures.effect c.take_urgent_frame.ensures.taken

pub returns-in-Some-clause-refused : goal.returns-in-Some-clause-refused
returns-in-Some-clause-refused c =
    not_taken_urgently c.args.bytes.now c.args.self.now (record { epoch = c.in-Some.epoch; frame = machine.Frame.Zero c.in-Some.page }) c.take_urgent_frame.result (inr (c.in-Some.page, c.in-Some.ensures.some, refl))
    c.take_urgent_frame.ensures.refused

pub returns-in_default-read-clause-refused : goal.returns-in_default-read-clause-refused
returns-in_default-read-clause-refused c = inr (inl (refl, no_frame_said c.args.bytes.now c.in-Ok.read c.in-Ok.ensures.whole c.in_default-read.is c.in_default.ensures.none))

pub returns-clause-taken : goal.returns-clause-taken
returns-clause-taken c =
    was_taken_urgently c.args.bytes.now c.args.self.now (record { epoch = c.in-Some-read.epoch; frame = frame_of c.in-Some-read.frame }) c.take_urgent_frame-2.result c.take_urgent_frame-2.new.self
    (is_said c.args.bytes.now c.in-Ok.read c.in-Some-read.epoch c.in-Some-read.frame c.in-Ok.ensures.read c.in-Some-read.is) c.take_urgent_frame-2.ensures.accepted c.take_urgent_frame-2.ensures.effect
    c.take_urgent_frame-2.ensures.taken

pub returns-clause-refused : goal.returns-clause-refused
returns-clause-refused c =
    not_taken_urgently c.args.bytes.now c.args.self.now (record { epoch = c.in-Some-read.epoch; frame = frame_of c.in-Some-read.frame }) c.take_urgent_frame-2.result
    (is_said c.args.bytes.now c.in-Ok.read c.in-Some-read.epoch c.in-Some-read.frame c.in-Ok.ensures.read c.in-Some-read.is) c.take_urgent_frame-2.ensures.refused
