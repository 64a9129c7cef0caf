use Rattle.std.proofs.Common.{inl, inr, refl}
use Rattle.mig_model.specs.Wire as machine
use Rattle.page_stream.specs.Frames.{frame_of}
use Rattle.nodes.specs.DestinationCalls.{AFrame, ZeroRun}
use Rattle.nodes.proofs.Taking.{is_said, no_frame_said, not_taken, nothing_said, was_taken}
use Rattle.nodes.proofs.destination.frames.DestinationNode.take_what_is_said.Goals as goal

pub returns-in-Some-clause-taken : goal.returns-in-Some-clause-taken
returns-in-Some-clause-taken c =
    was_taken c.args.bytes.now c.args.self.now (AFrame (record { epoch = c.in-Some.epoch; frame = machine.Frame.Zero c.in-Some.page })) c.take_zero.result c.take_zero.new.self
    (inr (c.in-Some.page, c.in-Some.ensures.some, refl)) c.take_zero.ensures.accepted c.take_zero.ensures.effect c.take_zero.ensures.taken

pub returns-in-Some-clause-refused : goal.returns-in-Some-clause-refused
returns-in-Some-clause-refused c =
    not_taken c.args.bytes.now c.args.self.now (AFrame (record { epoch = c.in-Some.epoch; frame = machine.Frame.Zero c.in-Some.page })) c.take_zero.result (inr (c.in-Some.page, c.in-Some.ensures.some, refl))
    c.take_zero.ensures.refused

pub returns-in-Some-run_of-clause-taken : goal.returns-in-Some-run_of-clause-taken
returns-in-Some-run_of-clause-taken c =
    let run = c.in-Some-run_of.run' in
    was_taken c.args.bytes.now c.args.self.now (ZeroRun run.epoch run.first run.count) c.take_run.result c.take_run.new.self c.in-Some-run_of.ensures.some c.take_run.ensures.accepted c.take_run.ensures.effect
    c.take_run.ensures.taken

pub returns-in-Some-run_of-clause-refused : goal.returns-in-Some-run_of-clause-refused
returns-in-Some-run_of-clause-refused c =
    let run = c.in-Some-run_of.run' in
    not_taken c.args.bytes.now c.args.self.now (ZeroRun run.epoch run.first run.count) c.take_run.result c.in-Some-run_of.ensures.some c.take_run.ensures.refused

pub returns-in_default-read-clause-refused : goal.returns-in_default-read-clause-refused
returns-in_default-read-clause-refused c =
    inr (inl (refl, nothing_said c.args.bytes.now (no_frame_said c.args.bytes.now c.in-Ok.read c.in-Ok.ensures.whole c.in_default-read.is c.in_default.ensures.none) c.in_default-run_of.ensures.none))

pub returns-clause-taken : goal.returns-clause-taken
returns-clause-taken c =
    was_taken c.args.bytes.now c.args.self.now (AFrame (record { epoch = c.in-Some-read.epoch; frame = frame_of c.in-Some-read.frame })) c.take_frame.result c.take_frame.new.self
    (is_said c.args.bytes.now c.in-Ok.read c.in-Some-read.epoch c.in-Some-read.frame c.in-Ok.ensures.read c.in-Some-read.is) c.take_frame.ensures.accepted c.take_frame.ensures.effect c.take_frame.ensures.taken

pub returns-clause-refused : goal.returns-clause-refused
returns-clause-refused c =
    not_taken c.args.bytes.now c.args.self.now (AFrame (record { epoch = c.in-Some-read.epoch; frame = frame_of c.in-Some-read.frame })) c.take_frame.result
    (is_said c.args.bytes.now c.in-Ok.read c.in-Some-read.epoch c.in-Some-read.frame c.in-Ok.ensures.read c.in-Some-read.is) c.take_frame.ensures.refused
