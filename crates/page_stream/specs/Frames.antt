-- The meaning of a frame of the code: a frame of the machine.
use Rattle.mig_model.specs.Wire as machine
use Rattle.page_stream.specs.declared.frame.Frame.{Frame}

-- the machine's frame of the same name with the same contents: bridges the two types
abbrev pub frame_of : Frame → machine.Frame
frame_of Frame.Advise = machine.Frame.Advise
frame_of (Frame.Page page bytes) = machine.Frame.Page page bytes
frame_of (Frame.Zero page) = machine.Frame.Zero page
frame_of (Frame.Run first pages) = machine.Frame.Run first pages
frame_of (Frame.Discard pages) = machine.Frame.Discard pages
frame_of (Frame.Package areas owed commands) = machine.Frame.Package areas owed commands
frame_of (Frame.End urgent) = machine.Frame.End urgent
frame_of Frame.Resume = machine.Frame.Resume
frame_of (Frame.Request page) = machine.Frame.Request page
frame_of (Frame.Recv state owed) = machine.Frame.Recv state owed
frame_of Frame.Done = machine.Frame.Done
