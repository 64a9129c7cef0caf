-- Faults of the decoder, as faults of a stream of frames.
use Rattle.frame_decoder.specs.declared.fault.StreamFault.{StreamFault}
use Rattle.frame_decoder.specs.declared.fault.StreamFault.TheVariants as stream
use Rattle.frames.specs.declared.fault.FramesFault.{FramesFault}
use Rattle.frames.specs.declared.fault.FramesFault.TheVariants as faults

-- the fault that ends the stream when its decoder returns one: lack of memory is not a fault of the stream
abbrev pub frames_fault_of : StreamFault → FramesFault
frames_fault_of stream.NoMemory = faults.NoMemory
frames_fault_of stream.BadTag = faults.Stream stream.BadTag
frames_fault_of stream.BadLength = faults.Stream stream.BadLength
frames_fault_of stream.BadField = faults.Stream stream.BadField
