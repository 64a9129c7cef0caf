-- How a destination takes a frame of the forward wire.
use Rattle.std.specs.Prelude.{Bool, true, false}
use Rattle.mig_model.specs.Wire.{Frame}

-- whether taking a frame may need memory: the copies of pages do, and a Package
abbrev pub takes_memory : Frame → Bool
takes_memory (Frame.Page page bytes) = true
takes_memory (Frame.Zero page) = true
takes_memory (Frame.Run first pages) = true
takes_memory (Frame.Package areas owed commands) = true
takes_memory frame = false
