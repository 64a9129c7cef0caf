-- Why a node of its own does not take a frame.
use Rattle.std.specs.Prelude.{ℕ, Option}
use Rattle.std.specs.Option.{option_map}
use Rattle.mig_base.specs.declared.fault.TakeFault.{TakeFault}
use Rattle.mig_model.specs.Destination.{Destination}
use Rattle.mig_model.specs.Faults.{take_fault, urgent_fault}
use Rattle.mig_model.specs.Source.{Source}
use Rattle.mig_model.specs.Wire.{Frame}
use Rattle.precopy.specs.Back.{source_fault}
use Rattle.precopy.specs.declared.fault.SourceFault.{SourceFault}
use Rattle.nodes.specs.declared.fault.FrameFault.{FrameFault}

-- a fault of the destination, by its name
abbrev pub of_take : TakeFault → FrameFault
of_take TakeFault.OutOfPlace = FrameFault.OutOfPlace
of_take TakeFault.StaleEpoch = FrameFault.StaleEpoch
of_take TakeFault.BadFrame = FrameFault.BadFrame
of_take TakeFault.InstallFirst = FrameFault.InstallFirst
of_take TakeFault.UrgentFirst = FrameFault.UrgentFirst
of_take TakeFault.NoMemory = FrameFault.NoMemory

-- a fault of the source, by its name
abbrev pub of_source : SourceFault → FrameFault
of_source SourceFault.OutOfPlace = FrameFault.OutOfPlace
of_source SourceFault.StaleEpoch = FrameFault.StaleEpoch
of_source SourceFault.BadOwed = FrameFault.BadOwed
of_source SourceFault.NoMemory = FrameFault.NoMemory

-- why a destination does not take a frame, if it does not
abbrev pub taking_fault : Destination → ℕ → Frame → Option FrameFault
taking_fault node epoch frame = option_map of_take (take_fault node epoch frame)

-- the same of a frame of the urgent wire
abbrev pub urgent_taking_fault : Destination → ℕ → Frame → Option FrameFault
urgent_taking_fault node epoch frame = option_map of_take (urgent_fault node epoch frame)

-- why a source does not take a frame, if it does not
abbrev pub returning_fault : Source → ℕ → Frame → Option FrameFault
returning_fault node epoch frame = option_map of_source (source_fault node epoch frame)
