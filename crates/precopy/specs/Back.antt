-- Which frames from the wire back a source does not take, and for which it may need memory.
use Rattle.std.specs.Prelude.{ℕ, ◌==◌, not, Bool, true, false, Option, [], ◌∷◌}
use Rattle.foundation.specs.Tests.{first_holding}
use Rattle.mig_base.specs.declared.phase.Received.{Received}
use Rattle.mig_model.specs.Faults.{is_bad_owed, is_in_place_back}
use Rattle.mig_model.specs.Source.{Source}
use Rattle.mig_model.specs.Wire.{Frame}
use Rattle.precopy.specs.declared.fault.SourceFault.{SourceFault}

-- whether a frame is a Recv that contradicts the source
abbrev pub is_bad_recv : Source → Frame → Bool
is_bad_recv node (Frame.Recv state owed) = is_bad_owed node state owed
is_bad_recv node frame = false

-- why a source does not take a frame, if it does not: the first reason that applies
abbrev pub source_fault : Source → ℕ → Frame → Option SourceFault
source_fault node epoch frame =
    first_holding
    ((not (is_in_place_back node frame), SourceFault.OutOfPlace) ∷ (not (epoch == node.epoch), SourceFault.StaleEpoch)
    ∷ (is_bad_recv node frame, SourceFault.BadOwed) ∷ [])

-- whether a source needs memory to take a frame, or for what it answers: for a requested page, for the pages that a running destination
-- still needs, and for all of its own, once it has switched and the destination has not run
abbrev pub takes_memory : Source → Frame → Bool
takes_memory node (Frame.Request page) = true
takes_memory node (Frame.Recv Received.NotRun owed) = node.switched
takes_memory node (Frame.Recv Received.Running owed) = true
takes_memory node frame = false
