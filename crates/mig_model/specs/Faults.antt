-- Which frames a node takes, and why it does not take any other. Inside a world no frame is refused, but an End may have to wait.
use Rattle.std.specs.Prelude.{ℕ, ◌==◌, ◌&&◌, ◌||◌, not, nat_le, nat_lt, Bool, true, false, Option, Some, None, List, [], ◌∷◌, length}
use Rattle.std.specs.Ordering.{nat_cmp}
use Rattle.std.specs.FinMap as finmap
use Rattle.std.specs.FinMap.{FinMap, contains_key, retain_keys}
use Rattle.std.specs.FinSet as finset
use Rattle.std.specs.FinSet.{FinSet}
use Rattle.mig_base.specs.declared.Prot.{Prot}
use Rattle.mig_base.specs.declared.fault.BackFault.{BackFault}
use Rattle.mig_base.specs.declared.fault.RebuildFault.{RebuildFault}
use Rattle.mig_base.specs.declared.fault.TakeFault.{TakeFault}
use Rattle.mig_base.specs.declared.phase.DestPhase.{DestPhase}
use Rattle.mig_base.specs.declared.phase.Received.{Received}
use Rattle.foundation.specs.Tests.{first_holding, is_empty}
use Rattle.mig_model.specs.Wire.{Frame, is_copy}
use Rattle.mig_model.specs.Wire.Frame.{Advise, Page, Zero, Run, Discard, Package, End, Resume, Request, Recv, Done}
use Rattle.mig_model.specs.Log.{less, present}
use Rattle.mig_model.specs.Source.{Source, is_source_paused, is_stopped, space_of}
use Rattle.mig_model.specs.Destination.{Destination, is_running}

-- The destination

-- whether a destination takes such a frame in a phase: QEMU's postcopy document, "Postcopy states"
abbrev pub is_in_place : DestPhase → Frame → Bool
is_in_place DestPhase.Idle Advise = true
is_in_place DestPhase.Advised (Page page bytes) = true
is_in_place DestPhase.Advised (Zero page) = true
is_in_place DestPhase.Advised (Run first pages) = true
is_in_place DestPhase.Advised (Discard pages) = true
is_in_place DestPhase.Discarding (Package areas owed commands) = true
is_in_place DestPhase.Running (Page page bytes) = true
is_in_place DestPhase.Running (Zero page) = true
is_in_place DestPhase.Running (End urgent) = true
is_in_place DestPhase.Paused Resume = true
is_in_place phase frame = false

-- whether an End comes too soon: pages are still owed, though no copy waits to be installed and no urgent frame is still to come
abbrev pub is_too_soon : Destination → Frame → Bool
is_too_soon node (End urgent) = not (finmap.len node.owed == 0) && is_empty node.arrivals && nat_le urgent node.urgent_taken
is_too_soon node frame = false

-- whether the epoch of a frame is right: any for Advise, a later one than the destination's own for Resume, and its own for any other
-- frame
abbrev pub is_of_epoch : ℕ → ℕ → Frame → Bool
is_of_epoch own epoch Advise = true
is_of_epoch own epoch Resume = nat_lt own epoch
is_of_epoch own epoch frame = epoch == own

-- whether a Package is torn: it owes a page that is kept, or does not map a page that is owed or kept
abbrev pub is_torn : FinMap nat_cmp (List ℕ) → FinMap nat_cmp Prot → FinSet nat_cmp → Bool
is_torn kept areas owed =
    not (finset.len (finset.retain owed (λ page. contains_key kept page || not (contains_key areas page))) == 0)
    || not (finmap.len (retain_keys kept (λ page. not (contains_key areas page))) == 0)

-- whether what a frame carries does not fit: a Package that is torn or has another number of processors than the destination, or an End
-- that announces fewer urgent frames than were taken
abbrev pub is_bad : Destination → Frame → Bool
is_bad node (Package areas owed commands) = is_torn node.kept areas owed || not (length commands == length node.guest.cpus)
is_bad node (End urgent) = nat_lt urgent node.urgent_taken
is_bad node frame = false

-- why a frame is wrong, if it is: the first reason that applies
abbrev pub frame_fault : Destination → ℕ → Frame → Option TakeFault
frame_fault node epoch frame =
    first_holding
    ((not (is_in_place node.phase frame) || is_too_soon node frame, TakeFault.OutOfPlace) ∷ (not (is_of_epoch node.epoch epoch frame), TakeFault.StaleEpoch)
    ∷ (is_bad node frame, TakeFault.BadFrame) ∷ [])

-- whether a frame is End
abbrev pub is_end : Frame → Bool
is_end (End urgent) = true
is_end frame = false

-- whether a frame is an End that announces more urgent frames than the destination has taken
abbrev pub is_early : Destination → Frame → Bool
is_early node (End urgent) = nat_lt node.urgent_taken urgent
is_early node frame = false

-- why a frame has to wait, if it has to: an End waits until each copy that came is installed, and then for the urgent frames
abbrev pub wait_fault : Destination → Frame → Option TakeFault
wait_fault node frame =
    first_holding ((is_end frame && not (is_empty node.arrivals), TakeFault.InstallFirst) ∷ (is_early node frame, TakeFault.UrgentFirst) ∷ [])

-- why a destination does not take a frame, if it does not: a wrong frame is refused before one that has to wait
abbrev pub take_fault : Destination → ℕ → Frame → Option TakeFault
take_fault node epoch frame = elim (frame_fault node epoch frame) [ None ↦ wait_fault node frame | Some fault ↦ Some fault ]

-- why a destination does not take a frame of the urgent wire: it takes copies of one page alone, of its epoch, while it is Running
abbrev pub urgent_fault : Destination → ℕ → Frame → Option TakeFault
urgent_fault node epoch frame =
    first_holding ((not (is_running node.phase && is_copy frame), TakeFault.OutOfPlace) ∷ (not (epoch == node.epoch), TakeFault.StaleEpoch) ∷ [])

-- The source

-- whether a source takes such a frame: a Request while it is stopped, Done while it is stopped and has sent End in its epoch, and a Recv
-- while it is paused
abbrev pub is_in_place_back : Source → Frame → Bool
is_in_place_back node (Request page) = is_stopped node.phase
is_in_place_back node Done = is_stopped node.phase && node.end_epoch == node.epoch
is_in_place_back node (Recv state owed) = is_source_paused node.phase
is_in_place_back node frame = false

-- why a source does not take a frame, if it does not
abbrev pub back_fault : Source → ℕ → Frame → Option BackFault
back_fault node epoch frame =
    first_holding ((not (is_in_place_back node frame), BackFault.OutOfPlace) ∷ (not (epoch == node.epoch), BackFault.StaleEpoch) ∷ [])

-- whether a Recv contradicts the source: it lists a page that the source does not have, lists any page of a destination that does not run,
-- or says that the destination runs or has ended before the switch
abbrev pub is_bad_owed : Source → Received → FinSet nat_cmp → Bool
is_bad_owed node Received.NotRun owed = not (finset.len owed == 0)
is_bad_owed node Received.Running owed = not node.switched || not (finset.len (less owed (present (space_of node))) == 0)
is_bad_owed node Received.Ended owed = not node.switched || not (finset.len owed == 0)

-- why a source does not continue from a Recv, if it does not
abbrev pub rebuild_fault : Source → Received → FinSet nat_cmp → Option RebuildFault
rebuild_fault node state owed = first_holding ((is_bad_owed node state owed, RebuildFault.BadOwed) ∷ [])
