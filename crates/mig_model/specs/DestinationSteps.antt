-- The steps of the destination. The sentence above a step names its refusals in the order in which they are tested; the first that
-- applies is given.
use Rattle.std.specs.Prelude.{ℕ, ◌*◌, ◌&&◌, not, ok_or, Result, [], ◌∷◌}
use Rattle.foundation.specs.Tests.{is_empty}
use Rattle.mig_base.specs.Acts.{act_effect}
use Rattle.foundation.specs.declared.TheConstants.{PAGE_SIZE}
use Rattle.mig_base.specs.declared.effect.Effect.{Effect}
use Rattle.mig_base.specs.declared.refusal.Refusal.{Refusal}
use Rattle.mig_base.specs.declared.schedule.Side.{Side}
use Rattle.mig_model.specs.Destination.{Destination, act_frames, destination_act, destination_acted, destination_answers, destination_paused, destination_read, destination_took, install_by, is_dest_paused, urgent_took}
use Rattle.mig_model.specs.Effects.{frame_effect, install_effect, read_effect}
use Rattle.mig_model.specs.Faults.{is_early, is_end}
use Rattle.mig_model.specs.GuestSteps.{when_quiet}
use Rattle.mig_model.specs.NodeSteps.{Acted, Sends, acted, and_then, first_of, in_phase, rest_of, sent, unless}
use Rattle.mig_model.specs.Owed.{home}
use Rattle.mig_base.specs.Userfault.{next_message}
use Rattle.mig_model.specs.Wire.{Frame}

-- The handler

-- DestRead: refused as Phase until the destination has run, NothingThere if no message waits. A fault is held, and an event is applied
-- to the owed table at once
abbrev pub read : Destination → Result (Acted Destination) Refusal
read node =
    in_phase node.has_run
    (and_then (ok_or (next_message node.guest.space.object) Refusal.NothingThere) (λ noted.
    acted (read_effect node.guest.cpus noted.cpu noted.message) (destination_read node noted)))

-- DestAct: refused as Phase until the destination has run, NothingThere if no fault is held, Changing while the destination has unread
-- events. The first held fault is resolved, and no longer held; if its page is owed, a Request may be sent
abbrev pub act : Destination → Result (Sends Destination) Refusal
act node =
    in_phase node.has_run
    (and_then (when_quiet node.guest (first_of node.held)) (λ fault.
    sent (act_effect (destination_act node fault) (PAGE_SIZE * fault.page)) (act_frames (destination_act node fault) node)
    (destination_acted node fault)))

-- Install: refused as Phase until the destination has run, NothingThere if no copy waits, Changing while the destination has unread
-- events. The first copy that has arrived is installed where its page is owed now, or dropped if it is owed nowhere
abbrev pub install : Destination → Result (Acted Destination) Refusal
install node =
    in_phase node.has_run
    (and_then (when_quiet node.guest (first_of node.arrivals)) (λ copy.
    acted (install_effect (home node.owed copy.page) copy.page)
    (install_by (home node.owed copy.page) node copy (rest_of node.arrivals))))

-- Frames

-- a frame of the forward wire, sent in this epoch: an End is refused as InstallFirst while a copy waits, and as UrgentFirst while urgent
-- frames are to come. Else the frame is taken, and answered
abbrev pub take : Destination → ℕ → Frame → Result (Sends Destination) Refusal
take node epoch frame =
    unless ((is_end frame && not (is_empty node.arrivals), Refusal.InstallFirst) ∷ (is_early node frame, Refusal.UrgentFirst) ∷ [])
    (sent (frame_effect frame) (destination_answers node frame) (destination_took node epoch frame))

-- a frame of the urgent wire is taken; it is not answered
abbrev pub take_urgent : Destination → Frame → Result (Acted Destination) Refusal
take_urgent node frame = acted (frame_effect frame) (urgent_took node frame)

-- A broken channel

-- Notice at the destination: refused as Phase if it is paused already
abbrev pub pause : Destination → Result (Acted Destination) Refusal
pause node = in_phase (not (is_dest_paused node.phase)) (acted (Effect.Noticed Side.Destination) (destination_paused node))
