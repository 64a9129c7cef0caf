-- The answers of a destination to frames that are handed to it in turn.
use Rattle.std.specs.Prelude.{◌≡◌, ℕ, ◌+◌, ◌<◌, ◌^◌, List, [], ◌∷◌, ◌++◌, codes, Some, None, Ok}
use Rattle.mig_base.specs.declared.fault.TakeFault.{TakeFault}
use Rattle.mig_base.specs.declared.fault.TakeFault.TheVariants as fault
use Rattle.mig_model.specs.Destination.{Destination, destination_took}
use Rattle.mig_model.specs.Faults.{take_fault}
use Rattle.mig_model.specs.Effects.{frame_effect}
use Rattle.mig_model.specs.Wire.{Sent}
use Rattle.grammar.specs.Printed.{outcome_line}

-- the name of a reason for which a frame is refused
abbrev pub take_fault_name : TakeFault → List ℕ
take_fault_name fault.OutOfPlace = codes "OutOfPlace"
take_fault_name fault.StaleEpoch = codes "StaleEpoch"
take_fault_name fault.BadFrame = codes "BadFrame"
take_fault_name fault.InstallFirst = codes "InstallFirst"
take_fault_name fault.UrgentFirst = codes "UrgentFirst"
take_fault_name fault.NoMemory = codes "NoMemory"

-- the line of a frame that is refused
abbrev pub refusal_line : TakeFault → List ℕ
refusal_line reason = codes "refused " ++ take_fault_name reason ++ 10 ∷ []

-- the line of the answer: what was taken, as a step of a script prints it, or why the frame is refused
abbrev pub answer_line : Destination → Sent → List ℕ
answer_line node sent = elim (take_fault node sent.epoch sent.frame) [ None ↦ outcome_line (Ok (frame_effect sent.frame)) | Some reason ↦ refusal_line reason ]

-- the destination after a frame: one that it refuses changes nothing
abbrev pub after_frame : Destination → Sent → Destination
after_frame node sent = elim (take_fault node sent.epoch sent.frame) [ None ↦ destination_took node sent.epoch sent.frame | Some reason ↦ node ]

-- the destination after frames, taken or refused in turn
abbrev pub after_frames : Destination → List Sent → Destination
after_frames node [] = node
after_frames node (sent ∷ frames) = after_frames (after_frame node sent) frames

-- the lines of its answers to frames, one for each
abbrev pub answer_lines : Destination → List Sent → List ℕ
answer_lines node [] = []
answer_lines node (sent ∷ frames) = answer_line node sent ++ answer_lines (after_frame node sent) frames

-- how many frames it refuses of one: 1 or 0
abbrev pub refusals_of : Destination → Sent → ℕ
refusals_of node sent = elim (take_fault node sent.epoch sent.frame) [ None ↦ 0 | Some reason ↦ 1 ]

-- how many it refuses of frames that it is handed in turn
abbrev pub refusals : Destination → List Sent → ℕ
refusals node [] = 0
refusals node (sent ∷ frames) = refusals_of node sent + refusals (after_frame node sent) frames

-- a count once `more` is added, where it has 64 bits for the sum
abbrev pub Adds : ℕ → ℕ → ℕ → Type 0
Adds old more new = old + more < 2 ^ 64 → new ≡ old + more
