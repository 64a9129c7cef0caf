-- Codes of frames and wires, by which a proof distinguishes the values of models that contain them.
use Rattle.std.specs.Prelude.{◌≡◌, ℕ, List, Option, ◌⊎◌, refl}
use Rattle.std.proofs.Common.{inl, inr}
use Rattle.std.specs.Ordering.{nat_cmp}
use Rattle.std.specs.FinMap as map
use Rattle.std.specs.FinMap.{FinMap}
use Rattle.std.specs.FinSet as set
use Rattle.std.specs.FinSet.{FinSet}
use Rattle.std.specs.Coded.{Coded, code_by, coded×, coded⊎, coded_ℕ, coded_list, coded_option}
use base.Stored.{coded_unit}
use Rattle.mig_base.specs.Codes.{coded_prot}
use Rattle.mig_base.specs.declared.Prot.{Prot}
use Rattle.mig_base.specs.declared.command.Command.{Command}
use Rattle.mig_base.specs.declared.phase.Received.{Received}
use Rattle.mig_base.specs.contracts.command.Command as command
use Rattle.mig_base.specs.contracts.phase.Received as received
use Rattle.mig_model.specs.Wire.{Frame, Sent}
use Rattle.mig_model.specs.Wire.Frame.{Advise, Page, Zero, Run, Discard, Package, End, Resume, Request, Recv, Done}
use Rattle.wires.specs.Lanes.{Lane}

-- the contents of a frame to the destination
abbrev pub Forward : Type 0
Forward = Unit {0} ⊎ ((ℕ × List ℕ) ⊎ (ℕ ⊎ ((ℕ × List (List ℕ)) ⊎ (FinSet nat_cmp ⊎ ((FinMap nat_cmp Prot × (FinSet nat_cmp × List (Option Command))) ⊎ (ℕ ⊎ Unit {0}))))))

-- the contents of a frame back to the source
abbrev pub Back : Type 0
Back = ℕ ⊎ ((Received × FinSet nat_cmp) ⊎ Unit {0})

-- a frame as its parts
abbrev pub frame_parts : Frame → Forward ⊎ Back
frame_parts Advise = inl (inl tt)
frame_parts (Page page bytes) = inl (inr (inl (page, bytes)))
frame_parts (Zero page) = inl (inr (inr (inl page)))
frame_parts (Run first pages) = inl (inr (inr (inr (inl (first, pages)))))
frame_parts (Discard pages) = inl (inr (inr (inr (inr (inl pages)))))
frame_parts (Package areas owed commands) = inl (inr (inr (inr (inr (inr (inl (areas, (owed, commands))))))))
frame_parts (End urgent) = inl (inr (inr (inr (inr (inr (inr (inl urgent)))))))
frame_parts Resume = inl (inr (inr (inr (inr (inr (inr (inr tt)))))))
frame_parts (Request page) = inr (inl page)
frame_parts (Recv state owed) = inr (inr (inl (state, owed)))
frame_parts Done = inr (inr (inr tt))

-- the frame of the parts
abbrev pub parts_frame : Forward ⊎ Back → Frame
parts_frame (inl (inl bare)) = Advise
parts_frame (inl (inr (inl parts))) = Page parts.0 parts.1
parts_frame (inl (inr (inr (inl page)))) = Zero page
parts_frame (inl (inr (inr (inr (inl parts))))) = Run parts.0 parts.1
parts_frame (inl (inr (inr (inr (inr (inl pages)))))) = Discard pages
parts_frame (inl (inr (inr (inr (inr (inr (inl parts))))))) = Package parts.0 parts.1.0 parts.1.1
parts_frame (inl (inr (inr (inr (inr (inr (inr (inl urgent)))))))) = End urgent
parts_frame (inl (inr (inr (inr (inr (inr (inr (inr bare)))))))) = Resume
parts_frame (inr (inl page)) = Request page
parts_frame (inr (inr (inl parts))) = Recv parts.0 parts.1
parts_frame (inr (inr (inr bare))) = Done

-- no frame is lost: the frame of its parts is the frame itself
abbrev pub parts_frame-frame_parts : (frame : Frame) → parts_frame (frame_parts frame) ≡ frame
parts_frame-frame_parts Advise = refl
parts_frame-frame_parts (Page page bytes) = refl
parts_frame-frame_parts (Zero page) = refl
parts_frame-frame_parts (Run first pages) = refl
parts_frame-frame_parts (Discard pages) = refl
parts_frame-frame_parts (Package areas owed commands) = refl
parts_frame-frame_parts (End urgent) = refl
parts_frame-frame_parts Resume = refl
parts_frame-frame_parts (Request page) = refl
parts_frame-frame_parts (Recv state owed) = refl
parts_frame-frame_parts Done = refl

-- the code of the contents of a frame to the destination
abbrev pub coded_forward : Coded Forward
coded_forward =
    coded⊎ coded_unit
    (coded⊎ (coded× coded_ℕ (coded_list coded_ℕ))
    (coded⊎ coded_ℕ
    (coded⊎ (coded× coded_ℕ (coded_list (coded_list coded_ℕ)))
    (coded⊎ (set.code coded_ℕ)
    (coded⊎ (coded× (map.code coded_ℕ coded_prot) (coded× (set.code coded_ℕ) (coded_list (coded_option command.the_row.coded)))) (coded⊎ coded_ℕ coded_unit))))))

-- the code of the contents of a frame back to the source
abbrev pub coded_back : Coded Back
coded_back = coded⊎ coded_ℕ (coded⊎ (coded× received.the_row.coded (set.code coded_ℕ)) coded_unit)

-- the code of a frame
abbrev pub coded_frame : Coded Frame
coded_frame = code_by (Forward ⊎ Back) (coded⊎ coded_forward coded_back) frame_parts parts_frame parts_frame-frame_parts

-- the code of a frame with its epoch
abbrev pub coded_sent : Coded Sent
coded_sent = code_by (ℕ × Frame) (coded× coded_ℕ coded_frame) (λ s. (s.epoch, s.frame)) (λ p. record { epoch = p.0; frame = p.1 }) (λ _. refl)

-- the code of a wire with its bytes and room
abbrev pub coded_lane : Coded Lane
coded_lane =
    code_by (List Sent × (ℕ × (List (List ℕ) × ℕ))) (coded× (coded_list coded_sent) (coded× coded_ℕ (coded× (coded_list (coded_list coded_ℕ)) coded_ℕ)))
    (λ lane. (lane.wire.frames, (lane.wire.held, (lane.pieces, lane.room))))
    (λ p. record { wire = record { frames = p.0; held = p.1.0 }; pieces = p.1.1.0; room = p.1.1.1 })
    (λ _. refl)
