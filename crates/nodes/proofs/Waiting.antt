-- Faults by their names, and frames that wait.
use Rattle.std.proofs.Common.{◌≡◌, ◌⊎◌, ℕ, Option, Some, None, inl, inr, sym, ap, ◌∙◌}
use Rattle.std.specs.Prelude.{unwrap_or}
use Rattle.std.specs.Option.{option_map}
use Rattle.mig_model.specs.Destination.{Destination, destination_answers, destination_took}
use Rattle.mig_model.specs.Wire.{Frame, Wire, wire_with}
use Rattle.nodes.specs.DestinationCalls.{taken}
use Rattle.nodes.specs.Nodes.{PostingDestination}
use Rattle.nodes.specs.declared.fault.FrameFault.{FrameFault}

-- the fault of a frame that is not taken, by its name
pub named : {Fault : Type 0} (name_of : Fault → FrameFault) (lack : Fault) (found : Option Fault) (fault : Fault) (name : FrameFault) → name_of lack ≡ FrameFault.NoMemory → fault ≡ unwrap_or found lack → name ≡ name_of fault
    → (name ≡ FrameFault.NoMemory) ⊎ (option_map name_of found ≡ Some name)
named name_of lack None fault name memory is by_name = inl (by_name ∙ ap name_of is ∙ memory)
named name_of lack (Some reason) fault name memory is by_name = inr (ap (λ (f : FrameFault). Some f) (sym (by_name ∙ ap name_of is)))

-- a destination with the wire of the frames that wait
abbrev pub posting : Destination → Wire → PostingDestination
posting node wire = record { node = node; wire = wire }

-- a frame is taken, and its answers wait
pub took_posted : (old : PostingDestination) (new : Destination) (wire : Wire) (epoch : ℕ) (frame : Frame) → new ≡ destination_took old.node epoch frame → wire ≡ wire_with old.wire new.epoch (destination_answers old.node frame) → posting new wire ≡ taken old epoch frame
took_posted old new wire epoch frame took sent =
    ap (λ (w : Wire). posting new w) sent ∙ ap (λ (n : Destination). posting n (wire_with old.wire n.epoch (destination_answers old.node frame))) took
