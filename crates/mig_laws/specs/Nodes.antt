-- What a step of a guest or of a node gives, changed by a map of bytes.
use Rattle.std.specs.Prelude.{ℕ, ◌/◌, List, map, Result, Ok, Err}
use Rattle.foundation.specs.declared.TheConstants.{PAGE_SIZE}
use Rattle.mig_base.specs.declared.refusal.Refusal.{Refusal}
use Rattle.mig_model.specs.Destination.{Destination}
use Rattle.mig_model.specs.GuestSteps.{Tried}
use Rattle.mig_model.specs.NodeSteps.{Acted, Sends}
use Rattle.mig_model.specs.Source.{Source, bytes_of}
use Rattle.mig_laws.specs.Contents.{entry_under, guest_under}
use Rattle.mig_laws.specs.Worlds.{destination_under, effect_under, frame_under, source_under}

-- what a step gives, changed by a function; a refusal stays
abbrev pub map_ok : {A B : Type 0} → (A → B) → Result A Refusal → Result B Refusal
map_ok change (Ok given) = Ok (change given)
map_ok change (Err refusal) = Err refusal

-- the bytes of the page of a source at an address
abbrev pub own_bytes : Source → ℕ → List ℕ
own_bytes node = λ addr. bytes_of node (addr / PAGE_SIZE)

-- an accepted command of a guest; `bytes` are those of the page at an address, as in `effect_under`
abbrev pub tried_under : (ℕ → ℕ) → (bytes : ℕ → List ℕ) → Tried → Tried
tried_under f bytes tried = record { effect = effect_under f bytes tried.effect; entries = map (entry_under f) tried.entries; guest = guest_under f tried.guest }

-- an accepted step of a source that sends nothing
abbrev pub source_acted_under : (ℕ → ℕ) → (bytes : ℕ → List ℕ) → Acted Source → Acted Source
source_acted_under f bytes acted = record { effect = effect_under f bytes acted.effect; node = source_under f acted.node }

-- an accepted step of a source that may send
abbrev pub source_sends_under : (ℕ → ℕ) → (bytes : ℕ → List ℕ) → Sends Source → Sends Source
source_sends_under f bytes sends =
    record { effect = effect_under f bytes sends.effect; frames = map (frame_under f) sends.frames; node = source_under f sends.node }

-- an accepted step of a destination that sends nothing
abbrev pub destination_acted_under : (ℕ → ℕ) → (bytes : ℕ → List ℕ) → Acted Destination → Acted Destination
destination_acted_under f bytes acted = record { effect = effect_under f bytes acted.effect; node = destination_under f acted.node }

-- an accepted step of a destination that may send
abbrev pub destination_sends_under : (ℕ → ℕ) → (bytes : ℕ → List ℕ) → Sends Destination → Sends Destination
destination_sends_under f bytes sends =
    record { effect = effect_under f bytes sends.effect; frames = map (frame_under f) sends.frames; node = destination_under f sends.node }
