-- An accepted call of a node of its own, as a line of the log of that node: `mig_laws` says of two such logs that they are one world.
use Rattle.std.specs.Prelude.{◌≡◌, ℕ, Bool, true, false, if◌then◌else◌, Ok, List, [], ◌∷◌, replicate}
use Rattle.mig_base.specs.Bytes.{zero_page}
use Rattle.mig_base.specs.declared.effect.Effect.{Effect}
use Rattle.mig_base.specs.declared.phase.DestPhase.{DestPhase}
use Rattle.mig_base.specs.declared.schedule.Step.{Step}
use Rattle.mig_model.specs.Destination.{Destination, is_running}
use Rattle.mig_model.specs.Source.{Source}
use Rattle.mig_model.specs.Wire.{Frame, Sent, wire_with}
use Rattle.mig_laws.specs.Sides.{Did, Line, destination_line, source_line}
use Rattle.frame_decoder.specs.Streams.{IsTextOf}
use Rattle.frame_decoder.specs.declared.version.Version.{Version}
use Rattle.nodes.specs.DestinationCalls.{AFrame, Handed, Says, ZeroRun}
use Rattle.nodes.specs.Nodes.{PostingDestination, PostingSource}

-- The source

-- whether the caller sends the frame of a line, since it has the bytes of its pages
abbrev pub is_handed_out : Line → Bool
is_handed_out (Line.Made Step.Send) = true
is_handed_out (Line.Made (Step.SendRun count)) = true
is_handed_out (Line.Made (Step.Push ticket)) = true
is_handed_out (Line.Made (Step.PushUrgent ticket)) = true
is_handed_out line = false

-- the source does not refuse the line, which has this effect and leaves this node. Its frames are the caller's to send, or wait after those
-- that wait already; then none is for the urgent wire
pub record IsSourceLine (old : PostingSource) (line : Line) (effect : Effect) (new : PostingSource) : Type 0 where
  pub did : Did Source
  pub gives : source_line old.node line ≡ Ok did
  pub effect_is : effect ≡ did.effect
  pub node_is : new.node ≡ did.node
  pub waits : new.wire ≡ wire_with old.wire did.node.epoch (if is_handed_out line then [] else did.frames)
  pub none_urgent : is_handed_out line ≡ false → did.urgent ≡ []

-- bytes came back that are the text of a frame of the source's own epoch: the line takes it
pub record IsLoggedBack (bytes : List ℕ) (old : PostingSource) (effect : Effect) (new : PostingSource) : Type 0 where
  pub version : Version
  pub sent : Sent
  pub text : IsTextOf version bytes sent
  pub own_epoch : sent.epoch ≡ old.node.epoch
  pub line : IsSourceLine old (Line.Took sent) effect new

-- accepted calls of a source in turn, each with its line. What becomes of the frames that wait in between is the caller's
abbrev pub AreSourceLines : PostingSource → List Line → PostingSource → Type 0
AreSourceLines old [] new = new.node ≡ old.node
AreSourceLines old (line ∷ lines) new =
    (now : PostingSource) × (effect : Effect) × (next : PostingSource) × (now.node ≡ old.node) × IsSourceLine now line effect next × AreSourceLines next lines new

-- The destination

-- the same of a destination, all of whose frames wait
pub record IsDestinationLine (old : PostingDestination) (line : Line) (effect : Effect) (new : PostingDestination) : Type 0 where
  pub did : Did Destination
  pub gives : destination_line old.node line ≡ Ok did
  pub effect_is : effect ≡ did.effect
  pub node_is : new.node ≡ did.node
  pub waits : new.wire ≡ wire_with old.wire did.node.epoch did.frames

-- the same of a destination
abbrev pub AreDestinationLines : PostingDestination → List Line → PostingDestination → Type 0
AreDestinationLines old [] new = new.node ≡ old.node
AreDestinationLines old (line ∷ lines) new =
    (now : PostingDestination) × (effect : Effect) × (next : PostingDestination) × (now.node ≡ old.node) × IsDestinationLine now line effect next × AreDestinationLines next lines new

-- the frame that a destination is handed by bytes: of a run, whose pages stay with the caller, each page is one of zeros
abbrev pub frame_said : Handed → Sent
frame_said (AFrame sent) = sent
frame_said (ZeroRun epoch first count) = record { epoch = epoch; frame = Frame.Run first (replicate count zero_page) }

-- whether a destination of this phase waits for a Package
abbrev pub awaits_package : DestPhase → Bool
awaits_package DestPhase.Idle = true
awaits_package DestPhase.Advised = true
awaits_package DestPhase.Discarding = true
awaits_package phase = false

-- a destination has run where its phase is Running, and has not where it waits for a Package
pub record RanByPhase (node : Destination) : Type 0 where
  pub waiting : awaits_package node.phase ≡ true → node.has_run ≡ false
  pub running : is_running node.phase ≡ true → node.has_run ≡ true

-- bytes came that say a frame: the line takes it, where the phase of the destination says whether it has run
pub record IsLoggedTake (bytes : List ℕ) (old : PostingDestination) (effect : Effect) (new : PostingDestination) : Type 0 where
  pub handed : Handed
  pub says : Says bytes handed
  pub line : RanByPhase old.node → IsDestinationLine old (Line.Took (frame_said handed)) effect new

-- the same of bytes of the urgent wire, which has no Run
pub record IsLoggedUrgently (bytes : List ℕ) (old : PostingDestination) (effect : Effect) (new : PostingDestination) : Type 0 where
  pub sent : Sent
  pub says : Says bytes (AFrame sent)
  pub line : RanByPhase old.node → IsDestinationLine old (Line.TookUrgent sent) effect new
