-- The calls of a destination of its own: each is the destination's step of its name, and the frames that it sends back wait.
use Rattle.std.specs.Prelude.{◌≡◌, ◌⊎◌, ℕ, zero, suc, ◌+◌, ◌*◌, ◌≤◌, Option, Result, Ok, Err, Some, None, List, []}
use Rattle.foundation.specs.declared.TheConstants.{PAGE_SIZE}
use Rattle.mig_base.specs.declared.effect.Effect.{Effect}
use Rattle.mig_base.specs.declared.refusal.Refusal.{Refusal}
use Rattle.mig_model.specs.Destination.{Destination, destination_answers, destination_took, urgent_took}
use Rattle.mig_model.specs.DestinationSteps as destination
use Rattle.mig_model.specs.Effects.{frame_effect}
use Rattle.mig_model.specs.GuestSteps as guest
use Rattle.mig_model.specs.GuestSteps.{Tried}
use Rattle.mig_model.specs.NodeSteps.{Acted, Sends, acted}
use Rattle.mig_model.specs.Wire.{Frame, Sent, wire_with}
use Rattle.frame_decoder.specs.Streams.{IsTextOf}
use Rattle.frame_decoder.specs.declared.version.Version.{Version}
use Rattle.nodes.specs.Faults.{taking_fault, urgent_taking_fault}
use Rattle.nodes.specs.Heads.{IsHeadOfPage, IsHeadOfRun}
use Rattle.nodes.specs.Nodes.{PostingDestination}
use Rattle.nodes.specs.declared.fault.FrameFault.{FrameFault}
use Rattle.nodes.specs.declared.steps.DestinationStep.{DestinationStep}

-- what a call gives: its effect and the node after it, or its refusal
abbrev pub Answer : Type 0
Answer = Result (Acted PostingDestination) Refusal

-- the frames of a step wait after those that wait already
abbrev pub posts : PostingDestination → Result (Sends Destination) Refusal → Answer
posts old (Ok step) = acted step.effect (record { node = step.node; wire = wire_with old.wire step.node.epoch step.frames })
posts old (Err refusal) = Err refusal

-- a step that sends nothing
abbrev pub acts : PostingDestination → Result (Acted Destination) Refusal → Answer
acts old (Ok step) = acted step.effect (record old { node = step.node })
acts old (Err refusal) = Err refusal

-- a command of a processor
abbrev pub tries : PostingDestination → Result Tried Refusal → Answer
tries old (Ok step) = acted step.effect (record old { node = record old.node { guest = step.guest } })
tries old (Err refusal) = Err refusal

-- what each call gives
abbrev pub answer : DestinationStep → PostingDestination → Answer
answer (DestinationStep.Issue cpu command) old = tries old (guest.issue old.node.guest old.node.has_run cpu command)
answer (DestinationStep.Retry cpu) old = tries old (guest.retry old.node.guest old.node.has_run cpu)
answer DestinationStep.Read old = acts old (destination.read old.node)
answer DestinationStep.Act old = posts old (destination.act old.node)
answer DestinationStep.Install old = acts old (destination.install old.node)
answer DestinationStep.Notice old = acts old (destination.pause old.node)

-- a frame that is taken: the node after it, and its answers wait
abbrev pub taken : PostingDestination → ℕ → Frame → PostingDestination
taken old epoch frame =
    record {
      node = destination_took old.node epoch frame;
      wire = wire_with old.wire (destination_took old.node epoch frame).epoch (destination_answers old.node frame);
    }

-- pages of zeros that are taken one after the other
abbrev pub zeros_taken : PostingDestination → ℕ → ℕ → ℕ → PostingDestination
zeros_taken old epoch first zero = old
zeros_taken old epoch first (suc count) = taken (zeros_taken old epoch first count) epoch (Frame.Zero (first + count))

-- What bytes say

-- what the bytes of a frame say to a node that has no bytes of pages: a frame, or a run of pages of zeros
pub data Handed : Type 0 where
  AFrame : (sent : Sent) → Handed
  ZeroRun : (epoch first count : ℕ) → Handed

-- the bytes say this: they are the text of a frame, the head of a Page, whose page is taken as one of zeros, or the head of a Run
abbrev pub Says : List ℕ → Handed → Type 0
Says bytes (AFrame sent) = ((version : Version) × IsTextOf version bytes sent) ⊎ ((page : ℕ) × IsHeadOfPage bytes sent.epoch page × (sent.frame ≡ Frame.Zero page))
Says bytes (ZeroRun epoch first count) = IsHeadOfRun bytes epoch first count

-- the bytes say nothing: they are neither a text nor a head
abbrev pub SaysNothing : List ℕ → Type 0
SaysNothing bytes = (handed : Handed) → Says bytes handed → ⊥

-- the bytes say no frame of the urgent wire, which has no Run
abbrev pub SaysNoFrame : List ℕ → Type 0
SaysNoFrame bytes = (sent : Sent) → Says bytes (AFrame sent) → ⊥

-- the effect of taking it
abbrev pub effect_said : Handed → Effect
effect_said (AFrame sent) = frame_effect sent.frame
effect_said (ZeroRun epoch first count) = Effect.TookRun (PAGE_SIZE * first) count

-- the answer to what the bytes say: it is taken, with this effect and this node after it, or memory ran out; but if a fault keeps it away,
-- the answer is that fault, or memory ran out
abbrev pub IsAnswer : Option FrameFault → Effect → PostingDestination → Result Effect FrameFault → PostingDestination → Type 0
IsAnswer None effect after (Ok made) new = (made ≡ effect) × (new ≡ after)
IsAnswer None effect after (Err fault) new = fault ≡ FrameFault.NoMemory
IsAnswer (Some reason) effect after (Ok made) new = ⊥
IsAnswer (Some reason) effect after (Err fault) new = (fault ≡ reason) ⊎ (fault ≡ FrameFault.NoMemory)

-- The wire from the source

-- why it is not taken, if it is not
abbrev pub fault_of : Destination → Handed → Option FrameFault
fault_of node (AFrame sent) = taking_fault node sent.epoch sent.frame
fault_of node (ZeroRun epoch first count) = taking_fault node epoch (Frame.Run first [])

-- the node after it is taken
abbrev pub after : PostingDestination → Handed → PostingDestination
after old (AFrame sent) = taken old sent.epoch sent.frame
after old (ZeroRun epoch first count) = zeros_taken old epoch first count

-- the bytes are taken as what they say
pub record IsTaken (bytes : List ℕ) (old : PostingDestination) (effect : Effect) (new : PostingDestination) : Type 0 where
  pub handed : Handed
  pub says : Says bytes handed
  pub accepted : fault_of old.node handed ≡ None
  pub effect_is : effect ≡ effect_said handed
  pub new_is : new ≡ after old handed

-- why bytes are not taken: memory ran out, they say nothing, or the destination refuses what they say
abbrev pub MayNotTake : List ℕ → PostingDestination → FrameFault → Type 0
MayNotTake bytes old fault =
    (fault ≡ FrameFault.NoMemory)
    ⊎ (((fault ≡ FrameFault.NotAFrame) × SaysNothing bytes) ⊎ ((handed : Handed) × Says bytes handed × (fault_of old.node handed ≡ Some fault)))

-- the node after bytes that were not taken: as it was, or with the first pages of a Run, during which memory ran out
abbrev pub IsLeft : List ℕ → PostingDestination → PostingDestination → Type 0
IsLeft bytes old new =
    (new ≡ old) ⊎ ((epoch : ℕ) × (first : ℕ) × (count : ℕ) × (kept : ℕ) × Says bytes (ZeroRun epoch first count) × (kept ≤ count) × (new ≡ zeros_taken old epoch first kept))

-- The urgent wire

-- a frame of the urgent wire that is taken: its copy waits to be installed, and nothing is sent
abbrev pub urgently_taken : PostingDestination → Frame → PostingDestination
urgently_taken old frame = record old { node = urgent_took old.node frame }

-- why it is not taken on the urgent wire, if it is not
abbrev pub urgent_fault_of : Destination → Handed → Option FrameFault
urgent_fault_of node (AFrame sent) = urgent_taking_fault node sent.epoch sent.frame
urgent_fault_of node (ZeroRun epoch first count) = Some FrameFault.NotAFrame

-- the node after it is taken there
abbrev pub urgent_after : PostingDestination → Handed → PostingDestination
urgent_after old (AFrame sent) = urgently_taken old sent.frame
urgent_after old (ZeroRun epoch first count) = old

-- the bytes of the urgent wire are taken as what they say
pub record IsTakenUrgently (bytes : List ℕ) (old : PostingDestination) (effect : Effect) (new : PostingDestination) : Type 0 where
  pub sent : Sent
  pub says : Says bytes (AFrame sent)
  pub accepted : urgent_taking_fault old.node sent.epoch sent.frame ≡ None
  pub effect_is : effect ≡ frame_effect sent.frame
  pub new_is : new ≡ urgently_taken old sent.frame

-- why they are not: memory ran out, they say no frame, or the destination refuses the frame
abbrev pub MayNotTakeUrgently : List ℕ → PostingDestination → FrameFault → Type 0
MayNotTakeUrgently bytes old fault =
    (fault ≡ FrameFault.NoMemory)
    ⊎ (((fault ≡ FrameFault.NotAFrame) × SaysNoFrame bytes) ⊎ ((sent : Sent) × Says bytes (AFrame sent) × (urgent_taking_fault old.node sent.epoch sent.frame ≡ Some fault)))
