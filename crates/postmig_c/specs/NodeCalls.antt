-- The effect of the calls on a node of its own.
use Rattle.std.specs.Prelude.{◌≡◌, ℕ, not, Result, Ok, Err, List, length}
use Rattle.std.specs.FinSet as finset
use Rattle.std.specs.FinMap as finmap
use Rattle.std.specs.declared.option.Option.{Option}
use Rattle.std.specs.declared.option.Option.TheVariants.{Some}
use Rattle.foundation.specs.Tests.{is_empty}
use Rattle.mig_base.specs.Userfault.{changing}
use Rattle.mig_base.specs.declared.phase.DestPhase.{DestPhase}
use Rattle.mig_base.specs.declared.phase.SourcePhase.{SourcePhase}
use Rattle.mig_base.specs.declared.refusal.Refusal.{Refusal}
use Rattle.mig_base.specs.declared.schedule.Step.{Step}
use Rattle.mig_base.specs.declared.effect.Effect.{Effect}
use Rattle.mig_model.specs.NodeSteps.{IsRefusedFor, acted}
use Rattle.mig_model.specs.Wire.{Wire, empty_wire}
use Rattle.nodes.specs.Nodes.{PostingDestination, PostingSource}
use Rattle.nodes.specs.DestinationCalls as destination
use Rattle.nodes.specs.SourceCalls as source
use Rattle.nodes.specs.Traces.{Traced, and_line, destination_step, source_step, whole_frame}
use Rattle.nodes.specs.declared.fault.FrameFault.{FrameFault}
use Rattle.nodes.specs.declared.steps.DestinationStep.{DestinationStep}
use Rattle.nodes.specs.declared.steps.SourceStep.{SourceStep}
use Rattle.postmig_c.specs.declared.destination_calls.DestinationCounts.{DestinationCounts}
use Rattle.postmig_c.specs.declared.effects.EffectNumbers.{EffectNumbers}
use Rattle.postmig_c.specs.declared.handle.Content.{Content}
use Rattle.postmig_c.specs.declared.handle.Content.TheVariants.{Source, Destination}
use Rattle.postmig_c.specs.declared.source_calls.SourceCounts.{SourceCounts}
use Rattle.postmig_c.specs.Effects.{bool_number, effect_numbers}
use Rattle.postmig_c.specs.Refusals.{fault_status, refusal_status}

-- A source

-- the handle has no source
abbrev pub HasNoSource : Option Content → Type 0
HasNoSource (Some (Source traced)) = ⊥
HasNoSource content = Unit {0}

-- the handle has a source, and this holds of it
abbrev pub TellsSource : Option Content → (PostingSource → Type 0) → Type 0
TellsSource (Some (Source traced)) P = P traced.node
TellsSource content P = ⊥

-- the handle has a source with its trace, and this holds of them
abbrev pub OfSource : Option Content → (Traced PostingSource → Type 0) → Type 0
OfSource (Some (Source traced)) P = P traced
OfSource content P = ⊥

-- the handle had a source and has one, and this holds of the two with their traces
abbrev pub HasSources : Option Content → Option Content → (Traced PostingSource → Traced PostingSource → Type 0) → Type 0
HasSources old new P = OfSource old (λ before. OfSource new (P before))

-- the call is the source's own, these are the numbers of its effect, and a trace has its line
pub record SourceMakes (step : SourceStep) (old : Traced PostingSource) (numbers : EffectNumbers) (new : Traced PostingSource) : Type 0 where
  pub effect : Effect
  pub made : source.answer step old.node ≡ acted effect new.node
  pub numbers_are : numbers ≡ effect_numbers effect
  pub line : new.trace ≡ and_line old.trace (source_step step) effect

-- the source refuses the call, and this is the status of its refusal
pub record SourceRefuses (step : SourceStep) (old : PostingSource) (status : ℕ) : Type 0 where
  pub refusal : Refusal
  pub refused : source.MayBeRefused step old refusal
  pub status_is : status ≡ refusal_status refusal

-- the bytes are a frame that the source takes, these are the numbers of its effect, and a trace has the line of that delivery
pub record SourceTakes (bytes : List ℕ) (old : Traced PostingSource) (numbers : EffectNumbers) (new : Traced PostingSource) : Type 0 where
  pub effect : Effect
  pub returned : source.IsReturned bytes old.node effect new.node
  pub numbers_are : numbers ≡ effect_numbers effect
  pub line : new.trace ≡ and_line old.trace (Step.DeliverBack whole_frame) effect

-- the source does not take the bytes, and this is the status of the reason
pub record SourceTakesNot (bytes : List ℕ) (old : PostingSource) (status : ℕ) : Type 0 where
  pub fault : FrameFault
  pub refused : source.MayNotReturn bytes old fault
  pub status_is : status ≡ fault_status fault

-- the status of a check: 0, or that of its refusal
abbrev pub Checks : Result (Unit {0}) Refusal → ℕ → Type 0
Checks (Ok unit) status = status ≡ 0
Checks (Err refusal) status = status ≡ refusal_status refusal

-- the number of a phase
abbrev pub source_phase : SourcePhase → ℕ
source_phase SourcePhase.Idle = 0
source_phase SourcePhase.Precopy = 1
source_phase SourcePhase.Stopped = 2
source_phase SourcePhase.Paused = 3
source_phase SourcePhase.Released = 4

-- how far a source has come, in numbers
abbrev pub source_counts : PostingSource → SourceCounts
source_counts posting =
    record {
      phase = source_phase posting.node.phase;
      switched = bool_number posting.node.switched;
      epoch = posting.node.epoch;
      rounds = posting.node.rounds;
      remaining = finset.len posting.node.remaining;
      waiting = bool_number (not (is_empty posting.wire.frames));
      asked = length posting.node.asked;
      held = length posting.node.log.held;
      changing = changing posting.node.guest.space.object;
      pages_sent = posting.node.pages_sent;
      faults = posting.node.faults;
    }

-- A destination

-- the handle has no destination
abbrev pub HasNoDestination : Option Content → Type 0
HasNoDestination (Some (Destination traced)) = ⊥
HasNoDestination content = Unit {0}

-- the handle has a destination, and this holds of it
abbrev pub TellsDestination : Option Content → (PostingDestination → Type 0) → Type 0
TellsDestination (Some (Destination traced)) P = P traced.node
TellsDestination content P = ⊥

-- the handle has a destination with its trace, and this holds of them
abbrev pub OfDestination : Option Content → (Traced PostingDestination → Type 0) → Type 0
OfDestination (Some (Destination traced)) P = P traced
OfDestination content P = ⊥

-- the handle had a destination and has one, and this holds of the two with their traces
abbrev pub HasDestinations : Option Content → Option Content → (Traced PostingDestination → Traced PostingDestination → Type 0) → Type 0
HasDestinations old new P = OfDestination old (λ before. OfDestination new (P before))

-- the call is the destination's own, these are the numbers of its effect, and a trace has its line
pub record DestinationMakes (step : DestinationStep) (old : Traced PostingDestination) (numbers : EffectNumbers) (new : Traced PostingDestination) : Type 0 where
  pub effect : Effect
  pub made : destination.answer step old.node ≡ acted effect new.node
  pub numbers_are : numbers ≡ effect_numbers effect
  pub line : new.trace ≡ and_line old.trace (destination_step step) effect

-- the destination refuses the call, and this is the status of its refusal
pub record DestinationRefuses (step : DestinationStep) (old : PostingDestination) (status : ℕ) : Type 0 where
  pub refusal : Refusal
  pub refused : IsRefusedFor (destination.answer step old) refusal
  pub status_is : status ≡ refusal_status refusal

-- the destination takes what the bytes say, these are the numbers of its effect, and a trace has the line of that delivery
pub record DestinationTakes (bytes : List ℕ) (old : Traced PostingDestination) (numbers : EffectNumbers) (new : Traced PostingDestination) : Type 0 where
  pub effect : Effect
  pub taken : destination.IsTaken bytes old.node effect new.node
  pub numbers_are : numbers ≡ effect_numbers effect
  pub line : new.trace ≡ and_line old.trace (Step.Deliver whole_frame) effect

-- the destination does not take the bytes, and this is the status of the reason
pub record DestinationTakesNot (bytes : List ℕ) (old : PostingDestination) (status : ℕ) : Type 0 where
  pub fault : FrameFault
  pub refused : destination.MayNotTake bytes old fault
  pub status_is : status ≡ fault_status fault

-- a destination after a call that took nothing: as it was, or with the first pages of a Run, and the same trace
pub record DestinationIsLeft (bytes : List ℕ) (old new : Traced PostingDestination) : Type 0 where
  pub left : destination.IsLeft bytes old.node new.node
  pub trace_is : new.trace ≡ old.trace

-- the destination takes the frame of the urgent wire that the bytes say
pub record DestinationTakesUrgently (bytes : List ℕ) (old : Traced PostingDestination) (numbers : EffectNumbers) (new : Traced PostingDestination) : Type 0 where
  pub effect : Effect
  pub taken : destination.IsTakenUrgently bytes old.node effect new.node
  pub numbers_are : numbers ≡ effect_numbers effect
  pub line : new.trace ≡ and_line old.trace (Step.DeliverUrgent whole_frame) effect

-- it does not, and this is the status of the reason
pub record DestinationTakesNotUrgently (bytes : List ℕ) (old : PostingDestination) (status : ℕ) : Type 0 where
  pub fault : FrameFault
  pub refused : destination.MayNotTakeUrgently bytes old fault
  pub status_is : status ≡ fault_status fault

-- the number of a phase
abbrev pub destination_phase : DestPhase → ℕ
destination_phase DestPhase.Idle = 0
destination_phase DestPhase.Advised = 1
destination_phase DestPhase.Discarding = 2
destination_phase DestPhase.Running = 3
destination_phase DestPhase.Paused = 4
destination_phase DestPhase.Ended = 5

-- how far a destination has come, in numbers
abbrev pub destination_counts : PostingDestination → DestinationCounts
destination_counts posting =
    record {
      phase = destination_phase posting.node.phase;
      has_run = bool_number posting.node.has_run;
      epoch = posting.node.epoch;
      owed = finmap.len posting.node.owed;
      waiting = bool_number (not (is_empty posting.wire.frames));
      requests = length posting.node.requests;
      arrivals = length posting.node.arrivals;
      changing = changing posting.node.guest.space.object;
      installed = posting.node.installed;
      dropped = posting.node.dropped;
      faults = posting.node.faults;
    }

-- Either

-- the handle has no node
abbrev pub HasNoNode : Option Content → Type 0
HasNoNode (Some (Source traced)) = ⊥
HasNoNode (Some (Destination traced)) = ⊥
HasNoNode content = Unit {0}

-- the handle has a node, and this holds of the frames that wait in it
abbrev pub TellsWire : Option Content → (Wire → Type 0) → Type 0
TellsWire (Some (Source traced)) P = P traced.node.wire
TellsWire (Some (Destination traced)) P = P traced.node.wire
TellsWire content P = ⊥

-- the handle with a node in which no frame waits
abbrev pub drained : Option Content → Option Content
drained (Some (Source traced)) = Some (Source (record traced { node = record traced.node { wire = empty_wire } }))
drained (Some (Destination traced)) = Some (Destination (record traced { node = record traced.node { wire = empty_wire } }))
drained content = content
