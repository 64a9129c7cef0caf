-- The statuses of outcomes: 0 for an effect, and the status of its reason for anything else.
use Rattle.std.proofs.Common.{◌≡◌, ◌⊎◌, ℕ, ◌<◌, Result, Ok, Err, IfOk, IfErr, OnErr, List, inl, inr, ⊎_elim, sym, subst, arith}
use Rattle.std.specs.Prelude.{◌≢◌}
use Rattle.mig_base.specs.declared.effect.Effect.{Effect}
use Rattle.mig_base.specs.declared.refusal.Refusal.{Refusal}
use Rattle.mig_base.specs.declared.schedule.Step.{Step}
use Rattle.mig_model.specs.NodeSteps.{IsRefusedFor, acted}
use Rattle.nodes.specs.DestinationCalls as destination
use Rattle.nodes.specs.Nodes.{PostingDestination, PostingSource}
use Rattle.nodes.specs.SourceCalls as source
use Rattle.nodes.specs.Traces.{Traced, and_line, destination_step, source_step, whole_frame}
use Rattle.nodes.specs.declared.fault.FrameFault.{FrameFault}
use Rattle.nodes.specs.declared.steps.DestinationStep.{DestinationStep}
use Rattle.nodes.specs.declared.steps.SourceStep.{SourceStep}
use Rattle.postmig_c.specs.Effects.{effect_numbers}
use Rattle.postmig_c.specs.NodeCalls.{DestinationMakes, DestinationIsLeft, DestinationRefuses, DestinationTakes, DestinationTakesNot, DestinationTakesNotUrgently, DestinationTakesUrgently, SourceMakes, SourceRefuses, SourceTakes, SourceTakesNot}
use Rattle.postmig_c.specs.Refusals.{fault_status, refusal_status}
use Rattle.postmig_c.specs.declared.effects.EffectNumbers.{EffectNumbers}

-- a refusal has the status of lack of memory, or one from 65 on
abbrev pub IsRefusal : ℕ → Type 0
IsRefusal status = (status ≡ 4) ⊎ (64 < status)

pub refusal-range : (refusal : Refusal) → IsRefusal (refusal_status refusal)
refusal-range Refusal.NoCpu = inr (omega arith)
refusal-range Refusal.Busy = inr (omega arith)
refusal-range Refusal.NotAsleep = inr (omega arith)
refusal-range Refusal.NotWoken = inr (omega arith)
refusal-range Refusal.Phase = inr (omega arith)
refusal-range Refusal.Broken = inr (omega arith)
refusal-range Refusal.NotBroken = inr (omega arith)
refusal-range Refusal.StaleEpoch = inr (omega arith)
refusal-range Refusal.NothingThere = inr (omega arith)
refusal-range Refusal.Changing = inr (omega arith)
refusal-range Refusal.InstallFirst = inr (omega arith)
refusal-range Refusal.PageNotSendable = inr (omega arith)
refusal-range Refusal.NotRemaining = inr (omega arith)
refusal-range Refusal.PagesLeft = inr (omega arith)
refusal-range Refusal.CountUsed = inr (omega arith)
refusal-range Refusal.UrgentFirst = inr (omega arith)
refusal-range Refusal.NoMemory = inl (omega arith)

-- so has a frame that is not taken; or 11
abbrev pub IsFault : ℕ → Type 0
IsFault status = (status ≡ 4) ⊎ ((status ≡ 11) ⊎ (64 < status))

pub fault-range : (fault : FrameFault) → IsFault (fault_status fault)
fault-range FrameFault.NotAFrame = inr (inl (omega arith))
fault-range FrameFault.OutOfPlace = inr (inr (omega arith))
fault-range FrameFault.StaleEpoch = inr (inr (omega arith))
fault-range FrameFault.BadFrame = inr (inr (omega arith))
fault-range FrameFault.BadOwed = inr (inr (omega arith))
fault-range FrameFault.InstallFirst = inr (inr (omega arith))
fault-range FrameFault.UrgentFirst = inr (inr (omega arith))
fault-range FrameFault.NoMemory = inl (omega arith)

-- Steps

refusal_range : (refusal : Refusal) (status : ℕ) → status ≡ refusal_status refusal → IsRefusal status
refusal_range refusal status is = subst (λ s. IsRefusal s) (sym is) (refusal-range refusal)

pub told_range : (outcome : Result Effect Refusal) (status : ℕ) (numbers : EffectNumbers) → IfOk outcome (λ effect. (status ≡ 0) × (numbers ≡ effect_numbers effect)) → IfErr outcome (λ refusal. status ≡ refusal_status refusal) → (status ≡ 0) ⊎ IsRefusal status
told_range (Ok effect) status numbers made refused = inl made.0
told_range (Err refusal) status numbers made refused = inr (refusal_range refusal status refused)

refusal-not_zero : (status : ℕ) → IsRefusal status → status ≡ 0 → ⊥
refusal-not_zero status range zero = ⊎_elim (λ (h : status ≡ 4). omega (arith, h, zero)) (λ (h : 64 < status). omega (arith, h, zero)) range

-- lack of memory has no status above 64
no_lack : (refusal : Refusal) (status : ℕ) → refusal ≡ Refusal.NoMemory → status ≡ refusal_status refusal → 64 < status → ⊥
no_lack refusal status lack is high = let four : status ≡ 4 = subst (λ (r : Refusal). status ≡ refusal_status r) lack is in omega (arith, four, high)

pub kept_unless : (A : Type 0) (new old : A) (outcome : Result Effect Refusal) (status : ℕ) (numbers : EffectNumbers) → IfOk outcome (λ effect. (status ≡ 0) × (numbers ≡ effect_numbers effect)) → OnErr outcome (new ≡ old) → status ≢ 0 → new ≡ old
kept_unless A new old (Ok effect) status numbers made kept other = absurd (other made.0)
kept_unless A new old (Err refusal) status numbers made kept other = kept

pub source_made : (step : SourceStep) (old new : Traced PostingSource) (outcome : Result Effect Refusal) (status : ℕ) (numbers : EffectNumbers) → IfOk outcome (λ effect. source.answer step old.node ≡ acted effect new.node)
    → IfOk outcome (λ effect. new.trace ≡ and_line old.trace (source_step step) effect)
    → IfOk outcome (λ effect. (status ≡ 0) × (numbers ≡ effect_numbers effect)) → IfErr outcome (λ refusal. status ≡ refusal_status refusal) → status ≡ 0 → SourceMakes step old numbers new
source_made step old new (Ok effect) status numbers made line told refused zero = record { effect = effect; made = made; numbers_are = told.1; line = line }
source_made step old new (Err refusal) status numbers made line told refused zero = absurd (refusal-not_zero status (refusal_range refusal status refused) zero)

pub source_refused : (step : SourceStep) (old : PostingSource) (outcome : Result Effect Refusal) (status : ℕ) (numbers : EffectNumbers) → IfErr outcome (λ refusal. (refusal ≡ Refusal.NoMemory) ⊎ source.MayBeRefused step old refusal)
    → IfOk outcome (λ effect. (status ≡ 0) × (numbers ≡ effect_numbers effect)) → IfErr outcome (λ refusal. status ≡ refusal_status refusal) → 64 < status → SourceRefuses step old status
source_refused step old (Ok effect) status numbers may told refused high = absurd (let zero = told.0 in omega (arith, zero, high))
source_refused step old (Err refusal) status numbers (inl lack) told refused high = absurd (no_lack refusal status lack refused high)
source_refused step old (Err refusal) status numbers (inr may) told refused high = record { refusal = refusal; refused = may; status_is = refused }

pub destination_made : (step : DestinationStep) (old new : Traced PostingDestination) (outcome : Result Effect Refusal) (status : ℕ) (numbers : EffectNumbers) → IfOk outcome (λ effect. destination.answer step old.node ≡ acted effect new.node)
    → IfOk outcome (λ effect. new.trace ≡ and_line old.trace (destination_step step) effect)
    → IfOk outcome (λ effect. (status ≡ 0) × (numbers ≡ effect_numbers effect)) → IfErr outcome (λ refusal. status ≡ refusal_status refusal) → status ≡ 0 → DestinationMakes step old numbers new
destination_made step old new (Ok effect) status numbers made line told refused zero = record { effect = effect; made = made; numbers_are = told.1; line = line }
destination_made step old new (Err refusal) status numbers made line told refused zero = absurd (refusal-not_zero status (refusal_range refusal status refused) zero)

pub destination_refused : (step : DestinationStep) (old : PostingDestination) (outcome : Result Effect Refusal) (status : ℕ) (numbers : EffectNumbers) → IfErr outcome (λ refusal. (refusal ≡ Refusal.NoMemory) ⊎ IsRefusedFor (destination.answer step old) refusal)
    → IfOk outcome (λ effect. (status ≡ 0) × (numbers ≡ effect_numbers effect)) → IfErr outcome (λ refusal. status ≡ refusal_status refusal) → 64 < status → DestinationRefuses step old status
destination_refused step old (Ok effect) status numbers may told refused high = absurd (let zero = told.0 in omega (arith, zero, high))
destination_refused step old (Err refusal) status numbers (inl lack) told refused high = absurd (no_lack refusal status lack refused high)
destination_refused step old (Err refusal) status numbers (inr may) told refused high = record { refusal = refusal; refused = may; status_is = refused }

-- Frames

fault_range : (fault : FrameFault) (status : ℕ) → status ≡ fault_status fault → IsFault status
fault_range fault status is = subst (λ s. IsFault s) (sym is) (fault-range fault)

fault-not_zero : (status : ℕ) → IsFault status → status ≡ 0 → ⊥
fault-not_zero status range zero =
    ⊎_elim (λ (h : status ≡ 4). omega (arith, h, zero)) (λ (rest : (status ≡ 11) ⊎ (64 < status)). ⊎_elim (λ (h : status ≡ 11). omega (arith, h, zero)) (λ (h : 64 < status). omega (arith, h, zero)) rest) range

fault-not_two : (status : ℕ) → IsFault status → status ≡ 2 → ⊥
fault-not_two status range two =
    ⊎_elim (λ (h : status ≡ 4). omega (arith, h, two)) (λ (rest : (status ≡ 11) ⊎ (64 < status)). ⊎_elim (λ (h : status ≡ 11). omega (arith, h, two)) (λ (h : 64 < status). omega (arith, h, two)) rest) range

pub frame_open : (outcome : Result Effect FrameFault) (status : ℕ) (numbers : EffectNumbers) → IfOk outcome (λ effect. (status ≡ 0) × (numbers ≡ effect_numbers effect)) → IfErr outcome (λ fault. status ≡ fault_status fault) → status ≢ 2
frame_open (Ok effect) status numbers told refused = λ two. let zero = told.0 in omega (arith, zero, two)
frame_open (Err fault) status numbers told refused = fault-not_two status (fault_range fault status refused)

pub frame_kept : (A : Type 0) (new old : A) (outcome : Result Effect FrameFault) (status : ℕ) (numbers : EffectNumbers) → IfOk outcome (λ effect. (status ≡ 0) × (numbers ≡ effect_numbers effect)) → OnErr outcome (new ≡ old) → status ≢ 0 → new ≡ old
frame_kept A new old (Ok effect) status numbers told kept other = absurd (other told.0)
frame_kept A new old (Err fault) status numbers told kept other = kept

pub frame_kept_but : (A : Type 0) (new old : A) (outcome : Result Effect FrameFault) (status : ℕ) (numbers : EffectNumbers) → IfOk outcome (λ effect. (status ≡ 0) × (numbers ≡ effect_numbers effect))
    → IfErr outcome (λ fault. status ≡ fault_status fault) → IfErr outcome (λ fault. fault ≢ FrameFault.NoMemory → new ≡ old) → status ≢ 0 → status ≢ 4 → new ≡ old
frame_kept_but A new old (Ok effect) status numbers told refused kept other lack = absurd (other told.0)
frame_kept_but A new old (Err fault) status numbers told refused kept other lack = kept (λ is. lack (subst (λ f. status ≡ fault_status f) is refused))

pub source_takes : (bytes : List ℕ) (old new : Traced PostingSource) (outcome : Result Effect FrameFault) (status : ℕ) (numbers : EffectNumbers) → IfOk outcome (λ effect. source.IsReturned bytes old.node effect new.node)
    → IfOk outcome (λ effect. new.trace ≡ and_line old.trace (Step.DeliverBack whole_frame) effect)
    → IfOk outcome (λ effect. (status ≡ 0) × (numbers ≡ effect_numbers effect)) → IfErr outcome (λ fault. status ≡ fault_status fault) → status ≡ 0 → SourceTakes bytes old numbers new
source_takes bytes old new (Ok effect) status numbers taken line told refused zero = record { effect = effect; returned = taken; numbers_are = told.1; line = line }
source_takes bytes old new (Err fault) status numbers taken line told refused zero = absurd (fault-not_zero status (fault_range fault status refused) zero)

pub source_takes_not : (bytes : List ℕ) (old : PostingSource) (outcome : Result Effect FrameFault) (status : ℕ) (numbers : EffectNumbers) → IfErr outcome (λ fault. source.MayNotReturn bytes old fault)
    → IfOk outcome (λ effect. (status ≡ 0) × (numbers ≡ effect_numbers effect)) → IfErr outcome (λ fault. status ≡ fault_status fault) → status ≢ 0 → SourceTakesNot bytes old status
source_takes_not bytes old (Ok effect) status numbers may told refused other = absurd (other told.0)
source_takes_not bytes old (Err fault) status numbers may told refused other = record { fault = fault; refused = may; status_is = refused }

pub destination_takes : (bytes : List ℕ) (old new : Traced PostingDestination) (outcome : Result Effect FrameFault) (status : ℕ) (numbers : EffectNumbers) → IfOk outcome (λ effect. destination.IsTaken bytes old.node effect new.node)
    → IfOk outcome (λ effect. new.trace ≡ and_line old.trace (Step.Deliver whole_frame) effect)
    → IfOk outcome (λ effect. (status ≡ 0) × (numbers ≡ effect_numbers effect)) → IfErr outcome (λ fault. status ≡ fault_status fault) → status ≡ 0 → DestinationTakes bytes old numbers new
destination_takes bytes old new (Ok effect) status numbers taken line told refused zero = record { effect = effect; taken = taken; numbers_are = told.1; line = line }
destination_takes bytes old new (Err fault) status numbers taken line told refused zero = absurd (fault-not_zero status (fault_range fault status refused) zero)

pub destination_takes_not : (bytes : List ℕ) (old : PostingDestination) (outcome : Result Effect FrameFault) (status : ℕ) (numbers : EffectNumbers) → IfErr outcome (λ fault. destination.MayNotTake bytes old fault)
    → IfOk outcome (λ effect. (status ≡ 0) × (numbers ≡ effect_numbers effect)) → IfErr outcome (λ fault. status ≡ fault_status fault) → status ≢ 0 → DestinationTakesNot bytes old status
destination_takes_not bytes old (Ok effect) status numbers may told refused other = absurd (other told.0)
destination_takes_not bytes old (Err fault) status numbers may told refused other = record { fault = fault; refused = may; status_is = refused }

pub destination_left : (bytes : List ℕ) (old new : Traced PostingDestination) (outcome : Result Effect FrameFault) (status : ℕ) (numbers : EffectNumbers) → OnErr outcome (destination.IsLeft bytes old.node new.node) → OnErr outcome (new.trace ≡ old.trace)
    → IfOk outcome (λ effect. (status ≡ 0) × (numbers ≡ effect_numbers effect)) → status ≢ 0 → DestinationIsLeft bytes old new
destination_left bytes old new (Ok effect) status numbers left same told other = absurd (other told.0)
destination_left bytes old new (Err fault) status numbers left same told other = record { left = left; trace_is = same }

pub destination_takes_urgently : (bytes : List ℕ) (old new : Traced PostingDestination) (outcome : Result Effect FrameFault) (status : ℕ) (numbers : EffectNumbers) → IfOk outcome (λ effect. destination.IsTakenUrgently bytes old.node effect new.node)
    → IfOk outcome (λ effect. new.trace ≡ and_line old.trace (Step.DeliverUrgent whole_frame) effect)
    → IfOk outcome (λ effect. (status ≡ 0) × (numbers ≡ effect_numbers effect)) → IfErr outcome (λ fault. status ≡ fault_status fault) → status ≡ 0 → DestinationTakesUrgently bytes old numbers new
destination_takes_urgently bytes old new (Ok effect) status numbers taken line told refused zero = record { effect = effect; taken = taken; numbers_are = told.1; line = line }
destination_takes_urgently bytes old new (Err fault) status numbers taken line told refused zero = absurd (fault-not_zero status (fault_range fault status refused) zero)

pub destination_takes_not_urgently : (bytes : List ℕ) (old : PostingDestination) (outcome : Result Effect FrameFault) (status : ℕ) (numbers : EffectNumbers) → IfErr outcome (λ fault. destination.MayNotTakeUrgently bytes old fault)
    → IfOk outcome (λ effect. (status ≡ 0) × (numbers ≡ effect_numbers effect)) → IfErr outcome (λ fault. status ≡ fault_status fault) → status ≢ 0 → DestinationTakesNotUrgently bytes old status
destination_takes_not_urgently bytes old (Ok effect) status numbers may told refused other = absurd (other told.0)
destination_takes_not_urgently bytes old (Err fault) status numbers may told refused other = record { fault = fault; refused = may; status_is = refused }
