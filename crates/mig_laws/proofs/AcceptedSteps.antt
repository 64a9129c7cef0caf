-- What an accepted step of a world gives: which enter nothing, what a delivery finds, and the world after it.
use Rattle.std.proofs.lemmas.Bool.Decides.{nat_tests}
use Rattle.std.proofs.Common.{◌≡◌, ◌≢◌, ℕ, ◌&&◌, Bool, true, false, not, List, [], ◌∷◌, refl, sym, ap, subst, ◌∙◌, arith}
use Rattle.std.specs.Prelude.{Result, Ok, Err, IsOk, ok_or}
use Rattle.std.proofs.lemmas.Bool.{false_from_ne_true, false≢true}
use Rattle.mig_base.specs.declared.effect.Effect.{Effect}
use Rattle.mig_base.specs.declared.phase.SourcePhase.{SourcePhase}
use Rattle.mig_base.specs.declared.refusal.Refusal.{Refusal}
use Rattle.mig_base.specs.declared.schedule.Side.{Side}
use Rattle.mig_base.specs.declared.schedule.Step.{Step}
use Rattle.mig_model.specs.Destination.{Destination, urgent_took}
use Rattle.mig_model.specs.Effects.{frame_effect}
use Rattle.mig_model.specs.DestinationSteps as destination
use Rattle.mig_model.specs.Invariant.{IsSoundWorld, Wires}
use Rattle.mig_model.specs.Migration.{Answer, Made, World, answer, delivered, destination_acts, destination_sends, has_started, made, next, next_by, outcome, outcome_by, source_sends}
use Rattle.mig_model.specs.NodeSteps.{Acted, Sends, first_of, in_phase, rest_of, while_down, while_up}
use Rattle.mig_model.specs.Source.{Source, is_released, is_source_idle, is_under_way, source_answers, source_took}
use Rattle.mig_model.specs.SourceSteps as source
use Rattle.mig_model.specs.Wire.{Frame, Sent, Wire, sending, sending_if}
use Rattle.mig_model.proofs.invariant.WireLemmas.{sending-behind}
use Rattle.mig_model.proofs.steps.StepLemmas.{Holds, first_and_rest, holds-and_then, holds-in_phase, holds-ok_or, holds-while_up, leaves-ok}
use Rattle.mig_laws.specs.Sides.{Did, acts, sends, sends_urgently}
use Rattle.mig_laws.proofs.SideForms.{is_source_own, source_linked}

-- Wires

pub sending-first : (sent : Sent) (rest : List Sent) (epoch : ℕ) (frames : List Frame) → sending (sent ∷ rest) epoch frames ≡ sent ∷ sending rest epoch frames
sending-first sent rest epoch frames = sending-behind (sent ∷ rest) epoch frames ∙ ap (λ more. sent ∷ more) (sym (sending-behind rest epoch frames))

pub sending_if-first : (up : Bool) (sent : Sent) (rest : List Sent) (epoch : ℕ) (frames : List Frame) → sending_if up (sent ∷ rest) epoch frames ≡ sent ∷ sending_if up rest epoch frames
sending_if-first true sent rest epoch frames = sending-first sent rest epoch frames
sending_if-first false sent rest epoch frames = refl

-- Steps that are accepted

-- what holds of every accepted answer
pub ok-holds : {A : Type 0} (Q : A → Type 0) (result : Result A Refusal) (done : A) → Holds Q result → result ≡ Ok done → Q done
ok-holds Q result done h is = subst (λ r. Holds Q r) is h

pub answered : (P : Type 0) (world : World) (step : Step) → Holds (λ (m : Made). P) (answer world step) → IsOk (outcome world step) → P
answered P world step h ok = leaves-ok (λ w. P) world step h ok

pub accepted-by : (world : World) (step : Step) (given : Answer) → answer world step ≡ given → IsOk (outcome world step) → IsOk (outcome_by given)
unfolding outcome
accepted-by world step given is ok = subst (λ a. IsOk (outcome_by a)) is ok

pub always : {A : Type 0} (P : Type 0) (result : Result A Refusal) → P → Holds (λ (done : A). P) result
always P (Ok done) h = h
always P (Err refusal) h = tt

holds-down : {A : Type 0} (Q : A → Type 0) (up : Bool) (result : Result A Refusal) → (up ≡ false → Holds Q result) → Holds Q (while_down up result)
holds-down Q false (Ok done) h = h refl
holds-down Q true (Ok done) h = tt
holds-down Q up (Err refusal) h = grind (arith, nat_tests)

-- Entries: only a command enters anything in the transcript

pub acts-quiet : {Node : Type 0} (step : Result (Acted Node) Refusal) → Holds (λ (did : Did Node). did.entries ≡ []) (acts step)
acts-quiet (Ok acted) = refl
acts-quiet (Err refusal) = tt

pub sends-quiet : {Node : Type 0} (step : Result (Sends Node) Refusal) → Holds (λ (did : Did Node). did.entries ≡ []) (sends step)
sends-quiet (Ok sent) = refl
sends-quiet (Err refusal) = tt

urgently-quiet : {Node : Type 0} (step : Result (Sends Node) Refusal) → Holds (λ (did : Did Node). did.entries ≡ []) (sends_urgently step)
urgently-quiet (Ok sent) = refl
urgently-quiet (Err refusal) = tt

-- the source's own steps enter nothing
pub source-quiet : (up : Bool) (node : Source) (step : Step) → is_source_own step ≡ true → Holds (λ (did : Did Source). did.entries ≡ []) (source_linked up node step)
source-quiet up node Step.Start own = sends-quiet (source.start node)
source-quiet up node Step.Round own = acts-quiet (source.round node)
source-quiet up node Step.Send own = holds-while_up _ up _ (λ is. sends-quiet (source.send node))
source-quiet up node (Step.SendRun count) own = holds-while_up _ up _ (λ is. sends-quiet (source.send_run node count))
source-quiet up node Step.SourceRead own = acts-quiet (source.read node)
source-quiet up node Step.SourceAct own = acts-quiet (source.act node)
source-quiet up node Step.Switch own = holds-while_up _ up _ (λ is. sends-quiet (source.switch node))
source-quiet up node (Step.Push ticket) own = holds-while_up _ up _ (λ is. sends-quiet (source.push node ticket))
source-quiet up node (Step.PushUrgent ticket) own = holds-while_up _ up _ (λ is. urgently-quiet (source.push_urgent node ticket))
source-quiet up node Step.Serve own = holds-while_up _ up _ (λ is. acts-quiet (source.serve node))
source-quiet up node Step.End own = holds-while_up _ up _ (λ is. sends-quiet (source.end node))
source-quiet up node (Step.Notice Side.Source) own = holds-down _ up _ (λ is. acts-quiet (source.pause node))
source-quiet up node (Step.Notice Side.Destination) own = absurd (false≢true own)
source-quiet up node (Step.Issue cpu command) own = absurd (false≢true own)
source-quiet up node (Step.Retry cpu) own = absurd (false≢true own)
source-quiet up node (Step.Deliver n) own = absurd (false≢true own)
source-quiet up node (Step.DeliverBack n) own = absurd (false≢true own)
source-quiet up node (Step.DeliverUrgent n) own = absurd (false≢true own)
source-quiet up node Step.DestRead own = absurd (false≢true own)
source-quiet up node Step.DestAct own = absurd (false≢true own)
source-quiet up node Step.Install own = absurd (false≢true own)
source-quiet up node Step.Break own = absurd (false≢true own)
source-quiet up node Step.Resume own = absurd (false≢true own)

-- The source

-- what an accepted delivery finds: the link is up, its phase allows it, and a frame is in flight
pub record Finds (up allowed : Bool) (flight : List Sent) : Type 0 where
  pub up_is : up ≡ true
  pub may : allowed ≡ true
  pub sent : Sent
  pub rest : List Sent
  pub first : flight ≡ sent ∷ rest

finds : (up allowed : Bool) (on : Wire → World) (wire : Wire) (n : ℕ) (take : World → Sent → Answer) → Holds (λ (m : Made). Finds up allowed wire.frames) (while_up up (in_phase allowed (delivered on wire n take)))
finds up allowed on wire n take =
    holds-while_up _ up _ (λ up_is.
    holds-in_phase _ allowed _ (λ may.
    holds-and_then _ (ok_or (first_of wire.frames) Refusal.NothingThere) _ (holds-ok_or _ (first_of wire.frames) Refusal.NothingThere (λ sent is.
    let found : Finds up allowed wire.frames = record { up_is = up_is; may = may; sent = sent; rest = rest_of wire.frames; first = first_and_rest wire.frames sent is } in
    always (Finds up allowed wire.frames) _ found))))

pub finds-back : (world : World) (n : ℕ) → IsOk (outcome world (Step.DeliverBack n)) → Finds world.up (has_started world) world.back.frames
finds-back world n ok =
    answered (Finds world.up (has_started world) world.back.frames) world (Step.DeliverBack n) (finds world.up (has_started world) (λ wire. record world { back = wire }) world.back n (λ behind sent. source_sends behind (source.take behind.source sent.frame))) ok

pub finds-forward : (world : World) (n : ℕ) → IsOk (outcome world (Step.Deliver n)) → Finds world.up (has_started world) world.forward.frames
finds-forward world n ok =
    answered (Finds world.up (has_started world) world.forward.frames) world (Step.Deliver n) (finds world.up (has_started world) (λ wire. record world { forward = wire }) world.forward n (λ behind sent. destination_sends behind (destination.take behind.destination sent.epoch sent.frame))) ok

pub finds-urgent : (world : World) (n : ℕ) → IsOk (outcome world (Step.DeliverUrgent n)) → Finds world.up world.destination.has_run world.urgent.frames
finds-urgent world n ok =
    answered (Finds world.up world.destination.has_run world.urgent.frames) world (Step.DeliverUrgent n) (finds world.up world.destination.has_run (λ wire. record world { urgent = wire }) world.urgent n (λ behind sent. destination_acts behind (destination.take_urgent behind.destination sent.frame))) ok

-- a frame that the source takes
abbrev pub took_back : Source → Frame → Did Source
took_back node frame = record { effect = frame_effect frame; frames = source_answers node frame; urgent = []; entries = []; node = source_took node frame }

-- The destination

-- an urgent frame that the destination takes
abbrev pub took_urgent : Destination → Frame → Did Destination
took_urgent node frame = record { effect = frame_effect frame; frames = []; urgent = []; entries = []; node = urgent_took node frame }

-- Both

-- the world after an accepted step
pub next-made : (world : World) (step : Step) (effect : Effect) (new : World) → answer world step ≡ made effect new → next world step ≡ new
unfolding next
next-made world step effect new is = ap (next_by world) is

pub outcome-made : (world : World) (step : Step) (effect : Effect) (new : World) → answer world step ≡ made effect new → outcome world step ≡ Ok effect
unfolding outcome
outcome-made world step effect new is = ap outcome_by is

started_at : (phase : SourcePhase) → phase ≢ SourcePhase.Idle → is_source_idle phase ≡ false
started_at SourcePhase.Idle not_idle = absurd (not_idle refl)
started_at _ not_idle = refl

unreleased_at : (phase : SourcePhase) → phase ≢ SourcePhase.Released → is_released phase ≡ false
unreleased_at SourcePhase.Released not_released = absurd (not_released refl)
unreleased_at _ not_released = refl

-- while the link is down a migration is under way
pub under_way-down : (world : World) → IsSoundWorld world → world.up ≡ false → is_under_way world.source ≡ true
under_way-down world sound down =
    let idle = started_at world.source.phase (sound.flight.down down).2 in
    let released = unreleased_at world.source.phase (sound.flight.down down).3 in
    ap (λ b. not b && not (is_released world.source.phase)) idle ∙ ap not released

-- nothing is in flight while no migration has started
pub idle-flight : (from : SourcePhase) (source : Source) (destination : Destination) (forward back urgent : List Sent) → Wires (record source { phase = from }) destination forward back urgent → is_source_idle from ≡ true → (forward ≡ []) × (back ≡ [])
idle-flight SourcePhase.Idle source destination forward back urgent wires idle = (wires.1, wires.2)
idle-flight _ source destination forward back urgent wires idle = absurd (false≢true idle)

pub nothing-first : (sent : Sent) (rest flight : List Sent) → flight ≡ [] → flight ≡ sent ∷ rest → ⊥
nothing-first sent rest flight none first = cc

-- so where a frame is in flight a migration has started
pub started-forward : (world : World) (sent : Sent) (rest : List Sent) → IsSoundWorld world → world.up ≡ true → world.forward.frames ≡ sent ∷ rest → is_source_idle world.source.phase ≡ false
started-forward world sent rest sound up first =
    false_from_ne_true (is_source_idle world.source.phase) (λ idle.
    nothing-first sent rest world.forward.frames (idle-flight world.source.phase world.source world.destination world.forward.frames world.back.frames world.urgent.frames (sound.flight.wires up) idle).0 first)

pub started-back : (world : World) (sent : Sent) (rest : List Sent) → IsSoundWorld world → world.up ≡ true → world.back.frames ≡ sent ∷ rest → is_source_idle world.source.phase ≡ false
started-back world sent rest sound up first =
    false_from_ne_true (is_source_idle world.source.phase) (λ idle.
    nothing-first sent rest world.back.frames (idle-flight world.source.phase world.source world.destination world.forward.frames world.back.frames world.urgent.frames (sound.flight.wires up) idle).1 first)
