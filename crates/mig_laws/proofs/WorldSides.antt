-- The sides of a world are two logs in an order.
use Rattle.std.proofs.lemmas.Bool.Decides.{nat_tests}
use Rattle.std.proofs.Common.{◌≡◌, ℕ, ◌||◌, ◌&&◌, Bool, true, false, not, cond, List, [], ◌∷◌, ◌++◌, if◌then◌else◌, refl, sym, ap, subst, ◌∙◌, arith}
use Rattle.std.specs.Prelude.{Result, Ok, Err, IsOk}
use Rattle.std.proofs.Math.Bool.{or-true}
use Rattle.std.proofs.lemmas.Bool.{false≢true, not-true}
use Rattle.mig_base.specs.declared.effect.Effect.{Effect}
use Rattle.mig_base.specs.declared.refusal.Refusal.{Refusal}
use Rattle.mig_base.specs.declared.schedule.Side.{Side}
use Rattle.mig_base.specs.declared.schedule.Step.{Step}
use Rattle.mig_base.specs.declared.command.Command.{Command}
use Rattle.mig_model.specs.Destination.{Destination, is_dest_paused}
use Rattle.mig_model.specs.DestinationSteps as destination
use Rattle.mig_model.specs.Invariant.{IsSoundWorld}
use Rattle.mig_model.specs.Lengths.{text_len}
use Rattle.mig_model.specs.Migration.{World, after_steps, answer, is_short, made, next, outcome}
use Rattle.mig_model.specs.NodeSteps.{Sends, in_phase, is_out_of_phase, while_down, while_up}
use Rattle.mig_model.specs.Promises.{IsReached}
use Rattle.mig_model.specs.Source.{Source, is_under_way}
use Rattle.mig_model.specs.SourceSteps as source
use Rattle.mig_model.specs.Wire.{Sent, Wire, wire_behind}
use Rattle.mig_model.proofs.steps.EveryStep.{kept-reached}
use Rattle.mig_model.proofs.steps.ReachedLemmas.{reached-next}
use Rattle.mig_model.proofs.steps.StepCases.{holds-made}
use Rattle.mig_model.proofs.steps.StepLemmas.{delivers, delivers_back, delivers_urgent, next-refused}
use Rattle.mig_laws.specs.Orders.{AreTurns, AreWhole, IsTurn, Pair, Turn, completes, destination_lines, destination_may, first_pair, is_whole, log_of, logged, source_lines, source_may, step_of, taken_line, world_of}
use Rattle.mig_laws.specs.Sides.{Did, Line, acts, destination_step, sends, source_step}
use Rattle.mig_laws.proofs.LinesAlone.{after_here, after_there}
use Rattle.mig_laws.proofs.AcceptedSteps.{accepted-by, answered, finds-back, finds-forward, finds-urgent, next-made, outcome-made, took_back, took_urgent}
use Rattle.mig_laws.proofs.OrderRuns.{IsLater, every-turn, first-later, first-reached, here_first, later-new, never, there_first, whole}
use Rattle.mig_laws.proofs.SideForms.{destination-issue, destination-own, destination-retry, destination_did, destination_gives, destination_linked, is_destination_own, is_source_own, sends-gives, source-issue, source-own, source-retry, source_did, source_gives, source_linked, there_sends-gives}

-- a step of a world as a turn of its two nodes
record Turned (old : Pair) (step : Step) : Type 0 where
  turn : Turn
  effect : Effect
  new : Pair
  is : IsTurn old turn effect new
  answer_is : answer (world_of old) step ≡ made effect (world_of new)
  here : logged Side.Source (world_of old) step (Ok effect) ≡ source_lines (turn ∷ [])
  there : logged Side.Destination (world_of old) step (Ok effect) ≡ destination_lines (turn ∷ [])

turned-by : (old : Pair) (turn : Turn) (effect : Effect) (new : Pair) → IsSoundWorld (world_of old) → IsLater old → IsTurn old turn effect new → Turned old (step_of turn)
turned-by old turn effect new sound later is =
    let made_is = every-turn old turn effect new sound later is in
    record { turn = turn; effect = effect; new = new; is = is; answer_is = made_is.answer_is; here = made_is.here; there = made_is.there }

here-turned : (old : Pair) (step : Step) (did : Did Source) → IsSoundWorld (world_of old) → IsLater old → source_step old.source step ≡ Ok did → source_may old.up (is_dest_paused old.destination.phase) (Line.Made step) ≡ true → Turned old step
here-turned old step did sound later gives may =
    let new = after_here old (Line.Made step) did old.back in
    turned-by old (Turn.AtSource (Line.Made step)) did.effect new sound later (did, record { gives = gives; may = may; back = old.back; takes = refl; is = refl }, refl)

-- Where the link is up or down

either-refused : {A : Type 0} (test : Bool) (one other : Refusal) (done : A) → cond test (Err one) (Err other) ≡ Ok done → ⊥
either-refused true one other done is = never one done is
either-refused false one other done is = never other done is

was-up : {A : Type 0} (up : Bool) (result : Result A Refusal) (done : A) → while_up up result ≡ Ok done → (up ≡ true) × (result ≡ Ok done)
was-up true (Ok x) done is = (refl, is)
was-up false (Ok x) done is = absurd (never Refusal.Broken done is)
was-up {A} up (Err refusal) done is = absurd (either-refused (is_out_of_phase {A = A} (Err refusal) || up) refusal Refusal.Broken done is)

was-down : {A : Type 0} (up : Bool) (result : Result A Refusal) (done : A) → while_down up result ≡ Ok done → (up ≡ false) × (result ≡ Ok done)
was-down false (Ok x) done is = (refl, is)
was-down true (Ok x) done is = absurd (never Refusal.NotBroken done is)
was-down {A} up (Err refusal) done is = absurd (either-refused (is_out_of_phase {A = A} (Err refusal) || not up) refusal Refusal.NotBroken done is)

may-up : (up : Bool) → up ≡ true → (up || false) ≡ true
may-up up is = ap (λ b. b || false) is

own-turned : (old : Pair) (step : Step) (did : Did Source) → IsSoundWorld (world_of old) → IsLater old → is_source_own step ≡ true → source_linked old.up old.source step ≡ Ok did → Turned old step
own-turned old Step.Start did sound later own gives = here-turned old Step.Start did sound later gives (or-true old.up)
own-turned old Step.Round did sound later own gives = here-turned old Step.Round did sound later gives (or-true old.up)
own-turned old Step.Send did sound later own gives = let found = was-up old.up (source_step old.source Step.Send) did gives in here-turned old Step.Send did sound later found.1 (may-up old.up found.0)
own-turned old (Step.SendRun count) did sound later own gives = let found = was-up old.up (source_step old.source (Step.SendRun count)) did gives in here-turned old (Step.SendRun count) did sound later found.1 (may-up old.up found.0)
own-turned old Step.SourceRead did sound later own gives = here-turned old Step.SourceRead did sound later gives (or-true old.up)
own-turned old Step.SourceAct did sound later own gives = here-turned old Step.SourceAct did sound later gives (or-true old.up)
own-turned old Step.Switch did sound later own gives = let found = was-up old.up (source_step old.source Step.Switch) did gives in here-turned old Step.Switch did sound later found.1 (may-up old.up found.0)
own-turned old (Step.Push ticket) did sound later own gives = let found = was-up old.up (source_step old.source (Step.Push ticket)) did gives in here-turned old (Step.Push ticket) did sound later found.1 (may-up old.up found.0)
own-turned old (Step.PushUrgent ticket) did sound later own gives = let found = was-up old.up (source_step old.source (Step.PushUrgent ticket)) did gives in here-turned old (Step.PushUrgent ticket) did sound later found.1 (may-up old.up found.0)
own-turned old Step.Serve did sound later own gives = let found = was-up old.up (source_step old.source Step.Serve) did gives in here-turned old Step.Serve did sound later found.1 (may-up old.up found.0)
own-turned old Step.End did sound later own gives = let found = was-up old.up (source_step old.source Step.End) did gives in here-turned old Step.End did sound later found.1 (may-up old.up found.0)
own-turned old (Step.Notice side) did sound later own gives = let found = was-down old.up (source_step old.source (Step.Notice side)) did gives in here-turned old (Step.Notice side) did sound later found.1 (ap not found.0)
own-turned old (Step.Issue cpu command) did sound later own gives = absurd (false≢true own)
own-turned old (Step.Retry cpu) did sound later own gives = absurd (false≢true own)
own-turned old (Step.Deliver n) did sound later own gives = absurd (false≢true own)
own-turned old (Step.DeliverBack n) did sound later own gives = absurd (false≢true own)
own-turned old (Step.DeliverUrgent n) did sound later own gives = absurd (false≢true own)
own-turned old Step.DestRead did sound later own gives = absurd (false≢true own)
own-turned old Step.DestAct did sound later own gives = absurd (false≢true own)
own-turned old Step.Install did sound later own gives = absurd (false≢true own)
own-turned old Step.Break did sound later own gives = absurd (false≢true own)
own-turned old Step.Resume did sound later own gives = absurd (false≢true own)

own-step : (old : Pair) (step : Step) → IsSoundWorld (world_of old) → IsLater old → is_source_own step ≡ true → IsOk (outcome (world_of old) step) → Turned old step
own-step old step sound later own ok =
    let world = world_of old in
    let given = source_linked old.up old.source step in
    let found : (did : Did Source) × (given ≡ Ok did) = source_did world given (accepted-by world step (source_gives world given) (source-own world step own) ok) in
    own-turned old step found.0 sound later own found.1

-- The source's other steps

resumed-down : (up paused : Bool) (result : Result (Sends Source) Refusal) (did : Did Source) → sends (while_down up (in_phase paused result)) ≡ Ok did → (up ≡ false) × (paused ≡ true) × (sends result ≡ Ok did)
resumed-down false true (Ok x) did is = (refl, refl, is)
resumed-down true true (Ok x) did is = absurd (never Refusal.NotBroken did is)
resumed-down true false result did is = absurd (never Refusal.Phase did is)
resumed-down false false result did is = absurd (never Refusal.Phase did is)
resumed-down up true (Err refusal) did is = absurd (grind (arith, nat_tests))

resume-step : (old : Pair) → IsSoundWorld (world_of old) → IsLater old → IsOk (outcome (world_of old) Step.Resume) → Turned old Step.Resume
resume-step old sound later ok =
    let world = world_of old in
    let up = record world { up = true } in
    let result = source.resume old.source in
    let given = while_down old.up (in_phase (is_dest_paused old.destination.phase) result) in
    let found : (did : Did Source) × (sends given ≡ Ok did) = source_did up (sends given) (accepted-by world Step.Resume (source_gives up (sends given)) (sends-gives up given) ok) in
    let facts = resumed-down old.up (is_dest_paused old.destination.phase) result found.0 found.1 in
    here-turned old Step.Resume found.0 sound later facts.2 (λ i. not (facts.0 i) && facts.1 i)

-- Deliveries

full : (wire : Wire) (flight rest : List Sent) (sent : Sent) (n : ℕ) → flight ≡ sent ∷ rest → completes wire flight n ≡ true → is_short wire sent.frame n ≡ false
full wire flight rest sent n first whole_is = not-true (is_short wire sent.frame n) (sym (ap (λ f. completes wire f n) first) ∙ whole_is)

line-taken : (line : Sent → Line) (flight rest : List Sent) (sent : Sent) (n : ℕ) → flight ≡ sent ∷ rest → is_short (wire_behind flight) sent.frame n ≡ false → taken_line line (wire_behind flight) flight n ≡ line sent ∷ []
line-taken line flight rest sent n first short =
    ap (λ frames. taken_line line (wire_behind flight) frames n) first ∙ ap (λ (b : Bool). if b then [] else line sent ∷ []) short

back-step : (old : Pair) (n : ℕ) → IsSoundWorld (world_of old) → IsLater old → is_whole (world_of old) (Step.DeliverBack n) ≡ true → IsOk (outcome (world_of old) (Step.DeliverBack n)) → Turned old (Step.DeliverBack n)
back-step old n sound later whole_is ok =
    let world = world_of old in
    let found = finds-back world n ok in
    let sent = found.sent in
    let did = took_back old.source sent.frame in
    let short = full (wire_behind old.back) old.back found.rest sent n found.first whole_is in
    let new = after_here old (Line.Took sent) did found.rest in
    let turn : Turn = Turn.AtSource (Line.Took sent) in
    let is : IsTurn old turn did.effect new = (did, record { gives = refl; may = found.up_is; back = found.rest; takes = found.first; is = refl }, refl) in
    let one = every-turn old turn did.effect new sound later is in
    record {
      turn = turn;
      effect = did.effect;
      new = new;
      is = is;
      answer_is =
          delivers_back world n sent found.rest false found.may found.up_is found.first short
          ∙ sym (delivers_back world (text_len sent.frame) sent found.rest false found.may found.up_is found.first (whole (text_len sent.frame))) ∙ one.answer_is;
      here = line-taken (λ s. Line.Took s) old.back found.rest sent n found.first short;
      there = refl;
    }

forward-step : (old : Pair) (n : ℕ) → IsSoundWorld (world_of old) → IsLater old → is_whole (world_of old) (Step.Deliver n) ≡ true → IsOk (outcome (world_of old) (Step.Deliver n)) → Turned old (Step.Deliver n)
forward-step old n sound later whole_is ok =
    let world = world_of old in
    let found = finds-forward world n ok in
    let sent = found.sent in
    let short = full (wire_behind old.forward) old.forward found.rest sent n found.first whole_is in
    let given = destination.take old.destination sent.epoch sent.frame in
    let behind = record world { forward = wire_behind found.rest } in
    let taken : (did : Did Destination) × (sends given ≡ Ok did) =
    destination_did behind (sends given) (accepted-by world (Step.Deliver n) (destination_gives behind (sends given)) (delivers world n sent found.rest false found.may found.up_is found.first short ∙ there_sends-gives behind given) ok) in
    let did = taken.0 in
    let new = after_there old did found.rest old.urgent in
    let turn : Turn = Turn.AtDestination (Line.Took sent) in
    let is : IsTurn old turn did.effect new = (did, record { gives = taken.1; may = found.up_is; forward = found.rest; takes = found.first; urgent = old.urgent; takes_urgent = refl; is = refl }, refl) in
    let one = every-turn old turn did.effect new sound later is in
    record {
      turn = turn;
      effect = did.effect;
      new = new;
      is = is;
      answer_is =
          delivers world n sent found.rest false found.may found.up_is found.first short
          ∙ sym (delivers world (text_len sent.frame) sent found.rest false found.may found.up_is found.first (whole (text_len sent.frame))) ∙ one.answer_is;
      here = refl;
      there = line-taken (λ s. Line.Took s) old.forward found.rest sent n found.first short;
    }

urgent-step : (old : Pair) (n : ℕ) → IsSoundWorld (world_of old) → IsLater old → is_whole (world_of old) (Step.DeliverUrgent n) ≡ true → IsOk (outcome (world_of old) (Step.DeliverUrgent n)) → Turned old (Step.DeliverUrgent n)
urgent-step old n sound later whole_is ok =
    let world = world_of old in
    let found = finds-urgent world n ok in
    let sent = found.sent in
    let did = took_urgent old.destination sent.frame in
    let short = full (wire_behind old.urgent) old.urgent found.rest sent n found.first whole_is in
    let new = after_there old did old.forward found.rest in
    let gives = ap (λ b. in_phase b (acts (destination.take_urgent old.destination sent.frame))) found.may in
    let turn : Turn = Turn.AtDestination (Line.TookUrgent sent) in
    let is : IsTurn old turn did.effect new = (did, record { gives = gives; may = found.up_is; forward = old.forward; takes = refl; urgent = found.rest; takes_urgent = found.first; is = refl }, refl) in
    let one = every-turn old turn did.effect new sound later is in
    record {
      turn = turn;
      effect = did.effect;
      new = new;
      is = is;
      answer_is =
          delivers_urgent world n sent found.rest false found.may found.up_is found.first short
          ∙ sym (delivers_urgent world (text_len sent.frame) sent found.rest false found.may found.up_is found.first (whole (text_len sent.frame))) ∙ one.answer_is;
      here = refl;
      there = line-taken (λ s. Line.TookUrgent s) old.urgent found.rest sent n found.first short;
    }

-- The destination

there-turned : (old : Pair) (step : Step) (did : Did Destination) → IsSoundWorld (world_of old) → IsLater old → destination_step old.destination step ≡ Ok did → destination_may old.up (Line.Made step) ≡ true → Turned old step
there-turned old step did sound later gives may =
    let new = after_there old did old.forward old.urgent in
    turned-by old (Turn.AtDestination (Line.Made step)) did.effect new sound later (did, record { gives = gives; may = may; forward = old.forward; takes = refl; urgent = old.urgent; takes_urgent = refl; is = refl }, refl)

was-allowed : {A : Type 0} (may : Bool) (result : Result A Refusal) (done : A) → in_phase may result ≡ Ok done → result ≡ Ok done
was-allowed true result done is = is
was-allowed false result done is = absurd (never Refusal.Phase done is)

there_own-turned : (old : Pair) (step : Step) (did : Did Destination) → IsSoundWorld (world_of old) → IsLater old → is_destination_own step ≡ true → destination_linked old.up (is_under_way old.source) old.destination step ≡ Ok did → Turned old step
there_own-turned old Step.DestRead did sound later own gives = there-turned old Step.DestRead did sound later gives refl
there_own-turned old Step.DestAct did sound later own gives = there-turned old Step.DestAct did sound later gives refl
there_own-turned old Step.Install did sound later own gives = there-turned old Step.Install did sound later gives refl
there_own-turned old (Step.Notice side) did sound later own gives =
    let found = was-down old.up (in_phase (is_under_way old.source) (destination_step old.destination (Step.Notice side))) did gives in
    there-turned old (Step.Notice side) did sound later (was-allowed (is_under_way old.source) (destination_step old.destination (Step.Notice side)) did found.1) (ap not found.0)
there_own-turned old Step.Start did sound later own gives = absurd (false≢true own)
there_own-turned old Step.Round did sound later own gives = absurd (false≢true own)
there_own-turned old Step.Send did sound later own gives = absurd (false≢true own)
there_own-turned old (Step.SendRun count) did sound later own gives = absurd (false≢true own)
there_own-turned old Step.SourceRead did sound later own gives = absurd (false≢true own)
there_own-turned old Step.SourceAct did sound later own gives = absurd (false≢true own)
there_own-turned old Step.Switch did sound later own gives = absurd (false≢true own)
there_own-turned old (Step.Push ticket) did sound later own gives = absurd (false≢true own)
there_own-turned old (Step.PushUrgent ticket) did sound later own gives = absurd (false≢true own)
there_own-turned old Step.Serve did sound later own gives = absurd (false≢true own)
there_own-turned old Step.End did sound later own gives = absurd (false≢true own)
there_own-turned old (Step.Issue cpu command) did sound later own gives = absurd (false≢true own)
there_own-turned old (Step.Retry cpu) did sound later own gives = absurd (false≢true own)
there_own-turned old (Step.Deliver n) did sound later own gives = absurd (false≢true own)
there_own-turned old (Step.DeliverBack n) did sound later own gives = absurd (false≢true own)
there_own-turned old (Step.DeliverUrgent n) did sound later own gives = absurd (false≢true own)
there_own-turned old Step.Break did sound later own gives = absurd (false≢true own)
there_own-turned old Step.Resume did sound later own gives = absurd (false≢true own)

there_own-step : (old : Pair) (step : Step) → IsSoundWorld (world_of old) → IsLater old → is_destination_own step ≡ true → IsOk (outcome (world_of old) step) → Turned old step
there_own-step old step sound later own ok =
    let world = world_of old in
    let given = destination_linked old.up (is_under_way old.source) old.destination step in
    let found : (did : Did Destination) × (given ≡ Ok did) = destination_did world given (accepted-by world step (destination_gives world given) (destination-own world step own) ok) in
    there_own-turned old step found.0 sound later own found.1

-- Commands

issue-step : (old : Pair) (cpu : ℕ) (command : Command) (ran : Bool) → old.destination.has_run ≡ ran → IsSoundWorld (world_of old) → IsLater old → IsOk (outcome (world_of old) (Step.Issue cpu command)) → Turned old (Step.Issue cpu command)
issue-step old cpu command false ran sound later ok =
    let world = world_of old in
    let step = Step.Issue cpu command in
    let given = source_step old.source step in
    let found : (did : Did Source) × (given ≡ Ok did) = source_did world given (accepted-by world step (source_gives world given) (source-issue world cpu command ran) ok) in
    here-turned old step found.0 sound later found.1 (or-true old.up)
issue-step old cpu command true ran sound later ok =
    let world = world_of old in
    let step = Step.Issue cpu command in
    let given = destination_step old.destination step in
    let found : (did : Did Destination) × (given ≡ Ok did) = destination_did world given (accepted-by world step (destination_gives world given) (destination-issue world cpu command ran) ok) in
    there-turned old step found.0 sound later found.1 refl

retry-step : (old : Pair) (cpu : ℕ) (ran : Bool) → old.destination.has_run ≡ ran → IsSoundWorld (world_of old) → IsLater old → IsOk (outcome (world_of old) (Step.Retry cpu)) → Turned old (Step.Retry cpu)
retry-step old cpu false ran sound later ok =
    let world = world_of old in
    let step = Step.Retry cpu in
    let given = source_step old.source step in
    let found : (did : Did Source) × (given ≡ Ok did) = source_did world given (accepted-by world step (source_gives world given) (source-retry world cpu ran) ok) in
    here-turned old step found.0 sound later found.1 (or-true old.up)
retry-step old cpu true ran sound later ok =
    let world = world_of old in
    let step = Step.Retry cpu in
    let given = destination_step old.destination step in
    let found : (did : Did Destination) × (given ≡ Ok did) = destination_did world given (accepted-by world step (destination_gives world given) (destination-retry world cpu ran) ok) in
    there-turned old step found.0 sound later found.1 refl

-- Break

record FindsUp (world : World) : Type 0 where
  up : world.up ≡ true
  under_way : is_under_way world.source ≡ true

break-step : (old : Pair) → IsSoundWorld (world_of old) → IsLater old → IsOk (outcome (world_of old) Step.Break) → Turned old Step.Break
break-step old sound later ok =
    let world = world_of old in
    let found = answered (FindsUp world) world Step.Break (holds-made (λ m. FindsUp world) world Step.Break (λ started unreleased up. record { up = up; under_way = λ i. started i && not (unreleased i) })) ok in
    let new = record old { forward = []; back = []; urgent = []; up = false } in
    turned-by old Turn.Cut Effect.Broken new sound later (record { was_up = found.up; under_way = found.under_way; is = refl }, refl)

-- Every step

turned : (old : Pair) (step : Step) → IsSoundWorld (world_of old) → IsLater old → is_whole (world_of old) step ≡ true → IsOk (outcome (world_of old) step) → Turned old step
turned old (Step.Issue cpu command) sound later whole_is ok = issue-step old cpu command old.destination.has_run refl sound later ok
turned old (Step.Retry cpu) sound later whole_is ok = retry-step old cpu old.destination.has_run refl sound later ok
turned old (Step.Deliver n) sound later whole_is ok = forward-step old n sound later whole_is ok
turned old (Step.DeliverBack n) sound later whole_is ok = back-step old n sound later whole_is ok
turned old (Step.DeliverUrgent n) sound later whole_is ok = urgent-step old n sound later whole_is ok
turned old Step.Break sound later whole_is ok = break-step old sound later ok
turned old Step.Resume sound later whole_is ok = resume-step old sound later ok
turned old (Step.Notice Side.Source) sound later whole_is ok = own-step old (Step.Notice Side.Source) sound later refl ok
turned old (Step.Notice Side.Destination) sound later whole_is ok = there_own-step old (Step.Notice Side.Destination) sound later refl ok
turned old Step.Start sound later whole_is ok = own-step old Step.Start sound later refl ok
turned old Step.Round sound later whole_is ok = own-step old Step.Round sound later refl ok
turned old Step.Send sound later whole_is ok = own-step old Step.Send sound later refl ok
turned old (Step.SendRun count) sound later whole_is ok = own-step old (Step.SendRun count) sound later refl ok
turned old Step.SourceRead sound later whole_is ok = own-step old Step.SourceRead sound later refl ok
turned old Step.SourceAct sound later whole_is ok = own-step old Step.SourceAct sound later refl ok
turned old Step.Switch sound later whole_is ok = own-step old Step.Switch sound later refl ok
turned old (Step.Push ticket) sound later whole_is ok = own-step old (Step.Push ticket) sound later refl ok
turned old (Step.PushUrgent ticket) sound later whole_is ok = own-step old (Step.PushUrgent ticket) sound later refl ok
turned old Step.Serve sound later whole_is ok = own-step old Step.Serve sound later refl ok
turned old Step.End sound later whole_is ok = own-step old Step.End sound later refl ok
turned old Step.DestRead sound later whole_is ok = there_own-step old Step.DestRead sound later refl ok
turned old Step.DestAct sound later whole_is ok = there_own-step old Step.DestAct sound later refl ok
turned old Step.Install sound later whole_is ok = there_own-step old Step.Install sound later refl ok

-- Every run

-- steps of a world as turns of its two nodes
pub record AreTurned (old : Pair) (steps : List Step) : Type 0 where
  pub turns : List Turn
  pub effects : List Effect
  pub new : Pair
  pub are : AreTurns old turns effects new
  pub world : after_steps (world_of old) steps ≡ world_of new
  pub here : log_of Side.Source (world_of old) steps ≡ source_lines turns
  pub there : log_of Side.Destination (world_of old) steps ≡ destination_lines turns

step-more : (old : Pair) (step : Step) (steps : List Step) (one : Turned old step) → AreTurned one.new steps → AreTurned old (step ∷ steps)
step-more old step steps one rest =
    let world = world_of old in
    let after = next-made world step one.effect (world_of one.new) one.answer_is in
    let told = outcome-made world step one.effect (world_of one.new) one.answer_is in
    record {
      turns = one.turn ∷ rest.turns;
      effects = one.effect ∷ rest.effects;
      new = rest.new;
      are = (one.new, one.is, rest.are);
      world = ap (λ w. after_steps w steps) after ∙ rest.world;
      here =
          ap (λ o. logged Side.Source world step o ++ log_of Side.Source (next world step) steps) told ∙ ap (λ w. logged Side.Source world step (Ok one.effect) ++ log_of Side.Source w steps) after
          ∙ (λ i. one.here i ++ rest.here i) ∙ here_first one.turn rest.turns;
      there =
          ap (λ o. logged Side.Destination world step o ++ log_of Side.Destination (next world step) steps) told ∙ ap (λ w. logged Side.Destination world step (Ok one.effect) ++ log_of Side.Destination w steps) after
          ∙ (λ i. one.there i ++ rest.there i) ∙ there_first one.turn rest.turns;
    }

-- a refused step is no turn
step-none : (old : Pair) (step : Step) (steps : List Step) (refusal : Refusal) → outcome (world_of old) step ≡ Err refusal → AreTurned old steps → AreTurned old (step ∷ steps)
step-none old step steps refusal is rest =
    let world = world_of old in
    let same = next-refused world step refusal is in
    record {
      turns = rest.turns;
      effects = rest.effects;
      new = rest.new;
      are = rest.are;
      world = ap (λ w. after_steps w steps) same ∙ rest.world;
      here = ap (λ o. logged Side.Source world step o ++ log_of Side.Source (next world step) steps) is ∙ ap (λ w. log_of Side.Source w steps) same ∙ rest.here;
      there = ap (λ o. logged Side.Destination world step o ++ log_of Side.Destination (next world step) steps) is ∙ ap (λ w. log_of Side.Destination w steps) same ∙ rest.there;
    }

pub all-turned : (old : Pair) (steps : List Step) → IsReached (world_of old) → IsLater old → AreWhole (world_of old) steps → AreTurned old steps
all-turned old [] reached later are_whole = record { turns = []; effects = []; new = old; are = refl; world = refl; here = refl; there = refl }
all-turned old (step ∷ steps) reached later are_whole =
    let world = world_of old in
    elim (outcome world step) as (λ o. outcome world step ≡ o → AreTurned old (step ∷ steps)) [
      | Ok effect ↦ λ is.
          let one = turned old step (kept-reached world reached) later are_whole.0 (subst IsOk (sym is) refl) in
          let after = next-made world step one.effect (world_of one.new) one.answer_is in
          step-more old step steps one (all-turned one.new steps (subst IsReached after (reached-next world step reached)) (later-new old one.new one.turn one.effect one.is later) (subst (λ w. AreWhole w steps) after are_whole.1))
      | Err refusal ↦ λ is. step-none old step steps refusal is (all-turned old steps reached later (subst (λ w. AreWhole w steps) (next-refused world step refusal is) are_whole.1))
    ] refl

pub first-turned : (cpus epoch rounds : ℕ) (steps : List Step) → AreWhole (world_of (first_pair cpus epoch rounds)) steps → AreTurned (first_pair cpus epoch rounds) steps
first-turned cpus epoch rounds steps are_whole = all-turned (first_pair cpus epoch rounds) steps (first-reached cpus epoch rounds) (first-later cpus epoch rounds) are_whole
