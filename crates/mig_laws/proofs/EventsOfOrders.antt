-- An order of two logs is what happens to two processes: at a Cut each side loses the channel, and the destination joins each new one at once.
use Rattle.std.proofs.Common.{◌≡◌, ℕ, ◌||◌, not, Bool, true, false, List, [], ◌∷◌, ◌++◌, refl, sym, ap, subst, ◌∙◌}
use Rattle.std.specs.Prelude.{Ok}
use Rattle.std.proofs.lemmas.Bool.{and_parts, false≢true, not-true}
use Rattle.mig_base.specs.declared.effect.Effect.{Effect}
use Rattle.mig_base.specs.declared.refusal.Refusal.{Refusal}
use Rattle.mig_base.specs.declared.schedule.Side.{Side}
use Rattle.mig_base.specs.declared.schedule.Step.{Step}
use Rattle.mig_model.specs.Destination.{Destination, first_destination, is_dest_paused}
use Rattle.mig_model.specs.Migration.{World, after_steps, first_world_with}
use Rattle.mig_model.specs.Promises.{IsReached}
use Rattle.mig_model.specs.Source.{Source, first_source, is_released, is_source_idle, is_under_way}
use Rattle.mig_model.specs.SourceSteps as source
use Rattle.mig_model.specs.Wire.{Sent, sending, sending_if}
use Rattle.mig_model.proofs.steps.EveryStep.{kept-reached}
use Rattle.mig_model.proofs.steps.ReachedLemmas.{reached-next}
use Rattle.mig_model.proofs.steps.StepLemmas.{holds-unless}
use Rattle.mig_laws.specs.Orders.{AreTurns, AreWhole, IsCut, IsDestinationTurn, IsSourceTurn, IsTurn, Pair, TakesUrgentFront, Turn, destination_lines, destination_may, first_pair, is_alone, is_resume, log_of, source_lines, source_may, step_of, world_of}
use Rattle.mig_laws.specs.Processes.{AreEvents, Channel, Event, IsJoining, IsOpening, IsSettled, Processes, first_processes, log_here, log_there}
use Rattle.mig_laws.specs.Sides.{Did, Line, destination_entries, destination_line, sends, source_entries, source_line}
use Rattle.mig_laws.proofs.LinesAlone.{alone-resume, alone-takes, alone-urgent, source-may-still}
use Rattle.mig_laws.proofs.AcceptedSteps.{next-made, ok-holds, under_way-down}
use Rattle.mig_laws.proofs.GrownOrders.{back-same, silent}
use Rattle.mig_laws.proofs.LogNodes.{left}
use Rattle.mig_laws.proofs.OrderRuns.{IsLater, every-turn, first-later, first-reached, here_first, later-new, never, over_map, there_first}
use Rattle.mig_laws.proofs.ReplacedRuns.{events-append, here-append, there-append}
use Rattle.mig_laws.proofs.TwoProcesses.{urgent-same}
use Rattle.mig_laws.proofs.WorldSides.{first-turned}

-- the two processes of a pair whose channel carries frames
abbrev used : Pair → Processes
used pair =
    record { source = pair.source; destination = pair.destination; first = record { forward = pair.forward; back = pair.back; urgent = pair.urgent }; later = []; here = true; there = true }

-- and those of one whose channel is lost, with what was in flight there
abbrev lost : Pair → Channel → Processes
lost pair channel = record { source = pair.source; destination = pair.destination; first = channel; later = []; here = false; there = false }

abbrev FitBy : Bool → Pair → Processes → Type 0
FitBy true pair full = full ≡ used pair
FitBy false pair full = (channel : Channel) × (full ≡ lost pair channel) × (pair.forward ≡ []) × (pair.back ≡ []) × (pair.urgent ≡ [])

abbrev Fit : Pair → Processes → Type 0
Fit pair full = FitBy pair.up pair full

-- events of the two processes follow a turn of the pair
record Follows (here there : List Line) (full : Processes) (new : Pair) : Type 0 where
  events : List Event
  next : Processes
  are : AreEvents full events next
  fits : Fit new next
  here_is : log_here events ≡ here
  there_is : log_there events ≡ there

-- Lines

not_resume : (line : Line) (paused : Bool) → source_may true paused line ≡ true → is_resume line ≡ false
not_resume (Line.Made Step.Resume) paused may = absurd (false≢true may)
not_resume (Line.Made _) paused may = refl
not_resume (Line.Took sent) paused may = refl
not_resume (Line.TookUrgent sent) paused may = refl

started : (node : Source) (did : Did Source) → source_line node (Line.Made Step.Start) ≡ Ok did → not (is_source_idle node.phase) ≡ false
started node did gives = ok-holds (λ d. not (is_source_idle node.phase) ≡ false) (sends (source.start node)) did (over_map _ _ (source.start node) (holds-unless _ _ _ (λ none. none.0))) gives

-- a line of a source after a loss needs no channel, but for Resume
is-alone : (node : Source) (line : Line) (paused : Bool) (did : Did Source) → is_source_idle node.phase ≡ false → source_line node line ≡ Ok did → source_may false paused line ≡ true → is_resume line ≡ false → is_alone line ≡ true
is-alone node (Line.Made Step.Start) paused did busy gives may other = absurd (false≢true (sym (started node did gives) ∙ ap not busy))
is-alone node (Line.Made Step.Resume) paused did busy gives may other = absurd (false≢true (sym other))
is-alone node (Line.Made (Step.Notice side)) paused did busy gives may other = refl
is-alone node (Line.Made _) paused did busy gives may other = may
is-alone node (Line.Took sent) paused did busy gives may other = absurd (false≢true may)
is-alone node (Line.TookUrgent sent) paused did busy gives may other = absurd (false≢true may)

step-alone_there : (node : Destination) (step : Step) (did : Did Destination) → destination_line node (Line.Made step) ≡ Ok did → is_alone (Line.Made step) ≡ true
step-alone_there node (Step.Issue cpu command) did gives = refl
step-alone_there node (Step.Retry cpu) did gives = refl
step-alone_there node Step.DestRead did gives = refl
step-alone_there node Step.DestAct did gives = refl
step-alone_there node Step.Install did gives = refl
step-alone_there node (Step.Notice side) did gives = refl
step-alone_there node _ did gives = absurd (never Refusal.Phase did gives)

is-alone_there : (node : Destination) (line : Line) (did : Did Destination) → destination_line node line ≡ Ok did → destination_may false line ≡ true → is_alone line ≡ true
is-alone_there node (Line.Made step) did gives may = step-alone_there node step did gives
is-alone_there node (Line.Took sent) did gives may = absurd (false≢true may)
is-alone_there node (Line.TookUrgent sent) did gives may = absurd (false≢true may)

-- While the channel carries frames

used-here : (old : Pair) (line : Line) (did : Did Source) (new : Pair) → old.up ≡ true → IsSourceTurn old line did new → Follows (line ∷ []) [] (used old) new
used-here old line did new up is =
    let paused = is_dest_paused old.destination.phase in
    let may : source_may true paused line ≡ true = ap (λ b. source_may b paused line) (sym up) ∙ is.may in
    let other = not_resume line paused may in
    let channel : Channel = record { forward = sending old.forward did.node.epoch did.frames; back = is.back; urgent = sending old.urgent did.node.epoch did.urgent } in
    let next : Processes = record (used old) { source = did.node; first = channel } in
    let after : Pair = record old {
      source = did.node;
      forward = sending old.forward did.node.epoch did.frames;
      urgent = sending old.urgent did.node.epoch did.urgent;
      back = is.back;
      up = is_resume line || old.up;
      at_source = old.at_source ++ did.entries;
    } in
    let still : (is_resume line || old.up) ≡ true = λ i. other i || up i in
    record {
      events = Event.Here line ∷ [];
      next = next;
      are = (next, (did, is.gives, record { may = source-may-still true paused false line other may; back = is.back; takes = is.takes; channel = channel; puts = refl; is = refl }), refl);
      fits = subst (λ pair. Fit pair next) (sym is.is) (subst (λ b. FitBy b after next) (sym still) refl);
      here_is = refl;
      there_is = refl;
    }

used-there : (old : Pair) (line : Line) (did : Did Destination) (new : Pair) → old.up ≡ true → IsDestinationTurn old line did new → Follows [] (line ∷ []) (used old) new
used-there old line did new up is =
    let channel : Channel = record { forward = is.forward; back = sending_if true old.back did.node.epoch did.frames; urgent = is.urgent } in
    let next : Processes = record (used old) { destination = did.node; first = channel } in
    let after : Pair = record old {
      destination = did.node;
      forward = is.forward;
      urgent = is.urgent;
      back = sending_if old.up old.back did.node.epoch did.frames;
      at_destination = old.at_destination ++ did.entries;
    } in
    record {
      events = Event.There line ∷ [];
      next = next;
      are = (next, (did, is.gives, record { may = ap (λ b. destination_may b line) (sym up) ∙ is.may; forward = is.forward; takes = is.takes; urgent = is.urgent; takes_urgent = is.takes_urgent; is = refl }), refl);
      fits = subst (λ pair. Fit pair next) (sym is.is)
          (subst (λ b. FitBy b after next) (sym up)
          (λ i. record (used old) { destination = did.node; first = record { forward = is.forward; back = sending_if (sym up i) old.back did.node.epoch did.frames; urgent = is.urgent } }));
      here_is = refl;
      there_is = refl;
    }

cut-used : (old new : Pair) → IsCut old new → Follows [] [] (used old) new
cut-used old new is =
    let channel : Channel = record { forward = old.forward; back = old.back; urgent = old.urgent } in
    let mid : Processes = record (used old) { here = false } in
    let next : Processes = record mid { there = false } in
    record {
      events = Event.LosesHere ∷ Event.LosesThere ∷ [];
      next = next;
      are = (mid, record { used = refl; under_way = is.under_way; is = refl }, (next, record { used = refl; is = refl }, refl));
      fits = subst (λ pair. Fit pair next) (sym is.is) (channel, refl, refl, refl, refl);
      here_is = refl;
      there_is = refl;
    }

-- After its loss

-- nothing is in flight
record IsBare (old : Pair) : Type 0 where
  forward : old.forward ≡ []
  back : old.back ≡ []
  urgent : old.urgent ≡ []

alone-here : (old : Pair) (channel : Channel) (line : Line) (did : Did Source) (new : Pair) → old.up ≡ false → IsBare old → is_alone line ≡ true → IsSourceTurn old line did new → Follows (line ∷ []) [] (lost old channel) new
alone-here old channel line did new down bare alone is =
    let next : Processes = record (lost old channel) { source = did.node } in
    let quiet = silent old.source line did alone is.gives in
    let after : Pair = record old {
      source = did.node;
      forward = sending old.forward did.node.epoch did.frames;
      urgent = sending old.urgent did.node.epoch did.urgent;
      back = is.back;
      up = is_resume line || old.up;
      at_source = old.at_source ++ did.entries;
    } in
    let still : (is_resume line || old.up) ≡ false = λ i. alone-resume line alone i || down i in
    record {
      events = Event.Here line ∷ [];
      next = next;
      are = (next, (did, is.gives, record { may = alone; back = channel.back; takes = alone-takes line channel.back alone; channel = channel; puts = refl; is = refl }), refl);
      fits = subst (λ pair. Fit pair next) (sym is.is)
          (subst (λ b. FitBy b after next) (sym still) (
            channel,
            refl,
            ap (λ frames. sending old.forward did.node.epoch frames) quiet.0 ∙ bare.forward,
            back-same line old.back is.back alone is.takes ∙ bare.back,
            ap (λ frames. sending old.urgent did.node.epoch frames) quiet.1 ∙ bare.urgent,
          ));
      here_is = refl;
      there_is = refl;
    }

resumes : (old : Pair) (channel : Channel) (did : Did Source) (new : Pair) → old.up ≡ false → IsBare old → IsSourceTurn old (Line.Made Step.Resume) did new → Follows (Line.Made Step.Resume ∷ []) [] (lost old channel) new
resumes old channel did new down bare is =
    let paused : is_dest_paused old.destination.phase ≡ true = ap (λ b. source_may b (is_dest_paused old.destination.phase) (Line.Made Step.Resume)) (sym down) ∙ is.may in
    let opened : Channel = record { forward = sending [] did.node.epoch did.frames; back = []; urgent = sending [] did.node.epoch did.urgent } in
    let mid : Processes = record (lost old channel) { source = did.node; later = opened ∷ []; here = true } in
    let next : Processes = record mid { first = opened; later = []; there = true } in
    let opening : IsOpening (lost old channel) mid = record { did = did; gives = is.gives; lost = refl; is = refl } in
    let joining : IsJoining mid next = record { lost = refl; paused = paused; next = opened; rest = []; opened = refl; is = refl } in
    record {
      events = Event.Opens ∷ Event.Joins ∷ [];
      next = next;
      are = (mid, opening, (next, joining, refl));
      fits = subst (λ pair. Fit pair next) (sym is.is)
          (λ i.
          record next {
            first = record { forward = sending (sym bare.forward i) did.node.epoch did.frames; back = sym (is.takes ∙ bare.back) i; urgent = sending (sym bare.urgent i) did.node.epoch did.urgent };
          });
      here_is = refl;
      there_is = refl;
    }

-- a line is Resume or needs no channel
lost-here : (resumes_now : Bool) (old : Pair) (channel : Channel) (line : Line) (did : Did Source) (new : Pair) → is_resume line ≡ resumes_now → old.up ≡ false → IsBare old → is_source_idle old.source.phase ≡ false → IsSourceTurn old line did new →
    Follows (line ∷ []) [] (lost old channel) new
lost-here true old channel (Line.Made Step.Resume) did new one down bare busy is = resumes old channel did new down bare is
lost-here true old channel (Line.Made _) did new one down bare busy is = absurd (false≢true one)
lost-here true old channel (Line.Took sent) did new one down bare busy is = absurd (false≢true one)
lost-here true old channel (Line.TookUrgent sent) did new one down bare busy is = absurd (false≢true one)
lost-here false old channel line did new one down bare busy is =
    let paused = is_dest_paused old.destination.phase in
    alone-here old channel line did new down bare (is-alone old.source line paused did busy is.gives (ap (λ b. source_may b paused line) (sym down) ∙ is.may) one) is

lost-there : (old : Pair) (channel : Channel) (line : Line) (did : Did Destination) (new : Pair) → old.up ≡ false → IsBare old → IsDestinationTurn old line did new → Follows [] (line ∷ []) (lost old channel) new
lost-there old channel line did new down bare is =
    let alone = is-alone_there old.destination line did is.gives (ap (λ b. destination_may b line) (sym down) ∙ is.may) in
    let next : Processes = record (lost old channel) { destination = did.node } in
    let after : Pair = record old {
      destination = did.node;
      forward = is.forward;
      urgent = is.urgent;
      back = sending_if old.up old.back did.node.epoch did.frames;
      at_destination = old.at_destination ++ did.entries;
    } in
    record {
      events = Event.There line ∷ [];
      next = next;
      are = (
        next,
        (
          did,
          is.gives,
          record {
            may = alone;
            forward = channel.forward;
            takes = alone-takes line channel.forward alone;
            urgent = channel.urgent;
            takes_urgent = alone-urgent line channel.urgent alone;
            is = refl;
          },
        ),
        refl,
      );
      fits = subst (λ pair. Fit pair next) (sym is.is)
          (subst (λ b. FitBy b after next) (sym down) (
            channel,
            refl,
            back-same line old.forward is.forward alone is.takes ∙ bare.forward,
            ap (λ b. sending_if b old.back did.node.epoch did.frames) down ∙ bare.back,
            urgent-same line old.urgent is.urgent alone is.takes_urgent ∙ bare.urgent,
          ));
      here_is = refl;
      there_is = refl;
    }

-- Every turn

turn-by : (up : Bool) (old : Pair) (full : Processes) (turn : Turn) (effect : Effect) (new : Pair) → old.up ≡ up → FitBy up old full → (up ≡ false → is_source_idle old.source.phase ≡ false) → IsTurn old turn effect new →
    Follows (source_lines (turn ∷ [])) (destination_lines (turn ∷ [])) full new
turn-by true old full (Turn.AtSource line) effect new up fits busy is = subst (λ p. Follows (line ∷ []) [] p new) (sym fits) (used-here old line is.0 new up is.1)
turn-by true old full (Turn.AtDestination line) effect new up fits busy is = subst (λ p. Follows [] (line ∷ []) p new) (sym fits) (used-there old line is.0 new up is.1)
turn-by true old full Turn.Cut effect new up fits busy is = subst (λ p. Follows [] [] p new) (sym fits) (cut-used old new is.0)
turn-by false old full (Turn.AtSource line) effect new up fits busy is =
    subst (λ p. Follows (line ∷ []) [] p new) (sym fits.1)
    (lost-here (is_resume line) old fits.0 line is.0 new refl up (record { forward = fits.2; back = fits.3; urgent = fits.4 }) (busy refl) is.1)
turn-by false old full (Turn.AtDestination line) effect new up fits busy is =
    subst (λ p. Follows [] (line ∷ []) p new) (sym fits.1) (lost-there old fits.0 line is.0 new up (record { forward = fits.2; back = fits.3; urgent = fits.4 }) is.1)
turn-by false old full Turn.Cut effect new up fits busy is = absurd (false≢true (sym up ∙ is.0.was_up))

-- a source whose channel is lost is not idle
is-busy : (old : Pair) → IsReached (world_of old) → old.up ≡ false → is_source_idle old.source.phase ≡ false
is-busy old reached down =
    let under_way = under_way-down (world_of old) (kept-reached (world_of old) reached) down in
    not-true (is_source_idle old.source.phase) (and_parts (not (is_source_idle old.source.phase)) (not (is_released old.source.phase)) under_way).0

-- every order
record FollowAll (here there : List Line) (full : Processes) (new : Pair) : Type 0 where
  events : List Event
  last : Processes
  are : AreEvents full events last
  fits : Fit new last
  here_is : log_here events ≡ here
  there_is : log_there events ≡ there

turns-follow : (old : Pair) (full : Processes) (turns : List Turn) (effects : List Effect) (new : Pair) → IsReached (world_of old) → IsLater old → Fit old full → AreTurns old turns effects new →
    FollowAll (source_lines turns) (destination_lines turns) full new
turns-follow old full [] [] new reached later fits is = record { events = []; last = full; are = refl; fits = subst (λ pair. Fit pair full) (sym is) fits; here_is = refl; there_is = refl }
turns-follow old full [] (effect ∷ effects) new reached later fits is = absurd is
turns-follow old full (turn ∷ turns) [] new reached later fits is = absurd is
turns-follow old full (turn ∷ turns) (effect ∷ effects) new reached later fits is =
    let mid = is.0 in
    let world = world_of old in
    let step = step_of turn in
    let one = every-turn old turn effect mid (kept-reached world reached) later is.1 in
    let after = next-made world step effect (world_of mid) one.answer_is in
    let now = turn-by old.up old full turn effect mid refl fits (is-busy old reached) is.1 in
    let rest = turns-follow mid now.next turns effects new (subst IsReached after (reached-next world step reached)) (later-new old mid turn effect is.1 later) now.fits is.2 in
    record {
      events = now.events ++ rest.events;
      last = rest.last;
      are = events-append full now.next rest.last now.events rest.events now.are rest.are;
      fits = rest.fits;
      here_is = here-append now.events rest.events ∙ (λ i. now.here_is i ++ rest.here_is i) ∙ here_first turn turns;
      there_is = there-append now.events rest.events ∙ (λ i. now.there_is i ++ rest.there_is i) ∙ there_first turn turns;
    }

-- Worlds

-- two processes that are settled, with the two logs of a world whose deliveries are of whole frames, and its two nodes
pub record HappensIn (cpus epoch rounds : ℕ) (steps : List Step) : Type 0 where
  pub events : List Event
  pub last : Processes
  pub are : AreEvents (first_processes cpus epoch rounds) events last
  pub settled : IsSettled last
  pub here : log_of Side.Source (first_world_with cpus epoch rounds) steps ≡ log_here events
  pub there : log_of Side.Destination (first_world_with cpus epoch rounds) steps ≡ log_there events
  pub source : (after_steps (first_world_with cpus epoch rounds) steps).source ≡ last.source
  pub destination : (after_steps (first_world_with cpus epoch rounds) steps).destination ≡ last.destination
  pub transcript : (after_steps (first_world_with cpus epoch rounds) steps).transcript ≡ source_entries (first_source cpus epoch rounds) (log_here events) ++ destination_entries (first_destination cpus) (log_there events)

-- the processes of a pair are settled, and have its nodes
record HasNodes (pair : Pair) (full : Processes) : Type 0 where
  settled : IsSettled full
  source : full.source ≡ pair.source
  destination : full.destination ≡ pair.destination

nodes-of : (up : Bool) (pair : Pair) (full : Processes) → FitBy up pair full → (up ≡ false → is_under_way pair.source ≡ true) → HasNodes pair full
nodes-of true pair full fits busy = subst (HasNodes pair) (sym fits) (record { settled = record { joined = refl; under_way = refl }; source = refl; destination = refl })
nodes-of false pair full fits busy = subst (HasNodes pair) (sym fits.1) (record { settled = record { joined = refl; under_way = busy refl }; source = refl; destination = refl })

pub happens-in : (cpus epoch rounds : ℕ) (steps : List Step) → AreWhole (first_world_with cpus epoch rounds) steps → HappensIn cpus epoch rounds steps
happens-in cpus epoch rounds steps whole =
    let turned = first-turned cpus epoch rounds steps whole in
    let all = turns-follow (first_pair cpus epoch rounds) (first_processes cpus epoch rounds) turned.turns turned.effects turned.new (first-reached cpus epoch rounds) (first-later cpus epoch rounds) refl turned.are in
    let logs = left (first_pair cpus epoch rounds) turned.turns turned.effects turned.new turned.are in
    let reached : IsReached (world_of turned.new) = record { cpus = cpus; epoch = epoch; rounds = rounds; steps = steps; is = sym turned.world } in
    let has = nodes-of turned.new.up turned.new all.last all.fits (λ down. under_way-down (world_of turned.new) (kept-reached (world_of turned.new) reached) down) in
    record {
      events = all.events;
      last = all.last;
      are = all.are;
      settled = has.settled;
      here = turned.here ∙ sym all.here_is;
      there = turned.there ∙ sym all.there_is;
      source = ap (λ (w : World). w.source) turned.world ∙ sym has.source;
      destination = ap (λ (w : World). w.destination) turned.world ∙ sym has.destination;
      transcript =
          ap (λ (w : World). w.transcript) turned.world ∙ (λ i. logs.at_source i ++ logs.at_destination i)
          ∙ (λ i. source_entries (first_source cpus epoch rounds) (sym all.here_is i) ++ destination_entries (first_destination cpus) (sym all.there_is i));
    }
