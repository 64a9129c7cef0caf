-- Changes are events of two processes of which neither was replaced: the first destination could have taken the Resume itself.
use Rattle.std.proofs.Common.{◌≡◌, ℕ, Bool, true, false, List, [], ◌∷◌, ◌++◌, append_assoc, refl, sym, ap, subst, ◌∙◌}
use Rattle.std.specs.Prelude.{Ok}
use Rattle.std.specs.FinMap as finmap
use Rattle.std.proofs.lemmas.List.{append-nil}
use Rattle.mig_base.specs.declared.effect.Effect.{Effect}
use Rattle.mig_base.specs.declared.phase.DestPhase.{DestPhase}
use Rattle.mig_base.specs.declared.schedule.Side.{Side}
use Rattle.mig_model.specs.Destination.{Destination, first_destination, is_dest_paused}
use Rattle.mig_model.specs.Migration.{after_steps, first_world_with}
use Rattle.mig_model.specs.Source.{Source, first_source}
use Rattle.mig_model.specs.Wire.{Sent, sending}
use Rattle.mig_laws.specs.Processes.{AreEvents, Channel, Event, IsEvent, IsSettled, IsThere, Processes, first_processes, log_here, log_there, logged_here, logged_there}
use Rattle.mig_laws.specs.Replacements.{AreChanges, Change, IsReplaced, last_log, newcomer_log, not_run, resume_of, resume_taken, source_log}
use Rattle.mig_laws.specs.Sides.{Did, Line, destination_after, destination_entries, destination_line, entries_by, node_by, source_entries}
use Rattle.mig_laws.proofs.NotRun.{Copies, takes-resume}
use Rattle.mig_laws.proofs.Replaced.{EndsNoticed, IsBefore, after-append, entries-append, events-before, first-before, notice}
use Rattle.mig_laws.proofs.TwoProcesses.{IsWorldOf, world-of}

-- Events that grow at their end

pub events-append : (old mid new : Processes) (events more : List Event) → AreEvents old events mid → AreEvents mid more new → AreEvents old (events ++ more) new
events-append old mid new [] more is last = subst (λ now. AreEvents now more new) is last
events-append old mid new (event ∷ events) more is last = (is.0, is.1, events-append is.0 mid new events more is.2 last)

pub here-append : (events more : List Event) → log_here (events ++ more) ≡ log_here events ++ log_here more
here-append [] more = refl
here-append (event ∷ events) more = ap (λ lines. logged_here event ++ lines) (here-append events more) ∙ sym (append_assoc (logged_here event) (log_here events) (log_here more))

pub there-append : (events more : List Event) → log_there (events ++ more) ≡ log_there events ++ log_there more
there-append [] more = refl
there-append (event ∷ events) more = ap (λ lines. logged_there event ++ lines) (there-append events more) ∙ sym (append_assoc (logged_there event) (log_there events) (log_there more))

-- events in which the source makes no line
record Way (old : Processes) (there : List Line) (new : Processes) : Type 0 where
  events : List Event
  are : AreEvents old events new
  here_is : log_here events ≡ []
  there_is : log_there events ≡ there

way-then : (old mid new : Processes) (there more : List Line) → Way old there mid → Way mid more new → Way old (there ++ more) new
way-then old mid new there more way further =
    record {
      events = way.events ++ further.events;
      are = events-append old mid new way.events further.events way.are further.are;
      here_is = here-append way.events further.events ∙ (λ i. way.here_is i ++ further.here_is i);
      there_is = there-append way.events further.events ∙ (λ i. way.there_is i ++ further.there_is i);
    }

way-one : (old new : Processes) (event : Event) → IsEvent old event new → logged_here event ≡ [] → Way old (logged_there event) new
way-one old new event is silent = record { events = event ∷ []; are = (new, is, refl); here_is = ap (λ lines. lines ++ []) silent; there_is = append-nil (logged_there event) }

way-none : (old new : Processes) → new ≡ old → Way old [] new
way-none old new is = record { events = []; are = is; here_is = refl; there_is = refl }

-- The first destination takes the Resume

-- it has lost its channel
abbrev waiting : Source → Bool → Destination → Channel → List Channel → Processes
waiting source here node channel later = record { source = source; destination = node; first = channel; later = later; here = here; there = false }

-- a destination has taken it, whichever
abbrev joined : Source → Bool → ℕ → ℕ → Channel → List Sent → List Channel → Processes
joined source here cpus epoch next forward rest =
    record {
      source = source;
      destination = (resume_taken cpus epoch).node;
      first = record { forward = forward; back = sending next.back epoch (resume_taken cpus epoch).frames; urgent = next.urgent };
      later = rest;
      here = here;
      there = true;
    }

loses : (source : Source) (here reads : Bool) (node : Destination) (channel : Channel) (later : List Channel) →
    Way (record { source = source; destination = node; first = channel; later = later; here = here; there = reads }) [] (waiting source here node channel later)
loses source here true node channel later =
    way-one (record { source = source; destination = node; first = channel; later = later; here = here; there = true }) (waiting source here node channel later) Event.LosesThere (record { used = refl; is = refl }) refl
loses source here false node channel later = way-none (waiting source here node channel later) (waiting source here node channel later) refl

abbrev did_notice : ℕ → ℕ → Copies → Did Destination
did_notice cpus epoch kept = record { effect = Effect.Noticed Side.Destination; frames = []; urgent = []; entries = []; node = not_run cpus DestPhase.Paused epoch kept }

notices-by : (source : Source) (here : Bool) (cpus : ℕ) (phase : DestPhase) (epoch : ℕ) (kept : Copies) (channel : Channel) (later : List Channel) → destination_line (not_run cpus phase epoch kept) notice ≡ Ok (did_notice cpus epoch kept) →
    Way (waiting source here (not_run cpus phase epoch kept) channel later) (notice ∷ []) (waiting source here (not_run cpus DestPhase.Paused epoch kept) channel later)
notices-by source here cpus phase epoch kept channel later gives =
    let old = waiting source here (not_run cpus phase epoch kept) channel later in
    let new = waiting source here (not_run cpus DestPhase.Paused epoch kept) channel later in
    let line : IsThere old notice new = (did_notice cpus epoch kept, gives, record { may = refl; forward = channel.forward; takes = refl; urgent = channel.urgent; takes_urgent = refl; is = refl }) in
    way-one old new (Event.There notice) line refl

-- it notices, if it has not
record Notices (source : Source) (here : Bool) (cpus : ℕ) (phase : DestPhase) (epoch : ℕ) (kept : Copies) (channel : Channel) (later : List Channel) (log : List Line) : Type 0 where
  lines : List Line
  way : Way (waiting source here (not_run cpus phase epoch kept) channel later) lines (waiting source here (not_run cpus DestPhase.Paused epoch kept) channel later)
  earlier : List Line
  is : log ++ lines ≡ earlier ++ notice ∷ []

notices : (source : Source) (here : Bool) (cpus : ℕ) (phase : DestPhase) (epoch : ℕ) (kept : Copies) (channel : Channel) (later : List Channel) (log : List Line) → (is_dest_paused phase ≡ true → EndsNoticed log) →
    Notices source here cpus phase epoch kept channel later log
notices source here cpus DestPhase.Paused epoch kept channel later log noticed =
    let ends = noticed refl in
    let now = waiting source here (not_run cpus DestPhase.Paused epoch kept) channel later in
    record { lines = []; way = way-none now now refl; earlier = ends.0; is = append-nil log ∙ ends.1 }
notices source here cpus DestPhase.Idle epoch kept channel later log noticed = record { lines = notice ∷ []; way = notices-by source here cpus DestPhase.Idle epoch kept channel later refl; earlier = log; is = refl }
notices source here cpus DestPhase.Advised epoch kept channel later log noticed = record { lines = notice ∷ []; way = notices-by source here cpus DestPhase.Advised epoch kept channel later refl; earlier = log; is = refl }
notices source here cpus DestPhase.Discarding epoch kept channel later log noticed = record { lines = notice ∷ []; way = notices-by source here cpus DestPhase.Discarding epoch kept channel later refl; earlier = log; is = refl }
notices source here cpus DestPhase.Running epoch kept channel later log noticed = record { lines = notice ∷ []; way = notices-by source here cpus DestPhase.Running epoch kept channel later refl; earlier = log; is = refl }
notices source here cpus DestPhase.Ended epoch kept channel later log noticed = record { lines = notice ∷ []; way = notices-by source here cpus DestPhase.Ended epoch kept channel later refl; earlier = log; is = refl }

-- it changes to the channel whose Resume is taken, and takes it
joins : (source : Source) (here : Bool) (cpus epoch : ℕ) (kept : Copies) (channel : Channel) (skipped : List Channel) (next : Channel) (rest : List Channel) (at : ℕ) (forward : List Sent) → next.forward ≡ resume_of at ∷ forward →
    Way (waiting source here (not_run cpus DestPhase.Paused epoch kept) channel (skipped ++ next ∷ rest)) (Line.Took (resume_of at) ∷ []) (joined source here cpus at next forward rest)
joins source here cpus epoch kept channel [] next rest at forward takes =
    let node = not_run cpus DestPhase.Paused epoch kept in
    let mid : Processes = record { source = source; destination = node; first = next; later = rest; here = here; there = true } in
    let new = joined source here cpus at next forward rest in
    let line : IsThere mid (Line.Took (resume_of at)) new =
    (resume_taken cpus at, takes-resume cpus DestPhase.Paused epoch kept at, record { may = refl; forward = forward; takes = takes; urgent = next.urgent; takes_urgent = refl; is = refl }) in
    way-then (waiting source here node channel (next ∷ rest)) mid new [] (Line.Took (resume_of at) ∷ [])
    (way-one (waiting source here node channel (next ∷ rest)) mid Event.Joins (record { lost = refl; paused = refl; next = next; rest = rest; opened = refl; is = refl }) refl)
    (way-one mid new (Event.There (Line.Took (resume_of at))) line refl)
joins source here cpus epoch kept channel (other ∷ skipped) next rest at forward takes =
    let node = not_run cpus DestPhase.Paused epoch kept in
    let later = skipped ++ next ∷ rest in
    let mid : Processes = record { source = source; destination = node; first = other; later = later; here = here; there = true } in
    let new = joined source here cpus at next forward rest in
    way-then (waiting source here node channel (other ∷ later)) mid new [] (Line.Took (resume_of at) ∷ [])
    (way-one (waiting source here node channel (other ∷ later)) mid Event.Joins (record { lost = refl; paused = refl; next = other; rest = later; opened = refl; is = refl }) refl)
    (way-then mid (waiting source here node other later) new [] (Line.Took (resume_of at) ∷ []) (loses source here true node other later) (joins source here cpus epoch kept other skipped next rest at forward takes))

-- the lines that the first destination makes so, after its log
record InPlace (old : Processes) (log : List Line) (epoch : ℕ) (new : Processes) : Type 0 where
  lines : List Line
  way : Way old lines new
  earlier : List Line
  is : log ++ lines ≡ earlier ++ newcomer_log epoch

in-place : (cpus : ℕ) (log : List Line) (old : Processes) (epoch : ℕ) (new : Processes) → IsReplaced cpus old epoch new → IsBefore cpus log old → InPlace old log epoch new
in-place cpus log old epoch new is before =
    let know = before.is_not_run in
    let phase = know.0 in
    let last = know.1 in
    let kept = know.2 in
    let later = is.skipped ++ is.next ∷ is.rest in
    let noticed : (is_dest_paused phase ≡ true → EndsNoticed log) = λ paused. before.noticed (ap (λ (n : Destination). is_dest_paused n.phase) know.3 ∙ paused) in
    let found = notices old.source old.here cpus phase last kept old.first later log noticed in
    let start : Processes = record { source = old.source; destination = not_run cpus phase last kept; first = old.first; later = later; here = old.here; there = old.there } in
    let begins : start ≡ old = λ i. record { source = old.source; destination = sym know.3 i; first = old.first; later = sym is.opened i; here = old.here; there = old.there } in
    let lost = waiting old.source old.here (not_run cpus phase last kept) old.first later in
    let paused = waiting old.source old.here (not_run cpus DestPhase.Paused last kept) old.first later in
    let end = joined old.source old.here cpus epoch is.next is.forward is.rest in
    let took = joins old.source old.here cpus last kept old.first is.skipped is.next is.rest epoch is.forward is.takes in
    let whole = way-then start lost end [] (found.lines ++ Line.Took (resume_of epoch) ∷ []) (loses old.source old.here old.there (not_run cpus phase last kept) old.first later)
    (way-then lost paused end found.lines (Line.Took (resume_of epoch) ∷ []) found.way took) in
    record {
      lines = found.lines ++ Line.Took (resume_of epoch) ∷ [];
      way = subst (λ now. Way old (found.lines ++ Line.Took (resume_of epoch) ∷ []) now) (sym is.is) (subst (λ now. Way now (found.lines ++ Line.Took (resume_of epoch) ∷ []) end) begins whole);
      earlier = found.earlier;
      is =
          sym (append_assoc log found.lines (Line.Took (resume_of epoch) ∷ [])) ∙ ap (λ lines. lines ++ Line.Took (resume_of epoch) ∷ []) found.is
          ∙ append_assoc found.earlier (notice ∷ []) (Line.Took (resume_of epoch) ∷ []);
    }

-- Changes

-- events that lead to the processes to which changes lead, with the source's log and, at the end, the last destination's
pub record Stands (cpus : ℕ) (first : Processes) (here last : List Line) (now : Processes) : Type 0 where
  pub events : List Event
  pub are : AreEvents first events now
  pub here_is : log_here events ≡ here
  pub earlier : List Line
  pub there_is : log_there events ≡ earlier ++ last
  pub whole : now.destination ≡ destination_after (first_destination cpus) (log_there events)
  pub at : now.destination ≡ destination_after (first_destination cpus) last
  pub entered : destination_entries (first_destination cpus) (log_there events) ≡ destination_entries (first_destination cpus) last

-- one more line at the end of a log that leads to a destination
pub after-event : (cpus : ℕ) (old : Processes) (event : Event) (new : Processes) (log : List Line) → IsEvent old event new → old.destination ≡ destination_after (first_destination cpus) log →
    new.destination ≡ destination_after (first_destination cpus) (log ++ logged_there event)
after-event cpus old (Event.There line) new log is at =
    ap (λ (now : Processes). now.destination) is.2.is ∙ sym (ap (node_by old.destination) is.1) ∙ ap (λ node. node_by node (destination_line node line)) at ∙ sym (after-append (first_destination cpus) log (line ∷ []))
after-event cpus old (Event.Here line) new log is at = ap (λ (now : Processes). now.destination) is.2.is ∙ at ∙ ap (destination_after (first_destination cpus)) (sym (append-nil log))
after-event cpus old Event.Opens new log is at = ap (λ (now : Processes). now.destination) is.is ∙ at ∙ ap (destination_after (first_destination cpus)) (sym (append-nil log))
after-event cpus old Event.LosesHere new log is at = ap (λ (now : Processes). now.destination) is.is ∙ at ∙ ap (destination_after (first_destination cpus)) (sym (append-nil log))
after-event cpus old Event.LosesThere new log is at = ap (λ (now : Processes). now.destination) is.is ∙ at ∙ ap (destination_after (first_destination cpus)) (sym (append-nil log))
after-event cpus old Event.Joins new log is at = ap (λ (now : Processes). now.destination) is.is ∙ at ∙ ap (destination_after (first_destination cpus)) (sym (append-nil log))

-- two logs that lead to the same destination have entered the same after the same lines
same-entered : (cpus : ℕ) (log last more : List Line) → destination_after (first_destination cpus) log ≡ destination_after (first_destination cpus) last → destination_entries (first_destination cpus) log ≡ destination_entries (first_destination cpus) last →
    destination_entries (first_destination cpus) (log ++ more) ≡ destination_entries (first_destination cpus) (last ++ more)
same-entered cpus log last more same entered =
    entries-append (first_destination cpus) log more ∙ (λ i. entered i ++ destination_entries (same i) more) ∙ sym (entries-append (first_destination cpus) last more)

happens : (cpus : ℕ) (first : Processes) (here last : List Line) (old : Processes) (event : Event) (new : Processes) → Stands cpus first here last old → IsEvent old event new → Stands cpus first (here ++ logged_here event) (last ++ logged_there event) new
happens cpus first here last old event new stands is =
    let grown : log_there (stands.events ++ event ∷ []) ≡ log_there stands.events ++ logged_there event = there-append stands.events (event ∷ []) ∙ ap (λ lines. log_there stands.events ++ lines) (append-nil (logged_there event)) in
    record {
      events = stands.events ++ event ∷ [];
      are = events-append first old new stands.events (event ∷ []) stands.are (new, is, refl);
      here_is = here-append stands.events (event ∷ []) ∙ (λ i. stands.here_is i ++ append-nil (logged_here event) i);
      earlier = stands.earlier;
      there_is = grown ∙ ap (λ lines. lines ++ logged_there event) stands.there_is ∙ append_assoc stands.earlier last (logged_there event);
      whole = after-event cpus old event new (log_there stands.events) is stands.whole ∙ ap (destination_after (first_destination cpus)) (sym grown);
      at = after-event cpus old event new last is stands.at;
      entered = ap (destination_entries (first_destination cpus)) grown ∙ same-entered cpus (log_there stands.events) last (logged_there event) (sym stands.whole ∙ stands.at) stands.entered;
    }

-- the log of a newcomer, by itself
pub newcomer-at : (cpus epoch : ℕ) → destination_after (first_destination cpus) (newcomer_log epoch) ≡ (resume_taken cpus epoch).node
newcomer-at cpus epoch = ap (node_by (not_run cpus DestPhase.Paused 0 finmap.empty)) (takes-resume cpus DestPhase.Paused 0 finmap.empty epoch)

pub newcomer-silent : (cpus epoch : ℕ) → destination_entries (first_destination cpus) (newcomer_log epoch) ≡ []
newcomer-silent cpus epoch = ap (λ given. entries_by given ++ []) (takes-resume cpus DestPhase.Paused 0 finmap.empty epoch)

replaced : (cpus epoch rounds : ℕ) (here last : List Line) (old : Processes) (at : ℕ) (new : Processes) → Stands cpus (first_processes cpus epoch rounds) here last old → IsReplaced cpus old at new → Stands cpus (first_processes cpus epoch rounds) here (newcomer_log at) new
replaced cpus epoch rounds here last old at new stands is =
    let first = first_processes cpus epoch rounds in
    let log = log_there stands.events in
    let before = events-before cpus [] first stands.events old stands.are (first-before cpus epoch rounds) is.before in
    let place = in-place cpus log old at new is before in
    let more = place.way.events in
    let grown : log_there (stands.events ++ more) ≡ log ++ log_there more = there-append stands.events more in
    let are = events-append first old new stands.events more stands.are place.way.are in
    let off : new.source.switched ≡ false = ap (λ (now : Processes). now.source.switched) is.is ∙ is.before in
    let after = events-before cpus [] first (stands.events ++ more) new are (first-before cpus epoch rounds) off in
    record {
      events = stands.events ++ more;
      are = are;
      here_is = here-append stands.events more ∙ ap (λ lines. log_here stands.events ++ lines) place.way.here_is ∙ append-nil (log_here stands.events) ∙ stands.here_is;
      earlier = place.earlier;
      there_is = grown ∙ ap (λ lines. log ++ lines) place.way.there_is ∙ place.is;
      whole = after.at;
      at = ap (λ (now : Processes). now.destination) is.is ∙ sym (newcomer-at cpus at);
      entered = after.silent ∙ sym (newcomer-silent cpus at);
    }

changes-stand : (cpus epoch rounds : ℕ) (here last : List Line) (old : Processes) (changes : List Change) (new : Processes) → AreChanges cpus old changes new → Stands cpus (first_processes cpus epoch rounds) here last old →
    Stands cpus (first_processes cpus epoch rounds) (here ++ source_log changes) (last_log last changes) new
changes-stand cpus epoch rounds here last old [] new is stands =
    subst (λ log. Stands cpus (first_processes cpus epoch rounds) log last new) (sym (append-nil here)) (subst (Stands cpus (first_processes cpus epoch rounds) here last) (sym is) stands)
changes-stand cpus epoch rounds here last old (Change.Happens event ∷ changes) new is stands =
    let first = first_processes cpus epoch rounds in
    subst (λ log. Stands cpus first log (last_log last (Change.Happens event ∷ changes)) new) (append_assoc here (logged_here event) (source_log changes))
    (changes-stand cpus epoch rounds (here ++ logged_here event) (last ++ logged_there event) is.0 changes new is.2 (happens cpus first here last old event is.0 stands is.1))
changes-stand cpus epoch rounds here last old (Change.Replaced at ∷ changes) new is stands =
    changes-stand cpus epoch rounds here (newcomer_log at) is.0 changes new is.2 (replaced cpus epoch rounds here last old at is.0 stands is.1)

pub stands : (cpus epoch rounds : ℕ) (changes : List Change) (new : Processes) → AreChanges cpus (first_processes cpus epoch rounds) changes new → Stands cpus (first_processes cpus epoch rounds) (source_log changes) (last_log [] changes) new
stands cpus epoch rounds changes new are =
    let first = first_processes cpus epoch rounds in
    changes-stand cpus epoch rounds [] [] first changes new are (record { events = []; are = refl; here_is = refl; earlier = []; there_is = refl; whole = refl; at = refl; entered = refl })

-- The world of the source and of the last destination

pub record IsWorldOfLast (cpus epoch rounds : ℕ) (here last : List Line) (source : Source) (destination : Destination) : Type 0 where
  pub earlier : List Line
  pub world : IsWorldOf cpus epoch rounds here (earlier ++ last) source destination
  pub transcript_is : (after_steps (first_world_with cpus epoch rounds) world.steps).transcript ≡ source_entries (first_source cpus epoch rounds) here ++ destination_entries (first_destination cpus) last

pub world-of-last : (cpus epoch rounds : ℕ) (changes : List Change) (new : Processes) → AreChanges cpus (first_processes cpus epoch rounds) changes new → IsSettled new →
    IsWorldOfLast cpus epoch rounds (source_log changes) (last_log [] changes) new.source new.destination
world-of-last cpus epoch rounds changes new are settled =
    let stand = stands cpus epoch rounds changes new are in
    let world = world-of cpus epoch rounds stand.events new stand.are settled in
    record {
      earlier = stand.earlier;
      world = record {
        steps = world.steps;
        here_is = world.here_is ∙ stand.here_is;
        there_is = world.there_is ∙ stand.there_is;
        source_is = world.source_is;
        destination_is = world.destination_is;
        transcript_is = world.transcript_is ∙ (λ i. source_entries (first_source cpus epoch rounds) (stand.here_is i) ++ destination_entries (first_destination cpus) (stand.there_is i));
      };
      transcript_is = world.transcript_is ∙ (λ i. source_entries (first_source cpus epoch rounds) (stand.here_is i) ++ stand.entered i);
    }
