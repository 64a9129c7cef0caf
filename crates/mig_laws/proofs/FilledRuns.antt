-- Two drivers that do their part are two processes whose nodes hold all bytes: each deed is an event of these.
use Rattle.std.proofs.Common.{◌≡◌, ℕ, not, Bool, true, false, List, [], ◌∷◌, ◌++◌, map, if◌then◌else◌, append_assoc, refl, sym, ap, subst, ◌∙◌}
use Rattle.std.specs.Prelude.{Ok}
use Rattle.std.proofs.lemmas.List.{append-nil}
use Rattle.mig_base.specs.declared.command.Command.{Command}
use Rattle.mig_base.specs.declared.command.Entry.{Entry}
use Rattle.mig_base.specs.declared.cpu_state.CpuState.{CpuState}
use Rattle.mig_base.specs.declared.schedule.Side.{Side}
use Rattle.mig_base.specs.declared.schedule.Step.{Step}
use Rattle.mig_model.specs.Destination.{Destination}
use Rattle.mig_model.specs.Source.{Source}
use Rattle.mig_model.specs.SourceSteps as source
use Rattle.mig_model.specs.Wire.{Sent, sending, sending_if}
use Rattle.mig_model.proofs.steps.StepLemmas.{holds-unless}
use Rattle.mig_laws.specs.Contents.{AreWholePages}
use Rattle.mig_laws.specs.Drivers.{AreDeeds, Deed, Drivers, IsAccessHere, IsAccessThere, IsDeed, IsDoneHere, IsDoneThere, IsNewThere, IsOfChannel, change_of, filled, here_after, no_byte, none_held, none_there, there_after}
use Rattle.mig_laws.specs.Orders.{TakesFront, TakesUrgentFront, is_alone, source_may, destination_may}
use Rattle.mig_laws.specs.Processes.{Channel, Event, IsEvent, Processes, last_of, logged_here, logged_there, put_first, put_later}
use Rattle.mig_laws.specs.Sides.{Did, Line, destination_entries, destination_line, entries_by, node_by, sends, source_entries, source_line, tries}
use Rattle.mig_laws.specs.Worlds.{AreWholeFrames, destination_under, source_under}
use Rattle.mig_laws.proofs.AcceptedSteps.{ok-holds}
use Rattle.mig_laws.proofs.HeldDestination.{TakesWhole, line-there, there_of}
use Rattle.mig_laws.proofs.HeldGuests.{all-filled-under, held_of, made-held}
use Rattle.mig_laws.proofs.HeldSource.{line-here}
use Rattle.mig_laws.proofs.OrderRuns.{over_map}
use Rattle.mig_laws.proofs.QuietAccesses.{guest-quiet, issued-quiet, quiet}
use Rattle.mig_laws.proofs.Replaced.{resume-sent}
use Rattle.mig_laws.proofs.EnteredLines.{answered, bytes_here, bytes_there, did_entered, here-entered, line-here-entered, line-there-entered, there-entered}
use Rattle.mig_laws.proofs.WholeWorlds.{HasWholeCopies, sent_if_whole, sent_whole}
use Rattle.mig_base.specs.declared.phase.DestPhase.{DestPhase}
use Rattle.mig_model.specs.Destination.{first_destination}
use Rattle.mig_laws.specs.Replacements.{AreChanges, Change, IsReplaced, last_log, newcomer_log, resume_of, resume_taken, source_log}
use Rattle.mig_laws.specs.Sides.{destination_after}
use Rattle.mig_laws.proofs.ChangedRuns.{first-under}
use Rattle.mig_laws.proofs.HeldGuests.{none_waits}
use Rattle.mig_laws.proofs.PageMaps.{map_values-empty}
use Rattle.mig_laws.proofs.Replaced.{entries-append}
use Rattle.mig_laws.proofs.ReplacedRuns.{after-event, newcomer-at, newcomer-silent}
use Rattle.mig_laws.proofs.WholePages.{none_whole}

-- Whole pages everywhere

pub record IsWholeChannel (channel : Channel) : Type 0 where
  pub forward : AreWholeFrames channel.forward
  pub urgent : AreWholeFrames channel.urgent

abbrev pub AreWholeChannels : List Channel → Type 0
AreWholeChannels [] = Unit {0}
AreWholeChannels (channel ∷ later) = IsWholeChannel channel × AreWholeChannels later

pub record AreWholeProcesses (full : Processes) : Type 0 where
  pub source : AreWholePages full.source.guest.space.host.bytes
  pub destination : HasWholeCopies full.destination
  pub first : IsWholeChannel full.first
  pub later : AreWholeChannels full.later

pub last-whole : (first : Channel) (later : List Channel) → IsWholeChannel first → AreWholeChannels later → IsWholeChannel (last_of first later)
last-whole first [] one rest = one
last-whole first (channel ∷ later) one rest = last-whole channel later rest.0 rest.1

pub put_first-whole : (first : Channel) (later : List Channel) (new : Channel) → IsWholeChannel first → IsWholeChannel new → IsWholeChannel (put_first first later new)
put_first-whole first [] new one other = other
put_first-whole first (channel ∷ later) new one other = one

pub put_later-whole : (later : List Channel) (new : Channel) → AreWholeChannels later → IsWholeChannel new → AreWholeChannels (put_later later new)
put_later-whole [] new rest other = tt
put_later-whole (channel ∷ later) new rest other = (put_first-whole channel later new rest.0 other, put_later-whole later new rest.1 other)

pub more-whole : (later : List Channel) (new : Channel) → AreWholeChannels later → IsWholeChannel new → AreWholeChannels (later ++ new ∷ [])
more-whole [] new rest other = (other, tt)
more-whole (channel ∷ later) new rest other = (rest.0, more-whole later new rest.1 other)

-- what is taken is whole, and so is what stays
pub record IsTaken (line : Line) (rest left : List Sent) : Type 0 where
  pub line_whole : TakesWhole line
  pub rest_whole : AreWholeFrames rest
  pub left_whole : AreWholeFrames left

pub taken-whole : (line : Line) (flight rest urgent left : List Sent) → TakesFront line flight rest → TakesUrgentFront line urgent left → AreWholeFrames flight → AreWholeFrames urgent → IsTaken line rest left
taken-whole (Line.Made step) flight rest urgent left front other one two = record { line_whole = tt; rest_whole = subst AreWholeFrames (sym front) one; left_whole = subst AreWholeFrames (sym other) two }
taken-whole (Line.Took sent) flight rest urgent left front other one two =
    let frames : AreWholeFrames (sent ∷ rest) = subst AreWholeFrames front one in
    record { line_whole = frames.0; rest_whole = frames.1; left_whole = subst AreWholeFrames (sym other) two }
taken-whole (Line.TookUrgent sent) flight rest urgent left front other one two =
    let frames : AreWholeFrames (sent ∷ left) = subst AreWholeFrames other two in
    record { line_whole = frames.0; rest_whole = subst AreWholeFrames (sym front) one; left_whole = frames.1 }

-- Drivers of nodes with all bytes

-- the drivers whose bytes are those of two processes, and whose guest has entered these entries
abbrev pub drivers_of : Processes → List Entry → List Entry → Drivers
drivers_of full said heard =
    record {
      nodes = record full { source = source_under no_byte full.source; destination = destination_under no_byte full.destination };
      here = held_of full.source.guest said;
      there = there_of full.destination heard;
    }

-- an event of the two processes leads to those of the new drivers
record Happened (full : Processes) (said heard : List Entry) (event : Event) (new : Drivers) : Type 0 where
  next : Processes
  is_event : IsEvent full event next
  more : List Entry
  further : List Entry
  new_is : new ≡ drivers_of next (said ++ more) (heard ++ further)
  whole : AreWholeProcesses next
  here_is : (rest : List Line) → source_entries full.source (logged_here event ++ rest) ≡ more ++ source_entries next.source rest
  there_is : (rest : List Line) → destination_entries full.destination (logged_there event ++ rest) ≡ further ++ destination_entries next.destination rest

-- A line of the source

done-here : (full : Processes) (said heard : List Entry) (line : Line) (new : Drivers) → AreWholeProcesses full → IsDoneHere (drivers_of full said heard) line new → Happened full said heard (Event.Here line) new
done-here full said heard line new whole is =
    let held = held_of full.source.guest said in
    let given = answered (did_entered (source_under no_byte) (bytes_here full.source line)) (source_line full.source line) is.did (sym (line-here-entered full.source whole.source line) ∙ is.gives) in
    let did = given.0 in
    let gives = given.1 in
    let same = given.2 in
    let kept = line-here full.source line said did whole.source gives in
    let last = last_of full.first full.later in
    let last_is = last-whole full.first full.later whole.first whole.later in
    let frames : map (filled held) is.did.frames ≡ did.frames = ap (λ (d : Did Source). map (filled held) d.frames) same ∙ all-filled-under no_byte held did.frames ∙ kept.frames in
    let urgent : map (filled held) is.did.urgent ≡ did.urgent = ap (λ (d : Did Source). map (filled held) d.urgent) same ∙ all-filled-under no_byte held did.urgent ∙ kept.urgent in
    let channel = is.goes.channel in
    let puts : channel ≡ record { forward = sending_if full.here last.forward did.node.epoch did.frames; back = is.goes.back; urgent = sending_if full.here last.urgent did.node.epoch did.urgent } =
    is.goes.puts ∙ (λ i. record { forward = sending_if full.here last.forward (same i).node.epoch (frames i); back = is.goes.back; urgent = sending_if full.here last.urgent (same i).node.epoch (urgent i) }) in
    let channel_whole : IsWholeChannel channel =
    subst IsWholeChannel (sym puts)
    (record { forward = sent_if_whole full.here last.forward did.node.epoch did.frames last_is.forward kept.whole_frames; urgent = sent_if_whole full.here last.urgent did.node.epoch did.urgent last_is.urgent kept.whole_urgent }) in
    let next : Processes = record full { source = did.node; first = put_first full.first full.later channel; later = put_later full.later channel } in
    let nodes : is.nodes ≡ (drivers_of next said heard).nodes =
    is.goes.is ∙ (λ i. record (drivers_of full said heard).nodes { source = (same i).node; first = put_first full.first full.later channel; later = put_later full.later channel }) in
    let here : here_after line is.did.effect (source_under no_byte full.source).guest held ≡ held_of did.node.guest (said ++ did.entries) =
    ap (λ (d : Did Source). here_after line d.effect (source_under no_byte full.source).guest held) same ∙ here-entered line (bytes_here full.source line) did.effect full.source.guest held ∙ kept.held in
    record {
      next = next;
      is_event = (did, gives, record { may = is.goes.may; back = is.goes.back; takes = is.goes.takes; channel = channel; puts = puts; is = refl });
      more = did.entries;
      further = [];
      new_is = is.is ∙ (λ i. record { nodes = nodes i; here = here i; there = there_of full.destination (sym (append-nil heard) i) });
      whole = record {
        source = kept.whole;
        destination = whole.destination;
        first = put_first-whole full.first full.later channel whole.first channel_whole;
        later = put_later-whole full.later channel whole.later channel_whole;
      };
      here_is = λ rest i. entries_by (gives i) ++ source_entries (node_by full.source (gives i)) rest;
      there_is = λ rest. refl;
    }

-- A line of the destination

done-there : (full : Processes) (said heard : List Entry) (line : Line) (new : Drivers) → AreWholeProcesses full → IsDoneThere (drivers_of full said heard) line new → Happened full said heard (Event.There line) new
done-there full said heard line new whole is =
    let there = there_of full.destination heard in
    let taken = taken-whole line full.first.forward is.goes.forward full.first.urgent is.goes.urgent is.goes.takes is.goes.takes_urgent whole.first.forward whole.first.urgent in
    let given = answered (did_entered (destination_under no_byte) (bytes_there line)) (destination_line full.destination line) is.did
    (sym (line-there-entered full.destination whole.destination.memory line taken.line_whole) ∙ is.gives) in
    let did = given.0 in
    let gives = given.1 in
    let same = given.2 in
    let kept = line-there full.destination line heard did whole.destination taken.line_whole gives in
    let frames : is.did.frames ≡ did.frames = ap (λ (d : Did Destination). d.frames) same ∙ kept.bare in
    let channel : Channel = record { forward = is.goes.forward; back = sending_if full.there full.first.back did.node.epoch did.frames; urgent = is.goes.urgent } in
    let next : Processes = record full { destination = did.node; first = channel } in
    let nodes : is.nodes ≡ (drivers_of next said heard).nodes =
    is.goes.is
    ∙ (λ i.
    record (drivers_of full said heard).nodes {
      destination = (same i).node;
      first = record { forward = is.goes.forward; back = sending_if full.there full.first.back (same i).node.epoch (frames i); urgent = is.goes.urgent };
    }) in
    let there_is : there_after line is.did.effect (destination_under no_byte full.destination) there ≡ there_of did.node (heard ++ did.entries) =
    ap (λ (d : Did Destination). there_after line d.effect (destination_under no_byte full.destination) there) same ∙ there-entered line (bytes_there line) did.effect full.destination there ∙ kept.there in
    record {
      next = next;
      is_event = (did, gives, record { may = is.goes.may; forward = is.goes.forward; takes = is.goes.takes; urgent = is.goes.urgent; takes_urgent = is.goes.takes_urgent; is = refl });
      more = [];
      further = did.entries;
      new_is = is.is ∙ (λ i. record { nodes = nodes i; here = held_of full.source.guest (sym (append-nil said) i); there = there_is i });
      whole = record { source = whole.source; destination = kept.whole; first = record { forward = taken.rest_whole; urgent = taken.left_whole }; later = whole.later };
      here_is = λ rest. refl;
      there_is = λ rest i. entries_by (gives i) ++ destination_entries (node_by full.destination (gives i)) rest;
    }

-- Channels

-- the drivers' nodes change, and nothing that has bytes
same-bytes : (full : Processes) (said heard : List Entry) (next : Processes) (new : Drivers) (nodes : Processes) → new ≡ record (drivers_of full said heard) { nodes = nodes } → nodes ≡ (drivers_of next said heard).nodes →
    next.source.guest ≡ full.source.guest → next.destination ≡ full.destination → new ≡ drivers_of next (said ++ []) (heard ++ [])
same-bytes full said heard next new nodes is nodes_is guest destination =
    is ∙ (λ i. record { nodes = nodes_is i; here = held_of (sym guest i) (sym (append-nil said) i); there = there_of (sym destination i) (sym (append-nil heard) i) })

pub resumes-quiet : (node : Source) (did : Did Source) → source_line node (Line.Made Step.Resume) ≡ Ok did → (did.urgent ≡ []) × (did.entries ≡ []) × (did.node.guest ≡ node.guest)
resumes-quiet node did gives =
    ok-holds (λ (d : Did Source). (d.urgent ≡ []) × (d.entries ≡ []) × (d.node.guest ≡ node.guest)) (sends (source.resume node)) did (over_map _ _ (source.resume node) (holds-unless _ _ _ (λ none. (refl, refl, refl)))) gives

opens : (full : Processes) (said heard : List Entry) (new : Drivers) → AreWholeProcesses full → IsOfChannel (drivers_of full said heard) Event.Opens new → Happened full said heard Event.Opens new
opens full said heard new whole is =
    let opening = is.becomes in
    let given = answered (did_entered (source_under no_byte) (bytes_here full.source (Line.Made Step.Resume))) (source_line full.source (Line.Made Step.Resume)) opening.did
    (sym (line-here-entered full.source whole.source (Line.Made Step.Resume)) ∙ opening.gives) in
    let did = given.0 in
    let gives = given.1 in
    let same = given.2 in
    let calm = resumes-quiet full.source did gives in
    let frames : opening.did.frames ≡ did.frames = resume-sent (source_under no_byte full.source) opening.did opening.gives ∙ sym (resume-sent full.source did gives) in
    let urgent : opening.did.urgent ≡ did.urgent = (resumes-quiet (source_under no_byte full.source) opening.did opening.gives).0 ∙ sym calm.0 in
    let opened : Channel = record { forward = sending [] did.node.epoch did.frames; back = []; urgent = sending [] did.node.epoch did.urgent } in
    let kept = line-here full.source (Line.Made Step.Resume) said did whole.source gives in
    let next : Processes = record full { source = did.node; later = full.later ++ opened ∷ []; here = true } in
    let nodes : is.nodes ≡ (drivers_of next said heard).nodes =
    opening.is
    ∙ (λ i.
    record (drivers_of full said heard).nodes {
      source = (same i).node;
      later = full.later ++ record { forward = sending [] (same i).node.epoch (frames i); back = []; urgent = sending [] (same i).node.epoch (urgent i) } ∷ [];
      here = true;
    }) in
    record {
      next = next;
      is_event = record { did = did; gives = gives; lost = opening.lost; is = refl };
      more = [];
      further = [];
      new_is = same-bytes full said heard next new is.nodes is.is nodes calm.2 refl;
      whole = record {
        source = kept.whole;
        destination = whole.destination;
        first = whole.first;
        later = more-whole full.later opened whole.later (record { forward = sent_whole [] did.node.epoch did.frames tt kept.whole_frames; urgent = sent_whole [] did.node.epoch did.urgent tt kept.whole_urgent });
      };
      here_is = λ rest. (λ i. entries_by (gives i) ++ source_entries (node_by full.source (gives i)) rest) ∙ ap (λ entries. entries ++ source_entries did.node rest) calm.1;
      there_is = λ rest. refl;
    }

loses_here : (full : Processes) (said heard : List Entry) (new : Drivers) → AreWholeProcesses full → IsOfChannel (drivers_of full said heard) Event.LosesHere new → Happened full said heard Event.LosesHere new
loses_here full said heard new whole is =
    let next : Processes = record full { here = false } in
    record {
      next = next;
      is_event = record { used = is.becomes.used; under_way = is.becomes.under_way; is = refl };
      more = [];
      further = [];
      new_is = same-bytes full said heard next new is.nodes is.is is.becomes.is refl refl;
      whole = record { source = whole.source; destination = whole.destination; first = whole.first; later = whole.later };
      here_is = λ rest. refl;
      there_is = λ rest. refl;
    }

loses_there : (full : Processes) (said heard : List Entry) (new : Drivers) → AreWholeProcesses full → IsOfChannel (drivers_of full said heard) Event.LosesThere new → Happened full said heard Event.LosesThere new
loses_there full said heard new whole is =
    let next : Processes = record full { there = false } in
    record {
      next = next;
      is_event = record { used = is.becomes.used; is = refl };
      more = [];
      further = [];
      new_is = same-bytes full said heard next new is.nodes is.is is.becomes.is refl refl;
      whole = record { source = whole.source; destination = whole.destination; first = whole.first; later = whole.later };
      here_is = λ rest. refl;
      there_is = λ rest. refl;
    }

joins : (full : Processes) (said heard : List Entry) (new : Drivers) → AreWholeProcesses full → IsOfChannel (drivers_of full said heard) Event.Joins new → Happened full said heard Event.Joins new
joins full said heard new whole is =
    let joining = is.becomes in
    let next : Processes = record full { first = joining.next; later = joining.rest; there = true } in
    let later : AreWholeChannels (joining.next ∷ joining.rest) = subst AreWholeChannels joining.opened whole.later in
    record {
      next = next;
      is_event = record { lost = joining.lost; paused = joining.paused; next = joining.next; rest = joining.rest; opened = joining.opened; is = refl };
      more = [];
      further = [];
      new_is = same-bytes full said heard next new is.nodes is.is joining.is refl refl;
      whole = record { source = whole.source; destination = whole.destination; first = later.0; later = later.1 };
      here_is = λ rest. refl;
      there_is = λ rest. refl;
    }

-- Accesses that are entered at no node

may-here : (uses : Bool) (cpu : ℕ) (command : Command) → (if uses then source_may true false (Line.Made (Step.Issue cpu command)) else is_alone (Line.Made (Step.Issue cpu command))) ≡ true
may-here true cpu command = refl
may-here false cpu command = refl

may-there : (uses : Bool) (cpu : ℕ) (command : Command) → (if uses then destination_may true (Line.Made (Step.Issue cpu command)) else is_alone (Line.Made (Step.Issue cpu command))) ≡ true
may-there true cpu command = refl
may-there false cpu command = refl

sends-none : (uses : Bool) (wire : List Sent) (epoch : ℕ) → wire ≡ sending_if uses wire epoch []
sends-none true wire epoch = refl
sends-none false wire epoch = refl

put_first-same : (first : Channel) (later : List Channel) → put_first first later (last_of first later) ≡ first
put_first-same first [] = refl
put_first-same first (channel ∷ later) = refl

put_later-same : (first : Channel) (later : List Channel) → put_later later (last_of first later) ≡ later
put_later-same first [] = refl
put_later-same first (channel ∷ later) = λ i. put_first-same channel later i ∷ put_later-same channel later i

access-here : (full : Processes) (said heard : List Entry) (cpu : ℕ) (command : Command) (new : Drivers) → AreWholeProcesses full → IsAccessHere (drivers_of full said heard) cpu command new →
    Happened full said heard (Event.Here (Line.Made (Step.Issue cpu command))) new
access-here full said heard cpu command new whole is =
    let tried = quiet full.source.guest cpu command in
    let line = Line.Made (Step.Issue cpu command) in
    let node : Source = record full.source { guest = tried.guest } in
    let did : Did Source = record { effect = tried.effect; frames = []; urgent = []; entries = tried.entries; node = node } in
    let runs = ap not is.runs in
    let gives : source_line full.source line ≡ Ok did = ap (λ step. tries (λ guest. record full.source { guest = guest }) step) (issued-quiet full.source.guest (not full.source.switched) cpu command runs is.meets) in
    let last = last_of full.first full.later in
    let next : Processes = record full { source = node; first = put_first full.first full.later last; later = put_later full.later last } in
    let kept = line-here full.source line said did whole.source gives in
    let bare = guest-quiet full.source.guest cpu command whole.source is.meets in
    let last_is = last-whole full.first full.later whole.first whole.later in
    record {
      next = next;
      is_event = (
        did,
        gives,
        record {
          may = may-here full.here cpu command;
          back = last.back;
          takes = refl;
          channel = last;
          puts = λ i. record { forward = sends-none full.here last.forward full.source.epoch i; back = last.back; urgent = sends-none full.here last.urgent full.source.epoch i };
          is = refl;
        },
      );
      more = tried.entries;
      further = [];
      new_is =
          is.is
          ∙ (λ i.
          record {
            nodes = record (drivers_of full said heard).nodes {
              source = record (source_under no_byte full.source) { guest = sym bare i };
              first = sym (put_first-same full.first full.later) i;
              later = sym (put_later-same full.first full.later) i;
            };
            here = made-held full.source.guest cpu command said tried.guest.space CpuState.Idle refl refl i;
            there = there_of full.destination (sym (append-nil heard) i);
          });
      whole = record {
        source = kept.whole;
        destination = whole.destination;
        first = put_first-whole full.first full.later last whole.first last_is;
        later = put_later-whole full.later last whole.later last_is;
      };
      here_is = λ rest i. entries_by (gives i) ++ source_entries (node_by full.source (gives i)) rest;
      there_is = λ rest. refl;
    }

access-there : (full : Processes) (said heard : List Entry) (cpu : ℕ) (command : Command) (new : Drivers) → AreWholeProcesses full → IsAccessThere (drivers_of full said heard) cpu command new →
    Happened full said heard (Event.There (Line.Made (Step.Issue cpu command))) new
access-there full said heard cpu command new whole is =
    let tried = quiet full.destination.guest cpu command in
    let line = Line.Made (Step.Issue cpu command) in
    let node : Destination = record full.destination { guest = tried.guest } in
    let did : Did Destination = record { effect = tried.effect; frames = []; urgent = []; entries = tried.entries; node = node } in
    let gives : destination_line full.destination line ≡ Ok did = ap (λ step. tries (λ guest. record full.destination { guest = guest }) step) (issued-quiet full.destination.guest full.destination.has_run cpu command is.runs is.meets) in
    let next : Processes = record full { destination = node; first = record { forward = full.first.forward; back = sending_if full.there full.first.back node.epoch []; urgent = full.first.urgent } } in
    let kept = line-there full.destination line heard did whole.destination tt gives in
    let bare = guest-quiet full.destination.guest cpu command whole.destination.memory is.meets in
    record {
      next = next;
      is_event = (did, gives, record { may = may-there full.there cpu command; forward = full.first.forward; takes = refl; urgent = full.first.urgent; takes_urgent = refl; is = refl });
      more = [];
      further = tried.entries;
      new_is =
          is.is
          ∙ (λ i.
          record {
            nodes = record (drivers_of full said heard).nodes {
              destination = record (destination_under no_byte full.destination) { guest = sym bare i };
              first = record { forward = full.first.forward; back = sends-none full.there full.first.back node.epoch i; urgent = full.first.urgent };
            };
            here = held_of full.source.guest (sym (append-nil said) i);
            there = record (there_of full.destination heard) { held = made-held full.destination.guest cpu command heard tried.guest.space CpuState.Idle refl refl i };
          });
      whole = record { source = whole.source; destination = kept.whole; first = record { forward = whole.first.forward; urgent = whole.first.urgent }; later = whole.later };
      here_is = λ rest. refl;
      there_is = λ rest i. entries_by (gives i) ++ destination_entries (node_by full.destination (gives i)) rest;
    }

-- Another destination

suffix-whole : (skipped : List Channel) (next : Channel) (rest : List Channel) → AreWholeChannels (skipped ++ next ∷ rest) → IsWholeChannel next × AreWholeChannels rest
suffix-whole [] next rest whole = whole
suffix-whole (channel ∷ skipped) next rest whole = suffix-whole skipped next rest whole.1

-- a destination that has not run has no byte once its copies are gone
newcomer-bare : (cpus epoch : ℕ) → (resume_taken cpus epoch).node ≡ destination_under no_byte (resume_taken cpus epoch).node
newcomer-bare cpus epoch =
    let world = first-under no_byte cpus 0 0 in
    λ i. record (sym world i).destination { phase = DestPhase.Advised; epoch = epoch; kept = sym (map_values-empty (map no_byte)) i }

newcomer-has : (cpus epoch : ℕ) → none_there cpus ≡ there_of (resume_taken cpus epoch).node []
newcomer-has cpus epoch = λ i. record (none_there cpus) { held = record (none_held cpus) { waits = sym (none_waits cpus) i } }

-- the first two processes are now the source and the other destination
record IsTakenOver (cpus : ℕ) (full : Processes) (said : List Entry) (epoch : ℕ) (new : Drivers) : Type 0 where
  next : Processes
  replaced : IsReplaced cpus full epoch next
  new_is : new ≡ drivers_of next said []
  whole : AreWholeProcesses next
  source_is : next.source ≡ full.source
  destination_is : next.destination ≡ (resume_taken cpus epoch).node

new-there : (cpus : ℕ) (full : Processes) (said heard : List Entry) (epoch : ℕ) (new : Drivers) → AreWholeProcesses full → IsNewThere cpus (drivers_of full said heard) epoch new → IsTakenOver cpus full said epoch new
new-there cpus full said heard epoch new whole is =
    let becomes = is.becomes in
    let node = (resume_taken cpus epoch).node in
    let channel : Channel = record { forward = becomes.forward; back = sending becomes.next.back epoch (resume_taken cpus epoch).frames; urgent = becomes.next.urgent } in
    let next : Processes = record full { destination = node; first = channel; later = becomes.rest; there = true } in
    let later = suffix-whole becomes.skipped becomes.next becomes.rest (subst AreWholeChannels becomes.opened whole.later) in
    let frames : AreWholeFrames (resume_of epoch ∷ becomes.forward) = subst AreWholeFrames becomes.takes later.0.forward in
    let nodes : is.nodes ≡ (drivers_of next said []).nodes = becomes.is ∙ (λ i. record (drivers_of full said heard).nodes { destination = newcomer-bare cpus epoch i; first = channel; later = becomes.rest; there = true }) in
    record {
      next = next;
      replaced = record { before = becomes.before; skipped = becomes.skipped; next = becomes.next; rest = becomes.rest; opened = becomes.opened; forward = becomes.forward; takes = becomes.takes; is = refl };
      new_is = is.is ∙ (λ i. record { nodes = nodes i; here = held_of full.source.guest said; there = newcomer-has cpus epoch i });
      whole = record {
        source = whole.source;
        destination = record { memory = none_whole; kept = none_whole; arrivals = tt };
        first = record { forward = frames.1; urgent = later.0.urgent };
        later = later.1;
      };
      source_is = refl;
      destination_is = refl;
    }

-- Every deed

event-happens : (cpus : ℕ) (full : Processes) (said heard : List Entry) (event : Event) (new : Drivers) → AreWholeProcesses full → IsDeed cpus (drivers_of full said heard) (Deed.Happens event) new → Happened full said heard event new
event-happens cpus full said heard (Event.Here line) new whole is = done-here full said heard line new whole is
event-happens cpus full said heard (Event.There line) new whole is = done-there full said heard line new whole is
event-happens cpus full said heard Event.Opens new whole is = opens full said heard new whole is
event-happens cpus full said heard Event.LosesHere new whole is = loses_here full said heard new whole is
event-happens cpus full said heard Event.LosesThere new whole is = loses_there full said heard new whole is
event-happens cpus full said heard Event.Joins new whole is = joins full said heard new whole is

-- two processes whose nodes hold all bytes, of which the last destination has this log, as drivers
pub record Ran (cpus : ℕ) (full : Processes) (said : List Entry) (log : List Line) (changes : List Change) (new : Drivers) : Type 0 where
  pub last : Processes
  pub are : AreChanges cpus full changes last
  pub whole : AreWholeProcesses last
  pub new_is : new ≡ drivers_of last (said ++ source_entries full.source (source_log changes)) (destination_entries (first_destination cpus) (last_log log changes))

-- after an event the rest is a run of what is then
then-ran : (cpus : ℕ) (full : Processes) (said : List Entry) (log : List Line) (event : Event) (changes : List Change) (mid new : Drivers) (one : Happened full said (destination_entries (first_destination cpus) log) event mid) →
    Ran cpus one.next (said ++ one.more) (log ++ logged_there event) changes new → Ran cpus full said log (Change.Happens event ∷ changes) new
then-ran cpus full said log event changes mid new one rest =
    let heard = destination_entries (first_destination cpus) (last_log (log ++ logged_there event) changes) in
    record {
      last = rest.last;
      are = (one.next, one.is_event, rest.are);
      whole = rest.whole;
      new_is =
          rest.new_is ∙ (λ i. drivers_of rest.last (append_assoc said one.more (source_entries one.next.source (source_log changes)) i) heard)
          ∙ (λ i. drivers_of rest.last (said ++ sym (one.here_is (source_log changes)) i) heard);
    }

-- what the last destination has entered, once an event has happened
heard-then : (cpus : ℕ) (full : Processes) (said : List Entry) (log : List Line) (event : Event) (mid : Drivers) (one : Happened full said (destination_entries (first_destination cpus) log) event mid) →
    full.destination ≡ destination_after (first_destination cpus) log → destination_entries (first_destination cpus) log ++ one.further ≡ destination_entries (first_destination cpus) (log ++ logged_there event)
heard-then cpus full said log event mid one at =
    let further : destination_entries full.destination (logged_there event) ≡ one.further =
    ap (destination_entries full.destination) (sym (append-nil (logged_there event))) ∙ one.there_is [] ∙ append-nil one.further in
    ap (λ entries. destination_entries (first_destination cpus) log ++ entries) (sym further) ∙ ap (λ node. destination_entries (first_destination cpus) log ++ destination_entries node (logged_there event)) at
    ∙ sym (entries-append (first_destination cpus) log (logged_there event))

-- the rest of the deeds begins with the drivers of what is then
moved : (cpus : ℕ) (full : Processes) (said : List Entry) (log : List Line) (event : Event) (deeds : List Deed) (mid new : Drivers) (one : Happened full said (destination_entries (first_destination cpus) log) event mid) →
    full.destination ≡ destination_after (first_destination cpus) log → AreDeeds cpus mid deeds new →
    AreDeeds cpus (drivers_of one.next (said ++ one.more) (destination_entries (first_destination cpus) (log ++ logged_there event))) deeds new
moved cpus full said log event deeds mid new one at are =
    subst (λ from. AreDeeds cpus from deeds new) (one.new_is ∙ (λ i. drivers_of one.next (said ++ one.more) (heard-then cpus full said log event mid one at i))) are

pub deeds-run : (cpus : ℕ) (full : Processes) (said : List Entry) (log : List Line) (deeds : List Deed) (new : Drivers) → AreWholeProcesses full → full.destination ≡ destination_after (first_destination cpus) log →
    AreDeeds cpus (drivers_of full said (destination_entries (first_destination cpus) log)) deeds new → Ran cpus full said log (map change_of deeds) new
deeds-run cpus full said log [] new whole at are =
    record { last = full; are = refl; whole = whole; new_is = are ∙ (λ i. drivers_of full (sym (append-nil said) i) (destination_entries (first_destination cpus) log)) }
deeds-run cpus full said log (Deed.Happens event ∷ deeds) new whole at are =
    let one = event-happens cpus full said (destination_entries (first_destination cpus) log) event are.0 whole are.1 in
    then-ran cpus full said log event (map change_of deeds) are.0 new one
    (deeds-run cpus one.next (said ++ one.more) (log ++ logged_there event) deeds new one.whole (after-event cpus full event one.next log one.is_event at) (moved cpus full said log event deeds are.0 new one at are.2))
deeds-run cpus full said log (Deed.Replaced epoch ∷ deeds) new whole at are =
    let over = new-there cpus full said (destination_entries (first_destination cpus) log) epoch are.0 whole are.1 in
    let rest = deeds-run cpus over.next said (newcomer_log epoch) deeds new over.whole (over.destination_is ∙ sym (newcomer-at cpus epoch))
    (subst (λ from. AreDeeds cpus from deeds new) (over.new_is ∙ (λ i. drivers_of over.next said (sym (newcomer-silent cpus epoch) i))) are.2) in
    let changes = map change_of deeds in
    record {
      last = rest.last;
      are = (over.next, over.replaced, rest.are);
      whole = rest.whole;
      new_is = rest.new_is ∙ (λ i. drivers_of rest.last (said ++ source_entries (over.source_is i) (source_log changes)) (destination_entries (first_destination cpus) (last_log (newcomer_log epoch) changes)));
    }
deeds-run cpus full said log (Deed.Accesses Side.Source cpu command ∷ deeds) new whole at are =
    let event = Event.Here (Line.Made (Step.Issue cpu command)) in
    let one = access-here full said (destination_entries (first_destination cpus) log) cpu command are.0 whole are.1 in
    then-ran cpus full said log event (map change_of deeds) are.0 new one
    (deeds-run cpus one.next (said ++ one.more) (log ++ logged_there event) deeds new one.whole (after-event cpus full event one.next log one.is_event at) (moved cpus full said log event deeds are.0 new one at are.2))
deeds-run cpus full said log (Deed.Accesses Side.Destination cpu command ∷ deeds) new whole at are =
    let event = Event.There (Line.Made (Step.Issue cpu command)) in
    let one = access-there full said (destination_entries (first_destination cpus) log) cpu command are.0 whole are.1 in
    then-ran cpus full said log event (map change_of deeds) are.0 new one
    (deeds-run cpus one.next (said ++ one.more) (log ++ logged_there event) deeds new one.whole (after-event cpus full event one.next log one.is_event at) (moved cpus full said log event deeds are.0 new one at are.2))
