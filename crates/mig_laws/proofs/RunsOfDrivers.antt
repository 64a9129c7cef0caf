-- The other way round: whatever happens to two processes whose nodes hold all bytes, two drivers can do.
use Rattle.std.proofs.Common.{◌≡◌, ℕ, true, List, [], ◌∷◌, ◌++◌, map, append_assoc, refl, sym, ap, subst, ◌∙◌}
use Rattle.mig_base.specs.declared.command.Entry.{Entry}
use Rattle.mig_base.specs.declared.schedule.Step.{Step}
use Rattle.mig_model.specs.Destination.{first_destination}
use Rattle.mig_model.specs.Migration.{after_steps, first_world_with}
use Rattle.mig_model.specs.Source.{first_source}
use Rattle.mig_model.specs.Wire.{sending, sending_if}
use Rattle.mig_laws.specs.Drivers.{AreDeeds, Deed, Drivers, HoldBytes, IsDeed, IsDoneHere, IsDoneThere, IsOfChannel, IsWorldOf, did_filled, entries_of, change_of, filled, first_drivers, here_after, no_byte, there_after}
use Rattle.mig_laws.specs.Nodes.{map_ok}
use Rattle.mig_laws.specs.Processes.{AreEvents, Event, GoesHere, GoesThere, IsEvent, IsHere, IsJoining, IsLossHere, IsLossThere, IsOpening, IsSettled, IsThere, Processes, first_processes, last_of, log_here, log_there, logged_here, logged_there}
use Rattle.std.proofs.lemmas.List.{append-nil}
use Rattle.mig_laws.specs.Orders.{AreWhole}
use Rattle.mig_laws.specs.Replacements.{last_log, source_log}
use Rattle.mig_laws.specs.Sides.{Line, destination_entries, source_entries}
use Rattle.mig_laws.specs.Worlds.{destination_under, source_under}
use Rattle.mig_laws.proofs.DriverWorlds.{filled-first, first-of, first-whole, holds-of}
use Rattle.mig_laws.proofs.EventsOfOrders.{happens-in}
use Rattle.mig_laws.proofs.FilledRuns.{AreWholeChannels, AreWholeProcesses, IsWholeChannel, drivers_of, last-whole, more-whole, put_first-whole, put_later-whole, resumes-quiet, taken-whole}
use Rattle.mig_laws.proofs.HeldDestination.{line-there, there_of}
use Rattle.mig_laws.proofs.HeldGuests.{all-filled-under, held_of}
use Rattle.mig_laws.proofs.HeldSource.{line-here}
use Rattle.mig_laws.proofs.Replaced.{resume-sent}
use Rattle.mig_laws.proofs.EnteredLines.{bytes_here, bytes_there, did_entered, here-entered, line-here-entered, line-there-entered, there-entered}
use Rattle.mig_laws.proofs.WholeWorlds.{sent_if_whole, sent_whole}

-- an event is a deed of the drivers that have the bytes of the two processes
record CanDo (cpus : ℕ) (full : Processes) (said heard : List Entry) (event : Event) (next : Processes) : Type 0 where
  more : List Entry
  further : List Entry
  is_deed : IsDeed cpus (drivers_of full said heard) (Deed.Happens event) (drivers_of next more further)
  whole : AreWholeProcesses next

done-here : (cpus : ℕ) (full : Processes) (said heard : List Entry) (line : Line) (next : Processes) → AreWholeProcesses full → IsHere full line next → CanDo cpus full said heard (Event.Here line) next
done-here cpus full said heard line next whole is =
    let did = is.0 in
    let goes = is.2 in
    let held = held_of full.source.guest said in
    let bytes = bytes_here full.source line in
    let bare = did_entered (source_under no_byte) bytes did in
    let kept = line-here full.source line said did whole.source is.1 in
    let last = last_of full.first full.later in
    let last_is = last-whole full.first full.later whole.first whole.later in
    let frames : map (filled held) bare.frames ≡ did.frames = all-filled-under no_byte held did.frames ∙ kept.frames in
    let urgent : map (filled held) bare.urgent ≡ did.urgent = all-filled-under no_byte held did.urgent ∙ kept.urgent in
    let channel_whole : IsWholeChannel goes.channel =
    subst IsWholeChannel (sym goes.puts)
    (record { forward = sent_if_whole full.here last.forward did.node.epoch did.frames last_is.forward kept.whole_frames; urgent = sent_if_whole full.here last.urgent did.node.epoch did.urgent last_is.urgent kept.whole_urgent }) in
    let goes_bare : GoesHere (drivers_of full said heard).nodes line (did_filled held bare) (drivers_of next said heard).nodes =
    record {
      may = goes.may;
      back = goes.back;
      takes = goes.takes;
      channel = goes.channel;
      puts = goes.puts ∙ (λ i. record { forward = sending_if full.here last.forward did.node.epoch (sym frames i); back = goes.back; urgent = sending_if full.here last.urgent did.node.epoch (sym urgent i) });
      is = ap (λ (p : Processes). (drivers_of p said heard).nodes) goes.is;
    } in
    let here : held_of next.source.guest (said ++ did.entries) ≡ here_after line bare.effect (source_under no_byte full.source).guest held =
    ap (λ (p : Processes). held_of p.source.guest (said ++ did.entries)) goes.is ∙ sym kept.held ∙ sym (here-entered line bytes did.effect full.source.guest held) in
    let there : there_of next.destination heard ≡ there_of full.destination heard = ap (λ (p : Processes). there_of p.destination heard) goes.is in
    let deed : IsDoneHere (drivers_of full said heard) line (drivers_of next (said ++ did.entries) heard) =
    record {
      did = bare;
      gives = line-here-entered full.source whole.source line ∙ ap (map_ok (did_entered (source_under no_byte) bytes)) is.1;
      nodes = (drivers_of next said heard).nodes;
      goes = goes_bare;
      is = λ i. record { nodes = (drivers_of next said heard).nodes; here = here i; there = there i };
    } in
    record {
      more = said ++ did.entries;
      further = heard;
      is_deed = deed;
      whole = subst AreWholeProcesses (sym goes.is)
          (record {
            source = kept.whole;
            destination = whole.destination;
            first = put_first-whole full.first full.later goes.channel whole.first channel_whole;
            later = put_later-whole full.later goes.channel whole.later channel_whole;
          });
    }

done-there : (cpus : ℕ) (full : Processes) (said heard : List Entry) (line : Line) (next : Processes) → AreWholeProcesses full → IsThere full line next → CanDo cpus full said heard (Event.There line) next
done-there cpus full said heard line next whole is =
    let did = is.0 in
    let goes = is.2 in
    let there = there_of full.destination heard in
    let bytes = bytes_there line in
    let bare = did_entered (destination_under no_byte) bytes did in
    let taken = taken-whole line full.first.forward goes.forward full.first.urgent goes.urgent goes.takes goes.takes_urgent whole.first.forward whole.first.urgent in
    let kept = line-there full.destination line heard did whole.destination taken.line_whole is.1 in
    let nodes = (drivers_of next said heard).nodes in
    let goes_bare : GoesThere (drivers_of full said heard).nodes line bare nodes =
    record {
      may = goes.may;
      forward = goes.forward;
      takes = goes.takes;
      urgent = goes.urgent;
      takes_urgent = goes.takes_urgent;
      is = ap (λ (p : Processes). (drivers_of p said heard).nodes) goes.is
          ∙ (λ i.
          record (drivers_of full said heard).nodes {
            destination = bare.node;
            first = record { forward = goes.forward; back = sending_if full.there full.first.back did.node.epoch (sym kept.bare i); urgent = goes.urgent };
          });
    } in
    let here : held_of next.source.guest said ≡ held_of full.source.guest said = ap (λ (p : Processes). held_of p.source.guest said) goes.is in
    let there_is : there_of next.destination (heard ++ did.entries) ≡ there_after line bare.effect (destination_under no_byte full.destination) there =
    ap (λ (p : Processes). there_of p.destination (heard ++ did.entries)) goes.is ∙ sym kept.there ∙ sym (there-entered line bytes did.effect full.destination there) in
    let deed : IsDoneThere (drivers_of full said heard) line (drivers_of next said (heard ++ did.entries)) =
    record {
      did = bare;
      gives = line-there-entered full.destination whole.destination.memory line taken.line_whole ∙ ap (map_ok (did_entered (destination_under no_byte) bytes)) is.1;
      nodes = nodes;
      goes = goes_bare;
      is = λ i. record { nodes = nodes; here = here i; there = there_is i };
    } in
    record {
      more = said;
      further = heard ++ did.entries;
      is_deed = deed;
      whole = subst AreWholeProcesses (sym goes.is)
          (record { source = whole.source; destination = kept.whole; first = record { forward = taken.rest_whole; urgent = taken.left_whole }; later = whole.later });
    }

-- Channels

-- nothing that has bytes changes
of_channel : (full : Processes) (said heard : List Entry) (event : Event) (next : Processes) → IsEvent (drivers_of full said heard).nodes event (drivers_of next said heard).nodes → held_of next.source.guest said ≡ held_of full.source.guest said →
    there_of next.destination heard ≡ there_of full.destination heard → IsOfChannel (drivers_of full said heard) event (drivers_of next said heard)
of_channel full said heard event next becomes here there =
    record { nodes = (drivers_of next said heard).nodes; becomes = becomes; is = λ i. record { nodes = (drivers_of next said heard).nodes; here = here i; there = there i } }

opens : (cpus : ℕ) (full : Processes) (said heard : List Entry) (next : Processes) → AreWholeProcesses full → IsOpening full next → CanDo cpus full said heard Event.Opens next
opens cpus full said heard next whole is =
    let line = Line.Made Step.Resume in
    let bytes = bytes_here full.source line in
    let bare = did_entered (source_under no_byte) bytes is.did in
    let gives = line-here-entered full.source whole.source line ∙ ap (map_ok (did_entered (source_under no_byte) bytes)) is.gives in
    let calm = resumes-quiet full.source is.did is.gives in
    let frames : bare.frames ≡ is.did.frames = resume-sent (source_under no_byte full.source) bare gives ∙ sym (resume-sent full.source is.did is.gives) in
    let urgent : bare.urgent ≡ is.did.urgent = (resumes-quiet (source_under no_byte full.source) bare gives).0 ∙ sym calm.0 in
    let kept = line-here full.source line said is.did whole.source is.gives in
    let becomes : IsOpening (drivers_of full said heard).nodes (drivers_of next said heard).nodes =
    record {
      did = bare;
      gives = gives;
      lost = is.lost;
      is = ap (λ (p : Processes). (drivers_of p said heard).nodes) is.is
          ∙ (λ i.
          record (drivers_of full said heard).nodes {
            source = bare.node;
            later = full.later ++ record { forward = sending [] is.did.node.epoch (sym frames i); back = []; urgent = sending [] is.did.node.epoch (sym urgent i) } ∷ [];
            here = true;
          });
    } in
    record {
      more = said;
      further = heard;
      is_deed = of_channel full said heard Event.Opens next becomes (ap (λ (p : Processes). held_of p.source.guest said) is.is ∙ ap (λ g. held_of g said) calm.2) (ap (λ (p : Processes). there_of p.destination heard) is.is);
      whole = subst AreWholeProcesses (sym is.is)
          (record {
            source = kept.whole;
            destination = whole.destination;
            first = whole.first;
            later = more-whole full.later _ whole.later
                (record { forward = sent_whole [] is.did.node.epoch is.did.frames tt kept.whole_frames; urgent = sent_whole [] is.did.node.epoch is.did.urgent tt kept.whole_urgent });
          });
    }

loses_here : (cpus : ℕ) (full : Processes) (said heard : List Entry) (next : Processes) → AreWholeProcesses full → IsLossHere full next → CanDo cpus full said heard Event.LosesHere next
loses_here cpus full said heard next whole is =
    let becomes : IsLossHere (drivers_of full said heard).nodes (drivers_of next said heard).nodes = record { used = is.used; under_way = is.under_way; is = ap (λ (p : Processes). (drivers_of p said heard).nodes) is.is } in
    record {
      more = said;
      further = heard;
      is_deed = of_channel full said heard Event.LosesHere next becomes (ap (λ (p : Processes). held_of p.source.guest said) is.is) (ap (λ (p : Processes). there_of p.destination heard) is.is);
      whole = subst AreWholeProcesses (sym is.is) (record { source = whole.source; destination = whole.destination; first = whole.first; later = whole.later });
    }

loses_there : (cpus : ℕ) (full : Processes) (said heard : List Entry) (next : Processes) → AreWholeProcesses full → IsLossThere full next → CanDo cpus full said heard Event.LosesThere next
loses_there cpus full said heard next whole is =
    let becomes : IsLossThere (drivers_of full said heard).nodes (drivers_of next said heard).nodes = record { used = is.used; is = ap (λ (p : Processes). (drivers_of p said heard).nodes) is.is } in
    record {
      more = said;
      further = heard;
      is_deed = of_channel full said heard Event.LosesThere next becomes (ap (λ (p : Processes). held_of p.source.guest said) is.is) (ap (λ (p : Processes). there_of p.destination heard) is.is);
      whole = subst AreWholeProcesses (sym is.is) (record { source = whole.source; destination = whole.destination; first = whole.first; later = whole.later });
    }

joins : (cpus : ℕ) (full : Processes) (said heard : List Entry) (next : Processes) → AreWholeProcesses full → IsJoining full next → CanDo cpus full said heard Event.Joins next
joins cpus full said heard next whole is =
    let becomes : IsJoining (drivers_of full said heard).nodes (drivers_of next said heard).nodes =
    record { lost = is.lost; paused = is.paused; next = is.next; rest = is.rest; opened = is.opened; is = ap (λ (p : Processes). (drivers_of p said heard).nodes) is.is } in
    let later : AreWholeChannels (is.next ∷ is.rest) = subst AreWholeChannels is.opened whole.later in
    record {
      more = said;
      further = heard;
      is_deed = of_channel full said heard Event.Joins next becomes (ap (λ (p : Processes). held_of p.source.guest said) is.is) (ap (λ (p : Processes). there_of p.destination heard) is.is);
      whole = subst AreWholeProcesses (sym is.is) (record { source = whole.source; destination = whole.destination; first = later.0; later = later.1 });
    }

-- Every event

event-done : (cpus : ℕ) (full : Processes) (said heard : List Entry) (event : Event) (next : Processes) → AreWholeProcesses full → IsEvent full event next → CanDo cpus full said heard event next
event-done cpus full said heard (Event.Here line) next whole is = done-here cpus full said heard line next whole is
event-done cpus full said heard (Event.There line) next whole is = done-there cpus full said heard line next whole is
event-done cpus full said heard Event.Opens next whole is = opens cpus full said heard next whole is
event-done cpus full said heard Event.LosesHere next whole is = loses_here cpus full said heard next whole is
event-done cpus full said heard Event.LosesThere next whole is = loses_there cpus full said heard next whole is
event-done cpus full said heard Event.Joins next whole is = joins cpus full said heard next whole is

record CanRun (cpus : ℕ) (full : Processes) (said heard : List Entry) (events : List Event) (last : Processes) : Type 0 where
  more : List Entry
  further : List Entry
  are : AreDeeds cpus (drivers_of full said heard) (map (λ event. Deed.Happens event) events) (drivers_of last more further)

events-done : (cpus : ℕ) (full : Processes) (said heard : List Entry) (events : List Event) (last : Processes) → AreWholeProcesses full → AreEvents full events last → CanRun cpus full said heard events last
events-done cpus full said heard [] last whole are = record { more = said; further = heard; are = ap (λ (p : Processes). drivers_of p said heard) are }
events-done cpus full said heard (event ∷ events) last whole are =
    let one = event-done cpus full said heard event are.0 whole are.1 in
    let rest = events-done cpus are.0 one.more one.further events last one.whole are.2 in
    record { more = rest.more; further = rest.further; are = (drivers_of are.0 one.more one.further, one.is_deed, rest.are) }

from-first : (cpus epoch rounds : ℕ) (deeds : List Deed) (new : Drivers) → AreDeeds cpus (drivers_of (first_processes cpus epoch rounds) [] []) deeds new → AreDeeds cpus (first_drivers cpus epoch rounds) deeds new
from-first cpus epoch rounds deeds new are = subst (λ first. AreDeeds cpus first deeds new) (sym (first-of cpus epoch rounds)) are

pub can-run : (cpus epoch rounds : ℕ) (events : List Event) (last : Processes) → AreEvents (first_processes cpus epoch rounds) events last →
    (new : Drivers) × AreDeeds cpus (first_drivers cpus epoch rounds) (map (λ event. Deed.Happens event) events) new × HoldBytes new last.source last.destination
can-run cpus epoch rounds events last are =
    let run = events-done cpus (first_processes cpus epoch rounds) [] [] events last (first-whole cpus epoch rounds) are in
    let new = drivers_of last run.more run.further in
    (new, from-first cpus epoch rounds (map (λ event. Deed.Happens event) events) new run.are, holds-of last run.more run.further)

-- The two sides of a world

same-here : (events : List Event) → source_log (map change_of (map (λ event. Deed.Happens event) events)) ≡ log_here events
same-here [] = refl
same-here (event ∷ events) = ap (λ lines. logged_here event ++ lines) (same-here events)

same-there : (lines : List Line) (events : List Event) → last_log lines (map change_of (map (λ event. Deed.Happens event) events)) ≡ lines ++ log_there events
same-there lines [] = sym (append-nil lines)
same-there lines (event ∷ events) = same-there (lines ++ logged_there event) events ∙ append_assoc lines (logged_there event) (log_there events)

pub world-can-run : (cpus epoch rounds : ℕ) (steps : List Step) → AreWhole (first_world_with cpus epoch rounds) steps →
    (deeds : List Deed) × (new : Drivers) × AreDeeds cpus (first_drivers cpus epoch rounds) deeds new × IsSettled new.nodes × IsWorldOf cpus epoch rounds deeds new steps
world-can-run cpus epoch rounds steps whole =
    let happens = happens-in cpus epoch rounds steps whole in
    let run = events-done cpus (first_processes cpus epoch rounds) [] [] happens.events happens.last (first-whole cpus epoch rounds) happens.are in
    let deeds = map (λ event. Deed.Happens event) happens.events in
    let new = drivers_of happens.last run.more run.further in
    let are = from-first cpus epoch rounds deeds new run.are in
    let ran = filled-first cpus epoch rounds deeds new are in
    let here = same-here happens.events in
    let there = same-there [] happens.events in
    let world = after_steps (first_world_with cpus epoch rounds) steps in (
      deeds,
      new,
      are,
      record { joined = happens.settled.joined; under_way = happens.settled.under_way },
      record {
        earlier = [];
        here = happens.here ∙ sym here;
        there = happens.there ∙ sym there;
        bytes = subst (λ node. HoldBytes new node world.destination) (sym happens.source)
            (subst (λ node. HoldBytes new happens.last.source node) (sym happens.destination) (holds-of happens.last run.more run.further));
        transcript = happens.transcript ∙ (λ i. source_entries (first_source cpus epoch rounds) (sym here i) ++ destination_entries (first_destination cpus) (sym there i)) ∙ sym (ap entries_of ran.new_is);
      },
    )
