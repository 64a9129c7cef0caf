-- What a step of the destination must show, and that a message that is read and a command keep what every world keeps.
use Rattle.std.proofs.lemmas.Bool.Decides.{nat_tests}
use Rattle.std.proofs.Common.{◌≡◌, ℕ, ◌<◌, Bool, true, false, Some, None, List, [], ◌∷◌, ◌++◌, refl, sym, ap, ◌∙◌, subst, arith, append-nil}
use Rattle.std.specs.Ordering.{nat_cmp}
use Rattle.std.specs.FinMap as finmap
use Rattle.std.specs.FinMap.{FinMap, get, get-empty}
use Rattle.std.specs.FinSet.{contains}
use Rattle.std.proofs.lemmas.Bool.{false≢true}
pub use Rattle.std.proofs.lemmas.Option.{none-some as none_is}
use Rattle.mig_base.specs.declared.cpu_state.CpuState.{CpuState}
use Rattle.mig_base.specs.declared.phase.DestPhase.{DestPhase}
use Rattle.mig_base.specs.declared.phase.Received.{Received}
use Rattle.mig_base.specs.declared.phase.SourcePhase.{SourcePhase}
use Rattle.mig_base.specs.declared.TheConstants.{HIGH_PAGE}
use Rattle.mig_base.specs.declared.message.Message.{Message}
use Rattle.mig_base.specs.declared.message.Message.TheVariants.{PageFault}
use Rattle.mig_base.specs.Flat.{memory_of, IsFlatRun}
use Rattle.mig_base.proofs.PageLemmas.{same_pages}
use Rattle.mig_model.specs.Host.{memory, Host, IsSound}
use Rattle.mig_base.specs.Userfault.{Noted, next_message, next_of}
use Rattle.mig_model.specs.Space.{IsSoundSpace, fresh_space}
use Rattle.mig_model.specs.Guest.{Guest, Fault, is_present, took_by, tried}
use Rattle.mig_model.specs.Wire.{Sent, Copy}
use Rattle.mig_model.specs.Migration.{World, runs, guest_by, with_guest_by}
use Rattle.mig_model.proofs.steps.StepWorlds.{after_dest_read, after_command}
use Rattle.mig_model.specs.Whereabouts.{IsReceiving, AreFaithful, has_copy, seen_host, current_host, current_by}
use Rattle.mig_model.specs.Promises.{AreFaults}
use Rattle.mig_model.specs.Invariant.{IsSoundWorld, Wires, IsFlowing, AreWholeEvents}
use Rattle.mig_model.proofs.memory.IoctlLemmas.{IsSoundSpace-read}
use Rattle.mig_model.proofs.owed.SettledLemmas.{get-owed_table_after, settled_by-applied, values-after, IsOneToOne-after, owed_below-after}
use Rattle.mig_model.specs.Cpus.{Took, entries_of}
use Rattle.mig_model.specs.Owed.{owed_table_after, settled_by}
use Rattle.mig_model.specs.Source.{Source, space_of}
use Rattle.mig_model.specs.Destination.{Destination, settled}
use Rattle.mig_model.proofs.memory.Facts.{some_is}
use Rattle.mig_base.specs.declared.command.Command.{Command}
use Rattle.mig_base.specs.declared.command.Entry.{Entry}
use Rattle.mig_base.specs.Commands.{is_access}
use Rattle.mig_model.proofs.owed.FaultLemmas.{AreFaults-tried}
use Rattle.mig_model.proofs.memory.EntryLemmas.{holds_after, flat_after}
use Rattle.mig_model.proofs.owed.SeenLemmas.{IsSound-seen}
use Rattle.mig_model.proofs.owed.TriedLemmas.{IsReady, IsEntered, command_tries}
use Rattle.mig_model.proofs.owed.TriedLemmas.IsEntered.{Silent, Entered}

-- a destination whose guest, owed table, requests, arrivals and counts are others
abbrev pub handled : Destination → Guest → List Fault → FinMap nat_cmp ℕ → List ℕ → List Copy → ℕ → ℕ → ℕ → Destination
handled node guest held owed requests arrivals installed dropped faults =
    record node { guest = guest; held = held; owed = owed; requests = requests; arrivals = arrivals; installed = installed; dropped = dropped; faults = faults }

-- each page that is owed was owed before
pub same_pairs : (owed : FinMap nat_cmp ℕ) (page origin : ℕ) → get owed page ≡ Some origin → (other : ℕ) × (get owed other ≡ Some origin)
same_pairs owed page origin h = (page, h)

-- what such a destination must keep
pub record IsHandled (world : World) (guest : Guest) (owed : FinMap nat_cmp ℕ) (arrivals : List Copy) : Type 0 where
  pub space : IsSoundSpace guest.space
  pub unprotected : (page : ℕ) → contains guest.space.protected page ≡ false
  pub only_missing : (page : ℕ) → contains guest.space.object.protect page ≡ false
  pub events : AreWholeEvents guest.space.object.events
  pub faults : AreFaults guest.space.object.faults
  -- the guest sees the same memory
  pub same_memory : memory (seen_host guest.space.host (space_of world.source).host (settled_by guest.space.object.events (get owed)))
      ≡ memory (seen_host world.destination.guest.space.host (space_of world.source).host (settled_by world.destination.guest.space.object.events (get world.destination.owed)))
  -- each source page that is owed was owed before, to one page, and its copy is among the arrivals if it was
  pub values : (page origin : ℕ) → get owed page ≡ Some origin → (other : ℕ) × (get world.destination.owed other ≡ Some origin)
  pub one_to_one : (page other origin : ℕ) → get owed page ≡ Some origin → get owed other ≡ Some origin → page ≡ other
  pub below : (page origin : ℕ) → get owed page ≡ Some origin → page < HIGH_PAGE
  pub copies : (page origin : ℕ) → get owed page ≡ Some origin → has_copy world.destination.arrivals origin ≡ true → has_copy arrivals origin ≡ true
  pub missing : (page origin : ℕ) → settled_by guest.space.object.events (get owed) page ≡ Some origin → (contains guest.space.object.missing page ≡ true) × (is_present guest.space page ≡ false)
  pub faithful : AreFaithful (space_of world.source).host.bytes arrivals
  pub ended : world.destination.ended ≡ true → (owed ≡ finmap.empty) × (arrivals ≡ [])

-- The wires

still_receiving : (source : Source) (node new : Destination) (state : Received) (back : List Sent) → ((page origin : ℕ) → get new.owed page ≡ Some origin → (other : ℕ) × (get node.owed other ≡ Some origin)) →
    IsReceiving source node state back → IsReceiving source new state back
still_receiving source node new state back values old =
    record {
      owed = old.owed;
      epoch = old.epoch;
      rest = old.rest;
      first = old.first;
      requests = old.requests;
      alone = old.alone;
      none_listed = old.none_listed;
      needed = λ page origin h. let was = values page origin h in old.needed was.0 origin was.1;
      owed_present = old.owed_present;
    }

still_flowing : (source : Source) (node new : Destination) (forward urgent : List Sent) → ((page origin : ℕ) → get new.owed page ≡ Some origin → (other : ℕ) × (get node.owed other ≡ Some origin)) →
    ((page origin : ℕ) → get new.owed page ≡ Some origin → has_copy node.arrivals origin ≡ true → has_copy new.arrivals origin ≡ true) → IsFlowing source node forward urgent → IsFlowing source new forward urgent
still_flowing source node new forward urgent values copies old = grind (arith, nat_tests)

pub wires_handled : (from : SourcePhase) (to : DestPhase) (source : Source) (node : Destination) (forward back urgent : List Sent) (guest : Guest) (held : List Fault) (owed : FinMap nat_cmp ℕ) (requests : List ℕ) (arrivals : List Copy) (installed dropped faults : ℕ) →
    ((page origin : ℕ) → get owed page ≡ Some origin → (other : ℕ) × (get node.owed other ≡ Some origin)) →
    ((page origin : ℕ) → get owed page ≡ Some origin → has_copy node.arrivals origin ≡ true → has_copy arrivals origin ≡ true) →
    Wires (record source { phase = from }) (record node { phase = to }) forward back urgent →
    Wires (record source { phase = from }) (handled (record node { phase = to }) guest held owed requests arrivals installed dropped faults) forward back urgent
wires_handled SourcePhase.Stopped DestPhase.Running source node forward back urgent guest held owed requests arrivals installed dropped faults values copies w = grind (arith, nat_tests, still_flowing)
wires_handled SourcePhase.Paused DestPhase.Running source node forward back urgent guest held owed requests arrivals installed dropped faults values copies w = grind (arith, nat_tests, still_receiving)
wires_handled SourcePhase.Paused DestPhase.Ended source node forward back urgent guest held owed requests arrivals installed dropped faults values copies w = grind (arith, nat_tests, still_receiving)
wires_handled _ _ source node forward back urgent guest held owed requests arrivals installed dropped faults values copies w = w

-- The invariant

pub kept-handled : (world : World) (guest : Guest) (held : List Fault) (owed : FinMap nat_cmp ℕ) (requests : List ℕ) (arrivals : List Copy) (installed dropped faults : ℕ) → IsSoundWorld world → world.destination.has_run ≡ true → IsHandled world guest owed arrivals →
    IsSoundWorld (record world { destination = handled world.destination guest held owed requests arrivals installed dropped faults })
kept-handled world guest held owed requests arrivals installed dropped faults kept runs new = grind (arith, nat_tests, wires_handled)

-- A message is read

-- the world with these messages unread at the destination, and with these processors. Each world is one at its own
abbrev pub at_queues : List Noted → List Noted → World → World
at_queues faults events world =
    record world {
      destination = record world.destination {
        guest = record world.destination.guest { space = record world.destination.guest.space { object = record world.destination.guest.space.object { faults = faults; events = events } } };
      };
    }

nothing_owed : (owed : FinMap nat_cmp ℕ) → owed ≡ finmap.empty → (page : ℕ) → get owed page ≡ None
nothing_owed owed h page = ap (λ m. get m page) h ∙ get-empty nat_cmp page

empty-after : (message : Message) (owed : FinMap nat_cmp ℕ) → owed ≡ finmap.empty → owed_table_after message owed ≡ finmap.empty
empty-after message owed h = grind (arith, nat_tests, same_pages, get-owed_table_after, nothing_owed)

-- an event is read: the settled relation is as it was, and the event is applied to the owed table
event_read : (message : Message) (cpu : ℕ) (events : List Noted) (world : World) (processors : List CpuState) (faults : ℕ) →
    IsSoundWorld (at_queues [] (record { message = message; cpu = cpu } ∷ events) world) → world.destination.has_run ≡ true →
    IsSoundWorld (record world { destination = handled world.destination (record (at_queues [] events world).destination.guest { cpus = processors }) world.destination.held (owed_table_after message world.destination.owed) world.destination.requests world.destination.arrivals world.destination.installed world.destination.dropped faults })
event_read message cpu events world processors faults kept runs =
    let noted : Noted = record { message = message; cpu = cpu } in
    let old : World = at_queues [] (noted ∷ events) world in
    let owed : FinMap nat_cmp ℕ = world.destination.owed in
    let guest : Guest = record (at_queues [] events world).destination.guest { cpus = processors } in
    let right : AreWholeEvents (noted ∷ events) = kept.spaces.destination_events in
    let still : settled_by events (get (owed_table_after message owed)) ≡ settled_by (noted ∷ events) (get owed) = settled_by-applied noted events owed in
    let before = λ (page origin : ℕ) (h : get (owed_table_after message owed) page ≡ Some origin). sym (get-owed_table_after message owed page) ∙ h in
    let space = IsSoundSpace-read old.destination.guest.space kept.spaces.destination_space in
    let same_memory = ap (λ f. memory (seen_host world.destination.guest.space.host (space_of world.source).host f)) still in
    let values = λ (page origin : ℕ) (h : get (owed_table_after message owed) page ≡ Some origin). values-after message (get owed) page origin (before page origin h) in
    let one_to_one = λ (page other origin : ℕ) (h : get (owed_table_after message owed) page ≡ Some origin) (k : get (owed_table_after message owed) other ≡ Some origin).
    IsOneToOne-after message (get owed) kept.owing.one_to_one page other origin (before page origin h) (before other origin k) in
    let below = λ (page origin : ℕ) (h : get (owed_table_after message owed) page ≡ Some origin). owed_below-after message (get owed) right.0 kept.owing.owed_below page origin (before page origin h) in
    let missing = λ (page origin : ℕ) (h : settled_by events (get (owed_table_after message owed)) page ≡ Some origin). kept.owing.pairs_missing page origin (sym (ap (λ f. f page) still) ∙ h) in
    let ended : old.destination.ended ≡ true → (owed_table_after message owed ≡ finmap.empty) × (old.destination.arrivals ≡ []) = λ h. let none = kept.owing.ended_empty h in (empty-after message owed none.0, none.1) in
    kept-handled old guest world.destination.held (owed_table_after message owed) world.destination.requests world.destination.arrivals world.destination.installed world.destination.dropped faults kept runs
    (assumption (kept.owing.arrivals_faithful runs))

-- a fault is only held
fault_read : (noted : Noted) (faults events : List Noted) (world : World) (held : List Fault) (count : ℕ) → IsSoundWorld (at_queues (noted ∷ faults) events world) → world.destination.has_run ≡ true →
    IsSoundWorld (record world { destination = handled world.destination (at_queues faults events world).destination.guest held world.destination.owed world.destination.requests world.destination.arrivals world.destination.installed world.destination.dropped count })
fault_read noted faults events world held count kept runs =
    let old : World = at_queues (noted ∷ faults) events world in
    kept-handled old (at_queues faults events world).destination.guest held world.destination.owed world.destination.requests world.destination.arrivals world.destination.installed world.destination.dropped count kept runs
    (assumption (IsSoundSpace-read old.destination.guest.space kept.spaces.destination_space, same_pairs world.destination.owed, kept.owing.arrivals_faithful runs))

event_in : (message : Message) (cpu : ℕ) (events : List Noted) (world : World) → IsSoundWorld (at_queues [] (record { message = message; cpu = cpu } ∷ events) world) → world.destination.has_run ≡ true →
    IsSoundWorld (after_dest_read (at_queues [] (record { message = message; cpu = cpu } ∷ events) world) (record { message = message; cpu = cpu }))
event_in (PageFault addr write wp tid) cpu events world kept runs = absurd (kept.spaces.destination_events.0)
event_in message cpu events world kept runs = event_read message cpu events world _ _ kept runs

fault_in : (message : Message) (cpu : ℕ) (faults events : List Noted) (world : World) → IsSoundWorld (at_queues (record { message = message; cpu = cpu } ∷ faults) events world) → world.destination.has_run ≡ true →
    IsSoundWorld (after_dest_read (at_queues (record { message = message; cpu = cpu } ∷ faults) events world) (record { message = message; cpu = cpu }))
fault_in message cpu faults events world kept runs = grind (arith, nat_tests, fault_read)

read_in : (faults events : List Noted) (noted : Noted) (world : World) → next_of faults events ≡ Some noted → IsSoundWorld (at_queues faults events world) → world.destination.has_run ≡ true → IsSoundWorld (after_dest_read (at_queues faults events world) noted)
read_in [] [] noted world is kept runs = absurd (none_is noted is)
read_in [] (first ∷ events) noted world is kept runs = subst (λ m. IsSoundWorld (after_dest_read (at_queues [] (first ∷ events) world) m)) (some_is first noted is) (event_in first.message first.cpu events world kept runs)
read_in (first ∷ faults) events noted world is kept runs =
    subst (λ m. IsSoundWorld (after_dest_read (at_queues (first ∷ faults) events world) m)) (some_is first noted is) (fault_in first.message first.cpu faults events world kept runs)

pub kept-dest_read : (world : World) (noted : Noted) → IsSoundWorld world → next_message world.destination.guest.space.object ≡ Some noted → world.destination.has_run ≡ true → IsSoundWorld (after_dest_read world noted)
kept-dest_read world noted kept is runs = read_in world.destination.guest.space.object.faults world.destination.guest.space.object.events noted world is kept runs

-- The transcript

record HasEntered (new : Host) (transcript : List Entry) : Type 0 where
  flat : IsFlatRun transcript
  holds : memory new ≡ memory_of transcript

entered_one : (old new : Host) (transcript : List Entry) (cpu : ℕ) (command : Command) (took : Took) → IsEntered old new cpu command took → IsSound old → memory old ≡ memory_of transcript → IsFlatRun transcript →
    HasEntered new (transcript ++ entries_of cpu command took)
entered_one old new transcript cpu command took (Silent none same) sound holds flat =
    let all : transcript ≡ transcript ++ entries_of cpu command took = sym (append-nil transcript) ∙ ap (λ es. transcript ++ es) (sym none) in
    record { flat = subst IsFlatRun all flat; holds = ap memory same ∙ holds ∙ ap memory_of all }
entered_one old new transcript cpu command took (Entered one then) sound holds flat = grind (arith, nat_tests, flat_after, holds_after)

-- The wires do not depend on the destination's guest

pub wires-with_guest : (from : Source) (to : Destination) (guest : Guest) (forward back urgent : List Sent) → Wires from to forward back urgent → Wires from (record to { guest = guest }) forward back urgent
wires-with_guest from to guest forward back urgent w = grind (arith, nat_tests, wires_handled)

-- The world

pub ready_of : (world : World) → IsSoundWorld world → IsReady world.destination.guest.space (get world.destination.owed)
ready_of world kept = grind (arith, nat_tests)

-- the current host where the destination has run
pub current_seen : (world : World) → world.destination.has_run ≡ true → current_host world ≡ seen_host world.destination.guest.space.host (space_of world.source).host (settled world.destination)
current_seen world ran = ap (λ b. current_by b world.destination.guest.space.host (space_of world.source).host (settled world.destination)) ran

pub sound_seen : (world : World) → IsSoundWorld world → IsSound (seen_host world.destination.guest.space.host (space_of world.source).host (settled world.destination))
sound_seen world kept = grind (arith, nat_tests, IsSound-seen)

-- the world once a command is tried where `runs` tells
abbrev tried_at : Bool → World → ℕ → Command → World
tried_at runs world cpu command =
    record (with_guest_by runs world (tried (is_access command) (guest_by runs world.source.guest world.destination.guest) cpu command)) {
      transcript = world.transcript ++ entries_of cpu command (took_by (is_access command) (guest_by runs world.source.guest world.destination.guest).space command);
    }

kept-tried_at : (runs : Bool) (world : World) (cpu : ℕ) (command : Command) → runs ≡ true → world.destination.has_run ≡ true → IsSoundWorld world → IsSoundWorld (tried_at runs world cpu command)
kept-tried_at false world cpu command is ran kept = absurd (false≢true is)
kept-tried_at true world cpu command is ran kept =
    let new = tried_at true world cpu command in
    let there = (space_of world.source).host in
    let space = world.destination.guest.space in
    let far = kept.spaces.source_space in
    let tries = command_tries (is_access command) there (get world.destination.owed) space cpu command refl far.host (ready_of world kept) in
    let ready = tries.ready in
    let has = entered_one (seen_host space.host there (settled world.destination)) (seen_host new.destination.guest.space.host there (settled new.destination)) world.transcript cpu command
    (took_by (is_access command) space command) tries.entered (sound_seen world kept) (sym (ap memory (current_seen world ran)) ∙ kept.memory.holds) kept.memory.flat in
    let flat : IsFlatRun new.transcript = has.flat in
    let holds : memory (current_host new) ≡ memory_of new.transcript = ap memory (current_seen new ran) ∙ has.holds in
    let destination_space : IsSoundSpace new.destination.guest.space = ready.sound in
    let unprotected : (page : ℕ) → contains new.destination.guest.space.protected page ≡ false = ready.unprotected in
    let only_missing : (page : ℕ) → contains new.destination.guest.space.object.protect page ≡ false = ready.only_missing in
    let destination_events : AreWholeEvents new.destination.guest.space.object.events = ready.events in
    let destination_faults : AreFaults new.destination.guest.space.object.faults = AreFaults-tried (is_access command) space cpu command kept.spaces.destination_faults in
    let not_run : new.destination.has_run ≡ false → (new.destination.owed ≡ finmap.empty) × (new.destination.guest.space ≡ fresh_space) × (new.destination.arrivals ≡ []) =
    λ never. absurd (false≢true (sym never ∙ ran)) in
    let pairs_missing : (page origin : ℕ) → settled new.destination page ≡ Some origin → (contains new.destination.guest.space.object.missing page ≡ true) × (is_present new.destination.guest.space page ≡ false) = ready.pairs in
    let wires : new.up ≡ true → Wires new.source new.destination new.forward.frames new.back.frames new.urgent.frames =
    λ up. wires-with_guest world.source world.destination new.destination.guest world.forward.frames world.back.frames world.urgent.frames (kept.flight.wires up) in
    assumption

pub kept-command_at_destination : (world : World) (cpu : ℕ) (command : Command) → world.destination.has_run ≡ true → IsSoundWorld world → IsSoundWorld (after_command world cpu command)
kept-command_at_destination world cpu command ran kept = kept-tried_at world.destination.has_run world cpu command ran ran kept
