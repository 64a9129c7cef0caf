-- What the laws of a migration promise of a world and of its next step. Each law is the contract of a function of src/handlers.rt or
-- src/migration.rt.
use Rattle.std.specs.Prelude.{◌⊎◌, ◌≡◌, ◌≢◌, ℕ, ◌*◌, ◌/◌, ◌==◌, ◌&&◌, ◌++◌, not, Bool, true, false, if◌then◌else◌, Some, None, Ok, Err, IsOk, List, ◌∷◌}
use Rattle.std.specs.FinMap.{get}
use Rattle.std.specs.FinSet.{FinSet, contains}
use Rattle.std.specs.Ordering.{nat_cmp}
use Rattle.foundation.specs.declared.TheConstants.{PAGE_SIZE}
use Rattle.mig_base.specs.declared.Run.{Run}
use Rattle.mig_base.specs.declared.command.Command.{Command}
use Rattle.mig_base.specs.declared.command.Reply.{Reply}
use Rattle.mig_base.specs.declared.cpu_state.CpuState.{CpuState}
use Rattle.mig_base.specs.declared.effect.Effect.{Effect}
use Rattle.mig_base.specs.declared.fault.TakeFault.{TakeFault}
use Rattle.mig_base.specs.declared.message.Message.{Message}
use Rattle.mig_base.specs.declared.phase.Received.{Received}
use Rattle.mig_base.specs.declared.refusal.Refusal.{Refusal}
use Rattle.mig_base.specs.declared.schedule.Step.{Step}
use Rattle.mig_base.specs.declared.schedule.Ticket.{Ticket}
use Rattle.mig_base.specs.declared.wake.Wake.TheVariants.{Nobody, Range}
use Rattle.mig_base.specs.Bytes.{zero_page}
use Rattle.mig_base.specs.Commands.{is_access}
use Rattle.mig_base.specs.Flat.{reply_of}
use Rattle.mig_model.specs.Cpus.{entries_of, outstanding, processor_after, processor_at}
use Rattle.mig_model.specs.Destination.{is_running, settled}
use Rattle.mig_model.specs.Effects.{frame_effect}
use Rattle.mig_model.specs.Faults.{back_fault, frame_fault, rebuild_fault, take_fault, urgent_fault}
use Rattle.mig_model.specs.Guest.{is_present, took_by}
use Rattle.mig_model.specs.Handlers.{AreRegistered, AreRunsOf, AreWatched, IsCopy, IsWake, IsWriteProtect, IsZeroPage}
use Rattle.mig_model.specs.Host.{memory}
use Rattle.mig_model.specs.Ioctls.{event_features}
use Rattle.mig_model.specs.Migration.{World, after_steps, guest_of, is_short, next, outcome}
use Rattle.mig_model.specs.Promises.{IsDelivered, IsDeliveredBack, IsDeliveredUrgent, IsPut, IsZeroed, Slept, after_move, after_move_back, after_move_urgent, is_recv, is_retry_of, keeps_remaining, leaves_settled, owed_changed}
use Rattle.mig_model.specs.Replies.{HandsOver, call_reply, last_reply}
use Rattle.mig_model.specs.Source.{is_precopy, is_source_paused, is_stopped, space_of}
use Rattle.mig_model.specs.Whereabouts.{IsPrecopying, IsReceiving, IsSwitching}
use Rattle.mig_model.specs.Wire.{Copy, Sent, empty_wire}
use Rattle.mig_model.specs.Wire.Frame.{Recv}

-- The handlers

-- the source's handler puts a page of zeros by UFFDIO_ZEROPAGE, and unprotects a page by UFFDIO_WRITEPROTECT
pub record ResolvesFaults (world : World) : Type 0 where
  pub zeroed : (addr : ℕ) → outcome world Step.SourceAct ≡ Ok (Effect.Zeroed addr) → IsZeroPage world.source.guest (next world Step.SourceAct).source.guest addr
  pub unprotected : (addr : ℕ) → outcome world Step.SourceAct ≡ Ok (Effect.Unprotected addr) →
      IsWriteProtect world.source.guest (next world Step.SourceAct).source.guest addr PAGE_SIZE 0 (Range addr PAGE_SIZE)

-- a handler that has nothing to put or to unprotect wakes those that sleep on the page by UFFDIO_WAKE, whether it is present or gone
pub record WakesSleepers (world : World) : Type 0 where
  pub source : (addr : ℕ) → outcome world Step.SourceAct ≡ Ok (Effect.Woke addr) → IsWake world.source.guest (next world Step.SourceAct).source.guest addr
  pub source_forgot : (addr : ℕ) → outcome world Step.SourceAct ≡ Ok (Effect.Forgot addr) → IsWake world.source.guest (next world Step.SourceAct).source.guest addr
  pub destination : (addr : ℕ) → outcome world Step.DestAct ≡ Ok (Effect.Woke addr) → IsWake world.destination.guest (next world Step.DestAct).destination.guest addr
  pub destination_forgot : (addr : ℕ) → outcome world Step.DestAct ≡ Ok (Effect.Forgot addr) → IsWake world.destination.guest (next world Step.DestAct).destination.guest addr

-- what the source sends in a round is protected by one UFFDIO_WRITEPROTECT, which wakes nobody
pub record ProtectsSent (world : World) : Type 0 where
  pub page : (addr : ℕ) → outcome world Step.Send ≡ Ok (Effect.SentPage addr) → IsWriteProtect world.source.guest (next world Step.Send).source.guest addr PAGE_SIZE 1 Nobody
  pub zero : (addr : ℕ) → outcome world Step.Send ≡ Ok (Effect.SentZero addr) → IsWriteProtect world.source.guest (next world Step.Send).source.guest addr PAGE_SIZE 1 Nobody
  pub run : (count addr pages : ℕ) → outcome world (Step.SendRun count) ≡ Ok (Effect.SentRun addr pages) →
      IsWriteProtect world.source.guest (next world (Step.SendRun count)).source.guest addr (PAGE_SIZE * pages) 1 Nobody

-- the destination puts a page of zeros by UFFDIO_ZEROPAGE, and a copy by UFFDIO_COPY. For a copy of zeros UFFDIO_ZEROPAGE does the same
pub record PutsPages (world : World) : Type 0 where
  pub zeroed : (addr : ℕ) → outcome world Step.DestAct ≡ Ok (Effect.Zeroed addr) → IsZeroPage world.destination.guest (next world Step.DestAct).destination.guest addr
  pub installed : (copy : Copy) (rest : List Copy) (addr source : ℕ) → world.destination.arrivals ≡ copy ∷ rest → outcome world Step.Install ≡ Ok (Effect.Installed addr source) →
      IsCopy world.destination.guest (next world Step.Install).destination.guest addr copy.bytes
  pub installed_zeros : (copy : Copy) (rest : List Copy) (addr source : ℕ) → world.destination.arrivals ≡ copy ∷ rest → copy.bytes ≡ zero_page →
      outcome world Step.Install ≡ Ok (Effect.Installed addr source) → IsZeroPage world.destination.guest (next world Step.Install).destination.guest addr

-- one UFFDIO_REGISTER for each run of mapped pages registers them: at Start and each Round in both modes, and where the destination begins
-- to run for missing faults, on an object that UFFDIO_API has just enabled for events
pub record RegistersAreas (world : World) (runs : List Run) : Type 0 where
  pub start : IsOk (outcome world Step.Start) → AreRunsOf (space_of world.source).host.areas runs →
      AreRegistered (space_of world.source) (space_of (next world Step.Start).source) runs 3
  pub round : IsOk (outcome world Step.Round) → AreRunsOf (space_of world.source).host.areas runs →
      AreRegistered (space_of world.source) (space_of (next world Step.Round).source) runs 3
  pub run : (n count : ℕ) → outcome world (Step.Deliver n) ≡ Ok (Effect.TookPackage count) → AreRunsOf (next world (Step.Deliver n)).destination.guest.space.host.areas runs →
      AreWatched (next world (Step.Deliver n)).destination.guest.space.host (next world (Step.Deliver n)).destination.guest.space runs event_features 1

-- Pages that are owed

-- during pre-copy, the newest copy of a clean page is the source's page
abbrev pub HasCleanCopies : World → Type 0
HasCleanCopies world =
    world.up ≡ true → is_precopy world.source.phase ≡ true → IsPrecopying world.source world.destination.kept world.forward.frames

-- between Switch and the run, the destination will have kept exactly the source's pages that are not owed
abbrev pub KnowsOwed : World → Type 0
KnowsOwed world =
    world.up ≡ true → is_stopped world.source.phase ≡ true → world.destination.has_run ≡ false →
    IsSwitching world.source world.destination.kept world.forward.frames world.urgent.frames

-- after a Resume, the Recv of the destination lists each page that it still needs, and the source has all of them
abbrev pub KnowsNeeded : World → Type 0
KnowsNeeded world =
    world.up ≡ true → is_source_paused world.source.phase ≡ true → is_running world.destination.phase ≡ true →
    IsReceiving world.source world.destination Received.Running world.back.frames

-- whether a page of the source is present and not clean
abbrev pub is_unsent : World → ℕ → Bool
is_unsent world page = is_present (space_of world.source) page && not (contains world.source.log.clean page)

-- installs change the settled relation, which page is owed which page of the source, by their own pairs, and loads and stores leave it
pub record SettlesInstalls (world : World) : Type 0 where
  pub install : (addr source page : ℕ) → outcome world Step.Install ≡ Ok (Effect.Installed addr source) →
      settled (next world Step.Install).destination page ≡ (if page == addr / PAGE_SIZE then None else settled world.destination page)
  pub dropped : (source page : ℕ) → outcome world Step.Install ≡ Ok (Effect.Dropped source) → settled (next world Step.Install).destination page ≡ settled world.destination page
  pub access : (cpu : ℕ) (command : Command) (page : ℕ) → world.destination.has_run ≡ true → is_access command ≡ true →
      settled (next world (Step.Issue cpu command)).destination page ≡ settled world.destination page

-- once the destination has run, the next step changes the settled relation only as it changes the pages: a map call by its effect on its
-- range, an install by its own pair, and no other step at all
pub record SettlesRight (world : World) : Type 0 where
  pub call : (cpu : ℕ) (command : Command) (page : ℕ) → world.destination.has_run ≡ true → is_access command ≡ false → IsOk (outcome world (Step.Issue cpu command)) →
      settled (next world (Step.Issue cpu command)).destination page ≡ owed_changed (settled world.destination) command (reply_of (memory world.destination.guest.space.host) command) page
  pub installs : SettlesInstalls world
  pub others : (step : Step) (page : ℕ) → world.destination.has_run ≡ true → leaves_settled step ≡ true → settled (next world step).destination page ≡ settled world.destination page

-- a handler puts a page of zeros only where the page is missing
pub record ZeroesMissing (world : World) : Type 0 where
  pub source : (addr : ℕ) → outcome world Step.SourceAct ≡ Ok (Effect.Zeroed addr) → IsZeroed (space_of world.source) (space_of (next world Step.SourceAct).source) (addr / PAGE_SIZE)
  pub destination : (addr : ℕ) → outcome world Step.DestAct ≡ Ok (Effect.Zeroed addr) →
      IsZeroed world.destination.guest.space (next world Step.DestAct).destination.guest.space (addr / PAGE_SIZE)

-- the next step installs nothing over a page that is present: neither a copy, which is that of the page from which it was owed, nor a
-- page of zeros
pub record InstallsNothingOver (world : World) : Type 0 where
  pub copy : (addr source : ℕ) → outcome world Step.Install ≡ Ok (Effect.Installed addr source) → IsPut world (next world Step.Install) (addr / PAGE_SIZE) (source / PAGE_SIZE)
  pub zeros : ZeroesMissing world

-- an Install is accepted, and this copy has arrived first
pub record IsInstalling (world : World) (copy : Copy) (rest : List Copy) : Type 0 where
  pub accepted : IsOk (outcome world Step.Install)
  pub first : world.destination.arrivals ≡ copy ∷ rest

-- the copy is dropped if its page is owed nowhere, and is no longer among the arrivals
pub record TakesArrival (world : World) (copy : Copy) (rest : List Copy) : Type 0 where
  pub first : (next world Step.Install).destination.arrivals ≡ rest
  pub given_up : ((page : ℕ) → get world.destination.owed page ≢ Some copy.page) → outcome world Step.Install ≡ Ok (Effect.Dropped (PAGE_SIZE * copy.page))

-- the copy is installed where its page is owed
abbrev pub InstallsWhereOwed : World → Copy → Type 0
InstallsWhereOwed world copy =
    (page : ℕ) → get world.destination.owed page ≡ Some copy.page → outcome world Step.Install ≡ Ok (Effect.Installed (PAGE_SIZE * page) (PAGE_SIZE * copy.page))

-- Frames

-- while the link is up the first frame of each wire is in place, of the right epoch, and fits. A Deliver that completes it is refused only
-- if it has to wait, and then for that reason. A Recv lists only pages that the source has
pub record TakesFrames (world : World) : Type 0 where
  pub forward : (sent : Sent) (rest : List Sent) → world.up ≡ true → world.forward.frames ≡ sent ∷ rest → frame_fault world.destination sent.epoch sent.frame ≡ None
  pub taken : (n : ℕ) (sent : Sent) (rest : List Sent) → world.up ≡ true → world.forward.frames ≡ sent ∷ rest → is_short world.forward sent.frame n ≡ false →
      take_fault world.destination sent.epoch sent.frame ≡ None → outcome world (Step.Deliver n) ≡ Ok (frame_effect sent.frame)
  pub install_first : (n : ℕ) (sent : Sent) (rest : List Sent) → world.up ≡ true → world.forward.frames ≡ sent ∷ rest → is_short world.forward sent.frame n ≡ false →
      take_fault world.destination sent.epoch sent.frame ≡ Some TakeFault.InstallFirst → outcome world (Step.Deliver n) ≡ Err Refusal.InstallFirst
  pub urgent_first : (n : ℕ) (sent : Sent) (rest : List Sent) → world.up ≡ true → world.forward.frames ≡ sent ∷ rest → is_short world.forward sent.frame n ≡ false →
      take_fault world.destination sent.epoch sent.frame ≡ Some TakeFault.UrgentFirst → outcome world (Step.Deliver n) ≡ Err Refusal.UrgentFirst
  pub back : (sent : Sent) (rest : List Sent) → world.up ≡ true → world.back.frames ≡ sent ∷ rest → back_fault world.source sent.epoch sent.frame ≡ None
  pub recv : (epoch : ℕ) (state : Received) (owed : FinSet nat_cmp) (rest : List Sent) → world.up ≡ true → world.back.frames ≡ record { epoch = epoch; frame = Recv state owed } ∷ rest →
      rebuild_fault world.source state owed ≡ None
  pub urgent : (sent : Sent) (rest : List Sent) → world.destination.has_run ≡ true → world.up ≡ true → world.urgent.frames ≡ sent ∷ rest →
      urgent_fault world.destination sent.epoch sent.frame ≡ None

-- a delivery of `n` bytes that completes the first frame of its wire takes exactly that frame, and one that does not changes only the
-- number of bytes that have come
pub record DeliversFirst (world : World) (n : ℕ) (sent : Sent) (rest : List Sent) : Type 0 where
  pub forward : IsOk (outcome world (Step.Deliver n)) → world.forward.frames ≡ sent ∷ rest → is_short world.forward sent.frame n ≡ false →
      IsDelivered world (next world (Step.Deliver n)) sent rest
  pub forward_short : IsOk (outcome world (Step.Deliver n)) → world.forward.frames ≡ sent ∷ rest → is_short world.forward sent.frame n ≡ true →
      (outcome world (Step.Deliver n) ≡ Ok (Effect.Moved n)) × (next world (Step.Deliver n) ≡ after_move world n)
  pub back : IsOk (outcome world (Step.DeliverBack n)) → world.back.frames ≡ sent ∷ rest → is_short world.back sent.frame n ≡ false →
      IsDeliveredBack world (next world (Step.DeliverBack n)) sent rest
  pub back_short : IsOk (outcome world (Step.DeliverBack n)) → world.back.frames ≡ sent ∷ rest → is_short world.back sent.frame n ≡ true →
      (outcome world (Step.DeliverBack n) ≡ Ok (Effect.Moved n)) × (next world (Step.DeliverBack n) ≡ after_move_back world n)
  pub urgent : IsOk (outcome world (Step.DeliverUrgent n)) → world.urgent.frames ≡ sent ∷ rest → is_short world.urgent sent.frame n ≡ false →
      IsDeliveredUrgent world (next world (Step.DeliverUrgent n)) sent rest
  pub urgent_short : IsOk (outcome world (Step.DeliverUrgent n)) → world.urgent.frames ≡ sent ∷ rest → is_short world.urgent sent.frame n ≡ true →
      (outcome world (Step.DeliverUrgent n) ≡ Ok (Effect.Moved n)) × (next world (Step.DeliverUrgent n) ≡ after_move_urgent world n)

-- all three wires are empty, and the link is down
pub record IsCut (world : World) : Type 0 where
  pub forward : world.forward ≡ empty_wire
  pub back : world.back ≡ empty_wire
  pub urgent : world.urgent ≡ empty_wire
  pub up : world.up ≡ false

-- Commands

-- a waiting command stays until the Retry of its processor, and one begins to wait only by an Issue of its processor that sleeps
pub record KeepsWaiting (world : World) (step : Step) (cpu : ℕ) (command : Command) : Type 0 where
  pub arises : outstanding (processor_at (guest_of (next world step)).cpus cpu) ≡ Some command →
      (outstanding (processor_at (guest_of world).cpus cpu) ≡ Some command) ⊎ Slept world step cpu command
  pub kept : is_retry_of step cpu ≡ false → outstanding (processor_at (guest_of world).cpus cpu) ≡ Some command →
      outstanding (processor_at (guest_of (next world step)).cpus cpu) ≡ Some command

-- an accepted Issue or Retry tries the command: it leaves the processor as the command's outcome says, and enters a command that took effect
-- with its processor and its reply
pub record TriesCommand (world : World) (cpu : ℕ) (command : Command) (step : Step) : Type 0 where
  pub processor : processor_at (guest_of (next world step)).cpus cpu ≡ processor_after command (took_by (is_access command) (guest_of world).space command)
  pub entered : (next world step).transcript ≡ world.transcript ++ entries_of cpu command (took_by (is_access command) (guest_of world).space command)

-- a processor in a map call has the reply of its last entry; every step but the read of its last message leaves it, and that read hands
-- the reply over
pub record HandsReplies (world : World) (step : Step) (cpu : ℕ) (reply : Reply) : Type 0 where
  pub entered : call_reply (processor_at (guest_of world).cpus cpu) ≡ Some reply → last_reply world.transcript cpu ≡ Some reply
  pub kept : call_reply (processor_at (guest_of world).cpus cpu) ≡ Some reply →
      (call_reply (processor_at (guest_of (next world step)).cpus cpu) ≡ Some reply) ⊎ HandsOver world step cpu reply
  pub handed_over : (event : Message) → outcome world step ≡ Ok (Effect.ReadLast event cpu reply) →
      (processor_at (guest_of world).cpus cpu ≡ CpuState.InCall reply 1) × (processor_at (guest_of (next world step)).cpus cpu ≡ CpuState.Idle) × (last_reply world.transcript cpu ≡ Some reply)

-- Pages that remain

-- a page that is pushed, on either wire, no longer remains, and no step that keeps what remains adds a page, nor does a frame of the wire
-- back that is not a Recv
pub record ShrinksRemaining (world : World) : Type 0 where
  pub push : (ticket : Ticket) (q : ℕ) → IsOk (outcome world (Step.Push ticket)) →
      contains (next world (Step.Push ticket)).source.remaining q ≡ (not (q == ticket.page) && contains world.source.remaining q)
  pub push_urgent : (ticket : Ticket) (q : ℕ) → IsOk (outcome world (Step.PushUrgent ticket)) →
      contains (next world (Step.PushUrgent ticket)).source.remaining q ≡ (not (q == ticket.page) && contains world.source.remaining q)
  pub shrinks : (step : Step) (q : ℕ) → keeps_remaining step ≡ true → contains (next world step).source.remaining q ≡ true → contains world.source.remaining q ≡ true
  pub back : (n : ℕ) (sent : Sent) (rest : List Sent) (q : ℕ) → world.back.frames ≡ sent ∷ rest → is_recv sent.frame ≡ false →
      contains (next world (Step.DeliverBack n)).source.remaining q ≡ true → contains world.source.remaining q ≡ true

-- after steps in the epoch of this world no Switch is accepted, and the next frame of the wire back is not a Recv
pub record StaysPushed (epoch : ℕ) (world : World) : Type 0 where
  pub no_switch : world.source.epoch ≡ epoch → IsOk (outcome world Step.Switch) → ⊥
  pub no_recv : (sent : Sent) (rest : List Sent) → world.source.epoch ≡ epoch → world.up ≡ true → world.back.frames ≡ sent ∷ rest → is_recv sent.frame ≡ true → ⊥

-- an End is refused for no other reason than pages that remain
pub record CanEnd (world : World) : Type 0 where
  pub stopped : is_stopped world.source.phase ≡ true
  pub unsent : (world.source.end_epoch == world.source.epoch) ≡ false
  pub up : world.up ≡ true
