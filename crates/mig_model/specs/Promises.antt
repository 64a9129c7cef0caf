-- The words in which the laws of a migration are stated.
use Rattle.std.specs.Prelude.{◌≡◌, ℕ, ◌+◌, ◌-◌, ◌/◌, ◌<◌, ◌||◌, nat_lt, ◌==◌, if◌then◌else◌, Bool, true, false, Some, None, List, [], Option, ◌∷◌, IsOk}
use Rattle.std.specs.FinMap as finmap
use Rattle.std.specs.FinMap.{get, contains_key}
use Rattle.std.specs.FinSet.{contains}
use Rattle.mig_base.specs.declared.cpu_state.CpuState.{CpuState}
use Rattle.mig_base.specs.declared.message.Message.{Message}
use Rattle.mig_base.specs.declared.message.Message.TheVariants.{PageFault, Remap, Remove, Unmap}
use Rattle.mig_base.specs.declared.phase.Received.{Received}
use Rattle.mig_base.specs.declared.schedule.Step.{Step}
use Rattle.foundation.specs.declared.TheConstants.{PAGE_SIZE}
use Rattle.mig_base.specs.declared.command.Errno.TheVariants.{Enomem}
use Rattle.mig_base.specs.declared.command.Command.{Command}
use Rattle.mig_base.specs.declared.command.Command.TheVariants.{Mmap, Munmap, Mremap, DontNeed}
use Rattle.mig_base.specs.declared.command.Reply.{Reply}
use Rattle.mig_base.specs.declared.command.Reply.TheVariants.{Done, At, Refused}
use Rattle.foundation.specs.Ranges.{in_range, pages_of}
use Rattle.mig_base.specs.Bytes.{zero_page}
use Rattle.mig_base.specs.Flat.{memory_of}
use Rattle.mig_model.specs.Host.{memory}
use Rattle.mig_base.specs.Commands.{is_access}
use Rattle.mig_model.specs.Space.{Space, fresh_space}
use Rattle.mig_base.specs.Userfault.{Noted}
use Rattle.mig_model.specs.Wire.{Frame, Sent, wire_behind, wire_moved, wire_with}
use Rattle.mig_model.specs.Wire.Frame.{Recv, Done}
use Rattle.mig_model.specs.Migration.{World, guest_of, first_world_with, after_steps, outcome, next, is_short}
use Rattle.mig_model.specs.Whereabouts.{copies_of, has_copy, AreFaithful, is_urgent_or_left}
use Rattle.mig_model.specs.Cpus.{outstanding, processor_at}
use Rattle.mig_model.specs.Cpus.Took.{Sleep}
use Rattle.mig_model.specs.Guest.{Guest, is_present, took_by}
use Rattle.mig_model.specs.Source.{is_released, is_stopped, source_answers, source_took, space_of}
use Rattle.mig_model.specs.Destination.{destination_answers, destination_took, settled, urgent_took}

-- a world to which some list of steps leads, from a first world with some number of processors and some counts
pub record IsReached (world : World) : Type 0 where
  pub cpus : ℕ
  pub epoch : ℕ
  pub rounds : ℕ
  pub steps : List Step
  pub is : world ≡ after_steps (first_world_with cpus epoch rounds) steps

-- a migration is complete: the source knows that nothing more is needed, and is released
abbrev pub IsComplete : World → Type 0
IsComplete world = is_released world.source.phase ≡ true

-- the destination alone holds the flat memory: the source has nothing, no page is owed, and no copy waits
pub record IsAlone (world : World) : Type 0 where
  pub holds : memory world.destination.guest.space.host ≡ memory_of world.transcript
  pub alone : space_of world.source ≡ fresh_space
  pub none_owed : world.destination.owed ≡ finmap.empty
  pub none_settled : (page : ℕ) → settled world.destination page ≡ None
  pub none_arrived : world.destination.arrivals ≡ []

-- owed pages and their origins are one to one, in the table and in the settled relation. Each origin is present at the source, and each
-- page that is still owed is mapped, registered for missing faults, and missing. A destination that has ended is owed nothing, and no
-- copy waits
pub record ArePaired (world : World) : Type 0 where
  pub one_to_one : (page other origin : ℕ) → get world.destination.owed page ≡ Some origin → get world.destination.owed other ≡ Some origin → page ≡ other
  pub present : (page origin : ℕ) → get world.destination.owed page ≡ Some origin → is_present (space_of world.source) origin ≡ true
  pub settled_one_to_one : (page other origin : ℕ) → settled world.destination page ≡ Some origin → settled world.destination other ≡ Some origin → page ≡ other
  pub settled_present : (page origin : ℕ) → settled world.destination page ≡ Some origin → is_present (space_of world.source) origin ≡ true
  pub mapped : (page origin : ℕ) → settled world.destination page ≡ Some origin → contains_key world.destination.guest.space.host.areas page ≡ true
  pub registered : (page origin : ℕ) → settled world.destination page ≡ Some origin → contains world.destination.guest.space.object.missing page ≡ true
  pub missing : (page origin : ℕ) → settled world.destination page ≡ Some origin → is_present world.destination.guest.space page ≡ false
  pub ended : world.destination.ended ≡ true → (world.destination.owed ≡ finmap.empty) × (world.destination.arrivals ≡ [])

-- once the destination has run: while the link is up and the source is stopped, each owed page is to be pushed, in flight on either
-- wire, or arrived; and each copy in flight or arrived has the bytes that the source holds for its page
pub record AreUnderWay (world : World) : Type 0 where
  pub whereabouts : world.up ≡ true → is_stopped world.source.phase ≡ true → (page origin : ℕ) → get world.destination.owed page ≡ Some origin →
      (is_urgent_or_left world.source.remaining world.urgent.frames origin || has_copy (copies_of world.forward.frames) origin || has_copy world.destination.arrivals origin) ≡ true
  pub in_flight : AreFaithful (space_of world.source).host.bytes (copies_of world.forward.frames)
  pub urgent : AreFaithful (space_of world.source).host.bytes (copies_of world.urgent.frames)
  pub arrived : AreFaithful (space_of world.source).host.bytes world.destination.arrivals

-- a copy was installed: the page was missing, mapped and registered, it was owed from a page of the source, and it is present with
-- that page's bytes
pub record IsPut (old new : World) (page origin : ℕ) : Type 0 where
  pub missing : is_present old.destination.guest.space page ≡ false
  pub mapped : contains_key old.destination.guest.space.host.areas page ≡ true
  pub registered : contains old.destination.guest.space.object.missing page ≡ true
  pub owed : get old.destination.owed page ≡ Some origin
  pub source : get (space_of old.source).host.bytes origin ≡ get new.destination.guest.space.host.bytes page
  pub present : is_present new.destination.guest.space page ≡ true

-- a page of zeros was put: the page was missing
pub record IsZeroed (old new : Space) (page : ℕ) : Type 0 where
  pub missing : is_present old page ≡ false
  pub zeros : get new.host.bytes page ≡ Some zero_page

-- the steps that add no page to those that remain: all but Switch and a delivery to the source
abbrev pub keeps_remaining : Step → Bool
keeps_remaining Step.Switch = false
keeps_remaining (Step.DeliverBack n) = false
keeps_remaining step = true

-- The settled relation

-- the relation once no page of a range is owed
abbrev pub gone : (ℕ → Option ℕ) → ℕ → ℕ → ℕ → Option ℕ
gone owed first count = λ page. if in_range first count page then None else owed page

-- the relation once a range has moved: pages are owed at their new places, as far as both ranges go, and what is replaced or cut off is
-- no longer owed
abbrev pub moved_owed : (ℕ → Option ℕ) → ℕ → ℕ → ℕ → ℕ → ℕ → Option ℕ
moved_owed owed from count to new_count =
    λ page. if in_range to new_count page then (if nat_lt (page - to) count then owed (from + (page - to)) else None) else if in_range from count page then None else owed page

-- the relation after a map call with this reply: pages that it unmaps, replaces or makes zeros are no longer owed, and pages that it moves
-- are owed at their new places
abbrev pub owed_changed : (ℕ → Option ℕ) → Command → Reply → ℕ → Option ℕ
owed_changed owed (Mmap len prot place) (At start) = gone owed (start / PAGE_SIZE) (pages_of len)
owed_changed owed (Munmap addr len) Done = gone owed (addr / PAGE_SIZE) (pages_of len)
owed_changed owed (Mremap addr old_len new_len may_move fixed) (At target) = moved_owed owed (addr / PAGE_SIZE) (pages_of old_len) (target / PAGE_SIZE) (pages_of new_len)
owed_changed owed (DontNeed addr len) Done = gone owed (addr / PAGE_SIZE) (pages_of len)
owed_changed owed (DontNeed addr len) (Refused Enomem) = gone owed (addr / PAGE_SIZE) (pages_of len)
owed_changed owed _ _ = owed

-- the steps that leave the settled relation as it is: all but a map call and Install
abbrev pub leaves_settled : Step → Bool
leaves_settled (Step.Issue cpu command) = is_access command
leaves_settled Step.Install = false
leaves_settled step = true

-- Waiting commands

-- whether a step is the Retry of a processor
abbrev pub is_retry_of : Step → ℕ → Bool
is_retry_of (Step.Retry cpu) k = cpu == k
is_retry_of step k = false

-- a step is the Issue of this command by a processor, which then sleeps
pub record Slept (world : World) (step : Step) (k : ℕ) (command : Command) : Type 0 where
  pub step_is : step ≡ Step.Issue k command
  pub sleeps : took_by (is_access command) (guest_of world).space command ≡ Sleep

-- each command that a processor still has to make is a load or a store
abbrev pub AllAccess : List CpuState → Type 0
AllAccess processors = (k : ℕ) (command : Command) → outstanding (processor_at processors k) ≡ Some command → is_access command ≡ true

-- on both nodes only a load or a store waits
pub record AreAccesses (world : World) : Type 0 where
  pub source : AllAccess world.source.guest.cpus
  pub destination : AllAccess world.destination.guest.cpus

-- Calls

-- a message is a page fault
abbrev pub IsFault : Message → Type 0
IsFault (PageFault addr write wp tid) = Unit {0}
IsFault (Remap from to len) = ⊥
IsFault (Remove start end) = ⊥
IsFault (Unmap start end) = ⊥

-- each message of a queue is a page fault
abbrev pub AreFaults : List Noted → Type 0
AreFaults [] = Unit {0}
AreFaults (noted ∷ rest) = IsFault noted.message × AreFaults rest

-- how many of the unread events a processor has caused
abbrev pub unread_of : List Noted → ℕ → ℕ
unread_of [] k = 0
unread_of (noted ∷ events) k = (if noted.cpu == k then 1 else 0) + unread_of events k

-- a processor is in a map call exactly as long as it has unread events, and `left` is their number
abbrev pub CallFits : CpuState → ℕ → Type 0
CallFits (CpuState.InCall reply left) unread = (left ≡ unread) × (0 < left)
CallFits state unread = unread ≡ 0

-- that holds of each processor of a guest, and the queue of page faults of its object has page faults alone
pub record HasSoundCalls (guest : Guest) : Type 0 where
  pub fits : (k : ℕ) → CallFits (processor_at guest.cpus k) (unread_of guest.space.object.events k)
  pub faults : AreFaults guest.space.object.faults

-- the same on both nodes
pub record AreSoundCalls (world : World) : Type 0 where
  pub source : HasSoundCalls world.source.guest
  pub destination : HasSoundCalls world.destination.guest

-- Deliveries

-- `n` more bytes of the first frame have reached the destination, and it is not complete
abbrev pub after_move : World → ℕ → World
after_move world n = record world { forward = wire_moved world.forward n }

-- the same of the wire back and the source
abbrev pub after_move_back : World → ℕ → World
after_move_back world n = record world { back = wire_moved world.back n }

-- the same of the urgent wire and the destination
abbrev pub after_move_urgent : World → ℕ → World
after_move_urgent world n = record world { urgent = wire_moved world.urgent n }

-- a Deliver has taken exactly the first frame of the wire. The destination after it, and the frames that it answers, are a function of
-- the destination as it was and of the frame with its epoch
pub record IsDelivered (old new : World) (sent : Sent) (rest : List Sent) : Type 0 where
  pub destination : new.destination ≡ destination_took old.destination sent.epoch sent.frame
  pub forward : new.forward ≡ wire_behind rest
  pub back : new.back ≡ wire_with old.back new.destination.epoch (destination_answers old.destination sent.frame)

-- the same of the wire back and the source
pub record IsDeliveredBack (old new : World) (sent : Sent) (rest : List Sent) : Type 0 where
  pub source : new.source ≡ source_took old.source sent.frame
  pub back : new.back ≡ wire_behind rest
  pub forward : new.forward ≡ wire_with old.forward new.source.epoch (source_answers old.source sent.frame)

-- the same of the urgent wire and the destination, which sends no answer
pub record IsDeliveredUrgent (old new : World) (sent : Sent) (rest : List Sent) : Type 0 where
  pub destination : new.destination ≡ urgent_took old.destination sent.frame
  pub urgent : new.urgent ≡ wire_behind rest

-- the steps that take frames from the urgent wire: DeliverUrgent and Break
abbrev pub takes_urgent : Step → Bool
takes_urgent (Step.DeliverUrgent n) = true
takes_urgent Step.Break = true
takes_urgent step = false

-- the steps that take frames from the wire to the destination: Deliver and Break
abbrev pub takes_forward : Step → Bool
takes_forward (Step.Deliver n) = true
takes_forward Step.Break = true
takes_forward step = false

-- the steps that take frames from the wire back: DeliverBack and Break
abbrev pub takes_back : Step → Bool
takes_back (Step.DeliverBack n) = true
takes_back Step.Break = true
takes_back step = false

-- whether a step is Break
abbrev pub is_break : Step → Bool
is_break Step.Break = true
is_break step = false

-- whether a frame is a Recv
abbrev pub is_recv : Frame → Bool
is_recv (Recv state owed) = true
is_recv frame = false

-- whether a frame is the Recv of a destination that runs
abbrev pub is_running_recv : Frame → Bool
is_running_recv (Recv Received.Running owed) = true
is_running_recv frame = false

-- whether one of the frames in flight is such a Recv
abbrev pub has_recv : List Sent → Bool
has_recv [] = false
has_recv (sent ∷ rest) = is_running_recv sent.frame || has_recv rest

-- Completion

-- whether a frame says that the destination has everything: Done, or the Recv of a destination that has ended
abbrev pub is_last : Frame → Bool
is_last Done = true
is_last (Recv Received.Ended owed) = true
is_last frame = false

-- a step by which the source takes such a frame
pub record Completes (world : World) (step : Step) : Type 0 where
  pub n : ℕ
  pub step_is : step ≡ Step.DeliverBack n
  pub sent : Sent
  pub rest : List Sent
  pub first : world.back.frames ≡ sent ∷ rest
  pub full : is_short world.back sent.frame n ≡ false
  pub last : is_last sent.frame ≡ true

-- none of the steps, made in turn, is refused
abbrev pub AreAccepted : World → List Step → Type 0
AreAccepted world [] = Unit {0}
AreAccepted world (step ∷ steps) = IsOk (outcome world step) × AreAccepted (next world step) steps

-- some list of steps, none of which is refused, leads to completion
pub record CanComplete (world : World) : Type 0 where
  pub steps : List Step
  pub accepted : AreAccepted world steps
  pub is : IsComplete (after_steps world steps)
