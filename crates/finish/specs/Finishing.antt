-- The strategy that completes a migration from any world, and how many steps it takes at most.
--
-- While the link is down both sides notice it, and the source resumes. A source that waits for the destination's report gets it; one that
-- makes rounds reads its events and switches; one that has stopped pushes what remains, the least page first, sends End, and has what is
-- in flight delivered, read and installed, until Done comes.
use Rattle.std.specs.Prelude.{◌≡◌, false, List, [], ◌∷◌, IsOk, ℕ, ◌<◌, ◌≤◌, ◌+◌, ◌*◌, ◌-◌, ◌^◌, ◌==◌, ◌&&◌, ◌||◌, not, Bool, if◌then◌else◌, Option, None, Some, length}
use Rattle.std.specs.FinSet.{FinSet, contains, len}
use Rattle.std.specs.Ordering.{nat_cmp}
use Rattle.foundation.specs.Tests.{is_empty}
use Rattle.mig_base.specs.declared.phase.DestPhase.{DestPhase}
use Rattle.mig_base.specs.declared.phase.SourcePhase.{SourcePhase}
use Rattle.mig_base.specs.declared.schedule.Side.{Side}
use Rattle.mig_base.specs.declared.schedule.Step.{Step}
use Rattle.mig_model.specs.Destination.{is_dest_paused}
use Rattle.mig_model.specs.Guest.{Guest, is_changing}
use Rattle.mig_model.specs.Log.{least_of, present}
use Rattle.mig_model.specs.Migration.{World, after_steps, next, outcome}
use Rattle.mig_model.specs.NodeSteps.{is_used}
use Rattle.mig_model.specs.Promises.{AreAccepted}
use Rattle.mig_model.specs.Source.{is_source_idle, is_source_paused, space_of}

-- The step that is due

-- more bytes than any frame has: all that the first one still lacks
abbrev pub all_bytes : ℕ
all_bytes = 2 ^ 64 - 1

-- a step that begins an epoch, unless the epoch is the last
abbrev pub unless_used : World → Step → Option Step
unless_used world step = if is_used world.source.epoch then None else Some step

-- the link is down
abbrev pub down_step : World → Option Step
down_step world =
    if not (is_source_paused world.source.phase) then Some (Step.Notice Side.Source)
    else if not (is_dest_paused world.destination.phase) then Some (Step.Notice Side.Destination)
    else unless_used world Step.Resume

-- the source makes rounds of pre-copy
abbrev pub precopy_step : World → Step
precopy_step world = if is_changing world.source.guest then Step.SourceRead else Step.Switch

-- the source waits for the destination's report, which the destination sends once it has taken Resume
abbrev pub paused_step : World → Step
paused_step world = if is_empty world.forward.frames then Step.DeliverBack all_bytes else Step.Deliver all_bytes

-- the destination runs, and End was sent: urgent frames come first, then what has arrived is installed once no event is unread
abbrev pub running_step : World → Step
running_step world =
    if not (is_empty world.urgent.frames) then Step.DeliverUrgent all_bytes
    else if is_empty world.destination.arrivals then Step.Deliver all_bytes
    else if is_changing world.destination.guest then Step.DestRead
    else Step.Install

-- End was sent: what is in flight is delivered
abbrev pub delivering_step : DestPhase → World → Step
delivering_step DestPhase.Ended world = Step.DeliverBack all_bytes
delivering_step DestPhase.Running world = running_step world
delivering_step phase world = Step.Deliver all_bytes

-- by the least page that remains: it is pushed, and where there is none End is sent
abbrev pub stopped_by : Option ℕ → World → Step
stopped_by (Some page) world = Step.Push (record { epoch = world.source.epoch; page = page })
stopped_by None world = if world.source.end_epoch == world.source.epoch then delivering_step world.destination.phase world else Step.End

-- the source has stopped
abbrev pub stopped_step : World → Step
stopped_step world = stopped_by (least_of world.source.remaining) world

-- the link is up
abbrev pub up_step : SourcePhase → World → Option Step
up_step SourcePhase.Idle world = unless_used world Step.Start
up_step SourcePhase.Precopy world = Some (precopy_step world)
up_step SourcePhase.Stopped world = Some (stopped_step world)
up_step SourcePhase.Paused world = Some (paused_step world)
up_step SourcePhase.Released world = None

-- the next step towards the completion
abbrev pub finishing_step : World → Option Step
finishing_step world = if world.up then up_step world.source.phase world else down_step world

-- the strategy makes no command of a processor and tries none again, begins no round of pre-copy and sends no page in one, and breaks no
-- channel. It resolves no fault, serves no request and pushes no page on the urgent wire either
abbrev pub IsOfStrategy : Step → Type 0
IsOfStrategy (Step.Issue cpu command) = ⊥
IsOfStrategy (Step.Retry cpu) = ⊥
IsOfStrategy Step.Round = ⊥
IsOfStrategy Step.Send = ⊥
IsOfStrategy (Step.SendRun count) = ⊥
IsOfStrategy Step.SourceAct = ⊥
IsOfStrategy Step.DestAct = ⊥
IsOfStrategy (Step.PushUrgent ticket) = ⊥
IsOfStrategy Step.Serve = ⊥
IsOfStrategy Step.Break = ⊥
IsOfStrategy step = Unit {0}

-- a Start or a Resume is due, and the epoch is the last
abbrev pub needs_epoch : World → Bool
needs_epoch world =
    is_used world.source.epoch && (if world.up then is_source_idle world.source.phase else is_source_paused world.source.phase && is_dest_paused world.destination.phase)

-- no epoch is left for the Start or the Resume without which the migration is not completed
abbrev pub lacks_epoch : World → Bool
lacks_epoch world = is_used world.source.epoch && (not world.up || is_source_idle world.source.phase)

-- the set has no page below this one
abbrev pub HasNoneBelow : FinSet nat_cmp → ℕ → Type 0
HasNoneBelow pages from = (page : ℕ) → page < from → contains pages page ≡ false

-- no page below this one remains to be pushed
abbrev pub HasPushed : World → ℕ → Type 0
HasPushed world from = HasNoneBelow world.source.remaining from

-- the page does not remain after the step, if none below `from` remained before: a push, which is of the least page, leaves none up to it,
-- and the steps after the last push leave the pages that remain as they are
abbrev pub IsPast : Step → ℕ → ℕ → Type 0
IsPast (Step.Push ticket) from page = page ≤ ticket.page
IsPast Step.End from page = page < from
IsPast (Step.Deliver n) from page = page < from
IsPast (Step.DeliverUrgent n) from page = page < from
IsPast Step.DestRead from page = page < from
IsPast Step.Install from page = page < from
IsPast step from page = ⊥

-- How many steps there are at most

-- unread messages
abbrev pub unread : Guest → ℕ
unread guest = length guest.space.object.faults + length guest.space.object.events

-- 1 for a test that holds
abbrev pub one_if : Bool → ℕ
one_if test = if test then 1 else 0

-- what the destination has to read and to install
abbrev pub left_to_handle : World → ℕ
left_to_handle world = length world.destination.arrivals + unread world.destination.guest

-- before the source knows what it has to push, it counts three steps for each present page: it is pushed, taken and installed
abbrev pub before_push : World → ℕ
before_push world = 3 * len (present (space_of world.source)) + unread world.source.guest

-- what a destination that reports asks for again
abbrev pub reported : World → ℕ
reported world = before_push world + (left_to_handle world + length world.destination.requests)

-- the source waits for a report
abbrev pub paused_left : World → ℕ
paused_left world =
    if is_dest_paused world.destination.phase then reported world + 10 else before_push world + (left_to_handle world + length world.back.frames) + 8

-- the source has stopped
abbrev pub stopped_left : World → ℕ
stopped_left world =
    3 * (len world.source.remaining + one_if (not (world.source.end_epoch == world.source.epoch)))
    + (2 * (length world.forward.frames + length world.urgent.frames) + (left_to_handle world + length world.back.frames))

-- the link is up
abbrev pub up_left : SourcePhase → World → ℕ
up_left SourcePhase.Idle world = before_push world + 11
up_left SourcePhase.Precopy world = before_push world + 2 * length world.forward.frames + 8
up_left SourcePhase.Stopped world = stopped_left world
up_left SourcePhase.Paused world = paused_left world
up_left SourcePhase.Released world = 0

-- the link is down
abbrev pub down_left : World → ℕ
down_left world =
    reported world + (11 + (one_if (not (is_source_paused world.source.phase)) + one_if (not (is_dest_paused world.destination.phase))))

-- how many steps of the strategy lead from a world to the completion, at most
abbrev pub steps_left : World → ℕ
steps_left world = if world.up then up_left world.source.phase world else down_left world

-- What is promised

-- a step that is due: it is not refused, fewer steps are left after it, and if the epochs suffice they do so after it
pub record IsDue (world : World) (step : Step) : Type 0 where
  pub made : IsOk (outcome world step)
  pub fewer : steps_left (next world step) < steps_left world
  pub goes : lacks_epoch world ≡ false → lacks_epoch (next world step) ≡ false

-- steps that lead from one world to another, made in turn: none of them is refused
pub record Leads (old : World) (steps : List Step) (new : World) : Type 0 where
  pub accepted : AreAccepted old steps
  pub is : new ≡ after_steps old steps

-- steps made in turn are those of the strategy: each is due in the world that those before it lead to, and none is due after the last
abbrev pub AreDue : World → List Step → Type 0
AreDue world [] = finishing_step world ≡ None
AreDue world (step ∷ steps) = (finishing_step world ≡ Some step) × AreDue (next world step) steps
