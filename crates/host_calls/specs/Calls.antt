-- The calls of a host that a step stands for, by its effect: ioctl_userfaultfd(2), and userfaultfd(2) for messages that are read.
use Rattle.std.specs.Prelude.{ℕ, zero, suc, ◌+◌, ◌-◌, ◌*◌, ◌<◌, ◌^◌, Bool, true, false, max, List, [], ◌∷◌, Result, Ok, Err}
use Rattle.foundation.specs.declared.TheConstants.{PAGE_SIZE}
use Rattle.mig_base.specs.declared.TheConstants.{LOW}
use Rattle.mig_base.specs.declared.Area.{Area}
use Rattle.mig_base.specs.declared.effect.Effect.{Effect}
use Rattle.mig_base.specs.declared.message.Message.{Message}
use Rattle.mig_base.specs.declared.message.Message.TheVariants.{PageFault, Remap, Remove, Unmap}
use Rattle.mig_base.specs.declared.refusal.Refusal.{Refusal}
use Rattle.mig_base.specs.declared.schedule.Side.{Side}
use Rattle.mig_base.specs.declared.schedule.Step.{Step}
use Rattle.mig_model.specs.Guest.{Guest}
use Rattle.mig_model.specs.Ioctls.{event_features}
use Rattle.mig_model.specs.Migration.{World}
use Rattle.page_stream.specs.Texts.{areas_of}
use Rattle.host_calls.specs.declared.call.Call.{Call}

-- the bytes of `count` neighbouring pages are read, the first of them at the address
abbrev pub pages_from : ℕ → ℕ → List Call
pages_from addr zero = []
pages_from addr (suc count) = Call.Page addr ∷ pages_from (addr + PAGE_SIZE) count

-- Start and Round, and Deliver of the Package: UFFDIO_REGISTER of each area
abbrev pub registers : List Area → (mode : ℕ) → List Call
registers [] mode = []
registers (area ∷ areas) mode = Call.Register (PAGE_SIZE * area.first) (PAGE_SIZE * area.count) mode ∷ registers areas mode

-- Send: UFFDIO_WRITEPROTECT with UFFDIO_WRITEPROTECT_MODE_WP, which is 1, and after that the bytes are read
abbrev pub sent_calls : Effect → List Call
sent_calls (Effect.SentPage addr) = Call.WriteProtect addr PAGE_SIZE 1 ∷ Call.Page addr ∷ []
sent_calls (Effect.SentZero addr) = Call.WriteProtect addr PAGE_SIZE 1 ∷ Call.Page addr ∷ []
sent_calls effect = []

-- SendRun: the same of all pages of the run
abbrev pub run_calls : Effect → List Call
run_calls (Effect.SentRun addr pages) = Call.WriteProtect addr (PAGE_SIZE * pages) 1 ∷ pages_from addr pages
run_calls effect = []

-- Push and PushUrgent: the bytes are read, and nothing is protected
abbrev pub pushed_calls : Effect → List Call
pushed_calls (Effect.SentPage addr) = Call.Page addr ∷ []
pushed_calls (Effect.SentZero addr) = Call.Page addr ∷ []
pushed_calls effect = []

-- UFFDIO_WAKE of the part of a range that may be mapped: below that part it is EINVAL
abbrev pub range_woken : ℕ → ℕ → Call
range_woken start len = Call.WakeRange (max start LOW) (len - (LOW - start))

-- once an event is read: UFFDIO_WAKE of the pages that were moved away, cleared or unmapped
abbrev pub woken_calls : Message → List Call
woken_calls (Remap from to len) = range_woken from len ∷ []
woken_calls (Remove start end) = range_woken start (end - start) ∷ []
woken_calls (Unmap start end) = range_woken start (end - start) ∷ []
woken_calls (PageFault addr write wp tid) = []

-- SourceRead and DestRead: read(2) of the userfaultfd, and what an event asks for
abbrev pub read_calls : Effect → List Call
read_calls (Effect.ReadFault addr wp) = Call.Read ∷ []
read_calls (Effect.ReadEvent event) = Call.Read ∷ woken_calls event
read_calls (Effect.ReadLast event cpu reply) = Call.Read ∷ woken_calls event
read_calls effect = []

-- SourceAct and DestAct: a fault is resolved by UFFDIO_WRITEPROTECT with mode 0, UFFDIO_ZEROPAGE or UFFDIO_WAKE. A page that is requested
-- has no call
abbrev pub resolved_calls : Effect → List Call
resolved_calls (Effect.Unprotected addr) = Call.WriteProtect addr PAGE_SIZE 0 ∷ []
resolved_calls (Effect.Zeroed addr) = Call.ZeroPage addr ∷ []
resolved_calls (Effect.Woke addr) = Call.Wake addr ∷ []
resolved_calls (Effect.Forgot addr) = Call.Wake addr ∷ []
resolved_calls effect = []

-- Deliver of the Package: UFFDIO_API with the three events, and UFFDIO_REGISTER with UFFDIO_REGISTER_MODE_MISSING, which is 1
abbrev pub taken_calls : List Area → Effect → List Call
taken_calls areas (Effect.TookPackage owed) = Call.Open event_features ∷ registers areas 1
taken_calls areas effect = []

-- Install: UFFDIO_COPY. A copy that is dropped has no call
abbrev pub installed_calls : Effect → List Call
installed_calls (Effect.Installed addr origin) = Call.Copy addr ∷ []
installed_calls effect = []

-- the calls that a step with this effect stands for. The areas are those that the guest of its node then has. Start and Round register in
-- both modes, UFFDIO_REGISTER_MODE_MISSING and UFFDIO_REGISTER_MODE_WP, which are 3
abbrev pub calls_of : List Area → Step → Effect → List Call
calls_of areas Step.Start effect = registers areas 3
calls_of areas Step.Round effect = registers areas 3
calls_of areas Step.Send effect = sent_calls effect
calls_of areas (Step.SendRun count) effect = run_calls effect
calls_of areas Step.SourceRead effect = read_calls effect
calls_of areas Step.SourceAct effect = resolved_calls effect
calls_of areas (Step.Deliver n) effect = taken_calls areas effect
calls_of areas Step.DestRead effect = read_calls effect
calls_of areas Step.DestAct effect = resolved_calls effect
calls_of areas Step.Install effect = installed_calls effect
calls_of areas (Step.Push ticket) effect = pushed_calls effect
calls_of areas (Step.PushUrgent ticket) effect = pushed_calls effect
calls_of areas step effect = []

-- whether a step stands for calls of a host. The commands of processors, the frames and the channel have none
abbrev pub is_of_host : Step → Bool
is_of_host (Step.Issue cpu command) = false
is_of_host (Step.Retry cpu) = false
is_of_host Step.Switch = false
is_of_host (Step.DeliverBack n) = false
is_of_host (Step.DeliverUrgent n) = false
is_of_host Step.Serve = false
is_of_host Step.End = false
is_of_host Step.Break = false
is_of_host (Step.Notice side) = false
is_of_host Step.Resume = false
is_of_host step = true

-- the node on whose host they are made
abbrev pub node_of : Step → Side
node_of (Step.Deliver n) = Side.Destination
node_of Step.DestRead = Side.Destination
node_of Step.DestAct = Side.Destination
node_of Step.Install = Side.Destination
node_of step = Side.Source

-- the guest of a node
abbrev pub guest_at : Side → World → Guest
guest_at Side.Source world = world.source.guest
guest_at Side.Destination world = world.destination.guest

-- the areas of a guest: the maximal runs of mapped pages with one protection, ascending
abbrev pub areas_at : Side → World → List Area
areas_at node world = areas_of (guest_at node world).space.host.areas

-- the calls of a step with this outcome, which leaves this world: a step that is refused has none
abbrev pub calls_by : Step → Result Effect Refusal → World → List Call
calls_by step (Ok effect) new = calls_of (areas_at (node_of step) new) step effect
calls_by step (Err refusal) new = []

-- the addresses of a run of pages that is sent fit 64 bits
abbrev pub IsWithin : Step → Effect → Type 0
IsWithin (Step.SendRun count) (Effect.SentRun addr pages) = addr + PAGE_SIZE * pages < 2 ^ 64
IsWithin step effect = Unit {0}
