-- The steps of a world at one of its nodes, as a log: the calls that its handler makes, the map calls of its guest, and how they end. Other
-- steps have no line.
use Rattle.std.specs.Prelude.{◌≡◌, ℕ, not, Bool, ◌+◌, ◌-◌, ◌/◌, ◌==◌, ◌&&◌, false, true, if◌then◌else◌, Option, Some, None, Result, Ok, List, [], ◌∷◌, ◌++◌, ◌*◌, drop, length, map, max}
use Rattle.std.specs.List.{list_any}
use Rattle.std.specs.FinMap.{FinMap}
use Rattle.std.specs.Ordering.{nat_cmp}
use Rattle.mig_base.specs.declared.Prot.{Prot}
use Rattle.mig_base.specs.declared.Run.{Run}
use Rattle.foundation.specs.declared.TheConstants.{PAGE_SIZE}
use Rattle.mig_base.specs.declared.TheConstants.{LOW}
use Rattle.mig_base.specs.declared.command.Command.{Command}
use Rattle.mig_base.specs.declared.command.Place.{Place}
use Rattle.mig_base.specs.declared.effect.Effect.{Effect}
use Rattle.mig_base.specs.declared.command.Reply.{Reply}
use Rattle.mig_base.specs.declared.command.Reply.TheVariants.{At}
use Rattle.mig_base.specs.declared.message.Message.{Message}
use Rattle.mig_base.specs.declared.refusal.Refusal.{Refusal}
use Rattle.mig_base.specs.declared.schedule.Step.{Step}
use Rattle.mig_base.specs.Commands.{is_access, page_of}
use Rattle.mig_base.specs.Flat.{reply_of}
use Rattle.foundation.specs.Ranges.{in_range, pages_of, rounded}
use Rattle.mig_base.specs.Sets.{without}
use Rattle.foundation.specs.Tests.{is_empty}
use Rattle.mig_base.specs.Userfault.{Noted, Object, next_message, rest_noted}
use Rattle.mig_model.specs.Bounds.{IsMapping}
use Rattle.mig_model.specs.Cpus.{outstanding, processor_at}
use Rattle.mig_model.specs.Ioctls.{all_features, event_features}
use Rattle.mig_model.specs.Migration.{World, after_steps, guest_of, next, outcome}
use Rattle.mig_model.specs.Handlers.{AreRunsOf}
use Rattle.mig_model.specs.Host.{host_dropped, memory}
use Rattle.mig_model.specs.Promises.{IsReached}
use Rattle.mig_model.specs.Source.{is_released, is_source_idle}
use Rattle.mig_model.specs.Space.{Space, call_messages, queued_by}
use Rattle.uffd_log.specs.declared.call.Call.{Call}
use Rattle.uffd_log.specs.declared.call.Call.TheVariants as call
use Rattle.uffd_log.specs.declared.call.Descriptor.{Descriptor}
use Rattle.uffd_log.specs.declared.line.Answer.{Answer}
use Rattle.uffd_log.specs.declared.line.Answer.TheVariants.{Done, Features, Opened, Value}
use Rattle.kernel_rules.specs.declared.run.Made.{Made}
use Rattle.kernel_rules.specs.declared.difference.Difference.{Difference}
use Rattle.kernel_rules.specs.declared.difference.Difference.TheVariants.{FaultOnItsWay, MessagesOfMremap}
use Rattle.kernel_rules.specs.Ioctls.{has_calls, is_offer}
use Rattle.kernel_rules.specs.Runs as runs
use Rattle.kernel_rules.specs.Runs.{Event, IsRun, Outcome, Leads, begins, ends, lines_of}
use Rattle.kernel_rules.specs.State.{Kernel, fresh_kernel, may_be_outside}
use Rattle.kernel_laws.specs.Agreement.{Counterparts, is_inside, message_of, telling}
use Rattle.kernel_laws.specs.Maps.{answer_of_reply, told_by}

-- a call, with how it ends
pub record Ended : Type 0 where
  pub call : Call
  pub out : Outcome

-- one that reads and finds nothing
abbrev pub answered : Call → Answer → Ended
answered call answer = record { call = call; out = record { answer = answer; messages = []; runs = [] } }

-- read(2) of a message
abbrev pub read_call : Descriptor → Message → Ended
read_call on message = record { call = call.Read on None; out = record { answer = Value 1; messages = message_of message ∷ []; runs = [] } }

-- of several, one after another
abbrev pub read_calls : Descriptor → List Message → List Ended
read_calls on [] = []
read_calls on (message ∷ messages) = read_call on message ∷ read_calls on messages

-- UFFDIO_REGISTER of the runs in turn, with a word of modes
abbrev pub register_calls : Descriptor → (bits calls : ℕ) → List Run → List Ended
register_calls on bits calls [] = []
register_calls on bits calls (run ∷ areas) =
    answered (call.Register on (PAGE_SIZE * run.first) (PAGE_SIZE * run.count) bits) (Value calls) ∷ register_calls on bits calls areas

-- the lines of a call, by its number: nothing is between its beginning and its end
abbrev pub lines_of_call : ℕ → Ended → List Event
lines_of_call key ended = begins (record { key = key; space = 0; thread = 0; program = 0; call = ended.call; last = false }) ∷ ends key ended.out ∷ []

-- the lines of these calls, numbered from a number on
abbrev pub lines_of_calls : ℕ → List Ended → List Event
lines_of_calls key [] = []
lines_of_calls key (ended ∷ more) = lines_of_call key ended ++ lines_of_calls (key + 1) more

-- a map call under way, which has taken effect: how it ends, its events that the model has unread, and those that a kernel has. These are
-- others for mremap alone
pub record Open : Type 0 where
  pub made : Made
  pub out : Outcome
  pub unread : List Noted
  pub told : List Message

-- a part of a log: its lines, the number of the call after them, and the map calls that are under way then, the oldest first
pub record Written : Type 0 where
  pub lines : List Event
  pub key : ℕ
  pub begun : List Open

-- one part after another
abbrev pub then_written : Written → Written → Written
then_written first rest = record rest { lines = first.lines ++ rest.lines }

-- calls of the handler, numbered from a number on
abbrev pub calls_written : (key : ℕ) → List Open → List Ended → Written
calls_written key begun calls = record { lines = lines_of_calls key calls; key = key + length calls; begun = begun }

-- a node in a log: the space that its object watches, and what a step writes, by the number of its first call and the map calls under way
pub record Node : Type 0 where
  pub space : World → Space
  pub writes : (key : ℕ) → List Open → World → Step → Written

-- the log of steps
abbrev pub log_of : Node → (key : ℕ) → List Open → World → List Step → Written
log_of node key begun world [] = record { lines = []; key = key; begun = begun }
log_of node key begun world (step ∷ steps) =
    let first = node.writes key begun world step in
    then_written first (log_of node first.key first.begun (next world step) steps)

-- the space of a node after steps
abbrev pub space_after : Node → World → List Step → Space
space_after node world steps = node.space (after_steps world steps)

-- The destination

-- DestAct: UFFDIO_ZEROPAGE or UFFDIO_WAKE; none where the page is requested
abbrev pub act_call : Descriptor → Effect → List Ended
act_call on (Effect.Zeroed addr) = answered (call.ZeroPage on addr PAGE_SIZE 0) (Value PAGE_SIZE) ∷ []
act_call on (Effect.Woke addr) = answered (call.Wake on addr PAGE_SIZE) Done ∷ []
act_call on (Effect.Forgot addr) = answered (call.Wake on addr PAGE_SIZE) Done ∷ []
act_call on effect = []

-- Install: UFFDIO_COPY from a buffer of the handler; none where the copy is dropped
abbrev pub install_call : Descriptor → (from : ℕ) → Effect → List Ended
install_call on from (Effect.Installed addr origin) = answered (call.Copy on addr from PAGE_SIZE 0) (Value PAGE_SIZE) ∷ []
install_call on from effect = []

-- the handler's call in a step with this outcome, but for DestRead
abbrev pub destination_calls : Descriptor → (from : ℕ) → World → Step → Result Effect Refusal → List Ended
destination_calls on from world Step.DestAct (Ok effect) = act_call on effect
destination_calls on from world Step.Install (Ok effect) = install_call on from effect
destination_calls on from world step result = []

-- the protection of mmap(2): PROT_READ is 1, PROT_WRITE 2
abbrev pub bits_of : Prot → ℕ
bits_of Prot.NoAccess = 0
bits_of Prot.Read = 1
bits_of Prot.ReadWrite = 3

-- mmap(2) of private memory: MAP_PRIVATE is 2, MAP_FIXED 0x10, MAP_ANONYMOUS 0x20, MAP_FIXED_NOREPLACE 0x100000
abbrev pub mmap_at : (len prot : ℕ) → Place → Call
mmap_at len prot Place.Anywhere = call.Mmap 0 len prot 0x22
mmap_at len prot (Place.Fixed addr) = call.Mmap addr len prot 0x32
mmap_at len prot (Place.NoReplace addr) = call.Mmap addr len prot 0x100022

-- the map call of a command, if it is one: mremap(2) with MREMAP_MAYMOVE, 1, and MREMAP_FIXED, 2; madvise(2) with MADV_DONTNEED, 4
abbrev pub map_call : Command → Option Call
map_call (Command.Mmap len prot place) = Some (mmap_at len (bits_of prot) place)
map_call (Command.Munmap addr len) = Some (call.Munmap addr len)
map_call (Command.Mremap addr old_len new_len false None) = Some (call.Mremap addr old_len new_len 0 0)
map_call (Command.Mremap addr old_len new_len true None) = Some (call.Mremap addr old_len new_len 1 0)
map_call (Command.Mremap addr old_len new_len false (Some target)) = Some (call.Mremap addr old_len new_len 2 target)
map_call (Command.Mremap addr old_len new_len true (Some target)) = Some (call.Mremap addr old_len new_len 3 target)
map_call (Command.DontNeed addr len) = Some (call.Madvise addr len 4)
map_call command = None

-- messages that a processor has queued
abbrev pub noted_by : ℕ → List Message → List Noted
noted_by cpu [] = []
noted_by cpu (message ∷ messages) = record { message = message; cpu = cpu } ∷ noted_by cpu messages

-- a map call of the guest in an address space: it begins and takes effect, and ends at once if it has queued no message
abbrev pub map_written : (home key : ℕ) → List Open → (unread : List Noted) → (told : List Message) → Answer → Call → Written
map_written home key begun unread told answer call =
    let made : Made = record { key = key; space = home; thread = 0; program = 0; call = call; last = false } in
    let out : Outcome = record { answer = answer; messages = []; runs = [] } in
    if is_empty unread then record { lines = begins made ∷ ends key out ∷ []; key = key + 1; begun = begun }
    else record { lines = begins made ∷ []; key = key + 1; begun = begun ++ record { made = made; out = out; unread = unread; told = told } ∷ [] }

-- the same of a command that has this reply
abbrev pub reply_written : (home key : ℕ) → List Open → Object → (cpu : ℕ) → Command → Call → Reply → Written
reply_written home key begun object cpu command call reply =
    map_written home key begun (noted_by cpu (call_messages object command reply)) (told_by object command reply) (answer_of_reply reply) call

-- the same of a command of a processor
abbrev pub issue_written : (home key : ℕ) → List Open → Space → (cpu : ℕ) → Command → Option Call → Written
issue_written home key begun space cpu command None = calls_written key begun []
issue_written home key begun space cpu command (Some call) = reply_written home key begun space.object cpu command call (reply_of (memory space.host) command)

-- the events that the model has unread of these calls
abbrev pub unread_of : List Open → List Noted
unread_of [] = []
unread_of (one ∷ begun) = one.unread ++ unread_of begun

-- a space with these events unread
abbrev pub with_unread : Space → List Noted → Space
with_unread space events = record space { object = record space.object { events = events } }

-- a space without the pages that a call is to clear
abbrev pub without_cleared : Space → Call → Space
without_cleared space (call.Madvise addr len advice) =
    record space { host = host_dropped space.host (addr / PAGE_SIZE) (pages_of len); protected = without space.protected (addr / PAGE_SIZE) (pages_of len) }
without_cleared space call = space

-- without those that the map calls under way are to clear
abbrev pub cleared : Space → List Open → Space
cleared space [] = space
cleared space (one ∷ begun) = cleared (without_cleared space one.made.call) begun

-- the space of the model, by that of a kernel: with these map calls under way
abbrev pub modelled : Space → List Open → Space
modelled space begun = cleared (with_unread space (unread_of begun)) begun

-- UFFDIO_WAKE of the part of a range that the model may have mapped
abbrev pub wake_range : Descriptor → (start len : ℕ) → List Ended
wake_range on start len = answered (call.Wake on (max start LOW) (len - (LOW - start))) Done ∷ []

-- UFFDIO_WAKE of the pages that were moved away, cleared or unmapped
abbrev pub wake_call : Descriptor → Message → List Ended
wake_call on (Message.PageFault addr write wp tid) = []
wake_call on (Message.Remap from to len) = wake_range on from len
wake_call on (Message.Remove start end) = wake_range on start (end - start)
wake_call on (Message.Unmap start end) = wake_range on start (end - start)

-- UFFDIO_WAKE of the first of these
abbrev pub wakes_first : Descriptor → List Message → List Ended
wakes_first on [] = []
wakes_first on (message ∷ messages) = wake_call on message

-- whether one is left
abbrev pub is_last : List Noted → Bool
is_last (noted ∷ []) = true
is_last unread = false

-- the first of these
abbrev pub first_told : List Message → List Message
first_told [] = []
first_told (message ∷ messages) = message ∷ []

-- the end of the oldest map call, once the model has read an event of it: it returns after its last one
abbrev pub ends_of : Open → List Event
ends_of one = if is_last one.unread then ends one.made.key one.out ∷ [] else []

-- what it has left then: a kernel's next event is read too, and with the model's last one all that it has
abbrev pub one_less : Open → List Open
one_less one = if is_last one.unread then [] else record one { unread = rest_noted one.unread; told = drop 1 one.told } ∷ []

-- those events
abbrev pub told_now : Open → List Message
told_now one = if is_last one.unread then one.told else first_told one.told

-- what is written once the model has read an event of the oldest map call: the reads of a kernel's, the end of the call if there is one, and
-- UFFDIO_WAKE of the first
abbrev pub event_written : Descriptor → (key : ℕ) → List Open → Written
event_written on key [] = calls_written key [] []
event_written on key (one ∷ begun) =
    let read = told_now one in
    let left = one_less one ++ begun in
    let after = key + length read in
    then_written (record { lines = lines_of_calls key (read_calls on read) ++ ends_of one; key = after; begun = left }) (calls_written after left (wakes_first on read))

-- the same of a message
abbrev pub message_written : Descriptor → (key : ℕ) → List Open → Message → Written
message_written on key begun (Message.PageFault addr write wp tid) = calls_written key begun (read_call on (Message.PageFault addr write wp tid) ∷ [])
message_written on key begun event = event_written on key begun

-- read(2) of the next message, and what follows
abbrev pub read_written : Descriptor → (key : ℕ) → List Open → Option Noted → Written
read_written on key begun None = calls_written key begun []
read_written on key begun (Some noted) = message_written on key begun noted.message

-- what a step of the destination with this outcome writes
abbrev pub destination_writes : Descriptor → (from home key : ℕ) → List Open → World → Step → Result Effect Refusal → Written
destination_writes on from home key begun world (Step.Issue cpu command) (Ok effect) = issue_written home key begun world.destination.guest.space cpu command (map_call command)
destination_writes on from home key begun world Step.DestRead (Ok effect) = read_written on key begun (next_message world.destination.guest.space.object)
destination_writes on from home key begun world step result = calls_written key begun (destination_calls on from world step result)

-- the destination, with its object's descriptor, its handler's buffer, and the address space of its guest
abbrev pub destination : Descriptor → (from home : ℕ) → Node
destination on from home =
    record {
      space = λ (world : World). world.destination.guest.space;
      writes = λ (key : ℕ) (begun : List Open) (world : World) (step : Step). destination_writes on from home key begun world step (outcome world step);
    }

-- a step of a reached world in which the destination takes the Package, its mapped pages as runs, what a kernel returns of the calls that the
-- object and its pages have, and the descriptor and the buffer
pub record Arrival : Type 0 where
  pub world : World
  pub n : ℕ
  pub count : ℕ
  pub reached : IsReached world
  pub is : outcome world (Step.Deliver n) ≡ Ok (Effect.TookPackage count)
  pub areas : List Run
  pub are : AreRunsOf (next world (Step.Deliver n)).destination.guest.space.host.areas areas
  pub offer : ℕ
  pub offers : is_offer all_features offer ≡ true
  pub calls : ℕ
  pub has : has_calls 1 calls ≡ true
  pub on : Descriptor
  pub from : ℕ
  pub source : may_be_outside from PAGE_SIZE ≡ false

-- the world that it leads to
abbrev pub arrived : Arrival → World
arrived it = next it.world (Step.Deliver it.n)

-- the calls before the processors run: userfaultfd(2) with O_NONBLOCK, UFFDIO_API for the three events, and UFFDIO_REGISTER
abbrev pub first_calls : Arrival → List Ended
first_calls it =
    answered (call.Open false 0x800) (Opened it.on) ∷ answered (call.Api it.on 0xaa event_features) (Features all_features it.offer)
    ∷ register_calls it.on 1 it.calls it.areas

-- the destination. Its guest is process 0
abbrev pub arriving : Arrival → Node
arriving it = destination it.on it.from 0

-- its whole log: these calls, and those of the steps after them
abbrev pub whole_log : Arrival → List Step → Written
whole_log it steps =
    then_written (calls_written 0 [] (first_calls it)) (log_of (arriving it) (length (first_calls it)) [] (arrived it) steps)

-- its space after these steps
abbrev pub space_left : Arrival → List Step → Space
space_left it steps = space_after (arriving it) (arrived it) steps

-- The source

-- a message without its thread
abbrev pub unnamed_message : Message → Message
unnamed_message (Message.PageFault addr write wp tid) = Message.PageFault addr write wp 0
unnamed_message message = message

-- the same of one that waits
abbrev pub unnamed_noted : Noted → Noted
unnamed_noted noted = record noted { message = unnamed_message noted.message }

-- the features of a source's object but UFFD_FEATURE_THREAD_ID: those of the events, and UFFD_FEATURE_PAGEFAULT_FLAG_WP, bit 0
abbrev pub unnamed_features : ℕ
unnamed_features = 0x4d

-- an object that did not ask for the threads' numbers. The model's fault waits until it is read, and its processor may sleep at another page
-- by then; a thread of a kernel has one fault at a time
abbrev pub unnamed_object : Object → Object
unnamed_object object = record object { features = unnamed_features; faults = map unnamed_noted object.faults }

-- a space with such an object
abbrev pub unnamed : Space → Space
unnamed space = record space { object = unnamed_object space.object }

-- Send and SendRun: UFFDIO_WRITEPROTECT of the pages, before they are read
abbrev pub protect_call : Descriptor → Effect → List Ended
protect_call on (Effect.SentPage addr) = answered (call.WriteProtect on addr PAGE_SIZE 1) Done ∷ []
protect_call on (Effect.SentZero addr) = answered (call.WriteProtect on addr PAGE_SIZE 1) Done ∷ []
protect_call on (Effect.SentRun addr pages) = answered (call.WriteProtect on addr (PAGE_SIZE * pages) 1) Done ∷ []
protect_call on effect = []

-- SourceAct: UFFDIO_WRITEPROTECT of a page that is no longer to be protected, UFFDIO_ZEROPAGE or UFFDIO_WAKE
abbrev pub resolve_call : Descriptor → Effect → List Ended
resolve_call on (Effect.Unprotected addr) = answered (call.WriteProtect on addr PAGE_SIZE 0) Done ∷ []
resolve_call on effect = act_call on effect

-- what a log has that a source does not say: the object's descriptor, which calls the pages have, and the runs in which it registers the
-- mapped pages
pub record Watch : Type 0 where
  pub on : Descriptor
  pub calls : ℕ
  pub has : has_calls 3 calls ≡ true
  pub runs : FinMap nat_cmp Prot → List Run
  pub are : (areas : FinMap nat_cmp Prot) → IsMapping areas → AreRunsOf areas (runs areas)

-- the handler's calls in a step with this outcome, but for SourceRead: Start and Round register every mapped page in both modes
abbrev pub source_calls : Watch → World → Step → Result Effect Refusal → List Ended
source_calls by world Step.Start (Ok effect) = register_calls by.on 3 by.calls (by.runs world.source.guest.space.host.areas)
source_calls by world Step.Round (Ok effect) = register_calls by.on 3 by.calls (by.runs world.source.guest.space.host.areas)
source_calls by world Step.Send (Ok effect) = protect_call by.on effect
source_calls by world (Step.SendRun count) (Ok effect) = protect_call by.on effect
source_calls by world Step.SourceAct (Ok effect) = resolve_call by.on effect
source_calls by world step result = []

-- what a step of the source with this outcome writes, its guest's map calls until the destination runs
abbrev pub source_writes : Watch → (home key : ℕ) → List Open → World → Step → Result Effect Refusal → Written
source_writes by home key begun world (Step.Issue cpu command) (Ok effect) =
    if world.destination.has_run then calls_written key begun [] else issue_written home key begun (unnamed world.source.guest.space) cpu command (map_call command)
source_writes by home key begun world Step.SourceRead (Ok effect) = read_written by.on key begun (next_message (unnamed world.source.guest.space).object)
source_writes by home key begun world step result = calls_written key begun (source_calls by world step result)

-- the source, with the address space of its guest
abbrev pub source : Watch → (home : ℕ) → Node
source by home =
    record {
      space = λ (world : World). unnamed world.source.guest.space;
      writes = λ (key : ℕ) (begun : List Open) (world : World) (step : Step). source_writes by home key begun world step (outcome world step);
    }

-- a reached world whose migration has not begun, and what a kernel returns of the calls that the object has
pub record Beginning : Type 0 where
  pub world : World
  pub reached : IsReached world
  pub idle : is_source_idle world.source.phase ≡ true
  pub by : Watch
  pub offer : ℕ
  pub offers : is_offer all_features offer ≡ true

-- the calls before a migration: userfaultfd(2) with O_NONBLOCK, and UFFDIO_API
abbrev pub opening_calls : Beginning → List Ended
opening_calls it =
    answered (call.Open false 0x800) (Opened it.by.on) ∷ answered (call.Api it.by.on 0xaa unnamed_features) (Features all_features it.offer) ∷ []

-- the whole log of a source: these calls, and those of the steps after them. Its guest is process 0
abbrev pub source_log : Beginning → List Step → Written
source_log it steps = then_written (calls_written 0 [] (opening_calls it)) (log_of (source it.by 0) 2 [] it.world steps)

-- its space after these steps
abbrev pub source_left : Beginning → List Step → Space
source_left it steps = space_after (source it.by 0) it.world steps

-- Which steps

-- a step begins no map call
abbrev pub IsNoMapCall : Step → Type 0
IsNoMapCall (Step.Issue cpu command) = is_access command ≡ true
IsNoMapCall step = Unit {0}

-- none of these steps does
abbrev pub HaveNoMapCalls : List Step → Type 0
HaveNoMapCalls [] = Unit {0}
HaveNoMapCalls (step ∷ steps) = IsNoMapCall step × HaveNoMapCalls steps

-- whether a command clears no pages past the model's address space
abbrev pub is_followed : Command → Bool
is_followed (Command.DontNeed addr len) = is_inside addr (rounded len)
is_followed command = true

-- whether a command is an mremap that is done
abbrev pub is_remap : Command → Reply → Bool
is_remap (Command.Mremap addr old_len new_len may_move fixed) (At target) = true
is_remap command reply = false

-- whether a command may be made in a space while a call is under way: until MADV_DONTNEED returns, none of its pages is accessed, no mremap
-- is done, and no other map call queues a message
abbrev pub keeps_off : Space → Command → Call → Bool
keeps_off space command (call.Madvise addr len advice) =
    if is_access command then not (in_range (addr / PAGE_SIZE) (pages_of len) (page_of command))
    else queued_by space command == 0 && not (is_remap command (reply_of (memory space.host) command))
keeps_off space command call = true

-- whether it may be made with these calls under way
abbrev pub keeps_off_all : Space → Command → List Open → Bool
keeps_off_all space command begun = not (list_any (λ (one : Open). not (keeps_off space command one.made.call)) begun)

-- a step of a node with this space, and these map calls under way, makes no command that is left out
abbrev pub IsFollowed : Space → List Open → World → Step → Type 0
IsFollowed space begun world (Step.Issue cpu command) = (is_followed command && keeps_off_all space command begun) ≡ true
IsFollowed space begun world (Step.Retry cpu) =
    (command : Command) → outstanding (processor_at (guest_of world).cpus cpu) ≡ Some command → keeps_off_all space command begun ≡ true
IsFollowed space begun world step = Unit {0}

-- each of these steps of a node, with the map calls that are under way in its log
abbrev pub AreFollowed : Node → (key : ℕ) → List Open → World → List Step → Type 0
AreFollowed node key begun world [] = Unit {0}
AreFollowed node key begun world (step ∷ steps) =
    let first = node.writes key begun world step in
    IsFollowed (node.space world) begun world step × AreFollowed node first.key first.begun (next world step) steps

-- the source has not released its memory, with which its object goes, when these steps are made
abbrev pub IsUnreleased : World → List Step → Type 0
IsUnreleased world steps = is_released (after_steps world steps).source.phase ≡ false

-- Runs

-- no map call is under way
abbrev pub IsQuiet : Kernel → Type 0
IsQuiet kernel = telling kernel ≡ fresh_kernel

-- whether a line begins an mremap
abbrev pub is_mremap : Event → Bool
is_mremap (begins made) = is_call made.call where
  is_call : Call → Bool
  is_call (call.Mremap addr old_len new_len flags target) = true
  is_call other = false
is_mremap (ends key out) = false

-- whether a log has one
abbrev pub have_mremap : List Event → Bool
have_mremap lines = list_any is_mremap lines

-- whether a difference is a page fault whose thread need not wait any more when it queues it, or, of a log with mremap, its messages
abbrev pub is_expected : (moves : Bool) → Difference → Bool
is_expected moves FaultOnItsWay = true
is_expected moves MessagesOfMremap = moves
is_expected moves difference = false

-- a run that leads to this kernel has no other difference from the model
abbrev pub AreExpected : (moves : Bool) → Kernel → Type 0
AreExpected moves kernel = list_any (λ difference. not (is_expected moves difference)) kernel.differs ≡ false

-- a kernel, and these map calls under way
abbrev pub under_way : Kernel → List Open → runs.World
under_way kernel begun = record { kernel = kernel; begun = map (λ (one : Open). record { made = one.made; out = Some one.out; left = 0 }) begun }

-- a kernel, and no call under way
abbrev pub at_rest : Kernel → runs.World
at_rest kernel = under_way kernel []

-- a reached world whose destination runs, a kernel at rest whose object agrees with it, the object's descriptor, and the address of the
-- handler's buffer
pub record Running : Type 0 where
  pub world : World
  pub reached : IsReached world
  pub ran : world.destination.has_run ≡ true
  pub one : Counterparts
  pub same : one.space ≡ world.destination.guest.space
  pub quiet : IsQuiet one.kernel
  pub on : Descriptor
  pub own : on.object ≡ one.name
  pub from : ℕ
  pub source : may_be_outside from PAGE_SIZE ≡ false

-- the destination
abbrev pub running : Running → Node
running at = destination at.on at.from at.one.object.space

-- a reached world, a kernel at rest whose object agrees with the source's, and the object's descriptor
pub record Watching : Type 0 where
  pub world : World
  pub reached : IsReached world
  pub by : Watch
  pub one : Counterparts
  pub same : one.space ≡ unnamed world.source.guest.space
  pub quiet : IsQuiet one.kernel
  pub own : by.on.object ≡ one.name

-- the source
abbrev pub watching : Watching → Node
watching at = source at.by at.one.object.space

-- a run of this part of a log leads from a kernel whose object agrees with the model's to one whose object agrees with this space, but for
-- the pages that calls under way are to clear and the events of mremap, and adds no other difference
pub record IsLogged (one : Counterparts) (log : Written) (space : Space) : Type 0 where
  pub steps : List runs.Step
  pub last : Counterparts
  pub whole : lines_of steps ≡ log.lines
  pub leads : Leads (at_rest one.kernel) steps (under_way last.kernel log.begun)
  pub leaves : modelled last.space log.begun ≡ space
  pub name : last.name ≡ one.name
  pub quiet : log.begun ≡ [] → IsQuiet last.kernel
  pub differs : AreExpected (have_mremap log.lines) one.kernel → AreExpected (have_mremap log.lines) last.kernel

-- the log of a node's steps has such a run, from a kernel at rest whose object agrees with the node's
abbrev pub AreLogged : Node → Counterparts → (key : ℕ) → World → List Step → Type 0
AreLogged node one key world steps = IsLogged one (log_of node key [] world steps) (space_after node world steps)

-- a run of this log, from no object on, ends with one that agrees with this space, but for those pages and events, and has no other
-- difference
pub record HasRun (log : Written) (space : Space) : Type 0 where
  pub steps : List runs.Step
  pub last : Counterparts
  pub run : IsRun log.lines steps (under_way last.kernel log.begun)
  pub differs : AreExpected (have_mremap log.lines) last.kernel
  pub leaves : modelled last.space log.begun ≡ space
