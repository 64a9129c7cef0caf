-- What a run of a log is: the lines of the log in their order, with steps put in between. A call takes effect once, between the line where
-- it begins and the one where it ends; so a call that ended before another began took effect first. The rules of a kernel allow each step
-- with exactly the answer of the log.
use Rattle.std.specs.Prelude.{◌≡◌, ℕ, ◌-◌, ◌==◌, ◌&&◌, ◌||◌, Contains, drop, length, nat_lt, not, Bool, true, false, if◌then◌else◌, Option, Some, None, is_some, List, [], ◌∷◌, ◌++◌, filter, filter_map}
use Rattle.uffd_log.specs.declared.call.Call.{Call}
use Rattle.uffd_log.specs.declared.call.Call.TheVariants as call
use Rattle.uffd_log.specs.declared.call.Message.{Message}
use Rattle.uffd_log.specs.declared.line.Answer.{Answer}
use Rattle.uffd_log.specs.declared.line.Answer.TheVariants.{Done, Failed, Interrupted}
use Rattle.uffd_log.specs.declared.errno.Errno.{Errno}
use Rattle.uffd_log.specs.declared.errno.Errno.TheVariants.{Esrch, Eintr, Eagain, Enomem, Efault, Ebusy, Einval, Other}
use Rattle.foundation.specs.Tests.{is_empty}
use Rattle.kernel_rules.specs.declared.difference.Difference.{Difference}
use Rattle.kernel_rules.specs.declared.object.Object.{Object}
use Rattle.kernel_rules.specs.declared.object.Registration.{Registration}
use Rattle.kernel_rules.specs.declared.run.Ending.{Ending}
use Rattle.kernel_rules.specs.declared.run.Entry.{Entry}
use Rattle.kernel_rules.specs.declared.run.Entry.TheVariants as entry
use Rattle.kernel_rules.specs.declared.run.Made.{Made}
use Rattle.kernel_rules.specs.declared.run.Run.{Run}
use Rattle.kernel_rules.specs.State.{Kernel, fresh_kernel, with_object, of_object, allowed, asked_for}
use Rattle.kernel_rules.specs.Faults.{sees, queues, leaves, faults_over}
use Rattle.kernel_rules.specs.Ioctls.{end_range, opened, shaken, registered, unregistered, waked, continued, copied, filled_with, moved_with, poisoning, put_with, protected_first, protected_with, refused_while_changing, scanned, closed}
use Rattle.kernel_rules.specs.Kinds.{is_filling}
use Rattle.kernel_rules.specs.MapCalls.{forked, mmapped, munmapped, mremapped, madvised, tells, clears, drops, may_return, returned}
use Rattle.kernel_rules.specs.Reads.{first_taken, may_return_messages, read, polled}

-- The lines of a log that a judge reads

-- how it ended: its answer, the messages that it has read, and the runs of pages that a scan found
pub record Outcome : Type 0 where
  pub answer : Answer
  pub messages : List Message
  pub runs : List Run

-- a line of a log: a call begins, or the call with this number ends so
pub data Event : Type 0 where
  begins : Made → Event
  ends : ℕ → Outcome → Event

-- the outcome of a call, by its ending in a log
abbrev pub outcome_of : Ending → Outcome
outcome_of ending = record { answer = ending.answer; messages = ending.messages.items; runs = ending.runs.items }

-- the line of an entry
abbrev pub event_of : Entry → Event
event_of (entry.Begins made) = begins made
event_of (entry.Ends key ending) = ends key (outcome_of ending)

-- the call that begins with a line, if one does
abbrev pub made_at : Event → Option Made
made_at (begins made) = Some made
made_at (ends key out) = None

-- What a call may answer, and what follows from it

-- the errors of fcntl(2) and ioctl(2) for O_NONBLOCK: EBADF, and EFAULT of FIONBIO
abbrev pub is_unblock_error : Errno → Bool
is_unblock_error Efault = true
is_unblock_error Other = true
is_unblock_error _ = false

-- O_NONBLOCK is set or cleared
abbrev pub unblocked : Kernel → ℕ → Object → Bool → Answer → Option Kernel
unblocked kernel name object set Done = Some (with_object kernel name (record object { waits = not set }))
unblocked kernel name object set (Failed errno bytes) = allowed (is_unblock_error errno) kernel
unblocked kernel name object set _ = None

-- whether an error is none that the rules name, as EBADF
abbrev pub is_other : Errno → Bool
is_other Other = true
is_other _ = false

-- the errors of dup(2), dup2(2) and dup3(2)
abbrev pub is_dup_error : Errno → Bool
is_dup_error Eintr = true
is_dup_error Enomem = true
is_dup_error Ebusy = true
is_dup_error Einval = true
is_dup_error Other = true
is_dup_error _ = false

-- dup(2) of a descriptor of an object
abbrev pub duplicated : Kernel → Answer → Option Kernel
duplicated kernel (Failed errno bytes) = allowed (is_dup_error errno) kernel
duplicated kernel _ = Some kernel

-- close(2): it ends the object if the descriptor was its last
abbrev pub close_taken : Kernel → ℕ → Object → Bool → Answer → Option Kernel
close_taken kernel name object last Done = Some (if last then closed kernel name object else kernel)
close_taken kernel name object last (Failed errno bytes) = allowed (is_other errno) kernel
close_taken kernel name object last _ = None

-- the object on which a call is made, if it is on one
abbrev pub object_of : Call → Option ℕ
object_of (call.Open device flags) = None
object_of (call.Api on api features) = Some on.object
object_of (call.Register on start len mode) = Some on.object
object_of (call.Unregister on start len) = Some on.object
object_of (call.Wake on start len) = Some on.object
object_of (call.Copy on to from len mode) = Some on.object
object_of (call.Move on to from len mode) = Some on.object
object_of (call.ZeroPage on start len mode) = Some on.object
object_of (call.Continue on start len mode) = Some on.object
object_of (call.Poison on start len mode) = Some on.object
object_of (call.WriteProtect on start len mode) = Some on.object
object_of (call.Read on room) = Some on.object
object_of (call.Poll on) = Some on.object
object_of (call.NonBlock on set) = Some on.object
object_of (call.Dup on target) = Some on.object
object_of (call.Close on) = Some on.object
object_of (call.Scan on start len) = Some on.object
object_of (call.Mmap addr len prot flags) = None
object_of (call.Munmap addr len) = None
object_of (call.Mremap addr old_len new_len flags target) = None
object_of (call.Madvise addr len advice) = None
object_of call.Fork = None

-- whether a call is made by the program that opened the object, if the log has where it begins. Its memory is there as long as it makes calls
abbrev pub is_at_home : Made → Object → Bool
is_at_home made object = nat_lt 0 made.program && made.program == object.program

-- whether an answer is ESRCH, which says that the memory of the object is gone
abbrev pub is_gone : Answer → Bool
is_gone (Failed Esrch bytes) = true
is_gone _ = false

-- the thread that makes a call, where page faults of the object name threads by the same numbers: by those of its own process
abbrev pub reader_of : Made → Object → Option ℕ
reader_of made object = if is_at_home made object && asked_for object 8 then Some made.thread else None

-- a call on an open object takes effect with its outcome
unfoldable pub on_object : Kernel → Made → ℕ → Object → Outcome → Call → Option Kernel
on_object kernel made name object out (call.Api on api features) = shaken kernel name object api features out.answer
on_object kernel made name object out (call.Register on start len mode) = registered kernel name object start len mode out.answer
on_object kernel made name object out (call.Unregister on start len) = unregistered kernel name object start len out.answer
on_object kernel made name object out (call.Wake on start len) = waked kernel name object start len out.answer
on_object kernel made name object out (call.Copy on to from len mode) = copied kernel made.key name object to from len mode out.answer
on_object kernel made name object out (call.ZeroPage on start len mode) = put_with kernel made.key name object start len mode 1 out.answer
on_object kernel made name object out (call.Continue on start len mode) = continued kernel made.key name object start len mode out.answer
on_object kernel made name object out (call.Poison on start len mode) = filled_with kernel made.key name object start len (poisoning mode) out.answer
on_object kernel made name object out (call.Move on to from len mode) = moved_with kernel made.key name object to from len mode out.answer
on_object kernel made name object out (call.WriteProtect on start len mode) = protected_with kernel made.key name object start len mode out.answer
on_object kernel made name object out (call.Read on room) = read kernel made.key (reader_of made object) name object room out.messages out.answer
on_object kernel made name object out (call.Poll on) = polled kernel name object out.answer
on_object kernel made name object out (call.NonBlock on set) = unblocked kernel name object set out.answer
on_object kernel made name object out (call.Dup on target) = duplicated kernel out.answer
on_object kernel made name object out (call.Close on) = close_taken kernel name object made.last out.answer
on_object kernel made name object out (call.Scan on start len) = scanned kernel object start len out.runs out.answer
on_object kernel made name object out _ = None

-- the other calls, of an address space
unfoldable pub on_space : Kernel → Made → Outcome → Call → Option Kernel
on_space kernel made out (call.Open device flags) = opened kernel made.space made.program flags out.answer
on_space kernel made out (call.Mmap addr len prot flags) = mmapped kernel made.key made.space addr len flags out.answer
on_space kernel made out (call.Munmap addr len) = munmapped kernel made.key made.space addr len out.answer
on_space kernel made out (call.Mremap addr old_len new_len flags target) = mremapped kernel made.key made.space addr old_len new_len flags out.answer
on_space kernel made out (call.Madvise addr len advice) = madvised kernel made.key made.space addr len advice out.answer
on_space kernel made out call.Fork = forked kernel made.key made.space out.answer
on_space kernel made out _ = None

-- the same, by the object that a call is on
abbrev pub taken_by : Kernel → Made → Outcome → Option ℕ → Option Kernel
taken_by kernel made out None = on_space kernel made out made.call
taken_by kernel made out (Some name) = of_object (kernel.objects name) (λ object. if is_at_home made object && is_gone out.answer then None else on_object kernel made name object out made.call)

-- a call of a log takes effect with its outcome; None where no kernel has it
abbrev pub takes : Kernel → Made → Outcome → Option Kernel
takes kernel made out = taken_by kernel made out (object_of made.call)

-- whether an answer is EAGAIN
abbrev pub is_again : Answer → Bool
is_again (Failed Eagain bytes) = true
is_again _ = false

-- a call that fills pages is EAGAIN since the address space is changing, and has filled none, whatever its result field has: before Linux 6.15
-- the kernel did not write that, so it is the program's own
abbrev pub refuses : Kernel → Made → Outcome → Option Kernel
refuses kernel made out = if is_again out.answer && fills made.call then refused_at (object_of made.call) else None where
  fills : Call → Bool
  fills (call.Copy on to from len mode) = true
  fills (call.ZeroPage on start len mode) = true
  fills other = is_filling other

  refused_at : Option ℕ → Option Kernel
  refused_at None = None
  refused_at (Some name) = refused_while_changing kernel name

-- a UFFDIO_WRITEPROTECT that is under way protects a page of its range, before the others; `over` says whether it has taken effect
abbrev pub protects_first : Kernel → Made → Bool → ℕ → Option Kernel
protects_first kernel made true page = None
protects_first kernel made false page = protects_of made.call where
  protects_of : Call → Option Kernel
  protects_of (call.WriteProtect on start len mode) = of_object (kernel.objects on.object) (λ object. protected_first kernel made.key on.object object start len mode page)
  protects_of _ = None

-- a read begins to take its messages one after another: a kernel holds no lock between two of them
abbrev pub starts : Kernel → Made → Outcome → Option Kernel
starts kernel made out = starts_of made.call where
  starts_of : Call → Option Kernel
  starts_of (call.Read on room) = of_object (kernel.objects on.object) (λ object. allowed (may_return_messages object room out.messages out.answer) kernel)
  starts_of _ = None

-- such a read takes the first of the last `left` of its messages
abbrev pub takes_next : Kernel → Made → ℕ → Outcome → Option Kernel
takes_next kernel made left out = next_of made.call where
  next_of : Call → Option Kernel
  next_of (call.Read on room) =
      of_object (kernel.objects on.object) (λ object.
      first_taken kernel made.key (reader_of made object) on.object object (drop (length out.messages - left) out.messages))
  next_of _ = None

-- how many messages a call has left once it has taken effect at one time
abbrev pub none_left : Outcome → ℕ
none_left out = 0

-- and once it has begun to take them
abbrev pub all_left : Outcome → ℕ
all_left out = length out.messages

-- Runs

-- a step of a run: the next line of the log; the effect of a call that has begun; and what no line shows
pub data Step : Type 0 where
  line : Event → Step
  effect : ℕ → Outcome → Step
  refusal : ℕ → Outcome → Step
  thread_sees : ℕ → ℕ → ℕ → ℕ → Step
  thread_queues : ℕ → Step
  thread_leaves : ℕ → Step
  call_tells : ℕ → Step
  call_clears : ℕ → Step
  page_drops : ℕ → ℕ → Step
  call_protects : ℕ → ℕ → Step
  read_starts : ℕ → Outcome → Step
  read_takes : ℕ → Step

-- a call that has begun, with its outcome once it has taken effect, and how many of its messages it has then still to take
pub record Begun : Type 0 where
  pub made : Made
  pub out : Option Outcome
  pub left : ℕ

-- the kernel, and the calls that have begun and not ended
pub record World : Type 0 where
  pub kernel : Kernel
  pub begun : List Begun

-- nothing has happened
abbrev pub fresh_world : World
fresh_world = record { kernel = fresh_kernel; begun = [] }

-- a call by its number
abbrev pub begun_of : List Begun → ℕ → Option Begun
begun_of [] key = None
begun_of (one ∷ others) key = if one.made.key == key then Some one else begun_of others key

-- the calls under way but this one
abbrev pub without_begun : List Begun → ℕ → List Begun
without_begun calls key = filter (λ (one : Begun). not (one.made.key == key)) calls

-- the world with another kernel, if a rule has one
abbrev pub world_with : World → Option Kernel → Option World
world_with world None = None
world_with world (Some kernel) = Some (record world { kernel = kernel })

-- a call takes effect by a rule, if it has begun and has not taken effect
abbrev pub effect_by : (Kernel → Made → Outcome → Option Kernel) → (Outcome → ℕ) → World → Option Begun → ℕ → Outcome → Option World
effect_by rule left world None key out = None
effect_by rule left world (Some one) key out =
    if is_some one.out then None
    else world_with (record world { begun = without_begun world.begun key ++ record one { out = Some out; left = left out } ∷ [] }) (rule world.kernel one.made out)

-- a call takes effect
abbrev pub effect_of : World → Option Begun → ℕ → Outcome → Option World
effect_of world one key out = effect_by takes none_left world one key out

-- a call that has begun protects a page
abbrev pub protect_of : World → Option Begun → ℕ → Option World
protect_of world None page = None
protect_of world (Some one) page = world_with world (protects_first world.kernel one.made (is_some one.out) page)

-- a read that has begun to take its messages takes the next
abbrev pub next_of : World → Option Begun → ℕ → Option World
next_of world None key = None
next_of world (Some one) key = taken one.out where
  taken : Option Outcome → Option World
  taken None = None
  taken (Some out) =
      world_with (record world { begun = without_begun world.begun key ++ record one { left = one.left - 1 } ∷ [] }) (takes_next world.kernel one.made one.left out)

-- whether a call has read nothing if it was interrupted
abbrev pub is_still : Outcome → Bool
is_still out = not (is_interrupted out.answer) || is_empty out.messages && is_empty out.runs where
  is_interrupted : Answer → Bool
  is_interrupted Interrupted = true
  is_interrupted _ = false

-- the effect that a call must have had at its end: one that was interrupted had none
abbrev pub effect_at_end : Answer → Outcome → Option Outcome
effect_at_end Interrupted out = None
effect_at_end _ out = Some out

-- the step leads from a world to another. At its end a call has taken effect with the outcome of that line, and its events are read, and it
-- has taken all its messages
abbrev pub IsStep : World → Step → World → Type 0
IsStep world (line (begins made)) after = (begun_of world.begun made.key ≡ None) × (after ≡ record world { begun = world.begun ++ record { made = made; out = None; left = 0 } ∷ [] })
IsStep world (line (ends key out)) after =
    (one : Begun) × (is_still out ≡ true) × (begun_of world.begun key ≡ Some one) × (may_return world.kernel key ≡ true) × (one.out ≡ effect_at_end out.answer out) × (one.left ≡ 0)
    × (after ≡ record { kernel = returned world.kernel key; begun = without_begun world.begun key })
IsStep world (effect key out) after = effect_of world (begun_of world.begun key) key out ≡ Some after
IsStep world (refusal key out) after = effect_by refuses none_left world (begun_of world.begun key) key out ≡ Some after
IsStep world (thread_sees thread object page flags) after = world_with world (sees world.kernel thread object page flags) ≡ Some after
IsStep world (thread_queues thread) after = world_with world (queues world.kernel thread) ≡ Some after
IsStep world (thread_leaves thread) after = world_with world (leaves world.kernel thread) ≡ Some after
IsStep world (call_tells key) after = world_with world (tells world.kernel key) ≡ Some after
IsStep world (call_clears key) after = world_with world (clears world.kernel key) ≡ Some after
IsStep world (page_drops object page) after = world_with world (drops world.kernel object page) ≡ Some after
IsStep world (call_protects key page) after = protect_of world (begun_of world.begun key) page ≡ Some after
IsStep world (read_starts key out) after = effect_by starts all_left world (begun_of world.begun key) key out ≡ Some after
IsStep world (read_takes key) after = next_of world (begun_of world.begun key) key ≡ Some after

-- the steps lead from one world to another
abbrev pub Leads : World → List Step → World → Type 0
Leads world [] last = world ≡ last
Leads world (step ∷ steps) last = (next : World) × IsStep world step next × Leads next steps last

-- the line of a step, if it is one
abbrev pub line_of : Step → Option Event
line_of (line event) = Some event
line_of _ = None

-- the lines of a run
abbrev pub lines_of : List Step → List Event
lines_of steps = filter_map line_of steps

-- a run of a log, and the world at its end
pub record IsRun (log : List Event) (steps : List Step) (last : World) : Type 0 where
  pub whole : lines_of steps ≡ log
  pub leads : Leads fresh_world steps last

-- a log that a kernel may have written, with the differences from the model that a run of it has
abbrev pub IsClean : List Event → List Difference → Type 0
IsClean log differs = (steps : List Step) × (last : World) × IsRun log steps last × (last.kernel.differs ≡ differs)

-- Findings of a run: what the last kernel has

-- the kernel once a range of an object that is open is no longer registered
abbrev pub end_of : Kernel → Option Object → Registration → Kernel
end_of kernel None range = kernel
end_of kernel (Some object) range = end_range kernel range.object object range

-- the kernel once none of these ranges is registered
abbrev pub end_all : Kernel → List Registration → Kernel
end_all kernel [] = kernel
end_all kernel (range ∷ ranges) = end_all (end_of kernel (kernel.objects range.object) range) ranges

-- the kernel at the end of a log: what is registered then is judged as it is, and who sleeps then was not answered
abbrev pub finished : Kernel → Kernel
finished kernel = faults_over (end_all kernel kernel.ranges) (λ fault. true) false

-- a page is owed: it was missing when its registration ended, or is at the end of the log
abbrev pub IsOwed : Kernel → ℕ → ℕ → Type 0
IsOwed kernel space page = Contains (finished kernel).owed (space, page)
