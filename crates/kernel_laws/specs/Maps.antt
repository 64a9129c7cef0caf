-- Map calls of a guest: they unmap, clear or move pages.
use Rattle.std.specs.Prelude.{◌≡◌, ℕ, ◌+◌, ◌-◌, ◌*◌, ◌/◌, ◌==◌, ◌&&◌, not, nat_lt, is_some, Option, Some, None, Bool, true, false, List, ◌++◌}
use Rattle.std.specs.FinMap.{contains_key}
use Rattle.std.specs.List.{list_any}
use Rattle.foundation.specs.declared.TheConstants.{PAGE_SIZE}
use Rattle.mig_base.specs.declared.Prot.{Prot}
use Rattle.mig_base.specs.declared.command.Command.{Command}
use Rattle.mig_base.specs.declared.command.Command.TheVariants.{Mmap, Mremap}
use Rattle.mig_base.specs.declared.command.Errno.{Errno}
use Rattle.mig_base.specs.declared.command.Place.{Place}
use Rattle.mig_base.specs.declared.command.Reply.{Reply}
use Rattle.mig_base.specs.declared.command.Reply.TheVariants.{At, Refused}
use Rattle.mig_base.specs.declared.message.Message.{Message}
use Rattle.mig_base.specs.declared.message.Message.TheVariants.{Remap, Unmap}
use Rattle.foundation.specs.Bits.{is_one}
use Rattle.mig_base.specs.Flat.{Memory, dontneed_reply, mmap_reply, reply_of as flat_reply}
use Rattle.foundation.specs.Ranges.{in_range, lesser, pages_of, rounded}
use Rattle.mig_base.specs.Userfault.{Object, is_watched}
use Rattle.mig_model.specs.Host.{memory}
use Rattle.mig_model.specs.Ioctls.{has_events}
use Rattle.mig_model.specs.Space.{Space, all_queued, call_messages, called, message_if, modes_after}
use Rattle.uffd_log.specs.declared.line.Answer.{Answer}
use Rattle.uffd_log.specs.declared.line.Answer.TheVariants.{Done, Failed, Value}
use Rattle.kernel_rules.specs.Ioctls.{span_of}
use Rattle.kernel_rules.specs.MapCalls.{is_placed, is_told_all, madvised, mmapped, mremapped, munmapped}
use Rattle.kernel_rules.specs.Pages.{is_present}
use Rattle.kernel_rules.specs.State.{Kernel, page_is}
use Rattle.kernel_rules.specs.declared.calling.Span.{Span}
use Rattle.kernel_rules.specs.declared.calling.Untold.{Untold}
use Rattle.kernel_rules.specs.declared.known.Page.{Page}
use Rattle.kernel_laws.specs.Agreement.{Counterparts, Takes, is_inside, number_of}

-- whether no call of this number is under way, or has anything to tell
abbrev pub is_new_call : Kernel → ℕ → Bool
is_new_call kernel key =
    not (list_any (λ other. other == key) kernel.calls) && not (list_any (λ (one : Untold). one.key == key) kernel.events) && not (is_some (span_of kernel.untold key))

-- a thread of the space that an object watches begins a map call, by its number. The object is enabled, and asked for the three events
pub record MapCall : Type 0 where
  pub one : Counterparts
  pub key : ℕ
  pub is_new : is_new_call one.kernel key ≡ true
  pub enabled : one.space.object.enabled ≡ true
  pub asked : has_events one.space.object ≡ true

-- the rules may take a call, the model makes it, and both agree afterwards
abbrev pub Follow : MapCall → ℕ → Command → Option Kernel → Type 0
Follow it cpu command rule = Takes rule (called it.one.space cpu command) it.one.name

-- the answer of a refused call
abbrev pub failed : Errno → Answer
failed errno = Failed (number_of errno) None

-- how a map call ends; an access has other replies too
abbrev pub answer_of_reply : Reply → Answer
answer_of_reply (At start) = Value start
answer_of_reply (Refused errno) = failed errno
answer_of_reply reply = Done

-- the flat memory of the guest
abbrev pub flat : MapCall → Memory
flat it = memory it.one.space.host

-- munmap(2) of a range, with an answer
abbrev pub unmaps : MapCall → (addr len : ℕ) → Answer → Option Kernel
unmaps it addr len answer = munmapped it.one.kernel it.key it.one.object.space addr len answer

-- what an mmap(2) asks for: of the model a place, of a kernel an address and flags
pub record Mapping : Type 0 where
  pub len : ℕ
  pub prot : Prot
  pub place : Place
  pub addr : ℕ
  pub flags : ℕ

-- the command of the model
abbrev pub command_of : Mapping → Command
command_of made = Mmap made.len made.prot made.place

-- the reply of the flat memory
abbrev pub reply_of : MapCall → Mapping → Reply
reply_of it made = mmap_reply (flat it) made.len made.prot made.place

-- a fixed mapping is where it was to be
abbrev pub IsPlaced : Mapping → ℕ → Type 0
IsPlaced made start = is_placed made.addr made.flags start ≡ true

-- mmap(2), with an answer
abbrev pub maps : MapCall → Mapping → Answer → Option Kernel
maps it made answer = mmapped it.one.kernel it.key it.one.object.space made.addr made.len made.flags answer

-- a MADV_DONTNEED, with the answer of the model
abbrev pub discards : MapCall → (addr len : ℕ) → Option Kernel
discards it addr len = madvised it.one.kernel it.key it.one.object.space addr len 4 (answer_of_reply (dontneed_reply (flat it) addr len))

-- what an mremap(2) asks for: of the model a range, its new length and where it may go, of a kernel flags without MREMAP_DONTUNMAP, bit 2
pub record Move : Type 0 where
  pub addr : ℕ
  pub old_len : ℕ
  pub new_len : ℕ
  pub may_move : Bool
  pub fixed : Option ℕ
  pub flags : ℕ
  pub unmaps : is_one flags 2 ≡ false

-- the command of the model
abbrev pub mremap_of : Move → Command
mremap_of move = Mremap move.addr move.old_len move.new_len move.may_move move.fixed

-- the reply of the flat memory
abbrev pub remap_reply : MapCall → Move → Reply
remap_reply it move = flat_reply (flat it) (mremap_of move)

-- mremap(2), with an answer
abbrev pub moves : MapCall → Move → Answer → Option Kernel
moves it move answer = mremapped it.one.kernel it.key it.one.object.space move.addr move.old_len move.new_len move.flags answer

-- the events of a kernel's mremap: UNMAP of a replaced target, REMAP of what moved, UNMAP of a tail that was cut off, and UNMAP of the old place of
-- what moved. The model has the tail's before REMAP, and not the last one
abbrev pub moves_told : Object → (addr count target new_count : ℕ) → List Message
moves_told object addr count target new_count =
    let from = addr / PAGE_SIZE in
    let to = target / PAGE_SIZE in
    let kept = lesser count new_count in
    let goes = not (to == from) && is_watched object from kept in
    message_if (not (to == from) && is_watched object to new_count) (Unmap target (target + PAGE_SIZE * new_count))
    ++ message_if goes (Remap addr target (PAGE_SIZE * kept))
    ++ message_if (nat_lt new_count count && is_watched object (from + new_count) (count - new_count)) (Unmap (addr + PAGE_SIZE * new_count) (addr + PAGE_SIZE * count))
    ++ message_if goes (Unmap addr (addr + PAGE_SIZE * kept))

-- the events of a kernel's map call with this reply: the model's, but for those of mremap
abbrev pub told_by : Object → Command → Reply → List Message
told_by object (Mremap addr old_len new_len may_move fixed) (At target) = moves_told object addr (pages_of old_len) target (pages_of new_len)
told_by object command reply = call_messages object command reply

-- the space after a map call, with a kernel's events of it for the model's
abbrev pub called_told : Space → ℕ → Command → Space
called_told space cpu command =
    let reply = flat_reply (memory space.host) command in
    record (called space cpu command) { object = all_queued (modes_after space.object command reply) (told_by space.object command reply) cpu }

-- the rules may take an mremap, the model makes it, and both agree afterwards, but for its events
abbrev pub FollowTold : MapCall → ℕ → Move → Option Kernel → Type 0
FollowTold it cpu move rule = Takes rule (called_told it.one.space cpu (mremap_of move)) it.one.name

-- no page of a range is known to be present: the model has a MADV_DONTNEED clear its pages at once, a kernel once the REMOVE is read
abbrev pub AreUnseen : Counterparts → (first count : ℕ) → Type 0
AreUnseen one first count =
    (page : ℕ) → in_range first count page ≡ true → page_is (λ (found : Page). is_present found.presence) (one.kernel.pages one.object.space page) ≡ false

-- a MADV_DONTNEED clears no page that is known to be present. Where a page of its range is not mapped, the range ends in the model's
-- address space
pub record MayDiscard (it : MapCall) (addr len : ℕ) : Type 0 where
  pub unseen : AreUnseen it.one (addr / PAGE_SIZE) (pages_of len)
  pub inside : dontneed_reply (flat it) addr len ≡ Refused Errno.Enomem → is_inside addr (rounded len) ≡ true

-- the pages that a call is to clear are missing
abbrev pub AreGone : Counterparts → Span → Type 0
AreGone one span =
    (page : ℕ) → (span.space == one.object.space && in_range span.first (span.end - span.first) page) ≡ true → contains_key one.space.host.bytes page ≡ false

-- a call may clear its pages: it has told all, and they are missing
pub record MayClear (one : Counterparts) (key : ℕ) : Type 0 where
  pub span : Span
  pub due : span_of one.kernel.clears key ≡ Some span
  pub told : is_told_all one.kernel key ≡ true
  pub gone : AreGone one span
