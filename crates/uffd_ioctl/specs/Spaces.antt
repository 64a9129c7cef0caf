-- The machine's space that a space of the code means.
use Rattle.std.specs.Prelude.{ℕ, ◌*◌, ◌/◌, ◌==◌, ◌&&◌, not, nat_lt, Bool, true, false, if◌then◌else◌, Result, Ok, Err, refl}
use Rattle.std.specs.Ordering.{nat_cmp}
use Rattle.std.specs.FinMap.{FinMap, contains_key, get}
use Rattle.std.specs.FinSet as set
use Rattle.std.specs.FinSet.{FinSet}
use Rattle.std.specs.Coded.{Coded, code_by, coded×, coded_ℕ}
use Rattle.mig_base.specs.declared.Prot.{Prot}
use Rattle.foundation.specs.declared.TheConstants.{PAGE_SIZE}
use Rattle.mig_base.specs.declared.command.Errno.{Errno}
use Rattle.mig_base.specs.declared.command.Command.{Command}
use Rattle.mig_base.specs.declared.command.Command.TheVariants.{Store, DontNeed}
use Rattle.mig_base.specs.declared.command.Reply.{Reply}
use Rattle.mig_base.specs.declared.command.Reply.TheVariants.{Refused}
use Rattle.mig_base.specs.declared.command.Access.{Access}
use Rattle.mig_base.specs.declared.command.Access.TheVariants.{Answered, Missing, Protected}
use Rattle.mig_base.specs.Bytes.{low_bytes}
use Rattle.mig_base.specs.Commands.{is_access, page_of}
use Rattle.mig_base.specs.Flat.{Memory, after, reply_of}
use Rattle.mig_model.specs.Host.{Host, coded_host, memory}
use Rattle.mig_base.specs.Userfault.{Object, fresh_object, enabled_with, registered_where, waits_fault}
use Rattle.mig_model.specs.Space.{Space, access_of, is_made, queued_by}
use Rattle.mig_model.specs.Ioctls.{event_features, mode_of}
use Rattle.page_table.specs.Bytes.{write_needs_room}
use Rattle.page_table.specs.Views.{Pages}
use Rattle.userfault.specs.Codes.{coded_object}
use Rattle.uffd_ioctl.specs.declared.fault.IoctlFault.{IoctlFault}
use Rattle.uffd_ioctl.specs.declared.fault.IoctlFault.TheVariants as fault

-- the code of a space
abbrev pub coded_space : Coded Space
coded_space =
    code_by (Host × (FinSet nat_cmp × Object)) (coded× coded_host (coded× (set.code coded_ℕ) coded_object))
    (λ s. (s.host, (s.protected, s.object)))
    (λ p. record { host = p.0; protected = p.1.0; object = p.1.1 })
    (λ _. refl)

-- the machine's space that the fields of a space mean
abbrev pub machine_space : FinMap nat_cmp Prot → Pages → Object → Space
machine_space areas pages object = record { host = record { areas = areas; bytes = pages.bytes }; protected = pages.protected; object = object }

-- the answer of a row of the machine's table, as the result of a call that may also run out of memory
abbrev pub ioctl_result : {A : Type 0} → Result A Errno → Result A IoctlFault
ioctl_result (Ok answer) = Ok answer
ioctl_result (Err errno) = Err (fault.Errno errno)

-- the object of a space that `assemble` makes: with mode bits it is enabled for the three events, and all mapped pages are registered in
-- that mode
abbrev pub assembled_object : FinMap nat_cmp Prot → ℕ → Object
assembled_object areas bits =
    if bits == 0 then fresh_object else registered_where (enabled_with fresh_object event_features) (λ page. contains_key areas page) (mode_of bits)

-- whether a store that is made may need memory: to make a missing page present, or to store another number than 0 to a page of zeros
abbrev pub store_needs_room : Host → Command → Bool
store_needs_room host (Store addr width value) = write_needs_room (get host.bytes (addr / PAGE_SIZE)) (low_bytes value width)
store_needs_room host command = false

-- whether an access with this outcome may need memory: to queue a page fault that is not unread yet, or for a store that is made
abbrev pub needs_room_by : Access → Space → Command → Bool
needs_room_by (Answered reply) space command = is_made reply && store_needs_room space.host command
needs_room_by Missing space command = not (waits_fault space.object.faults (PAGE_SIZE * page_of command) false)
needs_room_by Protected space command = not (waits_fault space.object.faults (PAGE_SIZE * page_of command) true)

-- whether an access may need memory
abbrev pub needs_room : Space → Command → Bool
needs_room space command = needs_room_by (access_of space command) space command

-- whether a reply is an error number
abbrev pub is_refused : Reply → Bool
is_refused (Refused errno) = true
is_refused _ = false

-- whether a map call needs memory: one that is refused needs none, and MADV_DONTNEED, which changes no mapping, needs it for a message
-- alone
abbrev pub call_needs_room : Space → Command → Bool
call_needs_room space (DontNeed addr len) = nat_lt 0 (queued_by space (DontNeed addr len))
call_needs_room space command = not (is_refused (reply_of (memory space.host) command))

-- whether a command may need memory
abbrev pub command_needs_room : Space → Command → Bool
command_needs_room space command = if is_access command then needs_room space command else call_needs_room space command

-- the flat memory after an access with this outcome: an access that is answered is made, and a page fault changes nothing
abbrev pub memory_after : Access → Memory → Command → Memory
memory_after (Answered reply) memory command = after memory command
memory_after Missing memory command = memory
memory_after Protected memory command = memory
