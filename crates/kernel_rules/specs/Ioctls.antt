-- The calls of a userfault object: which answers a kernel may give, and what follows from each. ioctl_userfaultfd(2).
-- A rule has the kernel, the call and its answer; None says that no kernel answers so.
use Rattle.std.specs.Prelude.{ℕ, zero, suc, ◌+◌, ◌-◌, ◌/◌, ◌%◌, ◌^◌, ◌==◌, ◌&&◌, ◌||◌, not, nat_le, nat_lt, Bool, true, false, if◌then◌else◌, Option, Some, None, is_some, List, [], ◌∷◌, ◌++◌, filter}
use Rattle.std.specs.List.{list_any}
use Rattle.foundation.specs.declared.TheConstants.{PAGE_SIZE}
use Rattle.foundation.specs.Bits.{is_one}
use Rattle.foundation.specs.Ranges.{in_range}
use Rattle.foundation.specs.Tests.{is_empty}
use Rattle.foundation.specs.Modes.{Mode}
use Rattle.uffd_log.specs.declared.line.Answer.{Answer}
use Rattle.uffd_log.specs.declared.line.Answer.TheVariants.{Opened, Done, Value, Features, Failed}
use Rattle.uffd_log.specs.declared.errno.Errno.{Errno}
use Rattle.uffd_log.specs.declared.errno.Errno.TheVariants.{Eperm, Enoent, Esrch, Eagain, Enomem, Efault, Ebusy, Eexist, Einval, Other}
use Rattle.kernel_rules.specs.Pages.{cleared_page, found_there, is_missing, is_present, may_be_there, may_stop, mode_of, registered_page, without_object, protected_page, perhaps_protected, settled}
use Rattle.kernel_rules.specs.declared.calling.Protecting.{Protecting}
use Rattle.kernel_rules.specs.declared.calling.Span.{Span}
use Rattle.kernel_rules.specs.declared.calling.Told.{Told}
use Rattle.kernel_rules.specs.declared.calling.Untold.{Untold}
use Rattle.kernel_rules.specs.declared.difference.Difference.TheVariants as differs
use Rattle.kernel_rules.specs.declared.known.Presence.{Presence}
use Rattle.kernel_rules.specs.declared.known.Presence.TheVariants.{Unknown, Missing, Present}
use Rattle.kernel_rules.specs.declared.known.Page.{Page}
use Rattle.kernel_rules.specs.declared.change.Change.TheVariants as change
use Rattle.kernel_rules.specs.declared.filling.Filling.{Filling}
use Rattle.kernel_rules.specs.declared.page_test.PageTest.TheVariants as test
use Rattle.kernel_rules.specs.Changes.{changed}
use Rattle.kernel_rules.specs.Tests.{passes}
use Rattle.kernel_rules.specs.declared.object.Object.{Object}
use Rattle.kernel_rules.specs.declared.object.Registration.{Registration}
use Rattle.kernel_rules.specs.declared.run.Run.{Run}
use Rattle.kernel_rules.specs.State.{Kernel, is_range, is_within, may_be_outside, set_pages, page_is, each_page, some_page, pages_changed, with_object, allowed, asked_for, is_enabled, noted_if}
use Rattle.kernel_rules.specs.Faults.{sleeps_in, sleeps_at, woken}

-- the errors of userfaultfd(2): also those of a table of files that is full, and of a security module
abbrev pub is_open_error : Errno → Bool
is_open_error Einval = true
is_open_error Enomem = true
is_open_error Eperm = true
is_open_error Other = true
is_open_error _ = false

-- userfaultfd(2): a new object, with or without O_NONBLOCK, bit 11; O_CLOEXEC is bit 19, UFFD_USER_MODE_ONLY bit 0
abbrev pub opened : Kernel → ℕ → ℕ → ℕ → Answer → Option Kernel
opened kernel space program flags (Opened on) =
    allowed (not (is_some (kernel.objects on.object)) && is_within flags 0x80801)
    (with_object kernel on.object (record { space = space; program = program; waits = not (is_one flags 11); features = None; puts = false }))
opened kernel space program flags (Failed errno bytes) = allowed (is_open_error errno) kernel
opened kernel space program flags _ = None

-- UFFDIO_API

-- whether the handshake may be made: once, and with features that are offered
abbrev pub may_shake : Object → ℕ → ℕ → ℕ → Bool
may_shake object api features offered = not (is_enabled object) && api == 0xaa && is_within features offered

-- whether the kernel offers some feature, and says that the object has UFFDIO_REGISTER, bit 0, UFFDIO_UNREGISTER, bit 1, and UFFDIO_API, bit 63
abbrev pub is_offer : ℕ → ℕ → Bool
is_offer offered ioctls = nat_lt 0 offered && is_one ioctls 0 && is_one ioctls 1 && is_one ioctls 63

-- the kernel once it is made. The features of the model are 0x14d
abbrev pub with_handshake : Kernel → ℕ → Object → ℕ → Kernel
with_handshake kernel name object features =
    noted_if (not (is_within features 0x14d)) differs.OtherFeatures (with_object kernel name (record object { features = Some features }))

-- UFFDIO_API: the kernel has offered these features, or it has refused
abbrev pub shaken : Kernel → ℕ → Object → ℕ → ℕ → Answer → Option Kernel
shaken kernel name object api features (Features offered ioctls) =
    allowed (may_shake object api features offered && is_offer offered ioctls) (with_handshake kernel name object features)
shaken kernel name object api features (Failed Einval bytes) = allowed (is_enabled object || not (api == 0xaa) || nat_lt 0 features) kernel
shaken kernel name object api features (Failed Eperm bytes) = allowed (is_one features 1) kernel
shaken kernel name object api features (Failed Efault bytes) = Some kernel
shaken kernel name object api features _ = None

-- UFFDIO_REGISTER and UFFDIO_UNREGISTER

-- the kernel with a range registered, in pages
abbrev pub with_registered : Kernel → ℕ → ℕ → ℕ → ℕ → Mode → Bool → Kernel
with_registered kernel name space first count mode minor =
    record kernel { pages = set_pages kernel.pages space first count (λ page. registered_page name mode minor (kernel.pages space page)) }

-- the kernel once an object has registered a range, for good
abbrev pub with_range : Kernel → ℕ → ℕ → ℕ → Kernel
with_range kernel name first count = record kernel { ranges = kernel.ranges ++ record { object = name; first = first; count = count } ∷ [] }

-- whether a mode can be asked for: bits 0 to 2
abbrev pub is_mode : ℕ → Bool
is_mode bits = nat_lt 0 bits && nat_lt bits 8

-- the errors of UFFDIO_REGISTER, for what a log does not show: what is mapped, and other objects. Before the handshake it is EINVAL
abbrev pub is_register_error : Object → Errno → Bool
is_register_error object Einval = true
is_register_error object Ebusy = is_enabled object
is_register_error object Eperm = is_enabled object
is_register_error object Enomem = is_enabled object
is_register_error object Efault = is_enabled object
is_register_error object _ = false

-- the errors of UFFDIO_UNREGISTER
abbrev pub is_unregister_error : Object → Errno → Bool
is_unregister_error object Einval = true
is_unregister_error object Enomem = is_enabled object
is_unregister_error object Efault = is_enabled object
is_unregister_error object _ = false

-- whether the pages of a range that is registered in a mode have these calls: UFFDIO_WAKE, bit 2, and UFFDIO_COPY, bit 3; UFFDIO_WRITEPROTECT,
-- bit 6, where the mode is of bit 1, and UFFDIO_CONTINUE, bit 7, where it is of bit 2, and only there
abbrev pub has_calls : ℕ → ℕ → Bool
has_calls bits ioctls = is_one ioctls 2 && is_one ioctls 3 && ioctls / 64 % 4 == bits / 2

-- UFFDIO_REGISTER of a range that no other object has
abbrev pub registered : Kernel → ℕ → Object → ℕ → ℕ → ℕ → Answer → Option Kernel
registered kernel name object start len bits (Value ioctls) =
    allowed
    (has_calls bits ioctls && is_enabled object && is_mode bits && is_range start len
    && not (some_page kernel object.space (start / PAGE_SIZE) (len / PAGE_SIZE) (λ page. not (page.object == name))))
    (noted_if (not (asked_for object 2 && asked_for object 3 && asked_for object 6)) differs.RegisterWithoutEvents
    (with_range (with_registered kernel name object.space (start / PAGE_SIZE) (len / PAGE_SIZE) (mode_of bits) (is_one bits 2)) name (start / PAGE_SIZE) (len / PAGE_SIZE)))
registered kernel name object start len bits (Failed errno bytes) = allowed (is_register_error object errno) kernel
registered kernel name object start len bits _ = None

-- whether a page is owed where its registration ends: its object puts pages, and this one, which it watches for missing faults, is missing.
-- One that is watched for minor faults too may be there though it is not mapped
abbrev pub is_owed : ℕ → Object → Page → Bool
is_owed name object page = page.object == name && object.puts && page.missing && not page.minor && is_missing page.presence

-- the pages of a range that are owed, each with its space
unfoldable pub owed_in : Kernel → ℕ → Object → ℕ → ℕ → List (ℕ × ℕ)
owed_in kernel name object first zero = []
owed_in kernel name object first (suc count) =
    owed_in kernel name object first count ++ (if page_is (is_owed name object) (kernel.pages object.space (first + count)) then (object.space, first + count) ∷ [] else [])

-- the kernel with the pages of a range noted that are owed
abbrev pub with_owed : Kernel → ℕ → Object → ℕ → ℕ → Kernel
with_owed kernel name object first count = record kernel { owed = kernel.owed ++ owed_in kernel name object first count }

-- the kernel once no page of a range is registered with the object
abbrev pub without_pages : Kernel → ℕ → Object → ℕ → ℕ → Kernel
without_pages kernel name object first count =
    record kernel { pages = set_pages kernel.pages object.space first count (λ page. without_object name (kernel.pages object.space page)) }

-- the kernel once a range is no longer registered with the object, in pages
abbrev pub unregistered_in : Kernel → ℕ → Object → ℕ → ℕ → Kernel
unregistered_in kernel name object first count = without_pages (with_owed kernel name object first count) name object first count

-- UFFDIO_UNREGISTER, which wakes those that sleep in the range
abbrev pub unregistered : Kernel → ℕ → Object → ℕ → ℕ → Answer → Option Kernel
unregistered kernel name object start len Done =
    allowed (is_enabled object && is_range start len)
    (woken (unregistered_in kernel name object (start / PAGE_SIZE) (len / PAGE_SIZE)) (sleeps_in name (start / PAGE_SIZE) (len / PAGE_SIZE)) false)
unregistered kernel name object start len (Failed errno bytes) = allowed (is_unregister_error object errno) kernel
unregistered kernel name object start len _ = None

-- UFFDIO_WAKE
abbrev pub waked : Kernel → ℕ → Object → ℕ → ℕ → Answer → Option Kernel
waked kernel name object start len Done =
    allowed (is_enabled object && is_range start len) (woken kernel (sleeps_in name (start / PAGE_SIZE) (len / PAGE_SIZE)) true)
waked kernel name object start len (Failed Einval bytes) = allowed (not (is_enabled object && is_range start len) || may_be_outside start len) kernel
waked kernel name object start len (Failed Efault bytes) = allowed (is_enabled object) kernel
waked kernel name object start len _ = None

-- The address space is changing

-- whether a map call has anything to tell an object
abbrev pub tells_object : Kernel → ℕ → ℕ → Bool
tells_object kernel key name = list_any (λ (one : Told). one.key == key && one.object == name) kernel.told

-- whether a map call has an event for an object which is not read
abbrev pub has_event : Kernel → ℕ → ℕ → Bool
has_event kernel key name = list_any (λ (one : Untold). one.key == key && one.object == name) kernel.events

-- the range of a call, if it has one
abbrev pub span_of : List Span → ℕ → Option Span
span_of [] key = None
span_of (span ∷ spans) key = if span.key == key then Some span else span_of spans key

-- whether a map call has pages of which it has to tell an object by REMOVE
abbrev pub has_removes : Kernel → ℕ → ℕ → Bool
has_removes kernel key name = is_some (span_of kernel.untold key) && tells_object kernel key name

-- whether a map call has something to tell the object which is not read
abbrev pub has_untold : Kernel → ℕ → ℕ → Bool
has_untold kernel name key = has_event kernel key name || has_removes kernel key name

-- whether calls that put or protect pages have to be EAGAIN: an event is unread
abbrev pub is_changing : Kernel → ℕ → Bool
is_changing kernel name = list_any (has_untold kernel name) kernel.calls

-- whether they may be: a map call that told the object has not returned
abbrev pub may_be_changing : Kernel → ℕ → Bool
may_be_changing kernel name = list_any (λ (one : Told). one.object == name) kernel.told

-- EAGAIN of such a call, which changes nothing
abbrev pub refused_while_changing : Kernel → ℕ → Option Kernel
refused_while_changing kernel name = allowed (may_be_changing kernel name) (noted_if (not (is_changing kernel name)) differs.ChangingLonger kernel)

-- UFFDIO_COPY, UFFDIO_ZEROPAGE, UFFDIO_CONTINUE and UFFDIO_POISON, which fill pages: `bits` is the word of modes, `most` the greatest one, `test`
-- what a page has to be, `change` what becomes of it, `cached` says whether a page of the page cache stops the call, and `marked` whether the
-- marker of a page does that is protected though it is missing

-- the first three, by a word of modes: WP is bit 1, which UFFDIO_ZEROPAGE has not. A marker stops that one, but in shared memory
abbrev pub putting : ℕ → ℕ → Bool → Filling
putting bits most cached =
    record { bits = bits; most = most; test = test.MayBePut (is_one bits 1); change = change.Put (is_one bits 1); cached = cached; marked = most == 1 }

-- UFFDIO_POISON, of pages where nothing is: UFFDIO_COPY and UFFDIO_CONTINUE take the place of a poison, and in shared memory UFFDIO_ZEROPAGE
abbrev pub poisoning : ℕ → Filling
poisoning bits = record { bits = bits; most = 1; test = test.Empty; change = change.Poison; cached = false; marked = true }

-- the kernel once `count` pages from `first` on are filled: DONTWAKE is bit 0
abbrev pub filled : Kernel → ℕ → Object → ℕ → ℕ → Filling → Kernel
filled kernel name object first count how =
    let pages = set_pages kernel.pages object.space first count (λ page. changed how.change (kernel.pages object.space page)) in
    let put = with_object (record kernel { pages = pages }) name (record object { puts = true }) in
    if is_one how.bits 0 then put else woken put (sleeps_in name first count) true

-- the same of pages that are put
abbrev pub with_put : Kernel → ℕ → Object → ℕ → ℕ → ℕ → Kernel
with_put kernel name object first count bits = filled kernel name object first count (putting bits 3 true)

-- whether the arguments are right: `most` is the greatest word of modes
abbrev pub is_right : Object → ℕ → ℕ → ℕ → ℕ → Bool
is_right object start len bits most = is_enabled object && is_range start len && nat_le bits most

-- whether `count` pages may be put from `first` on
abbrev pub may_be_put : Kernel → ℕ → ℕ → ℕ → ℕ → Bool
may_be_put kernel space first count bits = each_page kernel space first count (passes (test.MayBePut (is_one bits 1)))

-- the kernel with a call noted that stopped at a page: one that the log has put, or another
abbrev pub stop_noted : Kernel → Bool → ℕ → Kernel
stop_noted kernel put key = if put then record kernel { twice = kernel.twice ++ key ∷ [] } else record kernel { there_before = kernel.there_before ++ key ∷ [] }

-- the kernel once a call has stopped at a page. What stops it where none is was there before
abbrev pub stopped_at : Kernel → ℕ → ℕ → ℕ → Filling → Option Kernel
stopped_at kernel key space page how = stopped_by (kernel.pages space page) where
  stopped_by : Option Page → Option Kernel
  stopped_by None = None
  stopped_by (Some found) =
      allowed (may_be_there found || may_stop how.cached how.marked found)
      (pages_changed (stop_noted kernel (found.put && may_be_there found) key) space page 1 (found_there how.cached how.marked))

-- a call halts at a page: it is there; or nothing is known to be, and what no line shows has stopped the call: its source cannot be read,
-- the address space is changing, or memory has run out
abbrev pub halted_at : Kernel → ℕ → ℕ → ℕ → Filling → Option Kernel
halted_at kernel key space page how = if page_is (λ p. is_present p.presence) (kernel.pages space page) then stopped_at kernel key space page how
    else allowed (page_is (λ p. true) (kernel.pages space page)) kernel

-- what a rule says once the first pages are filled, and the call halts at the next one
abbrev pub filled_in_part : Kernel → ℕ → ℕ → Object → ℕ → ℕ → Filling → Option Kernel
filled_in_part kernel key name object first done how =
    if each_page kernel object.space first done (passes how.test)
    then halted_at (filled kernel name object first done how) key object.space (first + done) how
    else None

-- whether an error says that a call has put part of its pages
abbrev pub is_part : ℕ → Option ℕ → Bool
is_part len None = false
is_part len (Some bytes) = nat_lt 0 bytes && nat_lt bytes len && bytes % PAGE_SIZE == 0

-- the bytes that were put before a call failed
abbrev pub bytes_or_none : Option ℕ → ℕ
bytes_or_none None = 0
bytes_or_none (Some bytes) = bytes

-- whether the result field is one that a kernel has written with the error: it is negative
abbrev pub is_negative : Option ℕ → Bool
is_negative bytes = not (is_some bytes)

-- a call that found its first page there
abbrev pub put_stopped : Kernel → ℕ → Object → ℕ → ℕ → Filling → Option Kernel
put_stopped kernel key object start len how =
    if is_right object start len how.bits how.most then stopped_at kernel key object.space (start / PAGE_SIZE) how else None

-- a call over pages that are not registered, or over several areas
abbrev pub put_outside : Kernel → ℕ → Object → ℕ → ℕ → ℕ → ℕ → Option Kernel
put_outside kernel key object start len bits most =
    if not (is_right object start len bits most) then None
    else if each_page kernel object.space (start / PAGE_SIZE) (len / PAGE_SIZE) (λ page. true)
    then allowed (nat_lt PAGE_SIZE len) (noted_if true differs.Areas kernel)
    else Some (record kernel { outside = kernel.outside ++ key ∷ [] })

-- whether the arguments of a call are wrong: also its pages, which it cannot protect where they are not registered for that
abbrev pub is_put_wrong : Kernel → Object → ℕ → ℕ → ℕ → ℕ → Bool
is_put_wrong kernel object start len bits most =
    not (is_right object start len bits most)
    || may_be_outside start len
    || is_one bits 1 && some_page kernel object.space (start / PAGE_SIZE) (len / PAGE_SIZE) (λ page. not page.protect)

-- a call that has put part of its pages, or none since the address space is changing
abbrev pub put_halted : Kernel → ℕ → ℕ → Object → ℕ → ℕ → Filling → Option ℕ → Option Kernel
put_halted kernel key name object start len how bytes =
    if is_part len bytes && is_right object start len how.bits how.most
    then filled_in_part kernel key name object (start / PAGE_SIZE) (bytes_or_none bytes / PAGE_SIZE) how
    else refused_while_changing kernel name

-- why such a call may fail
abbrev pub put_failed : Kernel → ℕ → ℕ → Object → ℕ → ℕ → Filling → Option ℕ → Errno → Option Kernel
put_failed kernel key name object start len how bytes Eagain = put_halted kernel key name object start len how bytes
put_failed kernel key name object start len how bytes Eexist = if is_negative bytes then put_stopped kernel key object start len how else None
put_failed kernel key name object start len how bytes Enoent = if is_negative bytes then put_outside kernel key object start len how.bits how.most else None
put_failed kernel key name object start len how bytes Einval = allowed (is_put_wrong kernel object start len how.bits how.most) kernel
put_failed kernel key name object start len how bytes Efault = allowed (is_enabled object) kernel
put_failed kernel key name object start len how bytes Enomem = allowed (is_enabled object) kernel
put_failed kernel key name object start len how bytes Esrch = allowed (is_enabled object) kernel
put_failed kernel key name object start len how bytes _ = None

-- a call that fills pages, from the address `start` of the object's space on
abbrev pub filled_with : Kernel → ℕ → ℕ → Object → ℕ → ℕ → Filling → Answer → Option Kernel
filled_with kernel key name object start len how (Value bytes) =
    allowed
    (bytes == len && is_right object start len how.bits how.most && not (is_changing kernel name)
    && each_page kernel object.space (start / PAGE_SIZE) (len / PAGE_SIZE) (passes how.test))
    (filled kernel name object (start / PAGE_SIZE) (len / PAGE_SIZE) how)
filled_with kernel key name object start len how (Failed errno bytes) = put_failed kernel key name object start len how bytes errno
filled_with kernel key name object start len how _ = None

-- UFFDIO_COPY with `most` 3 and UFFDIO_ZEROPAGE with `most` 1
abbrev pub put_with : Kernel → ℕ → ℕ → Object → ℕ → ℕ → ℕ → ℕ → Answer → Option Kernel
put_with kernel key name object start len bits most answer = filled_with kernel key name object start len (putting bits most true) answer

-- whether an answer is EINVAL
abbrev pub is_invalid : Answer → Bool
is_invalid (Failed Einval bytes) = true
is_invalid _ = false

-- UFFDIO_COPY from an address of the object's space: a source that wraps, or that no process has, is EINVAL
abbrev pub copied : Kernel → ℕ → ℕ → Object → ℕ → ℕ → ℕ → ℕ → Answer → Option Kernel
copied kernel key name object to from len bits answer =
    if is_invalid answer && may_be_outside from len then Some kernel
    else if nat_lt (2 ^ 64) (from + len) then None
    else put_with kernel key name object to len bits 3 answer

-- UFFDIO_CONTINUE maps pages of the page cache: without one it is EFAULT. In memory that is not shared it is EINVAL
abbrev pub continued : Kernel → ℕ → ℕ → Object → ℕ → ℕ → ℕ → Answer → Option Kernel
continued kernel key name object start len bits answer =
    if is_invalid answer && some_page kernel object.space (start / PAGE_SIZE) (len / PAGE_SIZE) (passes test.NotMinor) then Some kernel
    else filled_with kernel key name object start len (putting bits 3 false) answer

-- UFFDIO_MOVE: UFFDIO_MOVE_MODE_DONTWAKE is bit 0, UFFDIO_MOVE_MODE_ALLOW_SRC_HOLES bit 1

-- whether the arguments are right. Ranges that overlap are not followed
abbrev pub is_move_right : Object → ℕ → ℕ → ℕ → ℕ → Bool
is_move_right object to from len bits = is_right object to len bits 3 && is_range from len && (nat_le (to + len) from || nat_le (from + len) to)

-- whether `count` pages may be moved: where they go, which the object watches, nothing is; where they come from a page is, unless holes are
-- allowed, if the log knows of it
abbrev pub may_be_moved : Kernel → ℕ → Object → ℕ → ℕ → ℕ → ℕ → Bool
may_be_moved kernel name object to from count bits =
    each_page kernel object.space to count (passes (test.Of name)) && each_page kernel object.space to count (passes test.Empty)
    && not (some_page kernel object.space from count (passes (test.Unmovable (is_one bits 1))))

-- what becomes of the pages where others come; one from a hole leaves its own missing
abbrev pub moving : ℕ → Filling
moving bits = record { bits = bits; most = 3; test = test.Empty; change = if is_one bits 1 then change.PerhapsPut else change.Put false; cached = false; marked = true }

-- the kernel once `count` pages are moved: where they came from they are missing
abbrev pub with_moved : Kernel → ℕ → Object → ℕ → ℕ → ℕ → ℕ → Kernel
with_moved kernel name object to from count bits =
    pages_changed (filled kernel name object to count (moving bits)) object.space from count cleared_page

-- what a rule says once the first pages are moved, and the call halts at the next one
abbrev pub moved_in_part : Kernel → ℕ → ℕ → Object → ℕ → ℕ → ℕ → ℕ → Option Kernel
moved_in_part kernel key name object to from done bits =
    if may_be_moved kernel name object to from done bits
    then halted_at (with_moved kernel name object to from done bits) key object.space (to + done) (moving bits)
    else None

-- a call that has moved part of its pages, or none since the address space is changing
abbrev pub move_halted : Kernel → ℕ → ℕ → Object → ℕ → ℕ → ℕ → ℕ → Option ℕ → Option Kernel
move_halted kernel key name object to from len bits bytes =
    if is_part len bytes && is_move_right object to from len bits
    then moved_in_part kernel key name object (to / PAGE_SIZE) (from / PAGE_SIZE) (bytes_or_none bytes / PAGE_SIZE) bits
    else refused_while_changing kernel name

-- a call that found nothing at its first source, or a range that is not mapped
abbrev pub move_outside : Kernel → Object → ℕ → ℕ → ℕ → ℕ → Option Kernel
move_outside kernel object to from len bits =
    allowed
    (is_move_right object to from len bits
    && (not (is_one bits 1) && not (page_is (λ p. is_present p.presence) (kernel.pages object.space (from / PAGE_SIZE)))
    || not (each_page kernel object.space (to / PAGE_SIZE) (len / PAGE_SIZE) (passes test.Any))
    || not (each_page kernel object.space (from / PAGE_SIZE) (len / PAGE_SIZE) (passes test.Any))))
    kernel

-- a call that found something at its first target
abbrev pub move_stopped : Kernel → ℕ → Object → ℕ → ℕ → ℕ → ℕ → Option Kernel
move_stopped kernel key object to from len bits =
    if is_move_right object to from len bits then stopped_at kernel key object.space (to / PAGE_SIZE) (moving bits) else None

-- why UFFDIO_MOVE may fail: EBUSY of pages that others share, and EINVAL of areas between which no page moves, also say what no line shows
abbrev pub move_failed : Kernel → ℕ → ℕ → Object → ℕ → ℕ → ℕ → ℕ → Option ℕ → Errno → Option Kernel
move_failed kernel key name object to from len bits bytes Eagain = move_halted kernel key name object to from len bits bytes
move_failed kernel key name object to from len bits bytes Eexist = if is_negative bytes then move_stopped kernel key object to from len bits else None
move_failed kernel key name object to from len bits bytes Enoent = if is_negative bytes then move_outside kernel object to from len bits else None
move_failed kernel key name object to from len bits bytes Einval = Some kernel
move_failed kernel key name object to from len bits bytes Ebusy = allowed (is_enabled object) kernel
move_failed kernel key name object to from len bits bytes Efault = allowed (is_enabled object) kernel
move_failed kernel key name object to from len bits bytes Enomem = allowed (is_enabled object) kernel
move_failed kernel key name object to from len bits bytes Esrch = allowed (is_enabled object) kernel
move_failed kernel key name object to from len bits bytes _ = None

-- all its pages are moved
abbrev pub all_moved : Kernel → ℕ → Object → ℕ → ℕ → ℕ → ℕ → ℕ → Option Kernel
all_moved kernel name object to from len bits bytes =
    allowed
    (bytes == len && is_move_right object to from len bits && not (is_changing kernel name)
    && may_be_moved kernel name object (to / PAGE_SIZE) (from / PAGE_SIZE) (len / PAGE_SIZE) bits)
    (with_moved kernel name object (to / PAGE_SIZE) (from / PAGE_SIZE) (len / PAGE_SIZE) bits)

-- UFFDIO_MOVE
abbrev pub moved_with : Kernel → ℕ → ℕ → Object → ℕ → ℕ → ℕ → ℕ → Answer → Option Kernel
moved_with kernel key name object to from len bits (Value bytes) = all_moved kernel name object to from len bits bytes
moved_with kernel key name object to from len bits (Failed errno bytes) = move_failed kernel key name object to from len bits bytes errno
moved_with kernel key name object to from len bits _ = None

-- UFFDIO_WRITEPROTECT: UFFDIO_WRITEPROTECT_MODE_WP is bit 0, UFFDIO_WRITEPROTECT_MODE_DONTWAKE bit 1

-- whether pages that are missing are protected too: with UFFD_FEATURE_WP_UNPOPULATED, bit 13, or UFFD_FEATURE_WP_ASYNC, bit 15, which brings it
abbrev pub protects_missing : Object → Bool
protects_missing object = asked_for object 13 || asked_for object 15

-- the kernel once the pages of a range that are registered for it are protected, or no longer
abbrev pub with_protected : Kernel → Object → ℕ → ℕ → Bool → Kernel
with_protected kernel object first count protect = pages_changed kernel object.space first count (protected_page protect (protects_missing object))

-- whether the pages of a range are registered for write-protect faults
abbrev pub is_each_protected : Kernel → Object → ℕ → ℕ → Bool
is_each_protected kernel object start len = each_page kernel object.space (start / PAGE_SIZE) (len / PAGE_SIZE) (λ page. page.protect)

-- whether a call has protected a page before its others
abbrev pub has_begun : Kernel → ℕ → Bool
has_begun kernel key = list_any (λ (one : Protecting). one.key == key) kernel.protected

-- whether it has protected this one
abbrev pub has_protected : Kernel → ℕ → ℕ → Bool
has_protected kernel key page = list_any (λ (one : Protecting). one.key == key && one.page == page) kernel.protected

-- whether a range may be protected, or no longer. Where the call has protected a page already, the kernel has looked at its range before that
abbrev pub may_be_protected : Kernel → ℕ → ℕ → Object → ℕ → ℕ → ℕ → Bool
may_be_protected kernel key name object start len bits =
    is_right object start len bits 2
    && (has_begun kernel key || not (is_changing kernel name) && some_page kernel object.space (start / PAGE_SIZE) (len / PAGE_SIZE) (λ page. page.protect))

-- the kernel with the page of a number
abbrev pub page_set : Kernel → ℕ → ℕ → Option Page → Kernel
page_set kernel space page found = record kernel { pages = set_pages kernel.pages space page 1 (λ other. found) }

-- the kernel with these pages
abbrev pub pages_set : Kernel → ℕ → List (ℕ × Option Page) → Kernel
pages_set kernel space [] = kernel
pages_set kernel space (page ∷ pages) = pages_set (page_set kernel space page.0 page.1) space pages

-- the pages that a call has protected before its others, as they are
abbrev pub kept_pages : Kernel → ℕ → ℕ → List Protecting → List (ℕ × Option Page)
kept_pages kernel key space [] = []
kept_pages kernel key space (one ∷ others) =
    if one.key == key then (one.page, kernel.pages space one.page) ∷ kept_pages kernel key space others else kept_pages kernel key space others

-- the kernel once a call has protected no page before others
abbrev pub without_protected : Kernel → ℕ → Kernel
without_protected kernel key = record kernel { protected = filter (λ (one : Protecting). not (one.key == key)) kernel.protected }

-- the kernel once a range is protected, but for the pages that the call has protected before; or no longer, which wakes those that sleep there
abbrev pub protected_in : Kernel → ℕ → ℕ → Object → ℕ → ℕ → ℕ → Kernel
protected_in kernel key name object first count bits =
    let all = with_protected kernel object first count (is_one bits 0) in
    let kept = without_protected (pages_set all object.space (kept_pages kernel key object.space kernel.protected)) key in
    let after = noted_if (not (each_page kernel object.space first count (λ page. page.protect))) differs.WriteProtectOverAHole kept in
    if bits == 0 then woken after (sleeps_in name first count) true else after

-- whether a page may be protected before the others of its range, if it is registered for that and has something to protect
abbrev pub may_protect_one : Object → Page → Bool
may_protect_one object page = page.protect && (protects_missing object || not (is_missing page.presence))

-- a call that protects a range protects this page of it, and the others later: a kernel takes them one after another
abbrev pub protected_first : Kernel → ℕ → ℕ → Object → ℕ → ℕ → ℕ → ℕ → Option Kernel
protected_first kernel key name object start len bits page =
    allowed
    (bits == 1 && is_right object start len bits 2 && in_range (start / PAGE_SIZE) (len / PAGE_SIZE) page && not (has_protected kernel key page)
    && (has_begun kernel key || not (is_changing kernel name)) && page_is (may_protect_one object) (kernel.pages object.space page))
    (record (pages_changed kernel object.space page 1 (protected_page true true)) { protected = kernel.protected ++ record { key = key; page = page } ∷ [] })

-- a call over pages that are not all registered for it: some may be protected
abbrev pub protect_outside : Kernel → Object → ℕ → ℕ → ℕ → Option Kernel
protect_outside kernel object start len bits =
    allowed (is_right object start len bits 2 && not (is_each_protected kernel object start len))
    (pages_changed kernel object.space (start / PAGE_SIZE) (len / PAGE_SIZE) (perhaps_protected (is_one bits 0)))

-- why UFFDIO_WRITEPROTECT may fail
abbrev pub protect_failed : Kernel → ℕ → Object → ℕ → ℕ → ℕ → Errno → Option Kernel
protect_failed kernel name object start len bits Eagain = refused_while_changing kernel name
protect_failed kernel name object start len bits Enoent = protect_outside kernel object start len bits
protect_failed kernel name object start len bits Einval = allowed (not (is_right object start len bits 2) || may_be_outside start len) kernel
protect_failed kernel name object start len bits Efault = allowed (is_enabled object) kernel
protect_failed kernel name object start len bits Enomem = allowed (is_enabled object) kernel
protect_failed kernel name object start len bits Esrch = allowed (is_enabled object) kernel
protect_failed kernel name object start len bits _ = None

-- UFFDIO_WRITEPROTECT
abbrev pub protected_with : Kernel → ℕ → ℕ → Object → ℕ → ℕ → ℕ → Answer → Option Kernel
protected_with kernel key name object start len bits Done =
    allowed (may_be_protected kernel key name object start len bits) (protected_in kernel key name object (start / PAGE_SIZE) (len / PAGE_SIZE) bits)
protected_with kernel key name object start len bits (Failed errno bytes) = protect_failed kernel name object start len bits errno
protected_with kernel key name object start len bits _ = None

-- What the recorder read: it settles what is not known, and is compared with nothing, since it is not of one moment

-- what a recorder's bits say of a page: 1 present, 2 swapped out or a marker, 4 write-protected. One with none of them is missing, and
-- one that is protected alone may be a marker
abbrev pub presence_of : ℕ → Presence
presence_of bits = if is_one bits 0 || is_one bits 1 then Present else if bits == 0 then Missing else Unknown

-- the kernel once this is known of the pages of a range
abbrev pub settled_in : Kernel → ℕ → ℕ → ℕ → Presence → Kernel
settled_in kernel space first count found = pages_changed kernel space first count (settled found)

-- the kernel once a run of pages is known, and those before it from a page on, which a scan has found missing
abbrev pub settled_to : Kernel → ℕ → ℕ → Run → Kernel
settled_to kernel space from run =
    settled_in (settled_in kernel space from (run.start / PAGE_SIZE - from) Missing) space (run.start / PAGE_SIZE) (run.len / PAGE_SIZE) (presence_of run.bits)

-- the kernel once the pages from one on to an end are known, by the runs in their order
abbrev pub settled_by : Kernel → ℕ → ℕ → ℕ → List Run → Kernel
settled_by kernel space from end [] = settled_in kernel space from (end - from) Missing
settled_by kernel space from end (run ∷ runs) = settled_by (settled_to kernel space from run) space (run.start / PAGE_SIZE + run.len / PAGE_SIZE) end runs

-- a scan settles which pages of its range are present
abbrev pub scanned : Kernel → Object → ℕ → ℕ → List Run → Answer → Option Kernel
scanned kernel object start len runs (Value count) = Some (settled_by kernel object.space (start / PAGE_SIZE) (start / PAGE_SIZE + len / PAGE_SIZE) runs)
scanned kernel object start len runs (Failed errno bytes) = allowed (is_empty runs) kernel
scanned kernel object start len runs _ = None

-- close(2) of the last descriptor

-- whether a range is the object's. It ends at the greatest address at the latest
abbrev pub is_own : ℕ → Registration → Bool
is_own name range = range.object == name && nat_le (range.first + range.count) (2 ^ 52)

-- whether a page of a range is registered with the object, if the range is one of its own
abbrev pub is_watched_in : Kernel → ℕ → Object → Registration → Bool
is_watched_in kernel name object range = is_own name range && some_page kernel object.space range.first range.count (λ page. page.object == name)

-- whether a page in the ranges of an object is registered with it
abbrev pub is_watching : Kernel → ℕ → Object → Bool
is_watching kernel name object = list_any (is_watched_in kernel name object) kernel.ranges

-- the kernel once a range is no longer registered with the object, if it is one of its own
abbrev pub end_range : Kernel → ℕ → Object → Registration → Kernel
end_range kernel name object range = if is_own name range then unregistered_in kernel name object range.first range.count else kernel

-- the kernel once no range of these is registered with the object
abbrev pub end_ranges : Kernel → ℕ → Object → List Registration → Kernel
end_ranges kernel name object [] = kernel
end_ranges kernel name object (range ∷ ranges) = end_ranges (end_range kernel name object range) name object ranges

-- the kernel without an object: no map call has anything to tell it
abbrev pub without_object_of : Kernel → ℕ → Kernel
without_object_of kernel name =
    record kernel {
      objects = λ other. if name == other then None else kernel.objects other;
      told = filter (λ (one : Told). not (one.object == name)) kernel.told;
      events = filter (λ (one : Untold). not (one.object == name)) kernel.events;
    }

-- the kernel once the last descriptor of an object is closed: its registrations end, and its sleepers wake
abbrev pub closed : Kernel → ℕ → Object → Kernel
closed kernel name object =
    woken (without_object_of (end_ranges (noted_if (is_watching kernel name object) differs.Close kernel) name object kernel.ranges) name) (sleeps_at name) false
