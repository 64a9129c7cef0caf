-- The calls that change an address space: what becomes of registered pages, and which events the objects get. mmap(2), munmap(2), mremap(2),
-- madvise(2); userfaultfd(2), UFFD_EVENT_UNMAP, UFFD_EVENT_REMAP and UFFD_EVENT_REMOVE. Whether such a call succeeds is not judged.
use Rattle.std.specs.Prelude.{ℕ, zero, suc, ◌+◌, ◌-◌, ◌*◌, ◌/◌, ◌^◌, ◌==◌, ◌&&◌, ◌||◌, not, nat_lt, Bool, true, false, if◌then◌else◌, Option, Some, None, is_some, List, [], ◌∷◌, ◌++◌, filter, length, max, min}
use Rattle.std.specs.List.{list_any}
use Rattle.foundation.specs.declared.TheConstants.{PAGE_SIZE}
use Rattle.foundation.specs.Bits.{is_one}
use Rattle.foundation.specs.Ranges.{pages_of}
use Rattle.foundation.specs.Tests.{is_empty}
use Rattle.uffd_log.specs.declared.line.Answer.{Answer}
use Rattle.uffd_log.specs.declared.line.Answer.TheVariants.{Done, Value, Failed}
use Rattle.uffd_log.specs.declared.errno.Errno.{Errno}
use Rattle.uffd_log.specs.declared.errno.Errno.TheVariants.{Eperm, Enoent, Esrch, Eagain, Enomem, Ebusy, Eexist, Einval, Other}
use Rattle.uffd_log.specs.declared.call.Message.{Message}
use Rattle.uffd_log.specs.declared.call.Message.TheVariants.{Fork, Remap, Unmap}
use Rattle.kernel_rules.specs.Pages.{cleared_page, freed_page, is_freed, is_lacking, known_as, perhaps_cleared, populated_page}
use Rattle.kernel_rules.specs.declared.difference.Difference.TheVariants.{MessagesOfMremap}
use Rattle.kernel_rules.specs.declared.known.Presence.TheVariants.{Missing}
use Rattle.kernel_rules.specs.declared.known.Page.{Page}
use Rattle.kernel_rules.specs.declared.object.Object.{Object}
use Rattle.kernel_rules.specs.declared.object.Registration.{Registration}
use Rattle.kernel_rules.specs.declared.calling.Span.{Span}
use Rattle.kernel_rules.specs.declared.calling.Told.{Told}
use Rattle.kernel_rules.specs.declared.calling.Untold.{Untold}
use Rattle.kernel_rules.specs.Ioctls.{is_own, pages_set, span_of, with_range}
use Rattle.kernel_rules.specs.State.{Kernel, set_pages, page_is, some_page, pages_changed, allowed, asked_for, noted_if, of_object}

-- Whom a call tells

-- a list with a number that it does not have yet at its end
abbrev pub with_name : List ℕ → ℕ → List ℕ
with_name names name = if list_any (λ other. other == name) names then names else names ++ name ∷ []

-- whether a page from one on and below another is registered with the object of a range, in it
abbrev pub watches_in : Kernel → ℕ → ℕ → ℕ → Registration → Bool
watches_in kernel space first end range =
    is_own range.object range
    && some_page kernel space (max range.first first) (min (range.first + range.count) end - max range.first first) (λ page. page.object == range.object)

-- the objects of these ranges that watch such a page, each once, after those of a list
abbrev pub watchers_of : Kernel → ℕ → ℕ → ℕ → List Registration → List ℕ → List ℕ
watchers_of kernel space first end [] names = names
watchers_of kernel space first end (range ∷ ranges) names =
    watchers_of kernel space first end ranges (if watches_in kernel space first end range then with_name names range.object else names)

-- the objects with which pages of a range are registered
abbrev pub objects_in : Kernel → ℕ → ℕ → ℕ → List ℕ
objects_in kernel space first end = watchers_of kernel space first end kernel.ranges []

-- whether an object asked for these events, if it is open
abbrev pub would_tell : ℕ → Option Object → Bool
would_tell bit None = false
would_tell bit (Some object) = asked_for object bit

-- whether an object is open, and asked for these events: by the bit of the feature
abbrev pub is_told : Kernel → ℕ → ℕ → Bool
is_told kernel bit name = would_tell bit (kernel.objects name)

-- the objects that watch a page from one on and below another, and asked for these events
abbrev pub told_in : Kernel → ℕ → ℕ → ℕ → ℕ → List ℕ
told_in kernel bit space first end = filter (is_told kernel bit) (objects_in kernel space first end)

-- the kernel with a call that has something to tell an object
abbrev pub with_told : Kernel → ℕ → ℕ → Kernel
with_told kernel key name = record kernel { told = kernel.told ++ record { key = key; object = name } ∷ [] }

-- the same of several
abbrev pub with_all_told : Kernel → ℕ → List ℕ → Kernel
with_all_told kernel key [] = kernel
with_all_told kernel key (name ∷ names) = with_all_told (with_told kernel key name) key names

-- the kernel with an event of a call for an object. Its rank is above those of the call's other events
abbrev pub with_event : Kernel → ℕ → Message → ℕ → Kernel
with_event kernel key event name =
    record (with_told kernel key name) { events = kernel.events ++ record { key = key; rank = length kernel.told; object = name; message = event } ∷ [] }

-- the same for each of several
abbrev pub with_events : Kernel → ℕ → Message → List ℕ → Kernel
with_events kernel key event [] = kernel
with_events kernel key event (name ∷ names) = with_events (with_event kernel key event name) key event names

-- UFFD_FEATURE_EVENT_UNMAP is bit 6, UFFD_FEATURE_EVENT_REMAP bit 2, UFFD_FEATURE_EVENT_REMOVE bit 3, UFFD_FEATURE_EVENT_FORK bit 1
abbrev pub unmap_told : Kernel → ℕ → ℕ → ℕ → ℕ → Kernel
unmap_told kernel key space first count =
    with_events kernel key (Unmap (first * PAGE_SIZE) ((first + count) * PAGE_SIZE)) (told_in kernel 6 space first (first + count))

-- the kernel with a map call that has changed the map
abbrev pub with_calling : Kernel → ℕ → Kernel
with_calling kernel key = record kernel { calls = kernel.calls ++ key ∷ [] }

-- mmap(2) and munmap(2)

-- the kernel once nothing in a range is registered
abbrev pub forgotten : Kernel → ℕ → ℕ → ℕ → Kernel
forgotten kernel space first count = record kernel { pages = set_pages kernel.pages space first count (λ page. None) }

-- the kernel once a range of pages is unmapped or replaced: nothing there is registered, and nothing is owed
abbrev pub unmapped : Kernel → ℕ → ℕ → ℕ → ℕ → Kernel
unmapped kernel key space first count = forgotten (with_calling (unmap_told kernel key space first count) key) space first count

-- whether a range may be mapped or unmapped: it ends below the greatest address
abbrev pub is_mappable : ℕ → ℕ → Bool
is_mappable first count = nat_lt (first + count) (2 ^ 52)

-- whether a range has a byte
abbrev pub has_bytes : ℕ → Bool
has_bytes len = nat_lt 0 len

-- a range of bytes is unmapped or replaced, of which there is one at least
abbrev pub unmapped_bytes : Kernel → ℕ → ℕ → ℕ → ℕ → Option Kernel
unmapped_bytes kernel key space addr len =
    allowed (has_bytes len && is_mappable (addr / PAGE_SIZE) (pages_of len)) (unmapped kernel key space (addr / PAGE_SIZE) (pages_of len))

-- whether mmap(2) has mapped where it was to: MAP_FIXED, bit 4, asks for the address, and without it that is a hint
abbrev pub is_placed : ℕ → ℕ → ℕ → Bool
is_placed addr flags start = not (is_one flags 4) || start == addr

-- mmap(2) replaces what was mapped where it maps
abbrev pub mmapped : Kernel → ℕ → ℕ → ℕ → ℕ → ℕ → Answer → Option Kernel
mmapped kernel key space addr len flags (Value start) = if is_placed addr flags start then unmapped_bytes kernel key space start len else None
mmapped kernel key space addr len flags (Failed errno bytes) = Some kernel
mmapped kernel key space addr len flags _ = None

-- the errors of munmap(2)
abbrev pub is_munmap_error : Errno → Bool
is_munmap_error Einval = true
is_munmap_error Enomem = true
is_munmap_error Eperm = true
is_munmap_error _ = false

-- munmap(2)
abbrev pub munmapped : Kernel → ℕ → ℕ → ℕ → ℕ → Answer → Option Kernel
munmapped kernel key space addr len Done = unmapped_bytes kernel key space addr len
munmapped kernel key space addr len (Failed errno bytes) = allowed (is_munmap_error errno) kernel
munmapped kernel key space addr len _ = None

-- mremap(2)

-- a page at its new place: its registration goes with it where its object asked for UFFD_EVENT_REMAP
abbrev pub moved_page : Kernel → Option Page → Option Page
moved_page kernel None = None
moved_page kernel (Some page) = if is_told kernel 2 page.object then Some page else None

-- a registered page without its bytes
abbrev pub emptied : Page → Page
emptied page = record page { presence = known_as page.missing Missing; guarded = false; put = false; freed = false }

-- a page by which a range grows: registered as its last page is, and missing
abbrev pub grown_page : Option Page → Option Page
grown_page None = None
grown_page (Some page) = Some (emptied page)

-- what is at a place of the new range, by the `count` pages of the old one
abbrev pub arrived : Kernel → ℕ → ℕ → ℕ → ℕ → Bool → Option Page
arrived kernel space from count i stays =
    let page = if nat_lt i count then kernel.pages space (from + i) else if count == 0 then None else grown_page (kernel.pages space (from + (count - 1))) in
    if stays then page else moved_page kernel page

-- a page with its number, if it is registered
abbrev pub with_number : ℕ → Option Page → List (ℕ × Option Page)
with_number number None = []
with_number number (Some page) = (number, Some page) ∷ []

-- the pages at the first `n` places of the new range
unfoldable pub arrivals : Kernel → ℕ → ℕ → ℕ → ℕ → ℕ → List (ℕ × Option Page)
arrivals kernel space from count to zero = []
arrivals kernel space from count to (suc n) = arrivals kernel space from count to n ++ with_number (to + n) (arrived kernel space from count n (to == from))

-- the first `n` pages of the old range, whose bytes have moved away: they stay registered
unfoldable pub leavings : Kernel → ℕ → ℕ → ℕ → List (ℕ × Option Page)
leavings kernel space from zero = []
leavings kernel space from (suc n) = leavings kernel space from n ++ with_number (from + n) (grown_page (kernel.pages space (from + n)))

-- the kernel once `count` pages from `from` on are `new_count` pages from `to` on; `stay` says whether the old ones stay mapped
abbrev pub moved_pages : Kernel → ℕ → ℕ → ℕ → ℕ → ℕ → Bool → Kernel
moved_pages kernel space from count to new_count stay =
    pages_set
    (pages_set (forgotten (forgotten kernel space from count) space to new_count) space (leavings kernel space from (if stay then count else 0)))
    space (arrivals kernel space from count to new_count)

-- the REMAP of a range, if a page that moves is watched: a tail that is cut off does not move
abbrev pub remap_told : Kernel → ℕ → ℕ → ℕ → ℕ → ℕ → ℕ → Kernel
remap_told kernel key space from count to new_count =
    with_events kernel key (Remap (from * PAGE_SIZE) (to * PAGE_SIZE) (min count new_count * PAGE_SIZE)) (told_in kernel 2 space from (from + min count new_count))

-- the UNMAP of the pages after the first `new_count`
abbrev pub tail_told : Kernel → ℕ → ℕ → ℕ → ℕ → ℕ → Kernel
tail_told kernel key space from count new_count = if nat_lt new_count count then unmap_told kernel key space (from + new_count) (count - new_count) else kernel

-- the events of a kernel's mremap: UNMAP of the target, REMAP, UNMAP of the tail that is cut off, UNMAP of the old place of what moved, unless
-- that stays mapped
abbrev pub move_told : Kernel → ℕ → ℕ → ℕ → ℕ → ℕ → ℕ → Bool → Kernel
move_told kernel key space from count to new_count stay =
    if to == from then tail_told kernel key space from count new_count
    else
    let told = remap_told (unmap_told kernel key space to new_count) key space from count to new_count in
    if stay then told else unmap_told (tail_told told key space from count new_count) key space from (min count new_count)

-- the objects whose registrations move with a range
abbrev pub movers : Kernel → ℕ → ℕ → ℕ → ℕ → List ℕ
movers kernel space from count to = if to == from then objects_in kernel space from (from + count) else told_in kernel 2 space from (from + count)

-- the kernel once a range is one of each of these objects
abbrev pub with_ranges : Kernel → ℕ → ℕ → List ℕ → Kernel
with_ranges kernel first count [] = kernel
with_ranges kernel first count (name ∷ names) = with_ranges (with_range kernel name first count) first count names

-- whether a call has anything to tell anybody
abbrev pub tells_anybody : Kernel → ℕ → Bool
tells_anybody kernel key = list_any (λ (one : Told). one.key == key) kernel.told

-- the kernel once a range has moved
abbrev pub moved : Kernel → ℕ → ℕ → ℕ → ℕ → ℕ → ℕ → Bool → Kernel
moved kernel key space from count to new_count stay =
    let told = move_told kernel key space from count to new_count stay in
    let there = moved_pages told space from count to new_count stay in
    with_calling (with_ranges (noted_if (not (to == from) && tells_anybody told key) MessagesOfMremap there) to new_count (movers kernel space from count to)) key

-- whether a range may move: it and its new place are mappable
abbrev pub may_move : ℕ → ℕ → ℕ → ℕ → Bool
may_move from count to new_count = is_mappable from count && is_mappable to new_count

-- mremap(2) moves the pages, and unmaps what it replaces, and the old place unless MREMAP_DONTUNMAP, bit 2, is asked for
abbrev pub mremapped : Kernel → ℕ → ℕ → ℕ → ℕ → ℕ → ℕ → Answer → Option Kernel
mremapped kernel key space addr old_len new_len flags (Value target) =
    allowed (may_move (addr / PAGE_SIZE) (pages_of old_len) (target / PAGE_SIZE) (pages_of new_len))
    (moved kernel key space (addr / PAGE_SIZE) (pages_of old_len) (target / PAGE_SIZE) (pages_of new_len) (is_one flags 2))
mremapped kernel key space addr old_len new_len flags (Failed errno bytes) = Some kernel
mremapped kernel key space addr old_len new_len flags _ = None

-- madvise(2)

-- MADV_DONTNEED, MADV_FREE, MADV_REMOVE and MADV_DONTNEED_LOCKED clear pages, or let the kernel take them back
abbrev pub is_clearing : ℕ → Bool
is_clearing advice = advice == 4 || advice == 8 || advice == 9 || advice == 24

-- the kernel once the pages of a range are cleared, or may be taken back
abbrev pub all_cleared : Kernel → ℕ → ℕ → ℕ → Bool → Kernel
all_cleared kernel space first count frees = pages_changed kernel space first count (if frees then freed_page else cleared_page)

-- the kernel with a call that clears a range once it has told of it
abbrev pub with_clearing : Kernel → ℕ → ℕ → ℕ → ℕ → Bool → Kernel
with_clearing kernel key space first count frees =
    record (with_calling kernel key) {
      untold = kernel.untold ++ record { key = key; space = space; first = first; end = first + count; frees = frees } ∷ [];
      clears = kernel.clears ++ record { key = key; space = space; first = first; end = first + count; frees = frees } ∷ [];
    }

-- the kernel once a call has begun to clear a range: where an object gets a REMOVE, a kernel clears it only after that was read
abbrev pub clearing : Kernel → ℕ → ℕ → ℕ → ℕ → Bool → Kernel
clearing kernel key space first count frees =
    let told = told_in kernel 3 space first (first + count) in
    if is_empty told then all_cleared kernel space first count frees else with_clearing (with_all_told kernel key told) key space first count frees

-- whether a call may have cleared pages: ENOMEM says that a part of its range is not mapped
abbrev pub has_cleared : Answer → Bool
has_cleared Done = true
has_cleared (Failed Enomem bytes) = true
has_cleared _ = false

-- whether a call may have cleared the first pages of its range: EINVAL says that it has met pages that are locked, or of another kind
abbrev pub has_stopped : ℕ → Answer → Bool
has_stopped advice (Failed Einval bytes) = is_clearing advice
has_stopped advice _ = false

-- the kernel once a call may have cleared pages of a range, or freed them, MADV_FREE, and has stopped before its last one
abbrev pub cleared_in_part : Kernel → ℕ → ℕ → ℕ → ℕ → Kernel
cleared_in_part kernel space first count advice = pages_changed kernel space first (count - 1) (if advice == 8 then freed_page else perhaps_cleared)

-- the errors of madvise(2)
abbrev pub is_madvise_error : Errno → Bool
is_madvise_error Enoent = false
is_madvise_error Esrch = false
is_madvise_error Eexist = false
is_madvise_error _ = true

-- whether madvise(2) may answer so: it does not succeed with an advice that it does not know
abbrev pub is_advice : ℕ → Answer → Bool
is_advice advice Done = nat_lt advice 104
is_advice advice (Failed errno bytes) = is_madvise_error errno
is_advice advice _ = false

-- MADV_POPULATE_READ and MADV_POPULATE_WRITE touch each page of their range, and wait for one that is missing as any access does
abbrev pub is_populating : ℕ → Answer → Bool
is_populating advice Done = advice == 22 || advice == 23
is_populating advice _ = false

-- the kernel once each page of a range was there when it was touched, and for MADV_POPULATE_WRITE could be written
abbrev pub populated : Kernel → ℕ → ℕ → ℕ → Bool → Option Kernel
populated kernel space first count write =
    allowed (not (some_page kernel space first count is_lacking)) (pages_changed kernel space first count (populated_page write))

-- madvise(2), of the advices that clear pages, let the kernel take them back, MADV_FREE, or touch them
abbrev pub madvised : Kernel → ℕ → ℕ → ℕ → ℕ → ℕ → Answer → Option Kernel
madvised kernel key space addr len advice answer =
    if not (is_advice advice answer) then None
    else if is_populating advice answer then populated kernel space (addr / PAGE_SIZE) (pages_of len) (advice == 23)
    else if has_stopped advice answer then Some (cleared_in_part kernel space (addr / PAGE_SIZE) (pages_of len) advice)
    else if not (has_cleared answer) then Some kernel
    else if is_clearing advice then Some (clearing kernel key space (addr / PAGE_SIZE) (pages_of len) (advice == 8))
    else Some kernel

-- the kernel takes back a page of an object for which MADV_FREE was called
abbrev pub drops : Kernel → ℕ → ℕ → Option Kernel
drops kernel name page = of_object (kernel.objects name) (λ object.
    allowed (page_is (is_freed name) (kernel.pages object.space page)) (pages_changed kernel object.space page 1 cleared_page))

-- fork(2)

-- the message of a child, whose descriptor its reader alone knows
abbrev pub child_message : Message
child_message = Fork (record { object = 0; fd = 0 })

-- the errors of fork(2) and clone(2)
abbrev pub is_fork_error : Errno → Bool
is_fork_error Eperm = true
is_fork_error Eagain = true
is_fork_error Enomem = true
is_fork_error Ebusy = true
is_fork_error Eexist = true
is_fork_error Einval = true
is_fork_error Other = true
is_fork_error _ = false

-- fork(2): whoever asked for it gets a message
abbrev pub forked : Kernel → ℕ → ℕ → Answer → Option Kernel
forked kernel key space (Failed errno bytes) = allowed (is_fork_error errno) kernel
forked kernel key space _ = Some (with_calling (with_events kernel key child_message (told_in kernel 1 space 0 (2 ^ 52))) key)

-- What a map call under way does, which no line shows

-- whether a call has an event that is not read
abbrev pub has_events : Kernel → ℕ → Bool
has_events kernel key = list_any (λ (one : Untold). one.key == key) kernel.events

-- whether all its events are read
abbrev pub is_told_all : Kernel → ℕ → Bool
is_told_all kernel key = not (has_events kernel key) && not (is_some (span_of kernel.untold key) && tells_anybody kernel key)

-- whether the next event of a call is queued
abbrev pub is_queued : Kernel → ℕ → Bool
is_queued kernel key = list_any (λ other. other == key) kernel.queued

-- the next event of a call is queued: a kernel queues one at a time, and the next when that is read
abbrev pub tells : Kernel → ℕ → Option Kernel
tells kernel key = allowed (not (is_queued kernel key) && not (is_told_all kernel key)) (record kernel { queued = kernel.queued ++ key ∷ [] })

-- ranges but those of a call
abbrev pub spans_without : List Span → ℕ → List Span
spans_without spans key = filter (λ (one : Span). not (one.key == key)) spans

-- the kernel once a call has cleared its range, if it has one
abbrev pub cleared_by : Kernel → ℕ → Option Span → Option Kernel
cleared_by kernel key None = None
cleared_by kernel key (Some span) =
    allowed (is_told_all kernel key) (all_cleared (record kernel { clears = spans_without kernel.clears key }) span.space span.first (span.end - span.first) span.frees)

-- a call clears its pages, once its events are read
abbrev pub clears : Kernel → ℕ → Option Kernel
clears kernel key = cleared_by kernel key (span_of kernel.clears key)

-- whether a call may return: its events are read, and its pages cleared
abbrev pub may_return : Kernel → ℕ → Bool
may_return kernel key = is_told_all kernel key && not (is_some (span_of kernel.clears key))

-- numbers but this one
abbrev pub numbers_without : List ℕ → ℕ → List ℕ
numbers_without numbers key = filter (λ other. not (other == key)) numbers

-- the kernel once a call has returned
abbrev pub returned : Kernel → ℕ → Kernel
returned kernel key =
    record kernel {
      calls = numbers_without kernel.calls key;
      told = filter (λ (one : Told). not (one.key == key)) kernel.told;
      queued = numbers_without kernel.queued key;
      untold = spans_without kernel.untold key;
    }
