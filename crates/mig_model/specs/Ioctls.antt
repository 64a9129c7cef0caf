-- The calls of a userfault object as a table: what each answers, and the space afterwards. ioctl_userfaultfd(2) and
-- userfaultfd(2). This project's own choices: the order where several errors apply; what counts as one area, and what a call that stops
-- part way answers; EAGAIN while an event is unread (the kernel's mmap_changing); and the mode of a page that is registered again.
use Rattle.std.specs.Prelude.{ℕ, zero, suc, ◌+◌, ◌*◌, ◌/◌, ◌%◌, ◌==◌, ◌&&◌, ◌||◌, not, nat_lt, Bool, false, if◌then◌else◌, Option, Some, None, Result, Ok, Err, is_some, unwrap_or, List, [], ◌∷◌, length, take, drop}
use Rattle.std.specs.Ordering.{nat_cmp}
use Rattle.std.specs.FinMap.{FinMap, get, insert, contains_key}
use Rattle.std.specs.FinSet.{contains}
use Rattle.foundation.specs.declared.TheConstants.{PAGE_SIZE}
use Rattle.mig_base.specs.declared.TheConstants.{LOW, HIGH}
use Rattle.mig_base.specs.declared.Prot.{Prot}
use Rattle.mig_base.specs.declared.command.Errno.{Errno}
use Rattle.mig_base.specs.declared.command.Errno.TheVariants.{Enoent, Eagain, Eexist, Einval}
use Rattle.mig_base.specs.declared.wake.Wake.{Wake}
use Rattle.mig_base.specs.declared.wake.Wake.TheVariants.{Nobody, Range}
use Rattle.mig_base.specs.Codes.{prot_number}
use Rattle.foundation.specs.Bits.{is_one}
use Rattle.mig_base.specs.Bytes.{zero_page}
use Rattle.foundation.specs.Ranges.{in_range, least_below, none_below}
use Rattle.mig_base.specs.Sets.{without, pages_where}
use Rattle.foundation.specs.Tests.{same_bool, is_every, first_holding}
use Rattle.foundation.specs.Modes.{Mode}
use Rattle.mig_base.specs.Userfault.{Object, enabled_with, has_modes, is_registered, registered_where, unregistered, next_message, message_read, changing}
use Rattle.mig_model.specs.Space.{Space}

-- whether two pages are mapped with one protection
abbrev pub same_protection : Option Prot → Option Prot → Bool
same_protection (Some prot) (Some other) = prot_number prot == prot_number other
same_protection (Some prot) None = false
same_protection None other = false

-- the answer of a call: its error if there is one, else the value
abbrev pub answered_by : {A : Type 0} → Option Errno → A → Result A Errno
answered_by None answer = Ok answer
answered_by (Some errno) answer = Err errno

-- the space after a call: as it was if there is an error, else the new one
abbrev pub left_by : Option Errno → Space → Space → Space
left_by None old new = new
left_by (Some errno) old new = old

-- Features and modes are words of bits

-- whether an argument has a bit set that is not `known`
abbrev pub has_unknown : (ℕ → Bool) → ℕ → Bool
has_unknown known number = not (none_below (λ i. is_one number i && not (known i)) 64)

-- the features of this object: UFFD_FEATURE_PAGEFAULT_FLAG_WP, UFFD_FEATURE_EVENT_REMAP, _REMOVE and _UNMAP, and
-- UFFD_FEATURE_THREAD_ID
abbrev pub is_feature : ℕ → Bool
is_feature i = i == 0 || i == 2 || i == 3 || i == 6 || i == 8

-- these features as one word: bits 0, 2, 3, 6 and 8
abbrev pub all_features : ℕ
all_features = 0x14d

-- the features of the object of a destination, the three events, as one word: bits 2, 3 and 6
abbrev pub event_features : ℕ
event_features = 0x4c

-- whether the handshake asked for the three events, without which this project registers no page
abbrev pub has_events : Object → Bool
has_events object = is_one object.features 2 && is_one object.features 3 && is_one object.features 6

-- UFFDIO_REGISTER_MODE_MISSING is bit 0, and UFFDIO_REGISTER_MODE_WP bit 1
abbrev pub mode_of : ℕ → Mode
mode_of bits = record { missing = is_one bits 0; protect = is_one bits 1 }

-- Ranges

-- whether a range of bytes is wrong: its start or its length is not a multiple of the page size, it is empty, or it leaves the address
-- space
abbrev pub is_bad_range : ℕ → ℕ → Bool
is_bad_range start len = not (start % PAGE_SIZE == 0) || not (len % PAGE_SIZE == 0) || len == 0 || nat_lt start LOW || nat_lt HIGH (start + len)

-- whether no page of a range of pages is mapped
abbrev pub is_bare : Space → ℕ → ℕ → Bool
is_bare space first count = none_below (λ i. contains_key space.host.areas (first + i)) count

-- UFFDIO_API

-- the errors of a handshake, all EINVAL: another API than UFFD_API (0xAA), a feature that the object lacks, or a handshake made before
abbrev pub handshake_error : Space → ℕ → ℕ → Option Errno
handshake_error space api features = first_holding ((not (api == 0xaa), Einval) ∷ (has_unknown is_feature features, Einval) ∷ (space.object.enabled, Einval) ∷ [])

-- what UFFDIO_API answers: all features of the object, or the error
abbrev pub handshake_answer : Space → ℕ → ℕ → Result ℕ Errno
handshake_answer space api features = answered_by (handshake_error space api features) all_features

-- the space after UFFDIO_API: the object is enabled with the features that were asked for, unless there is an error
abbrev pub handshaken : Space → ℕ → ℕ → Space
handshaken space api features = left_by (handshake_error space api features) space (record space { object = enabled_with space.object features })

-- UFFDIO_REGISTER

-- whether a word is not a mode in which pages can be registered: 1 (missing), 2 (write-protect) and 3 (both) are
abbrev pub is_bad_mode : ℕ → Bool
is_bad_mode bits = bits == 0 || nat_lt 3 bits

-- the errors of UFFDIO_REGISTER, all EINVAL: no handshake, one that did not ask for all three events, a wrong mode or range, or no page
-- of the range is mapped
abbrev pub register_error : Space → ℕ → ℕ → ℕ → Option Errno
register_error space start len bits =
    first_holding
    ((not space.object.enabled, Einval) ∷ (not (has_events space.object), Einval) ∷ (is_bad_mode bits, Einval) ∷ (is_bad_range start len, Einval)
    ∷ (is_bare space (start / PAGE_SIZE) (len / PAGE_SIZE), Einval) ∷ [])

-- whether a page is a mapped page of the range
abbrev pub is_mapped_in : Space → ℕ → ℕ → ℕ → Bool
is_mapped_in space first count page = in_range first count page && contains_key space.host.areas page

-- the mapped pages of a range are registered; a page that is no longer registered for write-protect faults loses its write protection
abbrev pub registered_in : Space → ℕ → ℕ → Mode → Space
registered_in space first count mode =
    record space {
      object = registered_where space.object (is_mapped_in space first count) mode;
      protected = pages_where (λ page. contains space.protected page && (mode.protect || has_modes space.object page mode || not (is_mapped_in space first count page)));
    }

-- the space after UFFDIO_REGISTER of a range of bytes with a mode word
abbrev pub registered : Space → ℕ → ℕ → ℕ → Space
registered space start len bits = left_by (register_error space start len bits) space (registered_in space (start / PAGE_SIZE) (len / PAGE_SIZE) (mode_of bits))

-- UFFDIO_UNREGISTER

-- the errors of UFFDIO_UNREGISTER, all EINVAL: no handshake, a wrong range, or no page of the range is mapped
abbrev pub unregister_error : Space → ℕ → ℕ → Option Errno
unregister_error space start len =
    first_holding ((not space.object.enabled, Einval) ∷ (is_bad_range start len, Einval) ∷ (is_bare space (start / PAGE_SIZE) (len / PAGE_SIZE), Einval) ∷ [])

-- whom UFFDIO_UNREGISTER wakes: those that sleep on the range; or the error
abbrev pub unregister_answer : Space → ℕ → ℕ → Result Wake Errno
unregister_answer space start len = answered_by (unregister_error space start len) (Range start len)

-- the space once no page of a range is registered or write-protected
abbrev pub unregistered_in : Space → ℕ → ℕ → Space
unregistered_in space first count = record space { object = unregistered space.object first count; protected = without space.protected first count }

-- the space after UFFDIO_UNREGISTER of a range of bytes
abbrev pub range_unregistered : Space → ℕ → ℕ → Space
range_unregistered space start len = left_by (unregister_error space start len) space (unregistered_in space (start / PAGE_SIZE) (len / PAGE_SIZE))

-- UFFDIO_WAKE

-- whom UFFDIO_WAKE wakes: those that sleep on the range; or EINVAL for no handshake or a wrong range. The space stays as it is
abbrev pub wake_answer : Space → ℕ → ℕ → Result Wake Errno
wake_answer space start len = answered_by (first_holding ((not space.object.enabled, Einval) ∷ (is_bad_range start len, Einval) ∷ [])) (Range start len)

-- UFFDIO_COPY and UFFDIO_ZEROPAGE

-- whether two pages have one protection and one mode
abbrev pub same_area : Space → ℕ → ℕ → Bool
same_area space page other =
    same_protection (get space.host.areas page) (get space.host.areas other)
    && same_bool (contains space.object.missing page) (contains space.object.missing other)
    && same_bool (contains space.object.protect page) (contains space.object.protect other)

-- whether the pages of a range are registered, all with one protection and one mode
abbrev pub is_one_area : Space → ℕ → ℕ → Bool
is_one_area space first count = is_every (λ page. is_registered space.object page && same_area space first page) first count

-- the errors of UFFDIO_COPY before any page is put, in order: EINVAL for no handshake, an unknown mode bit or a wrong range; EAGAIN while
-- an event is unread; ENOENT unless the range is one registered area; EINVAL for the mode WP where it is not registered for that.
-- UFFDIO_COPY_MODE_DONTWAKE and UFFDIO_ZEROPAGE_MODE_DONTWAKE are bit 0, UFFDIO_COPY_MODE_WP is bit 1
abbrev pub copy_errors : Space → ℕ → ℕ → ℕ → List (Bool × Errno)
copy_errors space start len bits =
    (not space.object.enabled, Einval) ∷ (nat_lt 3 bits, Einval) ∷ (is_bad_range start len, Einval) ∷ (nat_lt 0 (changing space.object), Eagain)
    ∷ (not (is_one_area space (start / PAGE_SIZE) (len / PAGE_SIZE)), Enoent)
    ∷ (is_one bits 1 && not (contains space.object.protect (start / PAGE_SIZE)), Einval) ∷ []

-- the first of them that applies, if any
abbrev pub copy_error : Space → ℕ → ℕ → ℕ → Option Errno
copy_error space start len bits = first_holding (copy_errors space start len bits)

-- the errors of UFFDIO_ZEROPAGE before any page is put: those of UFFDIO_COPY, without a mode WP
abbrev pub zeropage_errors : Space → ℕ → ℕ → ℕ → List (Bool × Errno)
zeropage_errors space start len bits =
    (not space.object.enabled, Einval) ∷ (nat_lt 1 bits, Einval) ∷ (is_bad_range start len, Einval) ∷ (nat_lt 0 (changing space.object), Eagain)
    ∷ (not (is_one_area space (start / PAGE_SIZE) (len / PAGE_SIZE)), Enoent) ∷ []

-- the first of them that applies, if any
abbrev pub zeropage_error : Space → ℕ → ℕ → ℕ → Option Errno
zeropage_error space start len bits = first_holding (zeropage_errors space start len bits)

-- how many pages of the range are missing before the first that is present: these are put
abbrev pub missing_run : Space → ℕ → ℕ → ℕ
missing_run space first count = unwrap_or (least_below (λ i. contains_key space.host.bytes (first + i)) count) count

-- the pages once bytes are put at the `count` pages from `first` on
unfoldable pub put_pages : FinMap nat_cmp (List ℕ) → ℕ → ℕ → (ℕ → List ℕ) → FinMap nat_cmp (List ℕ)
put_pages pages first zero bytes = pages
put_pages pages first (suc count) bytes = insert (put_pages pages first count bytes) (first + count) (bytes count)

-- the bytes of page i of a buffer: `src` of struct uffdio_copy
abbrev pub handed : List ℕ → ℕ → List ℕ
handed bytes i = take PAGE_SIZE (drop (PAGE_SIZE * i) bytes)

-- the space once the `count` missing pages from `first` on are present with these bytes, write-protected or not
abbrev pub installed : Space → ℕ → ℕ → (ℕ → List ℕ) → Bool → Space
installed space first count bytes protect =
    record space {
      host = record space.host { bytes = put_pages space.host.bytes first count bytes };
      protected = pages_where (λ page. contains space.protected page || (protect && in_range first count page));
    }

-- the error at which a call stopped: that of the page itself if it is the first of the range, else EAGAIN
abbrev pub stop_error : ℕ → Errno → Errno
stop_error zero own = own
stop_error (suc count) own = Eagain

-- whom it wakes: those that sleep on the pages that were put, unless DONTWAKE was asked for
abbrev pub wakes : ℕ → ℕ → ℕ → Wake
wakes start count bits = if count == 0 || is_one bits 0 then Nobody else Range start (PAGE_SIZE * count)

-- what such a call answers: the number of bytes that it has put, the error at which it stopped, if any, and whom it wakes
pub record Put : Type 0 where
  pub bytes : ℕ
  pub fault : Option Errno
  pub wake : Wake

-- the answer once `done` of `count` pages are put: all of them, or those before the page that failed with its own error
abbrev pub put_answer : ℕ → ℕ → ℕ → ℕ → Errno → Put
put_answer start count done bits own =
    record { bytes = PAGE_SIZE * done; fault = if done == count then None else Some (stop_error done own); wake = wakes start done bits }

-- the answer where an error is found before any page is put
abbrev pub refused_put : Errno → Put
refused_put errno = record { bytes = 0; fault = Some errno; wake = Nobody }

-- the answer of a call: by the error found before any page is put, else by the pages that were put
abbrev pub answer_put : Option Errno → Put → Put
answer_put None put = put
answer_put (Some errno) put = refused_put errno

-- what UFFDIO_COPY of a buffer answers: it puts the pages before the first that is present, where it stops with EEXIST, or EAGAIN if it
-- has put any
abbrev pub copy_answer : Space → ℕ → List ℕ → ℕ → Put
copy_answer space start bytes bits =
    answer_put (copy_error space start (length bytes) bits)
    (put_answer start (length bytes / PAGE_SIZE) (missing_run space (start / PAGE_SIZE) (length bytes / PAGE_SIZE)) bits Eexist)

-- the space after UFFDIO_COPY: those pages are present with the bytes of the buffer, write-protected in the mode WP
abbrev pub copied : Space → ℕ → List ℕ → ℕ → Space
copied space start bytes bits =
    left_by (copy_error space start (length bytes) bits) space
    (installed space (start / PAGE_SIZE) (missing_run space (start / PAGE_SIZE) (length bytes / PAGE_SIZE)) (handed bytes) (is_one bits 1))

-- what UFFDIO_ZEROPAGE of a range of bytes answers: it stops where UFFDIO_COPY does
abbrev pub zeropage_answer : Space → ℕ → ℕ → ℕ → Put
zeropage_answer space start len bits =
    answer_put (zeropage_error space start len bits)
    (put_answer start (len / PAGE_SIZE) (missing_run space (start / PAGE_SIZE) (len / PAGE_SIZE)) bits Eexist)

-- the space after UFFDIO_ZEROPAGE: those pages are present and zeros
abbrev pub zeropaged : Space → ℕ → ℕ → ℕ → Space
zeropaged space start len bits =
    left_by (zeropage_error space start len bits) space
    (installed space (start / PAGE_SIZE) (missing_run space (start / PAGE_SIZE) (len / PAGE_SIZE)) (λ i. zero_page) false)

-- UFFDIO_WRITEPROTECT: UFFDIO_WRITEPROTECT_MODE_WP is bit 0, UFFDIO_WRITEPROTECT_MODE_DONTWAKE bit 1

-- the errors of UFFDIO_WRITEPROTECT, in order: EINVAL for no handshake, both mode bits at once or an unknown one, or a wrong range;
-- EAGAIN while an event is unread; ENOENT unless each page of the range is registered for write-protect faults
abbrev pub writeprotect_errors : Space → ℕ → ℕ → ℕ → List (Bool × Errno)
writeprotect_errors space start len bits =
    (not space.object.enabled, Einval) ∷ (nat_lt 2 bits, Einval) ∷ (is_bad_range start len, Einval) ∷ (nat_lt 0 (changing space.object), Eagain)
    ∷ (not (is_every (λ page. contains space.object.protect page) (start / PAGE_SIZE) (len / PAGE_SIZE)), Enoent) ∷ []

-- the first of them that applies, if any
abbrev pub writeprotect_error : Space → ℕ → ℕ → ℕ → Option Errno
writeprotect_error space start len bits = first_holding (writeprotect_errors space start len bits)

-- whom UFFDIO_WRITEPROTECT wakes: those that sleep on the range if the mode is 0, and nobody if the mode is WP or DONTWAKE; or the
-- error
abbrev pub writeprotect_answer : Space → ℕ → ℕ → ℕ → Result Wake Errno
writeprotect_answer space start len bits = answered_by (writeprotect_error space start len bits) (if bits == 0 then Range start len else Nobody)

-- the present pages of a range are write-protected, or no longer; missing pages are passed over
abbrev pub protected_in : Space → ℕ → ℕ → Bool → Space
protected_in space first count protect =
    record space {
      protected = pages_where (λ page. if in_range first count page then protect && contains_key space.host.bytes page else contains space.protected page);
    }

-- the space after UFFDIO_WRITEPROTECT of a range of bytes: its pages are protected in the mode WP, and else unprotected
abbrev pub write_protected : Space → ℕ → ℕ → ℕ → Space
write_protected space start len bits = left_by (writeprotect_error space start len bits) space (protected_in space (start / PAGE_SIZE) (len / PAGE_SIZE) (is_one bits 0))

-- read(2) of the object

-- the errors of read(2): EINVAL before the handshake, EAGAIN if no message waits, as with O_NONBLOCK of userfaultfd(2)
abbrev pub read_error : Space → Option Errno
read_error space = first_holding ((not space.object.enabled, Einval) ∷ (not (is_some (next_message space.object)), Eagain) ∷ [])

-- the space after read(2) of one message, which waits no longer
abbrev pub read_space : Space → Space
read_space space = left_by (read_error space) space (record space { object = message_read space.object })
