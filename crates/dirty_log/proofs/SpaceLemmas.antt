-- What a log finds in the space that it is lent, and what its calls of the space leave.
use Rattle.std.proofs.Common.{◌≡◌, ℕ, ◌+◌, ◌-◌, ◌*◌, ◌/◌, ◌<◌, ◌≤◌, ◌&&◌, ◌||◌, ◌⊎◌, Bool, true, false, cond, not, eqb, ltb, Option, Some, None, Result, Err, [], ◌∷◌, is_some, refl, sym, ap, ◌∙◌, ⊎_elim, arith}
use Rattle.std.specs.Ordering.{nat_cmp}
use Rattle.std.specs.FinMap.{contains_key}
use Rattle.std.specs.FinSet.{FinSet, contains}
use Rattle.std.proofs.lemmas.Bool.{and_parts, not_from_true}
use Rattle.mig_base.specs.declared.TheConstants.{HIGH_PAGE, LOW_PAGE}
use Rattle.mig_base.specs.declared.command.Errno.{Errno}
use Rattle.mig_base.specs.declared.command.Errno.TheVariants.{Eagain, Einval, Enoent}
use Rattle.mig_base.specs.declared.wake.Wake.{Wake}
use Rattle.mig_base.specs.declared.wake.Wake.TheVariants.{Nobody, Range}
use Rattle.foundation.specs.Bits.{is_one}
use Rattle.foundation.specs.Ranges.{in_range}
use Rattle.mig_base.specs.Sets.{pages_where}
use Rattle.foundation.specs.Tests.{first_holding, is_every}
use Rattle.foundation.proofs.RangeLemmas.{none_below-from, none_below_tells, ranges}
use Rattle.mig_model.specs.Space.{Space, IsSoundSpace}
use Rattle.mig_base.specs.Userfault.{changing, has_modes, registered_where}
use Rattle.mig_model.specs.Guest.{is_present}
use Rattle.mig_model.specs.Ioctls.{answered_by, has_events, is_bad_range, is_bare, is_mapped_in, left_by, mode_of, protected_in, register_error, registered, registered_in, write_protected, writeprotect_answer, writeprotect_error}
use Rattle.mig_model.specs.Log.{present}
use Rattle.mig_model.specs.Source.{all_registered, for_both}
use Rattle.mig_model.proofs.memory.Facts.{and_true}
use Rattle.mig_model.proofs.memory.IoctlLemmas.{every_page}
use Rattle.userfault.proofs.ModeLemmas.{is_pages_where}
use Rattle.uffd_ioctl.specs.Spaces.{ioctl_result}
use Rattle.uffd_ioctl.specs.declared.fault.IoctlFault.{IoctlFault}
use Rattle.uffd_ioctl.specs.declared.fault.IoctlFault.TheVariants as fault
use Rattle.uffd_ioctl.proofs.RegisterLemmas.{nothing_where, sound_low}
use Rattle.uffd_ioctl.specs.Lent.{IsLent}
use Rattle.uffd_ioctl.proofs.LentPages.{below_high, five_none, from_low, ok_no_err, protected_past, right_range, some_no_none}
use Rattle.dirty_log.specs.Spaces.{is_sendable}
use Rattle.mig_model.proofs.invariant.SourceRounds.{present_mapped}
use Rattle.mig_model.proofs.delivery.FrameFaults.{no_fewer}
use Rattle.mig_model.proofs.memory.PageCalls.{every_one}
use Rattle.uffd_ioctl.proofs.InstallLemmas.{quiet_tested}

-- Pages of a space

pub present_is : (space : Space) (pages : FinSet nat_cmp) → IsSoundSpace space → ((q : ℕ) → contains pages q ≡ contains_key space.host.bytes q) → pages ≡ present space
present_is space pages sound same = is_pages_where pages (λ q. is_present space q) same (λ q l. ap is_some (sound.host.mapped q (sound.host.bound q l)))

-- Write protection

-- the protection of a range can be changed
pub record CanProtect (space : Space) (first count : ℕ) : Type 0 where
  pub lent : IsLent space
  pub quiet : changing space.object ≡ 0
  pub low : LOW_PAGE ≤ first
  pub some : 0 < count
  pub high : first + count ≤ HIGH_PAGE
  pub watched : is_every (λ page. contains space.object.protect page) first count ≡ true

protect_accepted : (space : Space) (first count bits start len : ℕ) → CanProtect space first count → bits ≤ 2 → start ≡ 4096 * first → len ≡ count * 4096 → writeprotect_error space start len bits ≡ None
protect_accepted space first count bits start len can few start_is len_is =
    let first_is : start / 4096 ≡ first = omega (arith, start_is) in
    let count_is : len / 4096 ≡ count = omega (arith, len_is) in
    five_none (not space.object.enabled) (ltb 2 bits) (is_bad_range start len) (ltb 0 (changing space.object)) _ Einval Einval Einval Eagain Enoent
    (not_from_true space.object.enabled can.lent.enabled) (no_fewer bits 2 few) (rw (start_is, len_is) (right_range first count can.low can.some can.high)) (quiet_tested (changing space.object) can.quiet)
    (rw (first_is, count_is) (not_from_true _ can.watched))

pub not_refused : {A : Type 0} (error : Option Errno) (answer : A) (result : Result A Errno) (errno : Errno) → error ≡ None → result ≡ answered_by error answer → result ≡ Err errno → ⊥
not_refused None answer result errno h told is = ok_no_err (sym told ∙ is)
not_refused (Some other) answer result errno h told is = some_no_none h

pub protect_not_refused : (space : Space) (first count bits start len : ℕ) (errno : Errno) (result : Result Wake Errno) → CanProtect space first count → bits ≤ 2 → start ≡ 4096 * first → len ≡ count * 4096
    → result ≡ writeprotect_answer space start len bits → result ≡ Err errno → ⊥
protect_not_refused space first count bits start len errno result can few start_is len_is answer is =
    not_refused (writeprotect_error space start len bits) (cond (eqb bits 0) (Range start len) Nobody) result errno (protect_accepted space first count bits start len can few start_is len_is) answer is

pub protect_left : (space now : Space) (first count bits start len : ℕ) (protect : Bool) → CanProtect space first count → bits ≤ 2 → start ≡ 4096 * first → len ≡ count * 4096 → is_one bits 0 ≡ protect
    → now ≡ write_protected space start len bits → now ≡ protected_in space first count protect
protect_left space now first count bits start len protect can few start_is len_is bit is =
    let first_is : start / 4096 ≡ first = omega (arith, start_is) in
    let count_is : len / 4096 ≡ count = omega (arith, len_is) in
    is ∙ rw (protect_accepted space first count bits start len can few start_is len_is) (rw (first_is, count_is, bit) refl)

-- a protected page can be unprotected
pub can_unprotect : (space : Space) (page : ℕ) → IsSoundSpace space → IsLent space → changing space.object ≡ 0 → contains space.protected page ≡ true → CanProtect space page 1
can_unprotect space page sound lent quiet h =
    let mapped = present_mapped space page sound (sound.present page h) in
    let high = below_high space page sound mapped in
    record {
      lent = lent;
      quiet = quiet;
      low = from_low space page lent mapped;
      some = omega arith;
      high = omega (arith, high);
      watched = every_one (λ q. contains space.object.protect q) page (sound.watched page h);
    }

-- each page of a range that can be sent is registered for write-protect faults
pub all_watched : (space : Space) (first count : ℕ) → is_every (is_sendable space) first count ≡ true → is_every (λ page. contains space.object.protect page) first count ≡ true
all_watched space first count h =
    none_below-from (λ i. not (contains space.object.protect (first + i))) count
    (λ i l. not_from_true _ (and_parts (is_present space (first + i)) (contains space.object.protect (first + i)) (every_page (is_sendable space) first count (first + i) h (omega arith) (omega (arith, l)))).1)

-- pages that can be sent can be protected
pub can_protect : (space : Space) (first count : ℕ) → IsSoundSpace space → IsLent space → changing space.object ≡ 0 → 0 < count → first + count ≤ HIGH_PAGE → is_every (is_sendable space) first count ≡ true → CanProtect space first count
can_protect space first count sound lent quiet some high h =
    let here = every_page (is_sendable space) first count first h (omega arith) (omega (arith, some)) in
    record {
      lent = lent;
      quiet = quiet;
      low = from_low space first lent (present_mapped space first sound (and_parts (is_present space first) (contains space.object.protect first) here).0);
      some = some;
      high = high;
      watched = all_watched space first count h;
    }

-- Registration

all_there : (q : ℕ) (mapped : Bool) → (q < LOW_PAGE → mapped ≡ false) → (HIGH_PAGE ≤ q → mapped ≡ false) → (in_range 16 1048560 q && mapped) ≡ (in_range 0 1048576 q && mapped)
all_there q mapped low high = grind (arith, ranges)

mapped_past : (space : Space) (q : ℕ) → IsSoundSpace space → HIGH_PAGE ≤ q → contains_key space.host.areas q ≡ false
mapped_past space q sound l = ap is_some (sound.host.bound q l)

all_of : (space : Space) → IsSoundSpace space → IsLent space → registered_in space 16 1048560 (mode_of 3) ≡ all_registered space
unfolding is_one
all_of space sound lent =
    ap (λ t. record space {
      object = registered_where space.object t for_both;
      protected = pages_where (λ page. contains space.protected page && (true || has_modes space.object page for_both || not (t page)));
    })
    (λ i q. all_there q (contains_key space.host.areas q) (lent.low q) (mapped_past space q sound) i)

nowhere : (q : ℕ) (mapped : Bool) → (q < LOW_PAGE → mapped ≡ false) → (HIGH_PAGE ≤ q → mapped ≡ false) → (LOW_PAGE ≤ q → q < HIGH_PAGE → mapped ≡ false) → (in_range 0 1048576 q && mapped) ≡ false
nowhere q mapped low high between = grind (arith, ranges)

other_fault : (result : Result (Unit {0}) IoctlFault) (errno : Errno) → result ≡ Err fault.NoMemory → result ≡ Err (fault.Errno errno) → ⊥
other_fault result errno h k = cc

none_in : (space : Space) (q : ℕ) → IsSoundSpace space → IsLent space → is_bare space 16 1048560 ≡ true → is_mapped_in space 0 1048576 q ≡ false
none_in space q sound lent bare =
    nowhere q (contains_key space.host.areas q) (lent.low q) (mapped_past space q sound)
    (λ l m. ap (λ k. contains_key space.host.areas k) (omega (arith, l)) ∙ none_below_tells (λ i. contains_key space.host.areas (16 + i)) 1048560 (q - 16) bare (omega (arith, l, m)))

-- where no page is mapped nothing is registered
bare_same : (space : Space) → IsSoundSpace space → IsLent space → is_bare space 16 1048560 ≡ true → space ≡ all_registered space
bare_same space sound lent bare =
    let object = nothing_where space.object (is_mapped_in space 0 1048576) for_both (sound_low space sound) (λ q. none_in space q sound lent bare) in
    let protected = is_pages_where space.protected (λ page. contains space.protected page && true) (λ q. sym (and_true (contains space.protected q))) (λ q l. and_true (contains space.protected q) ∙ protected_past space q sound l) in
    λ i. record { host = space.host; protected = protected i; object = object i }

last_of : {A : Type 0} (a b c d e : Bool) (v w x y z : A) → a ≡ false → b ≡ false → c ≡ false → d ≡ false → first_holding ((a, v) ∷ (b, w) ∷ (c, x) ∷ (d, y) ∷ (e, z) ∷ []) ≡ cond e (Some z) None
last_of a b c d e v w x y z h k l m = rw (h, k, l, m) refl

register_told : (space : Space) → IsLent space → register_error space 65536 4294901760 3 ≡ cond (is_bare space 16 1048560) (Some Einval) None
register_told space lent =
    last_of (not space.object.enabled) (not (has_events space.object)) false false (is_bare space 16 1048560) Einval Einval Einval Einval Einval
    (not_from_true space.object.enabled lent.enabled) (not_from_true (has_events space.object) lent.events) refl refl

all_by : (space : Space) (bare : Bool) → IsSoundSpace space → IsLent space → is_bare space 16 1048560 ≡ bare → left_by (cond bare (Some Einval) None) space (registered_in space 16 1048560 (mode_of 3)) ≡ all_registered space
all_by space true sound lent h = bare_same space sound lent h
all_by space false sound lent h = all_of space sound lent

-- what UFFDIO_REGISTER leaves over all addresses, whether or not a page is mapped
pub all_left : (space : Space) → IsSoundSpace space → IsLent space → registered space 65536 4294901760 3 ≡ all_registered space
all_left space sound lent = rw (register_told space lent) (all_by space (is_bare space 16 1048560) sound lent refl)

refused_by : (space : Space) (bare : Bool) (result : Result (Unit {0}) IoctlFault) (errno : Errno) → IsSoundSpace space → IsLent space → is_bare space 16 1048560 ≡ bare → result ≡ ioctl_result (answered_by (cond bare (Some Einval) None) tt) → result ≡ Err (fault.Errno errno) → space ≡ all_registered space
refused_by space true result errno sound lent h answer is = bare_same space sound lent h
refused_by space false result errno sound lent h answer is = absurd (ok_no_err (sym answer ∙ is))

-- it is refused only where nothing is mapped
pub refused_bare : (space : Space) (result : Result (Unit {0}) IoctlFault) (errno : Errno) → IsSoundSpace space → IsLent space
    → ((result ≡ ioctl_result (answered_by (register_error space 65536 4294901760 3) tt)) ⊎ ((result ≡ Err fault.NoMemory) × (register_error space 65536 4294901760 3 ≡ None)))
    → result ≡ Err (fault.Errno errno) → space ≡ all_registered space
refused_bare space result errno sound lent answer is =
    ⊎_elim (λ (h : result ≡ ioctl_result (answered_by (register_error space 65536 4294901760 3) tt)). refused_by space (is_bare space 16 1048560) result errno sound lent refl (h ∙ ap (λ o. ioctl_result (answered_by o tt)) (register_told space lent)) is)
    (λ (h : (result ≡ Err fault.NoMemory) × (register_error space 65536 4294901760 3 ≡ None)). absurd (other_fault result errno h.0 is)) answer
