-- The calls of a userfault object leave a space in order.
use Rattle.std.proofs.Common.{◌≡◌, ℕ, zero, suc, ◌+◌, ◌-◌, ◌/◌, ◌<◌, ◌≤◌, ◌&&◌, Bool, true, false, cond, not, eqb, ltb, Option, Some, None, List, [], ◌∷◌, sym, ap, ◌∙◌, arith, length}
use Rattle.std.specs.Ordering.{nat_cmp}
use Rattle.std.specs.FinMap.{FinMap, get, contains_key}
use Rattle.std.specs.FinSet.{contains}
use Rattle.std.proofs.lemmas.Bool.Decides.{nat_tests}
use Rattle.std.proofs.lemmas.Bool.{false≢true, not-false, or_cases, or_right}
use Rattle.std.proofs.lemmas.List.{length-take, length-drop}
use Rattle.mig_base.specs.declared.TheConstants.{HIGH_PAGE}
use Rattle.mig_base.specs.declared.Prot.{Prot}
use Rattle.mig_base.specs.declared.command.Errno.{Errno}
use Rattle.foundation.specs.Bits.{is_one}
use Rattle.mig_base.specs.Codes.{prot_number}
use Rattle.mig_base.specs.Bytes.{zero_page}
use Rattle.foundation.specs.Ranges.{in_range, least_below}
use Rattle.mig_base.proofs.ByteLemmas.{length-zero_page}
use Rattle.foundation.proofs.RangeLemmas.{none_below_tells, in_range-none}
use Rattle.mig_base.proofs.SetLemmas.{member_without, member_below}
use Rattle.foundation.specs.Modes.{Mode}
use Rattle.mig_base.specs.Userfault.{is_registered, message_read, enabled_with}
use Rattle.mig_model.specs.Space.{Space, IsSoundSpace}
use Rattle.mig_model.specs.Ioctls.{same_protection, left_by, mode_of, registered_in, registered, register_error, range_unregistered, handshaken, put_pages, handed, missing_run, installed, same_area, is_one_area, copy_errors, copy_error, copied, zeropage_errors, zeropage_error, zeropaged, protected_in, writeprotect_errors, writeprotect_error, write_protected, read_error, read_space}
use Rattle.foundation.specs.Tests.{first_holding, same_bool, is_every}
use Rattle.mig_model.proofs.memory.HostLemmas.{get-put}
use Rattle.mig_model.proofs.memory.Facts.{eqb-self, none_absurd, and_second, and_left, in_range_first, some_either}

pub same_prot-self : (prot : Prot) → same_protection (Some prot) (Some prot) ≡ true
same_prot-self prot = eqb-self (prot_number prot)

-- Registered pages

pub below_high : (space : Space) (page : ℕ) → IsSoundSpace space → contains_key space.host.areas page ≡ true → ltb page HIGH_PAGE ≡ true
below_high space page sound mapped = grind (arith, nat_tests)

pub IsSoundSpace-registered : (space : Space) (first count : ℕ) (mode : Mode) → IsSoundSpace space → IsSoundSpace (registered_in space first count mode)
IsSoundSpace-registered space first count mode sound = grind (arith, nat_tests, member_below, or_right, or_cases, and_left, below_high)

-- Pages put

one_more : {A : Type 0} (first count q : ℕ) (f : ℕ → A) (old : A) → cond (eqb q (first + count)) (f count) (cond (in_range first count q) (f (q - first)) old) ≡ cond (in_range first (suc count) q) (f (q - first)) old
one_more first count q f old = grind (arith, nat_tests)

pub get-put_pages : (pages : FinMap nat_cmp (List ℕ)) (first count q : ℕ) (bytes : ℕ → List ℕ) → get (put_pages pages first count bytes) q ≡ cond (in_range first count q) (Some (bytes (q - first))) (get pages q)
unfolding put_pages
get-put_pages pages first zero q bytes = ap (λ b. cond b (Some (bytes (q - first))) (get pages q)) (sym (in_range-none first q))
get-put_pages pages first (suc count) q bytes = grind (arith, nat_tests, get-put, one_more, get-put_pages pages first count q bytes)

-- pages are put where each is mapped, and registered for write-protect faults if they are to be protected
pub record CanPut (space : Space) (first count : ℕ) (bytes : ℕ → List ℕ) (protect : Bool) : Type 0 where
  pub mapped : (page : ℕ) → in_range first count page ≡ true → contains_key space.host.areas page ≡ true
  pub whole : (i : ℕ) → i < count → length (bytes i) ≡ 4096
  pub watched : protect ≡ true → (page : ℕ) → in_range first count page ≡ true → contains space.object.protect page ≡ true

pub IsSoundSpace-installed : (space : Space) (first count : ℕ) (bytes : ℕ → List ℕ) (protect : Bool) → CanPut space first count bytes protect → IsSoundSpace space → IsSoundSpace (installed space first count bytes protect)
IsSoundSpace-installed space first count bytes protect can sound = grind (arith, nat_tests, member_below, get-put_pages, false≢true, in_range_first, some_either, and_left)

-- Write protection

pub IsSoundSpace-protected : (space : Space) (first count : ℕ) (protect : Bool) → ((page : ℕ) → in_range first count page ≡ true → contains space.object.protect page ≡ true) → IsSoundSpace space → IsSoundSpace (protected_in space first count protect)
IsSoundSpace-protected space first count protect watched sound = grind (arith, nat_tests, member_below)

-- Reading a message, and the handshake

pub IsSoundSpace-read : (space : Space) → IsSoundSpace space → IsSoundSpace (record space { object = message_read space.object })
IsSoundSpace-read space sound = grind (arith, nat_tests)

pub IsSoundSpace-enabled : (space : Space) (features : ℕ) → IsSoundSpace space → IsSoundSpace (record space { object = enabled_with space.object features })
IsSoundSpace-enabled space features sound = record { host = sound.host; mapped = sound.mapped; present = sound.present; watched = sound.watched }

-- The calls as the table has them

error_none : (test : Bool) (errno : Errno) (rest : Option Errno) → cond test (Some errno) rest ≡ None → (test ≡ false) × (rest ≡ None)
error_none test errno rest h = grind (arith, nat_tests)

-- no error of the list holds
abbrev pub NoneHolds : List (Bool × Errno) → Type 0
NoneHolds [] = Unit {0}
NoneHolds (error ∷ errors) = (error.0 ≡ false) × NoneHolds errors

pub none_holds : (errors : List (Bool × Errno)) → first_holding errors ≡ None → NoneHolds errors
none_holds [] h = tt
none_holds (error ∷ errors) h = let one = error_none error.0 error.1 (first_holding errors) h in (one.0, none_holds errors one.1)

-- a call that is refused leaves the space, so it is enough to look at one that is not
left_sound : (error : Option Errno) (old new : Space) → IsSoundSpace old → (error ≡ None → IsSoundSpace new) → IsSoundSpace (left_by error old new)
left_sound error old new sound h = grind (arith, nat_tests)

pub every_page : (test : ℕ → Bool) (first count page : ℕ) → is_every test first count ≡ true → first ≤ page → page < first + count → test page ≡ true
every_page test first count page h low high =
    let at : first + (page - first) ≡ page = omega arith in
    ap test (sym at) ∙ not-false (test (first + (page - first))) (none_below_tells (λ i. not (test (first + i))) count (page - first) h (omega arith))

found_bound : (o : Option ℕ) (here : Bool) (bound k : ℕ) → (o ≡ Some k → k < bound) → (elim o [ Some least ↦ Some least | None ↦ cond here (Some bound) None ]) ≡ Some k → k < suc bound
found_bound o here bound k h e = grind (arith, nat_tests)

pub least_bound : (test : ℕ → Bool) (bound k : ℕ) → least_below test bound ≡ Some k → k < bound
unfolding least_below
least_bound test zero k h = absurd (cc)
least_bound test (suc bound) k h = found_bound (least_below test bound) (test bound) bound k (λ e. least_bound test bound k e) h

missing_run-few : (space : Space) (first count : ℕ) → missing_run space first count ≤ count
missing_run-few space first count = grind (arith, nat_tests, least_bound)

pub IsSoundSpace-handshaken : (space : Space) (api features : ℕ) → IsSoundSpace space → IsSoundSpace (handshaken space api features)
IsSoundSpace-handshaken space api features sound = grind (arith, nat_tests)

pub IsSoundSpace-range_registered : (space : Space) (start len bits : ℕ) → IsSoundSpace space → IsSoundSpace (registered space start len bits)
IsSoundSpace-range_registered space start len bits sound =
    left_sound (register_error space start len bits) space _ sound (λ e. IsSoundSpace-registered space (start / 4096) (len / 4096) (mode_of bits) sound)

pub IsSoundSpace-range_unregistered : (space : Space) (start len : ℕ) → IsSoundSpace space → IsSoundSpace (range_unregistered space start len)
IsSoundSpace-range_unregistered space start len sound = grind (arith, nat_tests, and_left, member_without, or_right, or_cases, and_second)

pub IsSoundSpace-write_protected : (space : Space) (start len bits : ℕ) → IsSoundSpace space → IsSoundSpace (write_protected space start len bits)
IsSoundSpace-write_protected space start len bits sound =
    let first = start / 4096 in
    let count = len / 4096 in
    left_sound (writeprotect_error space start len bits) space _ sound (λ e.
    let told = none_holds (writeprotect_errors space start len bits) e in
    let every = not-false (is_every (λ page. contains space.object.protect page) first count) told.1.1.1.1.0 in
    IsSoundSpace-protected space first count (is_one bits 0) (λ page h.
    let inside = in_range_first first count page h in
    every_page (λ q. contains space.object.protect q) first count page every inside.0 inside.1) sound)

pub IsSoundSpace-read_space : (space : Space) → IsSoundSpace space → IsSoundSpace (read_space space)
IsSoundSpace-read_space space sound = left_sound (read_error space) space _ sound (λ e. IsSoundSpace-read space sound)

same_bool_true : (a b : Bool) → a ≡ true → same_bool a b ≡ true → b ≡ true
same_bool_true a b h e = grind (arith, nat_tests)

-- the pages before the first that is present can be put
pub can_put : (space : Space) (first count : ℕ) (bytes : ℕ → List ℕ) (protect : Bool) → IsSoundSpace space → is_one_area space first count ≡ true → ((i : ℕ) → i < count → length (bytes i) ≡ 4096) →
    (protect ≡ true → contains space.object.protect first ≡ true) → CanPut space first (missing_run space first count) bytes protect
can_put space first count bytes protect sound area whole watched =
    let few = missing_run-few space first count in
    let each = λ (page : ℕ) (h : in_range first (missing_run space first count) page ≡ true).
    let inside = in_range_first first (missing_run space first count) page h in
    every_page (λ q. is_registered space.object q && same_area space first q) first count page area inside.0 (omega (arith, inside, few)) in
    record {
      mapped = λ page h. sound.mapped page (and_left (is_registered space.object page) (same_area space first page) (each page h));
      whole = λ i l. whole i (omega (arith, l, few));
      watched = λ e page h.
          let same = and_second (is_registered space.object page) (same_area space first page) (each page h) in
          same_bool_true (contains space.object.protect first) (contains space.object.protect page) (watched e) (and_second _ (same_bool (contains space.object.protect first) (contains space.object.protect page)) same);
    }

-- either not asked for, or registered
pub protect_told : (asked has : Bool) → (asked && not has) ≡ false → asked ≡ true → has ≡ true
protect_told asked has h e = grind (arith, nat_tests)

pub length-handed : (bytes : List ℕ) (i : ℕ) → i < length bytes / 4096 → length (handed bytes i) ≡ 4096
length-handed bytes i l = simp (length-take, length-drop) (omega (arith, l))

pub IsSoundSpace-copied : (space : Space) (start : ℕ) (bytes : List ℕ) (bits : ℕ) → IsSoundSpace space → IsSoundSpace (copied space start bytes bits)
IsSoundSpace-copied space start bytes bits sound =
    let first = start / 4096 in
    let count = length bytes / 4096 in
    left_sound (copy_error space start (length bytes) bits) space _ sound (λ e.
    let told = none_holds (copy_errors space start (length bytes) bits) e in
    IsSoundSpace-installed space first (missing_run space first count) (handed bytes) (is_one bits 1)
    (can_put space first count (handed bytes) (is_one bits 1) sound (not-false (is_one_area space first count) told.1.1.1.1.0) (λ i l. length-handed bytes i l)
    (protect_told (is_one bits 1) (contains space.object.protect first) told.1.1.1.1.1.0)) sound)

pub IsSoundSpace-zeropaged : (space : Space) (start len bits : ℕ) → IsSoundSpace space → IsSoundSpace (zeropaged space start len bits)
IsSoundSpace-zeropaged space start len bits sound =
    let first = start / 4096 in
    let count = len / 4096 in
    left_sound (zeropage_error space start len bits) space _ sound (λ e.
    let told = none_holds (zeropage_errors space start len bits) e in
    IsSoundSpace-installed space first (missing_run space first count) (λ i. zero_page) false
    (can_put space first count (λ i. zero_page) false sound (not-false (is_one_area space first count) told.1.1.1.1.0) (λ i l. length-zero_page) (λ e. none_absurd e)) sound)
