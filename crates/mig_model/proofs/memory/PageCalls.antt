-- The calls that a handler makes for one page: what each of them answers where it is accepted, and the space that it leaves.
use Rattle.mig_base.specs.declared.TheConstants.{LOW_PAGE, HIGH_PAGE}
use Rattle.std.proofs.lemmas.Bool.Decides.{nat_tests}
use Rattle.std.proofs.Common.{◌≡◌, ℕ, ◌+◌, ◌*◌, ◌/◌, ◌<◌, ◌≤◌, ◌&&◌, ◌||◌, Bool, true, false, not, eqb, ltb, Option, None, is_some, unwrap_or, List, sym, ap, ◌∙◌, arith, length, if◌then◌else◌}
use Rattle.std.specs.Ordering.{nat_cmp}
use Rattle.std.specs.FinMap.{FinMap, contains_key, insert}
use Rattle.std.specs.FinSet.{contains}
use Rattle.std.proofs.lemmas.Bool.{not_from_true}
use Rattle.std.proofs.lemmas.Bool.Decides.{nat_tests}
use Rattle.mig_base.specs.declared.TheConstants.{LOW_PAGE, HIGH_PAGE}
use Rattle.std.proofs.lemmas.List.{take_all}
use Rattle.mig_base.specs.declared.Prot.{Prot}
use Rattle.mig_base.specs.declared.command.Errno.{Errno}
use Rattle.mig_base.specs.declared.command.Errno.TheVariants.{Eexist}
use Rattle.mig_base.specs.declared.wake.Wake.TheVariants.{Nobody, Range}
use Rattle.foundation.specs.Bits.{is_one}
use Rattle.mig_base.specs.Bytes.{zero_page}
use Rattle.foundation.specs.Ranges.{in_range}
use Rattle.mig_base.specs.Sets.{pages_where}
use Rattle.foundation.specs.Tests.{is_every, same_bool}
use Rattle.mig_base.proofs.BitLemmas.{zero_is_no_one}
use Rattle.foundation.proofs.RangeLemmas.{least_below-none, none_below-from}
use Rattle.mig_base.specs.Userfault.{changing, is_registered}
use Rattle.mig_model.specs.Space.{Space}
use Rattle.mig_model.specs.Guest.{Guest, resolved, is_present, zero_installed}
use Rattle.mig_model.specs.Ioctls.{Put, copy_error, handed, installed, is_bad_range, is_one_area, missing_run, protected_in, put_answer, answer_put, put_pages, same_protection, zeropage_error}
use Rattle.mig_model.specs.Bounds.{IsPage}
use Rattle.mig_model.specs.Handlers.{IsCopy, IsWake, IsWriteProtect, IsZeroPage, page_put, woken_by}
use Rattle.mig_model.proofs.memory.Registering.{left_new, nothing_holds, pages_again, range_good}

-- a page for which a call is made: the object is enabled, no event is unread, and the page may be mapped
pub record IsCalled (space : Space) (page : ℕ) : Type 0 where
  pub enabled : space.object.enabled ≡ true
  pub quiet : ltb 0 (changing space.object) ≡ false
  pub inside : IsPage page

page_range : (page : ℕ) → IsPage page → is_bad_range (4096 * page) 4096 ≡ false
page_range page is = range_good page 1 (omega arith) is.0 (let high = is.1 in omega (arith, high))

-- a page of which a test holds is a range in which it holds everywhere
at_page : (page i : ℕ) → i < 1 → page + i ≡ page
at_page page i l = omega (arith, l)

pub every_one : (test : ℕ → Bool) (page : ℕ) → test page ≡ true → is_every test page 1 ≡ true
every_one test page h = none_below-from (λ i. not (test (page + i))) 1 (λ i l. not_from_true (test (page + i)) (ap test (at_page page i l) ∙ h))

pub same_prot_self : (o : Option Prot) → is_some o ≡ true → same_protection o o ≡ true
same_prot_self o h = grind (arith, nat_tests)

pub same_bool_self : (b : Bool) → same_bool b b ≡ true
same_bool_self b = grind (arith, nat_tests)

-- a mapped page that is registered is one area
one_area : (space : Space) (page : ℕ) → contains_key space.host.areas page ≡ true → is_registered space.object page ≡ true → is_one_area space page 1 ≡ true
one_area space page mapped registered = grind (arith, nat_tests, every_one, same_bool_self)

-- a missing page is put whole
missing_one : (space : Space) (page : ℕ) → is_present space page ≡ false → missing_run space page 1 ≡ 1
missing_one space page h = ap (λ o. unwrap_or o 1) (least_below-none (λ i. contains_key space.host.bytes (page + i)) 1 (λ i l. ap (contains_key space.host.bytes) (at_page page i l) ∙ h))

put_new : (error : Option Errno) (put : Put) → error ≡ None → answer_put error put ≡ put
put_new error put h = grind (arith, nat_tests)

one_put : (addr : ℕ) → put_answer addr 1 1 0 Eexist ≡ page_put addr
one_put addr = ap (λ b. record { bytes = 4096; fault = None; wake = if b then Nobody else Range addr 4096 }) (zero_is_no_one 0)

pub page_woken : (guest : Guest) (page : ℕ) (space : Space) → (resolved guest page space).cpus ≡ woken_by (Range (4096 * page) 4096) guest.cpus
page_woken guest page space = grind (arith, nat_tests)

-- UFFDIO_ZEROPAGE

zeropage_accepted : (space : Space) (page : ℕ) → IsCalled space page → contains_key space.host.areas page ≡ true → is_registered space.object page ≡ true → zeropage_error space (4096 * page) 4096 0 ≡ None
zeropage_accepted space page is mapped registered = grind (arith, nat_tests, page_range, pages_again, one_area)

pub zero_page_made : (guest : Guest) (page : ℕ) → IsCalled guest.space page → contains_key guest.space.host.areas page ≡ true → is_registered guest.space.object page ≡ true → is_present guest.space page ≡ false →
    IsZeroPage guest (resolved guest page (zero_installed guest.space page)) (4096 * page)
zero_page_made guest page is mapped registered gone =
    let space = guest.space in
    let accepted = zeropage_accepted space page is mapped registered in
    let run : missing_run space (4096 * page / 4096) 1 ≡ 1 = ap (λ q. missing_run space q 1) (pages_again page) ∙ missing_one space page gone in
    record {
      answer = put_new (zeropage_error space (4096 * page) 4096 0) _ accepted ∙ ap (λ n. put_answer (4096 * page) 1 n 0 Eexist) run ∙ one_put (4096 * page);
      leaves = sym
          (left_new (zeropage_error space (4096 * page) 4096 0) space _ accepted
          ∙ ap (λ n. installed space (4096 * page / 4096) n (λ i. zero_page) false) run
          ∙ ap (λ q. installed space q 1 (λ i. zero_page) false) (pages_again page));
      wakes = page_woken guest page (zero_installed space page);
    }

-- UFFDIO_COPY

pub copy_accepted : (space : Space) (page : ℕ) → IsCalled space page → contains_key space.host.areas page ≡ true → is_registered space.object page ≡ true → copy_error space (4096 * page) 4096 0 ≡ None
copy_accepted space page is mapped registered = grind (arith, nat_tests, not_from_true, page_range, pages_again, one_area, zero_is_no_one)

put_one : (pages : FinMap nat_cmp (List ℕ)) (page : ℕ) (one other : ℕ → List ℕ) → one 0 ≡ other 0 → put_pages pages page 1 one ≡ put_pages pages page 1 other
unfolding put_pages
put_one pages page one other h = ap (λ bytes. insert pages (page + 0) bytes) h

installed_one : (space : Space) (page : ℕ) (bytes : List ℕ) → length bytes ≡ 4096 → installed space page 1 (handed bytes) (is_one 0 1) ≡ installed space page 1 (λ i. bytes) false
installed_one space page bytes whole =
    ap (λ b. installed space page 1 (handed bytes) b) (zero_is_no_one 1)
    ∙ ap (λ pages. record space { host = record space.host { bytes = pages }; protected = pages_where (λ q. contains space.protected q || (false && in_range page 1 q)) })
    (put_one space.host.bytes page (handed bytes) (λ i. bytes) (take_all 4096 bytes (omega (arith, whole))))

pub copy_made : (guest : Guest) (page : ℕ) (bytes : List ℕ) → IsCalled guest.space page → contains_key guest.space.host.areas page ≡ true → is_registered guest.space.object page ≡ true → is_present guest.space page ≡ false → length bytes ≡ 4096 →
    IsCopy guest (resolved guest page (installed guest.space page 1 (λ i. bytes) false)) (4096 * page) bytes
copy_made guest page bytes is mapped registered gone whole =
    let space = guest.space in
    let accepted : copy_error space (4096 * page) (length bytes) 0 ≡ None = ap (λ n. copy_error space (4096 * page) n 0) whole ∙ copy_accepted space page is mapped registered in
    let count : length bytes / 4096 ≡ 1 = ap (λ n. n / 4096) whole in
    let run : missing_run space (4096 * page / 4096) (length bytes / 4096) ≡ 1 =
    ap (λ n. missing_run space (4096 * page / 4096) n) count ∙ ap (λ q. missing_run space q 1) (pages_again page) ∙ missing_one space page gone in
    record {
      answer = put_new (copy_error space (4096 * page) (length bytes) 0) _ accepted
          ∙ ap (λ n. put_answer (4096 * page) (length bytes / 4096) n 0 Eexist) run
          ∙ ap (λ n. put_answer (4096 * page) n 1 0 Eexist) count
          ∙ one_put (4096 * page);
      leaves = sym
          (left_new (copy_error space (4096 * page) (length bytes) 0) space _ accepted
          ∙ ap (λ n. installed space (4096 * page / 4096) n (handed bytes) (is_one 0 1)) run
          ∙ ap (λ q. installed space q 1 (handed bytes) (is_one 0 1)) (pages_again page)
          ∙ installed_one space page bytes whole);
      wakes = page_woken guest page (installed space page 1 (λ i. bytes) false);
    }

-- UFFDIO_WRITEPROTECT

pub range_protect_made : (guest new : Guest) (first count bits : ℕ) (protect : Bool) → guest.space.object.enabled ≡ true → ltb 0 (changing guest.space.object) ≡ false → 0 < count → LOW_PAGE ≤ first → first + count ≤ HIGH_PAGE →
    ((q : ℕ) → in_range first count q ≡ true → contains guest.space.object.protect q ≡ true) → ltb 2 bits ≡ false → is_one bits 0 ≡ protect → new.space ≡ protected_in guest.space first count protect →
    new.cpus ≡ woken_by (if eqb bits 0 then Range (4096 * first) (4096 * count) else Nobody) guest.cpus →
    IsWriteProtect guest new (4096 * first) (4096 * count) bits (if eqb bits 0 then Range (4096 * first) (4096 * count) else Nobody)
range_protect_made guest new first count bits protect enabled quiet some low high watched few mode leaves wakes = grind (arith, nat_tests, none_below-from, nothing_holds, range_good, left_new)

only_itself : (page q : ℕ) → in_range page 1 q ≡ true → page ≡ q
only_itself page q h = grind (arith, nat_tests)

pub write_protect_made : (guest new : Guest) (page bits : ℕ) (protect : Bool) → IsCalled guest.space page → contains guest.space.object.protect page ≡ true → ltb 2 bits ≡ false → is_one bits 0 ≡ protect → new.space ≡ protected_in guest.space page 1 protect →
    new.cpus ≡ woken_by (if eqb bits 0 then Range (4096 * page) 4096 else Nobody) guest.cpus → IsWriteProtect guest new (4096 * page) 4096 bits (if eqb bits 0 then Range (4096 * page) 4096 else Nobody)
write_protect_made guest new page bits protect is watched few mode leaves wakes =
    range_protect_made guest new page 1 bits protect is.enabled is.quiet (omega arith) is.inside.0 (let high = is.inside.1 in omega (arith, high)) (λ q h. ap (contains guest.space.object.protect) (sym (only_itself page q h)) ∙ watched) few mode leaves wakes

-- UFFDIO_WAKE

pub wake_made : (guest : Guest) (page : ℕ) → guest.space.object.enabled ≡ true → IsPage page → IsWake guest (resolved guest page guest.space) (4096 * page)
wake_made guest page enabled is = grind (arith, nat_tests)
