-- A call that puts pages of one registered area: it puts all, or stops at the first that is present.
use Rattle.std.proofs.lemmas.Bool.Decides.{nat_tests}
use Rattle.std.proofs.lemmas.Bool.{and_from, false≢true}
use Rattle.std.proofs.Common.{◌≡◌, ℕ, zero, suc, ◌+◌, ◌-◌, ◌*◌, ◌/◌, ◌%◌, ◌<◌, ◌≤◌, ◌&&◌, ◌||◌, Bool, true, false, not, cond, eqb, ltb, Option, Some, None, List, arith, refl, sym, ap, subst, ◌∙◌}
use Rattle.std.specs.Prelude.{unwrap_or}
use Rattle.std.specs.FinMap.{contains_key}
use Rattle.std.specs.FinSet.{contains}
use Rattle.mig_base.specs.declared.command.Errno.{Errno}
use Rattle.foundation.specs.Bits.{is_one}
use Rattle.foundation.specs.Ranges.{in_range, least_below}
use Rattle.foundation.specs.Tests.{same_bool}
use Rattle.mig_base.specs.Userfault.{is_registered}
use Rattle.foundation.proofs.RangeLemmas.{in_range-end, in_range-none, in_range_bounds, least_below_tells, none_below-from}
use Rattle.mig_base.proofs.SetSizes.{only_where}
use Rattle.foundation.proofs.TestLemmas.{and_first, and_second, eqb-self}
use Rattle.mig_model.specs.Ioctls.{installed, is_one_area, missing_run, put_answer, same_area, stop_error}
use Rattle.mig_model.specs.Space.{IsSoundSpace, Space}
use Rattle.mig_model.proofs.memory.Registering.{pages_again}
use Rattle.mig_model.proofs.memory.IoctlLemmas.{every_page, least_bound}
use Rattle.uffd_log.specs.declared.errno.Errno.TheVariants as number
use Rattle.uffd_log.specs.declared.line.Answer.TheVariants as answer
use Rattle.kernel_rules.specs.declared.filling.Filling.{Filling}
use Rattle.kernel_rules.specs.declared.known.Page.{Page}
use Rattle.kernel_rules.specs.declared.known.Presence.TheVariants.{Present}
use Rattle.kernel_rules.specs.declared.object.Object.{Object}
use Rattle.kernel_rules.specs.Changes.{page_with}
use Rattle.kernel_rules.specs.Faults.{sleeps_in, woken}
use Rattle.kernel_rules.specs.Ioctls.{halted_at, is_changing, is_right, may_be_put, filled_in_part, put_with, putting, refused_while_changing, stop_noted, stopped_at, with_put}
use Rattle.kernel_rules.specs.Pages.{found_there, is_missing, is_present, may_be_missing, may_be_there, may_stop, put_page}
use Rattle.kernel_rules.specs.State.{Kernel, allowed, page_is, pages_changed, with_object}
use Rattle.kernel_laws.specs.Agreement.{Agree, AgreesAt, IsPage, Takes, answer_of_put, put_answer as told}
use Rattle.kernel_laws.proofs.Kernels.{agree-woken}
use Rattle.kernel_laws.proofs.Pages.{known, least_before, page-put, same-put}
use Rattle.kernel_laws.proofs.Waiting.{unread-puts}

-- what a call has whose arguments are right, over one registered area
pub record IsCall (space : Space) (kernel : Kernel) (name : ℕ) (object : Object) (start len bits most : ℕ) : Type 0 where
  pub agree : Agree space kernel name object
  pub still : is_changing kernel name ≡ false
  pub right : is_right object start len bits most ≡ true
  pub area : is_one_area space (start / 4096) (len / 4096) ≡ true
  pub watched : is_one bits 1 ≡ true → contains space.object.protect (start / 4096) ≡ true

-- The area

same_true : (a b : Bool) → a ≡ true → same_bool a b ≡ true → b ≡ true
same_true a b h e = grind (arith, nat_tests)

in-area : (space : Space) (first count i : ℕ) → is_one_area space first count ≡ true → i < count → (is_registered space.object (first + i) && same_area space first (first + i)) ≡ true
in-area space first count i area low = every_page (λ q. is_registered space.object q && same_area space first q) first count (first + i) area (omega (arith)) (omega (arith, low))

pub registered-in : (space : Space) (first count i : ℕ) → is_one_area space first count ≡ true → i < count → is_registered space.object (first + i) ≡ true
registered-in space first count i area low = and_first (is_registered space.object (first + i)) (same_area space first (first + i)) (in-area space first count i area low)

protected-in : (space : Space) (first count i : ℕ) → is_one_area space first count ≡ true → i < count → contains space.object.protect first ≡ true → contains space.object.protect (first + i) ≡ true
protected-in space first count i area low watched =
    let same = and_second (is_registered space.object (first + i)) (same_area space first (first + i)) (in-area space first count i area low) in
    same_true (contains space.object.protect first) (contains space.object.protect (first + i)) watched (and_second _ (same_bool (contains space.object.protect first) (contains space.object.protect (first + i))) same)

-- Pages may be put where they are missing

passes : (there protect asked has : Bool) → there ≡ false → (asked ≡ true → has ≡ true) → protect ≡ has → (not there && (not asked || protect)) ≡ true
passes there protect asked has absent watched same = grind (arith, nat_tests)

may-put : (space : Space) (kernel : Kernel) (name : ℕ) (object : Object) (first count done bits : ℕ) → Agree space kernel name object → is_one_area space first count ≡ true → (is_one bits 1 ≡ true → contains space.object.protect first ≡ true) → done ≤ count →
    ((i : ℕ) → i < done → contains_key space.host.bytes (first + i) ≡ false) → may_be_put kernel object.space first done bits ≡ true
may-put space kernel name object first count done bits agree area watched few absent =
    none_below-from _ done (λ i low.
    ap not
    (known space name (first + i) (kernel.pages object.space (first + i)) (λ page. may_be_missing page && (not (is_one bits 1) || page.protect)) (agree.pages (first + i)) (registered-in space first count i area (omega (arith, low, few)))
    (λ one is.
    passes (is_present one.presence) one.protect (is_one bits 1) (contains space.object.protect (first + i))
    (only_where (is_present one.presence) (contains_key space.host.bytes (first + i)) is.present (absent i low))
    (λ asked. protected-in space first count i area (omega (arith, low, few)) (watched asked)) is.protect)))

-- The kernel once they are put

pub agree-if : (b : Bool) (space : Space) (one other : Kernel) (name : ℕ) (object : Object) → Agree space one name object → Agree space other name object → Agree space (cond b one other) name object
agree-if true space one other name object agree again = agree
agree-if false space one other name object agree again = again

absent-at : (space : Space) (first done page : ℕ) → ((i : ℕ) → i < done → contains_key space.host.bytes (first + i) ≡ false) → in_range first done page ≡ true → contains_key space.host.bytes page ≡ false
absent-at space first done page absent inside =
    let bounds = in_range_bounds first done page inside in
    let at : first + (page - first) ≡ page = omega (arith, bounds.0) in
    subst (λ q. contains_key space.host.bytes q ≡ false) at (absent (page - first) (omega (arith, bounds.0, bounds.1)))

pub agree-put : (space : Space) (kernel : Kernel) (name : ℕ) (object : Object) (first done bits : ℕ) (bytes : ℕ → List ℕ) → Agree space kernel name object → IsSoundSpace (installed space first done bytes (is_one bits 1)) →
    ((i : ℕ) → i < done → contains_key space.host.bytes (first + i) ≡ false) → Agree (installed space first done bytes (is_one bits 1)) (with_put kernel name object first done bits) name (record object { puts = true })
agree-put space kernel name object first done bits bytes agree sound absent =
    let put = with_object (pages_changed kernel object.space first done (put_page (is_one bits 1))) name (record object { puts = true }) in
    let new = installed space first done bytes (is_one bits 1) in
    let at = λ (page : ℕ). ap (λ e. e && in_range first done page) (eqb-self object.space) in
    let agrees : Agree new put name (record object { puts = true }) =
    record {
      sound = sound;
      named = ap (λ b. cond b (Some (record object { puts = true })) (kernel.objects name)) (eqb-self name);
      features = agree.features;
      unread = unread-puts kernel.faults name object space.object.faults agree.unread;
      pages = λ page.
          page-put space first done name page bytes (is_one bits 1) (eqb object.space object.space && in_range first done page) (kernel.pages object.space page) agree.sound (sym (at page))
          (λ inside. absent-at space first done page absent (sym (at page) ∙ inside)) (agree.pages page);
      untold = agree.untold;
      alone = agree.alone;
      ranged = agree.ranged;
    } in
    agree-if (is_one bits 0) new put (woken put (sleeps_in name first done) true) name (record object { puts = true }) agrees (agree-woken first done true new put name (record object { puts = true }) agrees)

-- A call that stops

shown-page : (space : Space) (name page : ℕ) (how : Filling) (b : Bool) (found : Option Page) → (b ≡ true → contains_key space.host.bytes page ≡ true) → AgreesAt space name page found → AgreesAt space name page (cond b (page_with (found_there how.cached how.marked) found) found)
shown-page space name page how false found there agrees = agrees
shown-page space name page how true None there agrees = agrees
shown-page space name page how true (Some one) there agrees =
    subst (IsPage space name page) (sym (ap (λ b. cond (b || elsewhere) one (record one { presence = Present })) agrees.whole)) (by elsewhere)
  where
    elsewhere : Bool
    elsewhere = may_stop how.cached how.marked one

    by : (b : Bool) → IsPage space name page (cond b one (record one { presence = Present }))
    by true = agrees
    by false =
        record { object = agrees.object; missing = agrees.missing; protect = agrees.protect; registered = agrees.registered; absent = λ missing. absurd (false≢true missing); present = λ seen. there refl; whole = refl; plain = agrees.plain; guarded = agrees.guarded }

agree-stop : (put : Bool) (key : ℕ) (space : Space) (kernel : Kernel) (name : ℕ) (object : Object) → Agree space kernel name object → Agree space (stop_noted kernel put key) name object
agree-stop true key space kernel name object agree =
    record { sound = agree.sound; named = agree.named; features = agree.features; pages = agree.pages; unread = agree.unread; untold = agree.untold; alone = agree.alone; ranged = agree.ranged }
agree-stop false key space kernel name object agree =
    record { sound = agree.sound; named = agree.named; features = agree.features; pages = agree.pages; unread = agree.unread; untold = agree.untold; alone = agree.alone; ranged = agree.ranged }

one_page : (s page q : ℕ) → (eqb s s && in_range page 1 q) ≡ true → page ≡ q
one_page s page q h = grind (arith, nat_tests)

agree-shown : (space : Space) (kernel : Kernel) (name : ℕ) (object : Object) (page : ℕ) (how : Filling) → Agree space kernel name object → contains_key space.host.bytes page ≡ true → Agree space (pages_changed kernel object.space page 1 (found_there how.cached how.marked)) name object
agree-shown space kernel name object page how agree there =
    record {
      sound = agree.sound;
      named = agree.named;
      features = agree.features;
      unread = agree.unread;
      pages = λ q.
          shown-page space name q how (eqb object.space object.space && in_range page 1 q) (kernel.pages object.space q)
          (λ inside. subst (λ at. contains_key space.host.bytes at ≡ true) (one_page object.space page q inside) there) (agree.pages q);
      untold = agree.untold;
      alone = agree.alone;
      ranged = agree.ranged;
    }

may-be-there : (absent missing has : Bool) → (absent ≡ true → has ≡ false) → has ≡ true → (not absent || not missing) ≡ true
may-be-there absent missing has tells there = grind (arith, nat_tests)

pub stopped : (space : Space) (kernel : Kernel) (key name : ℕ) (object : Object) (page : ℕ) (how : Filling) (found : Option Page) → Agree space kernel name object → is_registered space.object page ≡ true → contains_key space.host.bytes page ≡ true → kernel.pages object.space page ≡ found →
    Takes (stopped_at kernel key object.space page how) space name
stopped space kernel key name object page how None agree registered there is =
    absurd (false≢true (sym (subst (AgreesAt space name page) is (agree.pages page)) ∙ registered))
stopped space kernel key name object page how (Some one) agree registered there is =
    let agrees : IsPage space name page one = subst (AgreesAt space name page) is (agree.pages page) in
    let put = one.put && may_be_there one in
    let new = pages_changed (stop_noted kernel put key) object.space page 1 (found_there how.cached how.marked) in
    let may : may_be_there one ≡ true = may-be-there (is_missing one.presence) one.missing (contains_key space.host.bytes page) agrees.absent there in
    record {
      kernel = new;
      object = object;
      taken = rw (is, may) refl;
      agree = agree-shown space (stop_noted kernel put key) name object page how (agree-stop put key space kernel name object agree) there;
    }

pub halted : (space : Space) (kernel : Kernel) (key name : ℕ) (object : Object) (page : ℕ) (how : Filling) (b : Bool) → Agree space kernel name object → is_registered space.object page ≡ true → contains_key space.host.bytes page ≡ true → page_is (λ p. is_present p.presence) (kernel.pages object.space page) ≡ b →
    Takes (cond b (stopped_at kernel key object.space page how) (allowed (page_is (λ p. true) (kernel.pages object.space page)) kernel)) space name
halted space kernel key name object page how true agree registered there is = stopped space kernel key name object page how (kernel.pages object.space page) agree registered there refl
halted space kernel key name object page how false agree registered there is =
    record {
      kernel = kernel;
      object = object;
      taken = ap (λ b. allowed b kernel) (known space name page (kernel.pages object.space page) (λ p. true) (agree.pages page) registered (λ one is. refl));
      agree = agree;
    }

-- All three ends

full : (len count : ℕ) → len / 4096 ≡ count → (start bits most : ℕ) (object : Object) → is_right object start len bits most ≡ true → eqb (4096 * count) len ≡ true
full len count is start bits most object right = grind (arith, nat_tests)

part : (len done : ℕ) → done < len / 4096 → 0 < done → (ltb 0 (4096 * done) && ltb (4096 * done) len && eqb (4096 * done % 4096) 0) ≡ true
part len done few some = grind (arith, nat_tests)

below_other : (n m : ℕ) → n < m → eqb n m ≡ false
below_other n m low = grind (arith, nat_tests)

all_four : (a b c d : Bool) → a ≡ true → b ≡ true → c ≡ false → d ≡ true → (a && b && not c && d) ≡ true
all_four a b c d ha hb hc hd = grind (arith, nat_tests)

-- the call puts all its pages
ends-all : (space : Space) (kernel : Kernel) (key name : ℕ) (object : Object) (start len bits most : ℕ) (bytes : ℕ → List ℕ) → IsCall space kernel name object start len bits most → IsSoundSpace (installed space (start / 4096) (len / 4096) bytes (is_one bits 1)) →
    ((i : ℕ) → i < len / 4096 → contains_key space.host.bytes (start / 4096 + i) ≡ false) → Takes (put_with kernel key name object start len bits most (answer.Value (4096 * (len / 4096)))) (installed space (start / 4096) (len / 4096) bytes (is_one bits 1)) name
ends-all space kernel key name object start len bits most bytes call sound absent =
    let first = start / 4096 in
    let count = len / 4096 in
    let new = with_put kernel name object first count bits in
    let may = may-put space kernel name object first count count bits call.agree call.area call.watched (omega (arith)) absent in
    record {
      kernel = new;
      object = record object { puts = true };
      taken = ap (λ b. allowed b new)
          (all_four (eqb (4096 * count) len) (is_right object start len bits most) (is_changing kernel name) (may_be_put kernel object.space first count bits) (full len count refl start bits most object call.right) call.right call.still may);
      agree = agree-put space kernel name object first count bits bytes call.agree sound absent;
    }

-- nothing is put
agree-none : (space : Space) (kernel : Kernel) (name : ℕ) (object : Object) (first : ℕ) (bytes : ℕ → List ℕ) (protect : Bool) → Agree space kernel name object → IsSoundSpace (installed space first 0 bytes protect) → Agree (installed space first 0 bytes protect) kernel name object
agree-none space kernel name object first bytes protect agree sound =
    record {
      sound = sound;
      named = agree.named;
      features = agree.features;
      unread = agree.unread;
      pages = λ page. page-put space first 0 name page bytes protect false (kernel.pages object.space page) agree.sound (in_range-none first page) (λ inside. absurd (false≢true inside)) (agree.pages page);
      untold = agree.untold;
      alone = agree.alone;
      ranged = agree.ranged;
    }

-- the first page is present
ends-first : (space : Space) (kernel : Kernel) (key name : ℕ) (object : Object) (start len bits most : ℕ) (bytes : ℕ → List ℕ) → IsCall space kernel name object start len bits most → IsSoundSpace (installed space (start / 4096) 0 bytes (is_one bits 1)) → 0 < len / 4096 →
    contains_key space.host.bytes (start / 4096 + 0) ≡ true → Takes (put_with kernel key name object start len bits most (answer.Failed number.Eexist None)) (installed space (start / 4096) 0 bytes (is_one bits 1)) name
ends-first space kernel key name object start len bits most bytes call sound some there =
    let first = start / 4096 in
    let new = installed space first 0 bytes (is_one bits 1) in
    let at : first + 0 ≡ first = omega (arith) in
    let registered = subst (λ page. is_registered space.object page ≡ true) at (registered-in space first (len / 4096) 0 call.area some) in
    let here = same-put space first 0 first bytes (is_one bits 1) (in_range-none first first) ∙ subst (λ page. contains_key space.host.bytes page ≡ true) at there in
    subst (λ rule. Takes rule new name) (sym (ap (λ b. cond b (stopped_at kernel key object.space first (putting bits most true)) None) call.right))
    (stopped new kernel key name object first (putting bits most true) (kernel.pages object.space first) (agree-none space kernel name object first bytes (is_one bits 1) call.agree sound) registered here refl)

-- a later page is
ends-later : (space : Space) (kernel : Kernel) (key name : ℕ) (object : Object) (start len bits most done : ℕ) (bytes : ℕ → List ℕ) → IsCall space kernel name object start len bits most → IsSoundSpace (installed space (start / 4096) done bytes (is_one bits 1)) → done < len / 4096 → 0 < done →
    ((i : ℕ) → i < done → contains_key space.host.bytes (start / 4096 + i) ≡ false) → contains_key space.host.bytes (start / 4096 + done) ≡ true →
    Takes (put_with kernel key name object start len bits most (answer.Failed number.Eagain (Some (4096 * done)))) (installed space (start / 4096) done bytes (is_one bits 1)) name
ends-later space kernel key name object start len bits most done bytes call sound few some absent there =
    let first = start / 4096 in
    let page = first + done in
    let new = installed space first done bytes (is_one bits 1) in
    let put = with_put kernel name object first done bits in
    let after : Object = record object { puts = true } in
    let may = may-put space kernel name object first (len / 4096) done bits call.agree call.area call.watched (omega (arith, few)) absent in
    let here = same-put space first done page bytes (is_one bits 1) (in_range-end first done) ∙ there in
    let halt = halted new put key name after page (putting bits most true) (page_is (λ p. is_present p.presence) (put.pages after.space page)) (agree-put space kernel name object first done bits bytes call.agree sound absent) (registered-in space first (len / 4096) done call.area few) here refl in
    let parts = and_from (ltb 0 (4096 * done) && ltb (4096 * done) len && eqb (4096 * done % 4096) 0) (is_right object start len bits most) (part len done few some) call.right in
    subst (λ rule. Takes rule new name)
    (sym
    (ap (λ b. cond b (filled_in_part kernel key name object first (4096 * done / 4096) (putting bits most true)) (refused_while_changing kernel name)) parts
    ∙ ap (λ n. filled_in_part kernel key name object first n (putting bits most true)) (pages_again done)
    ∙ ap (λ b. cond b (halted_at put key object.space page (putting bits most true)) None) may)) halt

-- by the first page that is present
stops : (space : Space) (kernel : Kernel) (key name : ℕ) (object : Object) (start len bits most : ℕ) (bytes : ℕ → List ℕ) (o : Option ℕ) → IsCall space kernel name object start len bits most →
    IsSoundSpace (installed space (start / 4096) (unwrap_or o (len / 4096)) bytes (is_one bits 1)) → least_below (λ i. contains_key space.host.bytes (start / 4096 + i)) (len / 4096) ≡ o →
    Takes (put_with kernel key name object start len bits most (answer_of_put (put_answer start (len / 4096) (unwrap_or o (len / 4096)) bits Errno.Eexist))) (installed space (start / 4096) (unwrap_or o (len / 4096)) bytes (is_one bits 1)) name
stops space kernel key name object start len bits most bytes None call sound is =
    let test = λ (i : ℕ). contains_key space.host.bytes (start / 4096 + i) in
    let count = len / 4096 in
    subst (λ fault. Takes (put_with kernel key name object start len bits most (told fault (4096 * count))) (installed space (start / 4096) count bytes (is_one bits 1)) name)
    (sym (ap (λ b. cond b None (Some (stop_error count Errno.Eexist))) (eqb-self count)))
    (ends-all space kernel key name object start len bits most bytes call sound (λ i low. least_before test count i (subst (λ o. i < unwrap_or o count) (sym is) low)))
stops space kernel key name object start len bits most bytes (Some zero) call sound is =
    let test = λ (i : ℕ). contains_key space.host.bytes (start / 4096 + i) in
    let count = len / 4096 in
    let some = least_bound test count 0 is in
    subst (λ fault. Takes (put_with kernel key name object start len bits most (told fault 0)) (installed space (start / 4096) 0 bytes (is_one bits 1)) name)
    (sym (ap (λ b. cond b None (Some Errno.Eexist)) (below_other 0 count some)))
    (ends-first space kernel key name object start len bits most bytes call sound some (least_below_tells test count 0 is))
stops space kernel key name object start len bits most bytes (Some (suc more)) call sound is =
    let test = λ (i : ℕ). contains_key space.host.bytes (start / 4096 + i) in
    let count = len / 4096 in
    let few = least_bound test count (suc more) is in
    subst (λ fault. Takes (put_with kernel key name object start len bits most (told fault (4096 * suc more))) (installed space (start / 4096) (suc more) bytes (is_one bits 1)) name)
    (sym (ap (λ b. cond b None (Some Errno.Eagain)) (below_other (suc more) count few)))
    (ends-later space kernel key name object start len bits most (suc more) bytes call sound few (omega (arith)) (λ i low. least_before test count i (subst (λ o. i < unwrap_or o count) (sym is) low)) (least_below_tells test count (suc more) is))

pub put-taken : (space : Space) (kernel : Kernel) (key name : ℕ) (object : Object) (start len bits most : ℕ) (bytes : ℕ → List ℕ) → IsCall space kernel name object start len bits most →
    IsSoundSpace (installed space (start / 4096) (missing_run space (start / 4096) (len / 4096)) bytes (is_one bits 1)) →
    Takes (put_with kernel key name object start len bits most (answer_of_put (put_answer start (len / 4096) (missing_run space (start / 4096) (len / 4096)) bits Errno.Eexist)))
    (installed space (start / 4096) (missing_run space (start / 4096) (len / 4096)) bytes (is_one bits 1)) name
put-taken space kernel key name object start len bits most bytes call sound = stops space kernel key name object start len bits most bytes (least_below (λ i. contains_key space.host.bytes (start / 4096 + i)) (len / 4096)) call sound refl
