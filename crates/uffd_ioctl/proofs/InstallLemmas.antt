-- Pages that are put over a range.
use Rattle.std.proofs.Common.{◌≡◌, ℕ, zero, suc, ◌+◌, ◌-◌, ◌*◌, ◌/◌, ◌<◌, ◌≤◌, ◌&&◌, ◌||◌, ◌↔◌, ◌⊎◌, inl, inr, ⊎_elim, Bool, true, false, cond, not, eqb, ltb, Option, Some, None, IfSome, IfNone, Result, List, [], length, refl, sym, ap, subst, ◌∙◌, arith, is_some, unwrap_or, take, drop, below_more, add-one}
use Rattle.std.specs.Ordering.{nat_cmp}
use Rattle.std.specs.FinMap.{FinMap, get, insert, contains_key}
use Rattle.std.specs.FinSet as set
use Rattle.std.specs.FinSet.{FinSet, contains}
use Rattle.std.proofs.lemmas.Bool.Decides.{nat_tests}
use Rattle.std.proofs.lemmas.Bool.{false≢true, eq-eqb, eqb-true, not-false, false_from_ne_true, and_parts}
use Rattle.mig_base.specs.declared.TheConstants.{HIGH_PAGE, LOW_PAGE}
use Rattle.mig_base.specs.declared.Prot.{Prot}
use Rattle.mig_base.specs.declared.command.Errno.{Errno}
use Rattle.mig_base.specs.declared.command.Errno.TheVariants.{Eagain, Eexist}
use Rattle.foundation.specs.Bits.{is_one}
use Rattle.mig_base.specs.Codes.{prot_number, prot_numbered, prot_numbered-prot_number}
use Rattle.mig_base.specs.Bytes.{zero_page}
use Rattle.foundation.specs.Ranges.{in_range, least_below}
use Rattle.mig_base.proofs.ByteLemmas.{length-zero_page}
use Rattle.mig_base.proofs.SetLemmas.{member_inserted}
use Rattle.foundation.proofs.RangeLemmas.{none_below-from, none_below-not, least_below-is, least_below-none, least_below_tells, in_range-end}
use Rattle.mig_model.specs.Bounds.{IsPage}
use Rattle.mig_base.specs.Userfault.{Object, changing, is_registered}
use Rattle.mig_model.specs.Space.{Space, IsSoundSpace}
use Rattle.mig_model.specs.Ioctls.{put_pages, handed, installed, is_bad_range, is_one_area, same_area, same_protection, missing_run, copied, copy_errors, copy_error, zeropage_errors, zeropage_error, stop_error, wakes, put_answer, answer_put, left_by}
use Rattle.foundation.specs.Tests.{same_bool, is_every}
use Rattle.foundation.proofs.TestLemmas.{eqb-self}
use Rattle.mig_model.proofs.memory.IoctlLemmas.{CanPut, IsSoundSpace-installed, IsSoundSpace-copied, get-put_pages, every_page, none_holds, protect_told, can_put, length-handed}
use Rattle.mig_model.proofs.memory.PageCalls.{IsCalled, copy_accepted, copy_made}
use Rattle.mig_model.proofs.memory.Registering.{pages_again}
use Rattle.page_table.specs.Views.{Pages}
use Rattle.page_table.specs.declared.page_table.PutFault.{PutFault}
use Rattle.page_table.specs.declared.page_table.PutFault.TheVariants as stop
use Rattle.area_map.specs.Ranges.{HasOneProt}
use Rattle.userfault.specs.Modes.{has_mode_of}
use Rattle.userfault.proofs.EveryLemmas.{every_both}
use Rattle.userfault.proofs.ModeLemmas.{is_pages_where}
use Rattle.uffd_ioctl.specs.declared.fault.IoctlFault.TheVariants as fault
use Rattle.uffd_ioctl.specs.declared.fault.Copied.{Copied}
use Rattle.uffd_ioctl.specs.declared.fault.CopyFault.{CopyFault}
use Rattle.uffd_ioctl.specs.Puts.{IsPut, IsShort, put_result, result_by, result_of, ioctl_fault_of, stop_fault, own_fault, pages_put}
use Rattle.uffd_ioctl.specs.Spaces.{machine_space}
use Rattle.uffd_ioctl.proofs.AnswerLemmas.{get-put_same}
use Rattle.uffd_ioctl.proofs.CallLemmas.{protected_below}

-- One page

one_here : (page q : ℕ) (old : Bool) → (eqb q page || old) ≡ (old || (true && in_range page 1 q))
one_here page q old = grind (arith, nat_tests)

pub protected_one : (old now new : FinSet nat_cmp) (page : ℕ) (protect : Bool) → now ≡ old → new ≡ set.insert now page → protect ≡ true → (q : ℕ) → contains new q ≡ (contains old q || (protect && in_range page 1 q))
protected_one old now new page protect same put asked q =
    ap (λ s. contains s q) put
    ∙ member_inserted now page q
    ∙ one_here page q (contains now q)
    ∙ ap (λ s. contains s q || (true && in_range page 1 q)) same
    ∙ ap (λ b. contains old q || (b && in_range page 1 q)) (sym asked)

-- The pages of a range up to one of them

-- the first `done` pages of the range were missing, and are put
pub record ArePut (pages now : FinMap nat_cmp (List ℕ)) (first count done : ℕ) (bytes : ℕ → List ℕ) : Type 0 where
  pub few : done ≤ count
  pub missing : (i : ℕ) → i < done → contains_key pages (first + i) ≡ false
  pub put : now ≡ put_pages pages first done bytes

pub none_put : (pages : FinMap nat_cmp (List ℕ)) (first count : ℕ) (bytes : ℕ → List ℕ) → ArePut pages pages first count 0 bytes
unfolding put_pages
none_put pages first count bytes = record { few = omega arith; missing = λ i l. absurd (omega arith); put = refl }

-- the next page is as it was
next_page : (pages now : FinMap nat_cmp (List ℕ)) (first count : ℕ) (bytes : ℕ → List ℕ) → now ≡ put_pages pages first count bytes → contains_key now (first + count) ≡ contains_key pages (first + count)
next_page pages now first count bytes put =
    ap (λ m. contains_key m (first + count)) put
    ∙ ap is_some (get-put_pages pages first count (first + count) bytes)
    ∙ ap (λ b. is_some (cond b (Some (bytes (first + count - first))) (get pages (first + count)))) (in_range-end first count)

put_next : (pages now new : FinMap nat_cmp (List ℕ)) (first done : ℕ) (bytes : ℕ → List ℕ) (held : List ℕ) → now ≡ put_pages pages first done bytes → new ≡ insert now (first + done) held → held ≡ bytes done → new ≡ put_pages pages first (done + 1) bytes
unfolding put_pages
put_next pages now new first done bytes held before put same =
    put
    ∙ ap (λ m. insert m (first + done) held) before
    ∙ ap (λ b. insert (put_pages pages first done bytes) (first + done) b) same
    ∙ ap (λ n. put_pages pages first n bytes) (sym (add-one done))

pub one_more_put : (pages now new : FinMap nat_cmp (List ℕ)) (first count done : ℕ) (bytes : ℕ → List ℕ) (held : List ℕ) → ArePut pages now first count done bytes → done < count → contains_key now (first + done) ≡ false → new ≡ insert now (first + done) held → held ≡ bytes done → ArePut pages new first count (done + 1) bytes
one_more_put pages now new first count done bytes held before room free put same = record {
  few = omega arith;
  missing = below_more (λ i. contains_key pages (first + i) ≡ false) done before.missing (sym (next_page pages now first done bytes before.put) ∙ free);
  put = put_next pages now new first done bytes held before.put put same;
}

pub all_put : (pages now : FinMap nat_cmp (List ℕ)) (first count done : ℕ) (bytes : ℕ → List ℕ) → ArePut pages now first count done bytes → count ≤ done → IsPut pages first count done None
all_put pages now first count done bytes put end = let few = put.few in record { few = few; missing = put.missing; stops = omega arith }

pub some_put : (pages now : FinMap nat_cmp (List ℕ)) (first count done : ℕ) (bytes : ℕ → List ℕ) (fault : PutFault) → ArePut pages now first count done bytes → done < count → ((fault ≡ stop.Present) ↔ (contains_key now (first + done) ≡ true)) → IsPut pages first count done (Some fault)
some_put pages now first count done bytes stop.Present put room why = record {
  few = put.few;
  missing = put.missing;
  stops = (room, sym (next_page pages now first done bytes put.put) ∙ why.0 refl);
}
some_put pages now first count done bytes stop.NoMemory put room why = record {
  few = put.few;
  missing = put.missing;
  stops = (room, false_from_ne_true (contains_key pages (first + done)) (λ e. let wrong = why.1 (next_page pages now first done bytes put.put ∙ e) in absurd (cc)));
}

-- the bytes of a page, as the code takes them
pub is_handed : (bytes : List ℕ) (done : ℕ) → take (done * 4096 + 4096 - done * 4096) (drop (done * 4096) bytes) ≡ handed bytes done
is_handed bytes done =
    let size : done * 4096 + 4096 - done * 4096 ≡ 4096 = omega arith in
    let from : done * 4096 ≡ 4096 * done = omega arith in
    ap (λ n. take n (drop (done * 4096) bytes)) size ∙ ap (λ n. take 4096 (drop n bytes)) from

-- The protection of these pages

pub protected_none : (first q : ℕ) (old protect : Bool) → old ≡ (old || (protect && in_range first 0 q))
protected_none first q old protect = grind (arith, nat_tests)

pub protected_more : (first done q : ℕ) (old protect now new : Bool) → now ≡ (old || (protect && in_range first done q)) → new ≡ (now || (protect && in_range (first + done) 1 q)) → new ≡ (old || (protect && in_range first (done + 1) q))
protected_more first done q old protect now new before more = grind (arith, nat_tests)

-- One protection and one mode

same_number : (a b : Prot) → eqb (prot_number a) (prot_number b) ≡ true → b ≡ a
same_number a b h = sym (prot_numbered-prot_number b) ∙ ap prot_numbered (sym (eqb-true (prot_number a) (prot_number b) h)) ∙ prot_numbered-prot_number a

same_tells : (a b : Option Prot) → same_protection a b ≡ true → b ≡ a
same_tells (Some a) (Some b) h = ap Some (same_number a b h)
same_tells (Some a) None h = absurd (false≢true h)
same_tells None b h = absurd (false≢true h)

prot_there : (a : Option Prot) → same_protection a a ≡ true → (prot : Prot) × (a ≡ Some prot)
prot_there (Some prot) h = (prot, refl)
prot_there None h = absurd (false≢true h)

both_have : (a b : Option Prot) (prot : Prot) → a ≡ Some prot → b ≡ Some prot → same_protection a b ≡ true
both_have a b prot p q = ap (λ o. same_protection o b) p ∙ ap (same_protection (Some prot)) q ∙ eqb-self (prot_number prot)

-- what a search for one protection tells
pub every_prot : (prots : ℕ → Option Prot) (first count : ℕ) (found : Option Prot) → 0 < count → IfSome found (HasOneProt prots first count) → IfNone found ((prot : Prot) → HasOneProt prots first count prot → ⊥) → is_some found ≡ is_every (λ page. same_protection (prots first) (prots page)) first count
every_prot prots first count (Some prot) some has none =
    sym (none_below-from (λ i. not (same_protection (prots first) (prots (first + i)))) count
    (λ i l. ap not (both_have (prots first) (prots (first + i)) prot (has first (omega arith) (omega arith)) (has (first + i) (omega arith) (omega arith)))))
every_prot prots first count None some has none =
    sym (false_from_ne_true (is_every (λ page. same_protection (prots first) (prots page)) first count) (λ e.
    let one = prot_there (prots first) (every_page (λ page. same_protection (prots first) (prots page)) first count first e (omega arith) (omega arith)) in
    none one.0 (λ page a b. same_tells (prots first) (prots page) (every_page (λ q. same_protection (prots first) (prots q)) first count page e a b) ∙ one.1)))

-- each page passes as the first does
every_alike : (test : ℕ → Bool) (here : Bool) (first count : ℕ) → 0 < count → ((page : ℕ) → first ≤ page → page < first + count → test page ≡ here) → is_every test first count ≡ here
every_alike test true first count some h = none_below-from (λ i. not (test (first + i))) count (λ i l. ap not (h (first + i) (omega arith) (omega arith)))
every_alike test false first count some h = none_below-not (λ i. not (test (first + i))) count 0 some (ap not (h (first + 0) (omega arith) (omega arith)))

same_value : (a b : Bool) → same_bool a b ≡ true → b ≡ a
same_value true b h = h
same_value false true h = sym h
same_value false false h = refl

-- where the pages have one mode, they are all registered where the first is
all_registered : (object : Object) (first count : ℕ) → 0 < count → is_every (has_mode_of object first) first count ≡ true → is_every (is_registered object) first count ≡ is_registered object first
all_registered object first count some h =
    every_alike (is_registered object) (is_registered object first) first count some (λ page a b.
    let one = and_parts (same_bool (contains object.missing first) (contains object.missing page)) (same_bool (contains object.protect first) (contains object.protect page)) (every_page (has_mode_of object first) first count page h a b) in
    ap (λ m. m || contains object.protect page) (same_value (contains object.missing first) (contains object.missing page) one.0)
    ∙ ap (λ p. contains object.missing first || p) (same_value (contains object.protect first) (contains object.protect page) one.1))

area_tests : (here all prot missing protect : Bool) → ((missing && protect) ≡ true → all ≡ here) → ((here && (missing && protect)) && prot) ≡ (all && ((prot && missing) && protect))
area_tests here all prot missing protect h = grind (arith, nat_tests)

-- the three tests of a range
pub one_area_is : (space : Space) (first count : ℕ) → 0 < count → ((is_registered space.object first && is_every (has_mode_of space.object first) first count) && is_every (λ page. same_protection (get space.host.areas first) (get space.host.areas page)) first count) ≡ is_one_area space first count
one_area_is space first count some =
    let object = space.object in
    let prot = λ (page : ℕ). same_protection (get space.host.areas first) (get space.host.areas page) in
    let missing = λ (page : ℕ). same_bool (contains object.missing first) (contains object.missing page) in
    let protect = λ (page : ℕ). same_bool (contains object.protect first) (contains object.protect page) in
    let modes : is_every (has_mode_of object first) first count ≡ (is_every missing first count && is_every protect first count) = every_both missing protect first count in
    ap (λ m. (is_registered object first && m) && is_every prot first count) modes
    ∙ area_tests (is_registered object first) (is_every (is_registered object) first count) (is_every prot first count) (is_every missing first count) (is_every protect first count)
    (λ e. all_registered object first count some (modes ∙ e))
    ∙ ap (λ b. is_every (is_registered object) first count && (b && is_every protect first count)) (sym (every_both prot missing first count))
    ∙ ap (λ b. is_every (is_registered object) first count && b) (sym (every_both (λ page. prot page && missing page) protect first count))
    ∙ sym (every_both (is_registered object) (λ page. (prot page && missing page) && protect page) first count)

-- what the tests of the code say of such a range: its first page is registered, all have its mode, and all one protection
pub one_area_found : (space : Space) (first count : ℕ) (watched value some : Bool) → 0 < count → watched ≡ is_registered space.object first → value ≡ (watched && is_every (has_mode_of space.object first) first count) → value ≡ true → some ≡ is_every (λ page. same_protection (get space.host.areas first) (get space.host.areas page)) first count → some ≡ is_one_area space first count
one_area_found space first count watched value some enough here modes found prots =
    let prot = is_every (λ page. same_protection (get space.host.areas first) (get space.host.areas page)) first count in
    prots
    ∙ ap (λ b. b && prot) (sym found)
    ∙ ap (λ b. b && prot) modes
    ∙ ap (λ b. (b && is_every (has_mode_of space.object first) first count) && prot) here
    ∙ one_area_is space first count enough

pub one_area_not : (space : Space) (first count : ℕ) (watched value : Bool) → 0 < count → watched ≡ is_registered space.object first → value ≡ (watched && is_every (has_mode_of space.object first) first count) → value ≡ false → value ≡ is_one_area space first count
one_area_not space first count watched value enough here modes found =
    let prot = is_every (λ page. same_protection (get space.host.areas first) (get space.host.areas page)) first count in
    found
    ∙ ap (λ b. b && prot) (sym found)
    ∙ ap (λ b. b && prot) modes
    ∙ ap (λ b. (b && is_every (has_mode_of space.object first) first count) && prot) here
    ∙ one_area_is space first count enough

-- The space once pages are put

new_below : (first done page : ℕ) (old protect : Bool) → first + done ≤ HIGH_PAGE → HIGH_PAGE ≤ page → old ≡ false → (old || (protect && in_range first done page)) ≡ false
new_below first done page old protect inside past none = grind (arith, nat_tests)

-- the code changes the pages as the machine does
pub is_installed : (areas : FinMap nat_cmp Prot) (old new : Pages) (object : Object) (first done : ℕ) (bytes : ℕ → List ℕ) (protect : Bool) → IsSoundSpace (machine_space areas old object) → first + done ≤ HIGH_PAGE → new.bytes ≡ put_pages old.bytes first done bytes → ((q : ℕ) → contains new.protected q ≡ (contains old.protected q || (protect && in_range first done q))) → machine_space areas new object ≡ installed (machine_space areas old object) first done bytes protect
is_installed areas old new object first done bytes protect sound inside put protected =
    ap (λ b. machine_space areas (record { bytes = b; protected = new.protected }) object) put
    ∙ ap (λ p. machine_space areas (record { bytes = put_pages old.bytes first done bytes; protected = p }) object)
    (is_pages_where new.protected (λ q. contains old.protected q || (protect && in_range first done q)) protected
    (λ q past. new_below first done q (contains old.protected q) protect inside past (protected_below (machine_space areas old object) sound q past)))

none_added : (old here : Bool) → old ≡ (old || (false && here))
none_added true here = refl
none_added false here = refl

pub same_protected : (old new : FinSet nat_cmp) (first done q : ℕ) → new ≡ old → contains new q ≡ (contains old q || (false && in_range first done q))
same_protected old new first done q same = ap (λ s. contains s q) same ∙ none_added (contains old q) (in_range first done q)

fewer_put : (space : Space) (first count done : ℕ) (bytes : ℕ → List ℕ) (protect : Bool) → done ≤ count → CanPut space first count bytes protect → CanPut space first done bytes protect
fewer_put space first count done bytes protect few can = record {
  mapped = λ page h. can.mapped page (longer page h);
  whole = λ i l. can.whole i (omega arith);
  watched = λ e page h. can.watched e page (longer page h);
}
  where
    longer : (page : ℕ) → in_range first done page ≡ true → in_range first count page ≡ true
    longer page h = grind (arith, nat_tests)

-- How many pages are put

no_run : (o : Option ℕ) (count : ℕ) → o ≡ None → unwrap_or o count ≡ count
no_run o count h = ap (λ p. unwrap_or p count) h

run_above : (o : Option ℕ) (count done : ℕ) → done < count → ((k : ℕ) → o ≡ Some k → done < k) → done < unwrap_or o count
run_above None count done room h = room
run_above (Some k) count done room h = h k refl

above_or : (done k : ℕ) → (done < k) ⊎ (k < done + 1)
above_or done k = grind (arith, nat_tests)

-- all pages before the first that is present were put, or, if memory ran out, fewer
pub record IsRun (run done : ℕ) (why : Option PutFault) : Type 0 where
  pub few : done ≤ run
  pub all : (why ≡ Some stop.NoMemory → ⊥) → run ≡ done
  pub short : why ≡ Some stop.NoMemory → done < run

pub run_is : (space : Space) (first count done : ℕ) (why : Option PutFault) → IsPut space.host.bytes first count done why → IsRun (missing_run space first count) done why
run_is space first count done None put =
    let all : done ≡ count = put.stops in
    let is : missing_run space first count ≡ count = no_run _ count (least_below-none (λ i. contains_key space.host.bytes (first + i)) count (λ i l. put.missing i (omega arith))) in
    record { few = omega arith; all = λ h. is ∙ sym all; short = λ h. absurd (cc) }
run_is space first count done (Some stop.Present) put =
    let is : missing_run space first count ≡ done = ap (λ o. unwrap_or o count) (least_below-is (λ i. contains_key space.host.bytes (first + i)) count done put.stops.0 put.stops.1 put.missing) in
    record { few = omega arith; all = λ h. is; short = λ h. absurd (cc) }
run_is space first count done (Some stop.NoMemory) put =
    let test = λ (i : ℕ). contains_key space.host.bytes (first + i) in
    let less : done < missing_run space first count = run_above (least_below test count) count done put.stops.0 (λ k e.
    ⊎_elim
    (λ (l : done < k). l)
    (λ (l : k < done + 1). absurd (false≢true (sym (below_more (λ i. test i ≡ false) done put.missing put.stops.1 k l) ∙ least_below_tells test count k e)))
    (above_or done k)) in
    record { few = omega arith; all = λ h. absurd (h refl); short = λ h. less }

-- What is answered

other_count : (a b : ℕ) → a < b → eqb a b ≡ false
other_count a b h = grind (arith, nat_tests)

not_zero : (n : ℕ) → eqb (suc n) 0 ≡ false
not_zero n = grind (arith, nat_tests)

stopped_by : (done : ℕ) → stop_fault done (Some stop.Present) ≡ ioctl_fault_of (Some (stop_error done Eexist))
stopped_by zero = refl
stopped_by (suc done) = ap (λ b. Some (cond b (own_fault stop.Present) (fault.Errno Eagain))) (not_zero done)

answer_of : (start count done bits : ℕ) (why : Option PutFault) → stop_fault done why ≡ ioctl_fault_of (cond (eqb done count) None (Some (stop_error done Eexist))) → put_result start done (is_one bits 0) why ≡ result_of (put_answer start count done bits Eexist)
answer_of start count done bits why h = ap (λ f. result_by (4096 * done) (wakes start done bits) f) h

-- where memory was found
row_answer : (bytes : FinMap nat_cmp (List ℕ)) (first start count done bits : ℕ) (why : Option PutFault) → IsPut bytes first count done why → (why ≡ Some stop.NoMemory → ⊥) → put_result start done (is_one bits 0) why ≡ result_of (put_answer start count done bits Eexist)
row_answer bytes first start count done bits None put h =
    answer_of start count done bits None (ap (λ b. ioctl_fault_of (cond b None (Some (stop_error done Eexist)))) (sym (eq-eqb done count put.stops)))
row_answer bytes first start count done bits (Some stop.Present) put h =
    answer_of start count done bits (Some stop.Present) (stopped_by done ∙ ap (λ b. ioctl_fault_of (cond b None (Some (stop_error done Eexist)))) (sym (other_count done count put.stops.0)))
row_answer bytes first start count done bits (Some stop.NoMemory) put h = absurd (h refl)

-- The row of a call

-- either the row of the table, or a call that ran out of memory
abbrev pub IsRow : Option Errno → Space → Space → ℕ → ℕ → ℕ → (ℕ → List ℕ) → Bool → Result Copied CopyFault → Type 0
IsRow error old new start count bits bytes protect result =
    ((result ≡ result_of (answer_put error (put_answer start count (missing_run old (start / 4096) count) bits Eexist)))
    × (new ≡ left_by error old (installed old (start / 4096) (missing_run old (start / 4096) count) bytes protect)))
    ⊎ ((error ≡ None) × IsShort old new start count bits bytes protect result)

row_found : (error : Option Errno) (old new : Space) (start count bits done : ℕ) (bytes : ℕ → List ℕ) (protect quiet : Bool) (why : Option PutFault) (result : Result Copied CopyFault) → error ≡ None → quiet ≡ is_one bits 0 → IsPut old.host.bytes (start / 4096) count done why → result ≡ put_result start done quiet why → new ≡ installed old (start / 4096) done bytes protect → (why ≡ Some stop.NoMemory → ⊥) → IsRow error old new start count bits bytes protect result
row_found error old new start count bits done bytes protect quiet why result fine same put is after found =
    let run = run_is old (start / 4096) count done why put in
    let all = sym (run.all found) in
    inl (
      is
          ∙ ap (λ b. put_result start done b why) same
          ∙ row_answer old.host.bytes (start / 4096) start count done bits why put found
          ∙ ap (λ n. result_of (put_answer start count n bits Eexist)) all
          ∙ ap (λ e. result_of (answer_put e (put_answer start count (missing_run old (start / 4096) count) bits Eexist))) (sym fine),
      after
          ∙ ap (λ n. installed old (start / 4096) n bytes protect) all
          ∙ ap (λ e. left_by e old (installed old (start / 4096) (missing_run old (start / 4096) count) bytes protect)) (sym fine),
    )

row_of : (error : Option Errno) (old new : Space) (start count bits done : ℕ) (bytes : ℕ → List ℕ) (protect quiet : Bool) (why : Option PutFault) (result : Result Copied CopyFault) → error ≡ None → quiet ≡ is_one bits 0 → IsPut old.host.bytes (start / 4096) count done why → result ≡ put_result start done quiet why → new ≡ installed old (start / 4096) done bytes protect → IsRow error old new start count bits bytes protect result
row_of error old new start count bits done bytes protect quiet None result fine same put is after =
    row_found error old new start count bits done bytes protect quiet None result fine same put is after (λ h. cc)
row_of error old new start count bits done bytes protect quiet (Some stop.Present) result fine same put is after =
    row_found error old new start count bits done bytes protect quiet (Some stop.Present) result fine same put is after (λ h. cc)
row_of error old new start count bits done bytes protect quiet (Some stop.NoMemory) result fine same put is after =
    let run = run_is old (start / 4096) count done (Some stop.NoMemory) put in
    let less = run.short refl in
    let at : pages_put result ≡ done = ap pages_put is ∙ pages_again done in
    inr (
      fine,
      record {
        fewer = omega (arith, less, at);
        answer = is ∙ ap (λ b. put_result start done b (Some stop.NoMemory)) same ∙ ap (λ n. put_result start n (is_one bits 0) (Some stop.NoMemory)) (sym at);
        space = after ∙ ap (λ n. installed old (start / 4096) n bytes protect) (sym at);
      },
    )

-- what the code has put
pub record HasPut (old new : Pages) (first count done : ℕ) (bytes : ℕ → List ℕ) (protect : Bool) (why : Option PutFault) : Type 0 where
  pub put : IsPut old.bytes first count done why
  pub now : new.bytes ≡ put_pages old.bytes first done bytes
  pub protected : (q : ℕ) → contains new.protected q ≡ (contains old.protected q || (protect && in_range first done q))

-- a call that was not refused
pub record IsCall (error : Option Errno) (old new : Space) (start count bits : ℕ) (bytes : ℕ → List ℕ) (protect : Bool) (result : Result Copied CopyFault) : Type 0 where
  pub sound : IsSoundSpace new
  pub row : IsRow error old new start count bits bytes protect result

call_of : (error : Option Errno) (areas : FinMap nat_cmp Prot) (old new : Pages) (object : Object) (start count bits done : ℕ) (bytes : ℕ → List ℕ) (protect quiet : Bool) (why : Option PutFault) (result : Result Copied CopyFault)
    → IsSoundSpace (machine_space areas old object) → error ≡ None → CanPut (machine_space areas old object) (start / 4096) (missing_run (machine_space areas old object) (start / 4096) count) bytes protect
    → start / 4096 + count ≤ HIGH_PAGE → quiet ≡ is_one bits 0 → HasPut old new (start / 4096) count done bytes protect why → result ≡ put_result start done quiet why
    → IsCall error (machine_space areas old object) (machine_space areas new object) start count bits bytes protect result
call_of error areas old new object start count bits done bytes protect quiet why result sound fine can inside same put is =
    let space = machine_space areas old object in
    let few = put.put.few in
    let after : machine_space areas new object ≡ installed space (start / 4096) done bytes protect = is_installed areas old new object (start / 4096) done bytes protect sound (omega (arith, few, inside)) put.now put.protected in
    let run = run_is space (start / 4096) count done why put.put in
    record {
      sound = subst IsSoundSpace (sym after) (IsSoundSpace-installed space (start / 4096) done bytes protect (fewer_put space (start / 4096) (missing_run space (start / 4096) count) done bytes protect run.few can) sound);
      row = row_of error space (machine_space areas new object) start count bits done bytes protect quiet why result fine same put.put is after;
    }

pub copy_call : (areas : FinMap nat_cmp Prot) (old new : Pages) (object : Object) (now : Space) (start bits first done : ℕ) (bytes : List ℕ) (protect quiet : Bool) (why : Option PutFault) (result : Result Copied CopyFault)
    → machine_space areas old object ≡ now → IsSoundSpace (machine_space areas old object) → None ≡ copy_error now start (length bytes) bits → first ≡ start / 4096 → first + length bytes / 4096 ≤ HIGH_PAGE
    → protect ≡ is_one bits 1 → quiet ≡ is_one bits 0 → HasPut old new first (length bytes / 4096) done (handed bytes) protect why → result ≡ put_result start done quiet why
    → IsCall (copy_error now start (length bytes) bits) now (machine_space areas new object) start (length bytes / 4096) bits (handed bytes) (is_one bits 1) result
copy_call areas old new object now start bits first done bytes protect quiet why result view sound fine at inside asked same put is =
    let space = machine_space areas old object in
    let count = length bytes / 4096 in
    let none : copy_error space start (length bytes) bits ≡ None = ap (λ s. copy_error s start (length bytes) bits) view ∙ sym fine in
    let told = none_holds (copy_errors space start (length bytes) bits) none in
    let can = can_put space (start / 4096) count (handed bytes) (is_one bits 1) sound (not-false (is_one_area space (start / 4096) count) told.1.1.1.1.0) (λ i l. length-handed bytes i l)
    (protect_told (is_one bits 1) (contains object.protect (start / 4096)) told.1.1.1.1.1.0) in
    subst (λ s. IsCall (copy_error s start (length bytes) bits) s (machine_space areas new object) start count bits (handed bytes) (is_one bits 1) result) view
    (call_of (copy_error space start (length bytes) bits) areas old new object start count bits done (handed bytes) (is_one bits 1) quiet why result sound none can (subst (λ f. f + count ≤ HIGH_PAGE) at inside) same
    (subst (λ f. HasPut old new f count done (handed bytes) (is_one bits 1) why) at (subst (λ p. HasPut old new first count done (handed bytes) p why) asked put)) is)

pub zeropage_call : (areas : FinMap nat_cmp Prot) (old new : Pages) (object : Object) (now : Space) (start len bits first count done : ℕ) (quiet : Bool) (why : Option PutFault) (result : Result Copied CopyFault)
    → machine_space areas old object ≡ now → IsSoundSpace (machine_space areas old object) → None ≡ zeropage_error now start len bits → first ≡ start / 4096 → count ≡ len / 4096 → first + count ≤ HIGH_PAGE
    → quiet ≡ is_one bits 0 → HasPut old new first count done (λ i. zero_page) false why → result ≡ put_result start done quiet why
    → IsCall (zeropage_error now start len bits) now (machine_space areas new object) start (len / 4096) bits (λ i. zero_page) false result
zeropage_call areas old new object now start len bits first count done quiet why result view sound fine at size inside same put is =
    let space = machine_space areas old object in
    let none : zeropage_error space start len bits ≡ None = ap (λ s. zeropage_error s start len bits) view ∙ sym fine in
    let told = none_holds (zeropage_errors space start len bits) none in
    let can = can_put space (start / 4096) (len / 4096) (λ i. zero_page) false sound (not-false (is_one_area space (start / 4096) (len / 4096)) told.1.1.1.1.0) (λ i l. length-zero_page) (λ e. absurd (false≢true e)) in
    subst (λ s. IsCall (zeropage_error s start len bits) s (machine_space areas new object) start (len / 4096) bits (λ i. zero_page) false result) view
    (call_of (zeropage_error space start len bits) areas old new object start (len / 4096) bits done (λ i. zero_page) false quiet why result sound none can (omega (arith, at, size, inside)) same
    (subst (λ f. HasPut old new f (len / 4096) done (λ i. zero_page) false why) at (subst (λ n. HasPut old new first n done (λ i. zero_page) false why) size put)) is)

-- One page that is moved in

in_low : (page : ℕ) → is_bad_range (4096 * page) 4096 ≡ false → LOW_PAGE ≤ page
in_low page h = grind (arith, nat_tests)

-- what UFFDIO_COPY leaves of one page that can be copied
copied_one : (space : Space) (page : ℕ) (bytes : List ℕ) → IsSoundSpace space → page < HIGH_PAGE → copy_error space (4096 * page) 4096 0 ≡ None → contains_key space.host.bytes page ≡ false → length bytes ≡ 4096 →
    installed space page 1 (λ i. bytes) false ≡ copied space (4096 * page) bytes 0
copied_one space page bytes sound high none missing whole =
    let told = none_holds (copy_errors space (4096 * page) 4096 0) none in
    let area : is_one_area space page 1 ≡ true = ap (λ q. is_one_area space q 1) (sym (pages_again page)) ∙ not-false (is_one_area space (4096 * page / 4096) 1) told.1.1.1.1.0 in
    let registered = (and_parts (is_registered space.object page) (same_area space page page) (every_page (λ q. is_registered space.object q && same_area space page q) page 1 page area (omega arith) (omega arith))).0 in
    let called : IsCalled space page = record { enabled = not-false space.object.enabled told.0; quiet = told.1.1.1.0; inside = (in_low page told.1.1.0, high) } in
    (copy_made (record { space = space; cpus = [] }) page bytes called (sound.mapped page registered) registered missing whole).leaves

put_one_page : (pages : FinMap nat_cmp (List ℕ)) (page : ℕ) (bytes : List ℕ) → insert pages page bytes ≡ put_pages pages page 1 (λ i. bytes)
unfolding put_pages
put_one_page pages page bytes = ap (λ q. insert pages q bytes) (omega arith)

-- what a space is once a page is moved in
pub record IsMovedIn (old new : Space) (page : ℕ) (bytes : List ℕ) : Type 0 where
  pub sound : IsSoundSpace new
  pub copied : new ≡ copied old (4096 * page) bytes 0
  pub installed : new ≡ installed old page 1 (λ i. bytes) false

pub quiet_tested : (count : ℕ) → count ≡ 0 → ltb 0 count ≡ false
quiet_tested count h = rw h refl

pub moved_in : (areas : FinMap nat_cmp Prot) (old new : Pages) (object : Object) (now : Space) (page : ℕ) (bytes : List ℕ) → machine_space areas old object ≡ now → IsSoundSpace (machine_space areas old object) → IsPage page
    → now.object.enabled ≡ true → changing now.object ≡ 0 → is_registered now.object page ≡ true → contains_key now.host.bytes page ≡ false → new.bytes ≡ insert old.bytes page bytes → new.protected ≡ old.protected
    → ((q : ℕ) (held : List ℕ) → get new.bytes q ≡ Some held → length held ≡ 4096) → IsMovedIn now (machine_space areas new object) page bytes
moved_in areas old new object now page bytes view sound inside enabled quiet registered missing put same all =
    let high = inside.1 in
    let none = copy_accepted now page (record { enabled = enabled; quiet = quiet_tested (changing now.object) quiet; inside = inside }) ((subst IsSoundSpace view sound).mapped page registered) registered in
    let space = machine_space areas old object in
    let whole = all page bytes (ap (λ m. get m page) put ∙ get-put_same old.bytes page bytes) in
    let after : machine_space areas new object ≡ installed space page 1 (λ i. bytes) false =
    is_installed areas old new object page 1 (λ i. bytes) false sound (omega (arith, high)) (put ∙ put_one_page old.bytes page bytes) (λ q. same_protected old.protected new.protected page 1 q same) in
    let copied_now = copied_one now page bytes (subst IsSoundSpace view sound) high none missing whole in
    let installed_now = after ∙ ap (λ s. installed s page 1 (λ i. bytes) false) view in
    record {
      sound = subst IsSoundSpace (sym (installed_now ∙ copied_now)) (IsSoundSpace-copied now (4096 * page) bytes 0 (subst IsSoundSpace view sound));
      copied = installed_now ∙ copied_now;
      installed = installed_now;
    }
