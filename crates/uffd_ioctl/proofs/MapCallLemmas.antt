-- The memory of a host over ranges of whole pages: what is mapped there, how much, and with which protection.
use Rattle.std.proofs.Common.{◌≡◌, ℕ, zero, suc, ◌+◌, ◌-◌, ◌*◌, ◌/◌, ◌%◌, ◌<◌, ◌≤◌, ◌&&◌, ◌||◌, Bool, true, false, cond, not, eqb, ltb, leb, Option, Some, None, List, ◌∷◌, refl, sym, ap, ◌∙◌, subst, ⊎_elim, arith, is_some, IfSome, IfNone, add-zero}
use Rattle.std.specs.Ordering.{nat_cmp}
use Rattle.std.specs.FinMap.{FinMap, get, contains_key, len}
use Rattle.std.proofs.lemmas.Bool.Decides.{nat_tests}
use Rattle.std.proofs.lemmas.Bool.{false≢true, eq-eqb, eqb-true, not-false, cases_Bool, ltb-false, le-leb, le-ltb, or_from, lt-leb, lt-ltb, ltb-true, or_right, or_left}
use Rattle.mig_base.specs.declared.TheConstants.{LOW, HIGH, LOW_PAGE, HIGH_PAGE, MAX_PAGES}
use Rattle.mig_base.specs.declared.Prot.{Prot}
use Rattle.mig_base.specs.declared.Prot.TheVariants.{NoAccess, Read, ReadWrite}
use Rattle.mig_base.specs.declared.command.Errno.TheVariants.{Enomem, Efault, Eexist, Einval}
use Rattle.mig_base.specs.declared.command.Place.TheVariants.{Anywhere, Fixed, NoReplace}
use Rattle.mig_base.specs.declared.command.Reply.{Reply}
use Rattle.mig_base.specs.declared.command.Reply.TheVariants.{At, Refused}
use Rattle.mig_base.specs.Codes.{prot_number}
use Rattle.foundation.specs.Ranges.{in_range, count_below, none_below, pages_of, rounded}
use Rattle.mig_base.specs.FreePlaces.{free_place}
use Rattle.mig_base.specs.Flat.{Cell, is_mapped, mapped_count, fill, written, same_prot, has_one_prot, is_unmapped, is_all_mapped, moved, overlaps, zeros_with, is_page_start, exceeds_limit, place_refusals, first_refusal, at_place, mmap_reply, can_grow, is_bad_target, mremap_place, mremap_target, mremap_reply}
use Rattle.foundation.proofs.RangeLemmas.{none_below_tells, none_below-from, none_below-not, count_below-same, count_below-append, count_below-constant, count_below-blocks, in_range-true, in_range-false_below, in_range-false_above, count_below-few}
use Rattle.mig_base.proofs.PageLemmas.{count_below-contains_key}
use Rattle.mig_base.proofs.ReplyLemmas.{IsTarget}
use Rattle.foundation.proofs.TestLemmas.{some_is_none, or_first, or_second, eqb-above, is_some-cond}
use Rattle.area_map.specs.Ranges.{HasOneProt}
use Rattle.mig_model.specs.Host.{Host, memory, IsSound}
use Rattle.mig_model.proofs.memory.HostLemmas.{cell_at, memory-at, memory-some, is_mapped-memory, mapped_count-memory}
use Rattle.mig_model.proofs.memory.CommandLemmas.{past_none}
use Rattle.mig_model.proofs.memory.Facts.{low_or}
use Rattle.mig_model.proofs.memory.ReplyOfLemmas.{is_some-written}

-- how many of the pages are mapped
abbrev pub mapped_in : FinMap nat_cmp Prot → ℕ → ℕ → ℕ
mapped_in areas first count = count_below (λ i. contains_key areas (first + i)) count

-- Counts and tests

none_more : (b t : Bool) (n : ℕ) → b ≡ eqb n 0 → (b && not t) ≡ eqb (n + cond t 1 0) 0
none_more b true n h = grind (arith, nat_tests)
none_more true false n h = grind (arith, nat_tests)
none_more false false n h = grind (arith, nat_tests)

pub none_below-count : (test : ℕ → Bool) (n : ℕ) → none_below test n ≡ eqb (count_below test n) 0
unfolding none_below count_below
none_below-count test zero = refl
none_below-count test (suc n) = none_more (none_below test n) (test n) (count_below test n) (none_below-count test n)

all_more : (b t : Bool) (count n : ℕ) → b ≡ eqb count n → count ≤ n → (b && not (not t)) ≡ eqb (count + cond t 1 0) (suc n)
all_more true true count n h l = grind (arith, nat_tests)
all_more false true count n h l = grind (arith, nat_tests)
all_more true false count n h l = grind (arith, nat_tests)
all_more false false count n h l = grind (arith, nat_tests)

all_below-count : (test : ℕ → Bool) (n : ℕ) → none_below (λ i. not (test i)) n ≡ eqb (count_below test n) n
unfolding none_below count_below
all_below-count test zero = refl
all_below-count test (suc n) = all_more (none_below (λ i. not (test i)) n) (test n) (count_below test n) n (all_below-count test n) (count_below-few test n)

-- three parts of a count
parts : (test : ℕ → Bool) (start size rest : ℕ) → count_below test ((start + size) + rest) ≡ (count_below test start + count_below (λ i. test (start + i)) size) + count_below (λ i. test ((start + size) + i)) rest
parts test start size rest = count_below-append test (start + size) rest ∙ ap (λ n. n + count_below (λ i. test ((start + size) + i)) rest) (count_below-append test start size)

below_range : (b old : Bool) (start size i : ℕ) → i < start → cond (in_range start size i) b old ≡ old
below_range b old start size i l = ap (λ t. cond t b old) (in_range-false_below start size i l)

above_range : (b old : Bool) (start size i : ℕ) → start + size ≤ i → cond (in_range start size i) b old ≡ old
above_range b old start size i l = ap (λ t. cond t b old) (in_range-false_above start size i l)

inside_range : (b old : Bool) (start size i : ℕ) → i < size → cond (in_range start size (start + i)) b old ≡ b
inside_range b old start size i l = ap (λ t. cond t b old) (in_range-true start size (start + i) (omega arith) (omega arith))

-- a count once one range has one answer
count_below-put : (test : ℕ → Bool) (b : Bool) (start size bound : ℕ) → start + size ≤ bound → count_below (λ i. cond (in_range start size i) b (test i)) bound + count_below (λ i. test (start + i)) size ≡ count_below test bound + cond b size 0
count_below-put test b start size bound high =
    let new : ℕ → Bool = λ i. cond (in_range start size i) b (test i) in
    let rest = bound - (start + size) in
    let whole : bound ≡ (start + size) + rest = omega arith in
    let before : count_below new bound ≡ (count_below new start + count_below (λ i. new (start + i)) size) + count_below (λ i. new ((start + size) + i)) rest = ap (count_below new) whole ∙ parts new start size rest in
    let after : count_below test bound ≡ (count_below test start + count_below (λ i. test (start + i)) size) + count_below (λ i. test ((start + size) + i)) rest = ap (count_below test) whole ∙ parts test start size rest in
    let low : count_below new start ≡ count_below test start = count_below-same new test start (λ i l. below_range b (test i) start size i l) in
    let middle : count_below (λ i. new (start + i)) size ≡ cond b size 0 = count_below-constant (λ i. new (start + i)) b size (λ i l. inside_range b (test (start + i)) start size i l) in
    let high : count_below (λ i. new ((start + size) + i)) rest ≡ count_below (λ i. test ((start + size) + i)) rest = count_below-same (λ i. new ((start + size) + i)) (λ i. test ((start + size) + i)) rest (λ i l. above_range b (test ((start + size) + i)) start size ((start + size) + i) (omega arith)) in
    omega (arith, before, after, low, middle, high)

-- Pages and addresses

mapped_at : (host : Host) (addr : ℕ) → is_mapped (memory host) addr ≡ contains_key host.areas (addr / 4096)
mapped_at host addr = ap (λ test. test addr) (is_mapped-memory host)

-- each page is 4096 addresses
pub count_pages : (host : Host) (addr count : ℕ) → addr % 4096 ≡ 0 → count_below (λ i. is_mapped (memory host) (addr + i)) (4096 * count) ≡ 4096 * mapped_in host.areas (addr / 4096) count
count_pages host addr count whole =
    count_below-blocks 4096 (λ i. is_mapped (memory host) (addr + i)) (λ i. contains_key host.areas (addr / 4096 + i)) count
    (λ k i l. mapped_at host (addr + (4096 * k + i)) ∙ ap (λ page. contains_key host.areas page) (omega arith))

eqb-pages : (a b : ℕ) → eqb (4096 * a) (4096 * b) ≡ eqb a b
eqb-pages a b = grind (arith, nat_tests)

pub unmapped_pages : (host : Host) (addr count : ℕ) → addr % 4096 ≡ 0 → is_unmapped (memory host) addr (4096 * count) ≡ eqb (mapped_in host.areas (addr / 4096) count) 0
unmapped_pages host addr count whole =
    none_below-count (λ i. is_mapped (memory host) (addr + i)) (4096 * count)
    ∙ ap (λ n. eqb n 0) (count_pages host addr count whole)
    ∙ eqb-pages (mapped_in host.areas (addr / 4096) count) 0

pub all_mapped_pages : (host : Host) (addr count : ℕ) → addr % 4096 ≡ 0 → is_all_mapped (memory host) addr (4096 * count) ≡ eqb (mapped_in host.areas (addr / 4096) count) count
all_mapped_pages host addr count whole =
    all_below-count (λ i. is_mapped (memory host) (addr + i)) (4096 * count)
    ∙ ap (λ n. eqb n (4096 * count)) (count_pages host addr count whole)
    ∙ eqb-pages (mapped_in host.areas (addr / 4096) count) count

past_not_mapped : (host : Host) (addr size : ℕ) → IsSound host → HIGH < addr + size → 0 < size → is_all_mapped (memory host) addr size ≡ false
past_not_mapped host addr size sound past some =
    none_below-not (λ i. not (is_mapped (memory host) (addr + i))) size (size - 1) (omega arith)
    (ap (λ o. not (is_some o)) (past_none host (addr + (size - 1)) sound (omega arith)))

pub past_not_all : (host : Host) (addr bytes : ℕ) → IsSound host → HIGH < addr + rounded bytes → 0 < bytes → is_all_mapped (memory host) addr (rounded bytes) ≡ false
past_not_all host addr bytes sound past some = past_not_mapped host addr (rounded bytes) sound past (omega arith)

pub all_mapped : (host : Host) (addr bytes count found : ℕ) → addr % 4096 ≡ 0 → count ≡ pages_of bytes → found ≡ mapped_in host.areas (addr / 4096) count → eqb found count ≡ is_all_mapped (memory host) addr (rounded bytes)
all_mapped host addr bytes count found whole pages is =
    ap (λ n. eqb n count) is
    ∙ sym (all_mapped_pages host addr count whole)
    ∙ ap (λ n. is_all_mapped (memory host) addr (4096 * n)) pages

same_prot-None : (o : Option Cell) → same_prot o None ≡ false
same_prot-None None = refl
same_prot-None (Some cell) = refl

past_other : (host : Host) (addr size : ℕ) → IsSound host → HIGH < addr + size → 0 < size → has_one_prot (memory host) addr size ≡ false
past_other host addr size sound past some =
    none_below-not (λ i. not (same_prot (memory host addr) (memory host (addr + i)))) size (size - 1) (omega arith)
    (ap (λ o. not (same_prot (memory host addr) o)) (past_none host (addr + (size - 1)) sound (omega arith)) ∙ ap not (same_prot-None (memory host addr)))

pub past_no_prot : (host : Host) (addr bytes : ℕ) → IsSound host → HIGH < addr + rounded bytes → 0 < bytes → has_one_prot (memory host) addr (rounded bytes) ≡ false
past_no_prot host addr bytes sound past some = past_other host addr (rounded bytes) sound past (omega arith)

pub test_past : (a b : ℕ) → false ≡ leb a b → b < a
test_past a b h = grind (arith, nat_tests)

pub test_inside : (a b : ℕ) → true ≡ leb a b → a ≤ b
test_inside a b h = grind (arith, nat_tests)

-- One protection

same_number : (a b : Prot) → eqb (prot_number a) (prot_number b) ≡ true → a ≡ b
same_number NoAccess NoAccess h = refl
same_number Read Read h = refl
same_number ReadWrite ReadWrite h = refl
same_number NoAccess Read h = absurd (false≢true h)
same_number NoAccess ReadWrite h = absurd (false≢true h)
same_number Read NoAccess h = absurd (false≢true h)
same_number Read ReadWrite h = absurd (false≢true h)
same_number ReadWrite NoAccess h = absurd (false≢true h)
same_number ReadWrite Read h = absurd (false≢true h)

prot_number-same : (a : Prot) → eqb (prot_number a) (prot_number a) ≡ true
prot_number-same NoAccess = refl
prot_number-same Read = refl
prot_number-same ReadWrite = refl

-- two pages of one protection
pub record HaveProt (a b : Option Prot) : Type 0 where
  pub prot : Prot
  pub one : a ≡ Some prot
  pub other : b ≡ Some prot

same_prot_tells : (bytes : FinMap nat_cmp (List ℕ)) (x y : ℕ) (a b : Option Prot) → same_prot (cell_at bytes x a) (cell_at bytes y b) ≡ true → HaveProt a b
same_prot_tells bytes x y (Some a) (Some b) h = record { prot = a; one = refl; other = ap Some (sym (same_number a b h)) }
same_prot_tells bytes x y (Some a) None h = absurd (false≢true h)
same_prot_tells bytes x y None b h = absurd (false≢true h)

prot_told : (host : Host) (addr size i : ℕ) → has_one_prot (memory host) addr size ≡ true → i < size → HaveProt (get host.areas (addr / 4096)) (get host.areas ((addr + i) / 4096))
prot_told host addr size i one l =
    same_prot_tells host.bytes addr (addr + i) (get host.areas (addr / 4096)) (get host.areas ((addr + i) / 4096))
    (ap (λ c. same_prot c (cell_at host.bytes (addr + i) (get host.areas ((addr + i) / 4096)))) (sym (memory-at host addr))
    ∙ ap (same_prot (memory host addr)) (sym (memory-at host (addr + i)))
    ∙ not-false _ (none_below_tells (λ k. not (same_prot (memory host addr) (memory host (addr + k)))) size i one l))

-- the one protection of a range
pub one_prot_pages : (host : Host) (addr count : ℕ) → addr % 4096 ≡ 0 → 0 < count → has_one_prot (memory host) addr (4096 * count) ≡ true → (prot : Prot) × HasOneProt (λ page. get host.areas page) (addr / 4096) count prot
one_prot_pages host addr count whole some one =
    let first = prot_told host addr (4096 * count) 0 one (omega arith) in (
      first.prot,
      λ page l u.
          let told = prot_told host addr (4096 * count) (4096 * (page - addr / 4096)) one (omega arith) in
          let at : (addr + 4096 * (page - addr / 4096)) / 4096 ≡ page = omega arith in
          sym (ap (get host.areas) at) ∙ told.other ∙ sym told.one ∙ first.one,
    )

both_prot : (a b : Option Cell) (x y : Cell) → a ≡ Some x → b ≡ Some y → eqb (prot_number x.prot) (prot_number y.prot) ≡ true → same_prot a b ≡ true
both_prot a b x y p q h = ap (λ c. same_prot c b) p ∙ ap (same_prot (Some x)) q ∙ h

pub has_prot : (host : Host) (addr count : ℕ) (prot : Prot) → addr % 4096 ≡ 0 → HasOneProt (λ page. get host.areas page) (addr / 4096) count prot → has_one_prot (memory host) addr (4096 * count) ≡ true
has_prot host addr count prot whole has =
    none_below-from (λ i. not (same_prot (memory host addr) (memory host (addr + i)))) (4096 * count)
    (λ i l.
    let one = memory-some host addr prot (has (addr / 4096) (omega arith) (omega arith)) in
    let other = memory-some host (addr + i) prot (has ((addr + i) / 4096) (omega arith) (omega arith)) in
    ap not (both_prot (memory host addr) (memory host (addr + i)) _ _ one other (prot_number-same prot)))

pub has_no_prot : (host : Host) (addr count : ℕ) → addr % 4096 ≡ 0 → 0 < count → ((prot : Prot) → HasOneProt (λ page. get host.areas page) (addr / 4096) count prot → ⊥) → has_one_prot (memory host) addr (4096 * count) ≡ false
has_no_prot host addr count whole some none =
    ⊎_elim
    (λ (e : has_one_prot (memory host) addr (4096 * count) ≡ true). let told = one_prot_pages host addr count whole some e in absurd (none told.0 told.1))
    (λ (e : has_one_prot (memory host) addr (4096 * count) ≡ false). e)
    (cases_Bool (has_one_prot (memory host) addr (4096 * count)))

one_prot_is : (host : Host) (addr count : ℕ) (found : Option Prot) → addr % 4096 ≡ 0 → 0 < count → IfSome found (HasOneProt (λ page. get host.areas page) (addr / 4096) count) → IfNone found ((prot : Prot) → HasOneProt (λ page. get host.areas page) (addr / 4096) count prot → ⊥) → is_some found ≡ has_one_prot (memory host) addr (4096 * count)
one_prot_is host addr count (Some prot) whole some has none = sym (has_prot host addr count prot whole has)
one_prot_is host addr count None whole some has none = sym (has_no_prot host addr count whole some none)

pub one_prot_answer : (host : Host) (addr bytes count : ℕ) (found : Option Prot) → addr % 4096 ≡ 0 → 0 < bytes → count ≡ pages_of bytes → IfSome found (HasOneProt (λ page. get host.areas page) (addr / 4096) count) → IfNone found ((prot : Prot) → HasOneProt (λ page. get host.areas page) (addr / 4096) count prot → ⊥) → is_some found ≡ has_one_prot (memory host) addr (rounded bytes)
one_prot_answer host addr bytes count found whole some pages has none =
    one_prot_is host addr count found whole (omega arith) has none ∙ ap (λ n. has_one_prot (memory host) addr (4096 * n)) pages

-- Sizes

-- no more pages of a range are mapped than of all
pub mapped_few : (host : Host) (first count : ℕ) → IsSound host → first + count ≤ HIGH_PAGE → mapped_in host.areas first count ≤ len host.areas
mapped_few host first count sound high =
    let all = count_below-contains_key HIGH_PAGE host.areas sound.bound in
    let out = count_below-put (λ page. contains_key host.areas page) false first count HIGH_PAGE high in
    omega (arith, all, out)

-- a range of one protection: it is all mapped
pub record IsMappedRange (host : Host) (addr count : ℕ) : Type 0 where
  pub inside : addr / 4096 + count ≤ HIGH_PAGE
  pub all : mapped_in host.areas (addr / 4096) count ≡ count
  pub few : count ≤ len host.areas

pub mapped_range : (host : Host) (addr count : ℕ) → IsSound host → addr % 4096 ≡ 0 → 0 < count → has_one_prot (memory host) addr (4096 * count) ≡ true → IsMappedRange host addr count
mapped_range host addr count sound whole some one =
    let told = one_prot_pages host addr count whole some one in
    let last : addr / 4096 + (count - 1) < HIGH_PAGE = low_or (λ past. some_is_none told.0 _ (told.1 (addr / 4096 + (count - 1)) (omega arith) (omega arith)) (sound.bound (addr / 4096 + (count - 1)) past)) in
    let inside : addr / 4096 + count ≤ HIGH_PAGE = omega arith in
    let all : mapped_in host.areas (addr / 4096) count ≡ count = count_below-constant (λ i. contains_key host.areas (addr / 4096 + i)) true count (λ i l. ap is_some (told.1 (addr / 4096 + i) (omega arith) (omega arith))) in
    record { inside = inside; all = all; few = subst (λ n. n ≤ len host.areas) all (mapped_few host (addr / 4096) count sound inside) }

-- a range filled
pub count_filled : (host : Host) (addr count : ℕ) (cell : Cell) → IsSound host → addr % 4096 ≡ 0 → addr + 4096 * count ≤ HIGH
    → mapped_count (fill (memory host) addr (4096 * count) cell) + 4096 * mapped_in host.areas (addr / 4096) count ≡ 4096 * len host.areas + 4096 * count
count_filled host addr count cell sound whole high =
    let test : ℕ → Bool = is_mapped (memory host) in
    let put = count_below-put test true addr (4096 * count) HIGH high in
    let same : mapped_count (fill (memory host) addr (4096 * count) cell) ≡ count_below (λ i. cond (in_range addr (4096 * count) i) true (test i)) HIGH =
    count_below-same _ _ HIGH (λ i l. is_some-cond (in_range addr (4096 * count) i) cell (memory host i)) in
    let all = mapped_count-memory host sound in
    let replaced = count_pages host addr count whole in
    omega (arith, put, same, all, replaced)

is_some-moved : (t o : Bool) (b : Bool) (a kept old : Option Cell) → (b ≡ true → is_some a ≡ true) → is_some kept ≡ true → is_some (cond t (cond b a kept) (cond o None old)) ≡ cond t true (cond o false (is_some old))
is_some-moved true o true a kept old h k = h refl
is_some-moved true o false a kept old h k = k
is_some-moved false true b a kept old h k = refl
is_some-moved false false b a kept old h k = refl

apart_false : (start size other other_size i : ℕ) → overlaps start size other other_size ≡ false → i < size → in_range other other_size (start + i) ≡ false
apart_false start size other other_size i h l = grind (arith, nat_tests)

keeps : (b : Bool) (old : Bool) → b ≡ false → cond b false old ≡ old
keeps b old h = ap (λ t. cond t false old) h

-- a range of one protection moved
pub count_moved : (host : Host) (addr count target new_count : ℕ) → IsSound host → addr % 4096 ≡ 0 → target % 4096 ≡ 0 → 0 < count → has_one_prot (memory host) addr (4096 * count) ≡ true → target + 4096 * new_count ≤ HIGH → overlaps target (4096 * new_count) addr (4096 * count) ≡ false
    → mapped_count (moved (memory host) addr (4096 * count) target (4096 * new_count)) + 4096 * mapped_in host.areas (target / 4096) new_count + 4096 * count ≡ 4096 * len host.areas + 4096 * new_count
count_moved host addr count target new_count sound whole even some one high apart =
    let test : ℕ → Bool = is_mapped (memory host) in
    let range = mapped_range host addr count sound whole some one in
    let told = one_prot_pages host addr count whole some one in
    let inside = range.inside in
    let held : (i : ℕ) → i < 4096 * count → test (addr + i) ≡ true = λ i l. mapped_at host (addr + i) ∙ ap is_some (told.1 ((addr + i) / 4096) (omega arith) (omega arith)) in
    let out : ℕ → Bool = λ i. cond (in_range addr (4096 * count) i) false (test i) in
    let first = count_below-put test false addr (4096 * count) HIGH (omega arith) in
    let second = count_below-put out true target (4096 * new_count) HIGH high in
    let taken : count_below (λ i. test (addr + i)) (4096 * count) ≡ 4096 * count = count_below-constant (λ i. test (addr + i)) true (4096 * count) held in
    let met : count_below (λ i. out (target + i)) (4096 * new_count) ≡ count_below (λ i. test (target + i)) (4096 * new_count) =
    count_below-same (λ i. out (target + i)) (λ i. test (target + i)) (4096 * new_count) (λ i l. keeps (in_range addr (4096 * count) (target + i)) (test (target + i)) (apart_false target (4096 * new_count) addr (4096 * count) i apart l)) in
    let same : mapped_count (moved (memory host) addr (4096 * count) target (4096 * new_count)) ≡ count_below (λ i. cond (in_range target (4096 * new_count) i) true (out i)) HIGH =
    count_below-same _ _ HIGH (λ i l. is_some-moved (in_range target (4096 * new_count) i) (in_range addr (4096 * count) i) (ltb (i - target) (4096 * count)) (memory host (addr + (i - target))) (written (memory host addr) 0) (memory host i)
    (λ e. held (i - target) (ltb-true (i - target) (4096 * count) e))
    (is_some-written (memory host addr) 0 ∙ ap test (sym (add-zero addr)) ∙ held 0 (omega arith))) in
    let all = mapped_count-memory host sound in
    let replaced = count_pages host target new_count even in
    omega (arith, first, second, taken, met, same, all, replaced)

-- Replies

then_is : (t : Bool) (x y : Reply) → t ≡ true → x ≡ cond t x y
then_is t x y h = ap (λ b. cond b x y) (sym h)

else_is : (t : Bool) (x y : Reply) → t ≡ false → y ≡ cond t x y
else_is t x y h = ap (λ b. cond b x y) (sym h)

third : {A : Type 0} (a b c : Bool) (x y z w : A) → a ≡ false → b ≡ false → c ≡ true → cond a x (cond b y (cond c z w)) ≡ z
third a b c x y z w p q r = rw (p, q, r) refl

last : {A : Type 0} (a b c : Bool) (x y z w : A) → a ≡ false → b ≡ false → c ≡ false → cond a x (cond b y (cond c z w)) ≡ w
last a b c x y z w p q r = rw (p, q, r) refl

-- the places that are free are those that the areas leave
free_pages : (host : Host) (bytes count : ℕ) → count ≡ pages_of bytes → free_place (λ addr. contains_key host.areas (addr / 4096)) (count * 4096) ≡ free_place (is_mapped (memory host)) (rounded bytes)
free_pages host bytes count pages =
    let size : count * 4096 ≡ rounded bytes = omega arith in
    ap (free_place (λ addr. contains_key host.areas (addr / 4096))) size ∙ ap (λ taken. free_place taken (rounded bytes)) (sym (is_mapped-memory host))

pub mmap_full : (host : Host) (bytes count : ℕ) (prot : Prot) → IsSound host → 0 < bytes → count ≡ pages_of bytes → count ≤ HIGH_PAGE - LOW_PAGE → MAX_PAGES < len host.areas + count → Refused Enomem ≡ mmap_reply (memory host) bytes prot Anywhere
mmap_full host bytes count prot sound some pages short full =
    let mapped = mapped_count-memory host sound in
    sym (third (eqb bytes 0) (ltb (HIGH - LOW) (rounded bytes)) (ltb (4096 * MAX_PAGES) (mapped_count (memory host) + rounded bytes)) (Refused Einval) (Refused Enomem) (Refused Enomem)
    (at_place (free_place (is_mapped (memory host)) (rounded bytes)))
    (eqb-above bytes 0 some) (le-ltb (HIGH - LOW) (rounded bytes) (omega arith)) (lt-ltb (4096 * MAX_PAGES) (mapped_count (memory host) + rounded bytes) (omega arith)))

pub mmap_placed : (host : Host) (bytes count : ℕ) (prot : Prot) (found : Option ℕ) → IsSound host → 0 < bytes → count ≡ pages_of bytes → count ≤ HIGH_PAGE - LOW_PAGE → len host.areas + count ≤ MAX_PAGES → found ≡ free_place (λ addr. contains_key host.areas (addr / 4096)) (count * 4096) → at_place found ≡ mmap_reply (memory host) bytes prot Anywhere
mmap_placed host bytes count prot found sound some pages short room h =
    let mapped = mapped_count-memory host sound in
    ap at_place (h ∙ free_pages host bytes count pages)
    ∙ sym (last (eqb bytes 0) (ltb (HIGH - LOW) (rounded bytes)) (ltb (4096 * MAX_PAGES) (mapped_count (memory host) + rounded bytes)) (Refused Einval) (Refused Enomem) (Refused Enomem)
    (at_place (free_place (is_mapped (memory host)) (rounded bytes)))
    (eqb-above bytes 0 some) (le-ltb (HIGH - LOW) (rounded bytes) (omega arith)) (le-ltb (4096 * MAX_PAGES) (mapped_count (memory host) + rounded bytes) (omega arith)))

-- a place that is asked for, and that nothing refuses but what is mapped
pub record IsAllowed (addr bytes : ℕ) : Type 0 where
  pub whole : addr % 4096 ≡ 0
  pub high : addr + rounded bytes ≤ HIGH
  pub passes : (answer : Reply) → answer ≡ first_refusal ((eqb bytes 0, Einval) ∷ place_refusals addr (rounded bytes)) answer

pub fixed_full : (host : Host) (addr bytes count replaced : ℕ) (prot : Prot) → IsSound host → IsAllowed addr bytes → count ≡ pages_of bytes → replaced ≡ mapped_in host.areas (addr / 4096) count → MAX_PAGES + replaced < len host.areas + count → Refused Enomem ≡ mmap_reply (memory host) bytes prot (Fixed addr)
fixed_full host addr bytes count replaced prot sound allowed pages met full =
    let high = allowed.high in
    let filled = count_filled host addr (pages_of bytes) (zeros_with prot) sound allowed.whole high in
    let same = ap (mapped_in host.areas (addr / 4096)) pages in
    then_is (exceeds_limit (fill (memory host) addr (rounded bytes) (zeros_with prot))) (Refused Enomem) (At addr) (lt-ltb (4096 * MAX_PAGES) (mapped_count (fill (memory host) addr (rounded bytes) (zeros_with prot))) (omega arith))
    ∙ allowed.passes (cond (exceeds_limit (fill (memory host) addr (rounded bytes) (zeros_with prot))) (Refused Enomem) (At addr))

pub fixed_placed : (host : Host) (addr bytes count replaced : ℕ) (prot : Prot) → IsSound host → IsAllowed addr bytes → count ≡ pages_of bytes → replaced ≡ mapped_in host.areas (addr / 4096) count → len host.areas + count ≤ MAX_PAGES + replaced → At addr ≡ mmap_reply (memory host) bytes prot (Fixed addr)
fixed_placed host addr bytes count replaced prot sound allowed pages met room =
    let high = allowed.high in
    let filled = count_filled host addr (pages_of bytes) (zeros_with prot) sound allowed.whole high in
    let same = ap (mapped_in host.areas (addr / 4096)) pages in
    else_is (exceeds_limit (fill (memory host) addr (rounded bytes) (zeros_with prot))) (Refused Enomem) (At addr) (le-ltb (4096 * MAX_PAGES) (mapped_count (fill (memory host) addr (rounded bytes) (zeros_with prot))) (omega arith))
    ∙ allowed.passes (cond (exceeds_limit (fill (memory host) addr (rounded bytes) (zeros_with prot))) (Refused Enomem) (At addr))

pub mapped_there : (host : Host) (addr bytes count replaced : ℕ) (prot : Prot) → IsAllowed addr bytes → count ≡ pages_of bytes → replaced ≡ mapped_in host.areas (addr / 4096) count → 0 < replaced → Refused Eexist ≡ mmap_reply (memory host) bytes prot (NoReplace addr)
mapped_there host addr bytes count replaced prot allowed pages met some =
    let same = ap (mapped_in host.areas (addr / 4096)) pages in
    let rest = cond (exceeds_limit (fill (memory host) addr (rounded bytes) (zeros_with prot))) (Refused Enomem) (At addr) in
    then_is (not (is_unmapped (memory host) addr (rounded bytes))) (Refused Eexist) rest
    (ap not (unmapped_pages host addr (pages_of bytes) allowed.whole ∙ eqb-above (mapped_in host.areas (addr / 4096) (pages_of bytes)) 0 (omega arith)))
    ∙ allowed.passes (cond (not (is_unmapped (memory host) addr (rounded bytes))) (Refused Eexist) rest)

pub unmapped_there : (host : Host) (addr bytes count replaced : ℕ) (prot : Prot) (reply : Reply) → IsAllowed addr bytes → count ≡ pages_of bytes → replaced ≡ mapped_in host.areas (addr / 4096) count → replaced ≡ 0 → reply ≡ mmap_reply (memory host) bytes prot (Fixed addr) → reply ≡ mmap_reply (memory host) bytes prot (NoReplace addr)
unmapped_there host addr bytes count replaced prot reply allowed pages met none is =
    let same = ap (mapped_in host.areas (addr / 4096)) pages in
    let rest = cond (exceeds_limit (fill (memory host) addr (rounded bytes) (zeros_with prot))) (Refused Enomem) (At addr) in
    is
    ∙ sym (allowed.passes rest)
    ∙ else_is (not (is_unmapped (memory host) addr (rounded bytes))) (Refused Eexist) rest
    (ap not (unmapped_pages host addr (pages_of bytes) allowed.whole ∙ eq-eqb (mapped_in host.areas (addr / 4096) (pages_of bytes)) 0 (omega arith)))
    ∙ allowed.passes (cond (not (is_unmapped (memory host) addr (rounded bytes))) (Refused Eexist) rest)

-- Places of an mremap

pub remap_full : (host : Host) (addr old_len new_len : ℕ) (may_move : Bool) → IsSound host → addr % 4096 ≡ 0 → 0 < old_len → has_one_prot (memory host) addr (rounded old_len) ≡ true → MAX_PAGES + pages_of old_len < len host.areas + pages_of new_len → Refused Enomem ≡ mremap_target (memory host) addr (rounded old_len) (rounded new_len) may_move None
remap_full host addr old_len new_len may_move sound whole some one full =
    let mapped = mapped_count-memory host sound in
    let few = (mapped_range host addr (pages_of old_len) sound whole (omega arith) one).few in
    then_is (ltb (4096 * MAX_PAGES) (mapped_count (memory host) - rounded old_len + rounded new_len)) (Refused Enomem) (mremap_place (memory host) addr (rounded old_len) (rounded new_len) may_move)
    (lt-ltb (4096 * MAX_PAGES) (mapped_count (memory host) - rounded old_len + rounded new_len) (omega arith))

pub remap_room : (host : Host) (addr old_len new_len : ℕ) (may_move : Bool) → IsSound host → addr % 4096 ≡ 0 → 0 < old_len → has_one_prot (memory host) addr (rounded old_len) ≡ true → len host.areas + pages_of new_len ≤ MAX_PAGES + pages_of old_len → mremap_place (memory host) addr (rounded old_len) (rounded new_len) may_move ≡ mremap_target (memory host) addr (rounded old_len) (rounded new_len) may_move None
remap_room host addr old_len new_len may_move sound whole some one room =
    let mapped = mapped_count-memory host sound in
    let few = (mapped_range host addr (pages_of old_len) sound whole (omega arith) one).few in
    else_is (ltb (4096 * MAX_PAGES) (mapped_count (memory host) - rounded old_len + rounded new_len)) (Refused Enomem) (mremap_place (memory host) addr (rounded old_len) (rounded new_len) may_move)
    (le-ltb (4096 * MAX_PAGES) (mapped_count (memory host) - rounded old_len + rounded new_len) (omega arith))

-- it stays where it is
pub stays_short : (host : Host) (addr old_len new_len : ℕ) (may_move : Bool) → pages_of new_len ≤ pages_of old_len → At addr ≡ mremap_place (memory host) addr (rounded old_len) (rounded new_len) may_move
stays_short host addr old_len new_len may_move short =
    then_is (leb (rounded new_len) (rounded old_len) || can_grow (memory host) addr (rounded old_len) (rounded new_len)) (At addr) (cond may_move (at_place (free_place (is_mapped (memory host)) (rounded new_len))) (Refused Enomem))
    (or_left (leb (rounded new_len) (rounded old_len)) _ (le-leb (rounded new_len) (rounded old_len) (omega arith)))

pub stays_grown : (host : Host) (addr old_len new_len : ℕ) (may_move : Bool) → can_grow (memory host) addr (rounded old_len) (rounded new_len) ≡ true → At addr ≡ mremap_place (memory host) addr (rounded old_len) (rounded new_len) may_move
stays_grown host addr old_len new_len may_move can =
    then_is (leb (rounded new_len) (rounded old_len) || can_grow (memory host) addr (rounded old_len) (rounded new_len)) (At addr) (cond may_move (at_place (free_place (is_mapped (memory host)) (rounded new_len))) (Refused Enomem))
    (or_right (leb (rounded new_len) (rounded old_len)) (can_grow (memory host) addr (rounded old_len) (rounded new_len)) can)

-- it cannot stay
pub cannot_stay : (host : Host) (addr old_len new_len : ℕ) (may_move : Bool) → pages_of old_len < pages_of new_len → can_grow (memory host) addr (rounded old_len) (rounded new_len) ≡ false → cond may_move (at_place (free_place (is_mapped (memory host)) (rounded new_len))) (Refused Enomem) ≡ mremap_place (memory host) addr (rounded old_len) (rounded new_len) may_move
cannot_stay host addr old_len new_len may_move long cannot =
    else_is (leb (rounded new_len) (rounded old_len) || can_grow (memory host) addr (rounded old_len) (rounded new_len)) (At addr) (cond may_move (at_place (free_place (is_mapped (memory host)) (rounded new_len))) (Refused Enomem))
    (or_from (leb (rounded new_len) (rounded old_len)) (can_grow (memory host) addr (rounded old_len) (rounded new_len)) (lt-leb (rounded new_len) (rounded old_len) (omega arith)) cannot)

pub goes_elsewhere : (host : Host) (addr old_len new_len : ℕ) (may_move : Bool) (count : ℕ) (found : Option ℕ) → pages_of old_len < pages_of new_len → count ≡ pages_of new_len → may_move ≡ true → false ≡ can_grow (memory host) addr (rounded old_len) (rounded new_len) → found ≡ free_place (λ addr. contains_key host.areas (addr / 4096)) (count * 4096) → at_place found ≡ mremap_place (memory host) addr (rounded old_len) (rounded new_len) may_move
goes_elsewhere host addr old_len new_len may_move count found long pages may cannot is =
    ap at_place (is ∙ free_pages host new_len count pages)
    ∙ then_is may_move (at_place (free_place (is_mapped (memory host)) (rounded new_len))) (Refused Enomem) may
    ∙ cannot_stay host addr old_len new_len may_move long (sym cannot)

and_is : (a b : Bool) → b ≡ true → a ≡ (a && b)
and_is true b h = sym h
and_is false b h = refl

pub grows : (host : Host) (addr old_len new_len count new_count added : ℕ) → addr % 4096 ≡ 0 → pages_of old_len < pages_of new_len → addr + rounded new_len ≤ HIGH → count ≡ pages_of old_len → new_count ≡ pages_of new_len → added ≡ mapped_in host.areas (addr / 4096 + count) (new_count - count) → eqb added 0 ≡ can_grow (memory host) addr (rounded old_len) (rounded new_len)
grows host addr old_len new_len count new_count added whole long high pages new_pages is =
    let size : 4096 * (new_count - count) ≡ rounded new_len - rounded old_len = omega arith in
    let page : addr / 4096 + count ≡ (addr + rounded old_len) / 4096 = omega arith in
    let unmapped : eqb added 0 ≡ is_unmapped (memory host) (addr + rounded old_len) (rounded new_len - rounded old_len) =
    ap (λ n. eqb n 0) (is ∙ ap (λ n. mapped_in host.areas n (new_count - count)) page)
    ∙ sym (unmapped_pages host (addr + rounded old_len) (new_count - count) (omega arith))
    ∙ ap (is_unmapped (memory host) (addr + rounded old_len)) size in
    unmapped ∙ and_is (is_unmapped (memory host) (addr + rounded old_len) (rounded new_len - rounded old_len)) (leb (addr + rounded new_len) HIGH) (le-leb (addr + rounded new_len) HIGH high)

pub good_target : (addr old_size new_size target : ℕ) → is_bad_target addr old_size new_size true (Some target) ≡ false → IsTarget addr old_size target new_size
good_target addr old_size new_size target h =
    let start = is_page_start target in
    let low = ltb target LOW in
    let high = ltb HIGH (target + new_size) in
    let over = overlaps target new_size addr old_size in
    let one = or_first (not start || low || high) over h in
    let two = or_first (not start || low) high one in
    record {
      inside = record { whole = eqb-true (target % 4096) 0 (not-false start (or_first (not start) low two)); low = ltb-false target LOW (or_second (not start) low two); high = ltb-false HIGH (target + new_size) (or_second (not start || low) high one) };
      apart = or_second (not start || low || high) over h;
    }

pub fixed_move_full : (host : Host) (addr old_len new_len target replaced : ℕ) → IsSound host → addr % 4096 ≡ 0 → 0 < old_len → has_one_prot (memory host) addr (rounded old_len) ≡ true → IsTarget addr (rounded old_len) target (rounded new_len) → replaced ≡ mapped_in host.areas (target / 4096) (pages_of new_len) → MAX_PAGES + pages_of old_len + replaced < len host.areas + pages_of new_len → Refused Enomem ≡ mremap_target (memory host) addr (rounded old_len) (rounded new_len) true (Some target)
fixed_move_full host addr old_len new_len target replaced sound whole some one at is full =
    let count = count_moved host addr (pages_of old_len) target (pages_of new_len) sound whole at.inside.whole (omega arith) one at.inside.high at.apart in
    then_is (exceeds_limit (moved (memory host) addr (rounded old_len) target (rounded new_len))) (Refused Enomem) (At target)
    (lt-ltb (4096 * MAX_PAGES) (mapped_count (moved (memory host) addr (rounded old_len) target (rounded new_len))) (omega arith))

pub fixed_move_room : (host : Host) (addr old_len new_len target replaced : ℕ) → IsSound host → addr % 4096 ≡ 0 → 0 < old_len → has_one_prot (memory host) addr (rounded old_len) ≡ true → IsTarget addr (rounded old_len) target (rounded new_len) → replaced ≡ mapped_in host.areas (target / 4096) (pages_of new_len) → len host.areas + pages_of new_len ≤ MAX_PAGES + pages_of old_len + replaced → At target ≡ mremap_target (memory host) addr (rounded old_len) (rounded new_len) true (Some target)
fixed_move_room host addr old_len new_len target replaced sound whole some one at is room =
    let count = count_moved host addr (pages_of old_len) target (pages_of new_len) sound whole at.inside.whole (omega arith) one at.inside.high at.apart in
    else_is (exceeds_limit (moved (memory host) addr (rounded old_len) target (rounded new_len))) (Refused Enomem) (At target)
    (le-ltb (4096 * MAX_PAGES) (mapped_count (moved (memory host) addr (rounded old_len) target (rounded new_len))) (omega arith))

-- an mremap that nothing refuses but its target
pub remap_answer : (host : Host) (addr old_len new_len : ℕ) (may_move : Bool) (fixed : Option ℕ) (reply : Reply) → addr % 4096 ≡ 0 → 0 < old_len → 0 < new_len → is_bad_target addr (rounded old_len) (rounded new_len) may_move fixed ≡ false → has_one_prot (memory host) addr (rounded old_len) ≡ true
    → reply ≡ mremap_target (memory host) addr (rounded old_len) (rounded new_len) may_move fixed → reply ≡ mremap_reply (memory host) addr old_len new_len may_move fixed
remap_answer host addr old_len new_len may_move fixed reply whole some longer good one is =
    let bad = is_bad_target addr (rounded old_len) (rounded new_len) may_move fixed in
    let start = ap not (eq-eqb (addr % 4096) 0 whole) in
    let two = or_from (not (is_page_start addr)) (eqb old_len 0) start (eqb-above old_len 0 some) in
    let three = or_from (not (is_page_start addr) || eqb old_len 0) (eqb new_len 0) two (eqb-above new_len 0 longer) in
    is
    ∙ else_is (not (has_one_prot (memory host) addr (rounded old_len))) (Refused Efault) (mremap_target (memory host) addr (rounded old_len) (rounded new_len) may_move fixed) (ap not one)
    ∙ else_is (not (is_page_start addr) || eqb old_len 0 || eqb new_len 0 || bad) (Refused Einval) _ (or_from (not (is_page_start addr) || eqb old_len 0 || eqb new_len 0) bad three good)
