-- What the events of a map call do to the owed relation, and that they are of whole pages: mremap among them, whose old and new
-- range are one place or lie apart.
use Rattle.std.proofs.Common.{◌≡◌, ℕ, ◌+◌, ◌-◌, ◌*◌, ◌/◌, ◌%◌, ◌<◌, ◌≤◌, ◌&&◌, Bool, true, false, cond, not, eqb, ltb, leb, Option, None, ◌++◌, refl, sym, ap, ◌∙◌, subst, ◌⊎◌, ⊎_elim, inl, inr, arith, add-zero}
use Rattle.std.specs.FinMap.{contains_key}
use Rattle.std.proofs.lemmas.Bool.Decides.{nat_tests}
use Rattle.mig_base.specs.declared.TheConstants.{LOW, HIGH}
use Rattle.mig_base.specs.declared.message.Message.TheVariants.{Remap, Unmap}
use Rattle.foundation.specs.Ranges.{in_range, lesser, none_below, pages_of, rounded}
use Rattle.mig_base.specs.Flat.{Memory, is_mapped, has_one_prot}
use Rattle.foundation.proofs.RangeLemmas.{none_below_tells, in_range-true}
use Rattle.mig_base.proofs.FreePlaceLemmas.{place_found, four_hold}
use Rattle.mig_base.proofs.ReplyLemmas.{IsRemapped}
use Rattle.mig_base.proofs.ReplyLemmas.IsWhere.{Shrunk, Grew, Moved, Told}
use Rattle.mig_base.proofs.BoundLemmas.{apart_of, one_prot_some}
use Rattle.mig_model.specs.Host.{Host, memory, IsSound}
use Rattle.mig_base.specs.Userfault.{Object, is_watched}
use Rattle.mig_model.specs.Space.{message_if, remap_messages}
use Rattle.mig_model.proofs.memory.HostLemmas.{is_mapped-memory}
use Rattle.mig_model.proofs.memory.CommandLemmas.{remapped_place}
use Rattle.mig_model.proofs.owed.SeenLemmas.{AreMapped, owed_none}
use Rattle.mig_model.proofs.owed.SettledCalls.{AreInside, settled_messages, settled-append, gone_if, shifted_if, moved_owed, told_gone, told_shifted, unmap_right, cut_right, remap_right}
use Rattle.mig_model.proofs.memory.Facts.{missing_none, none_absurd, and_left, eqb-self, lesser_right}

-- The two ranges of an mremap

-- where a range goes, in pages: to its own place, where the pages by which it grows are not mapped, or to one that lies apart
pub data IsLaid (here : Host) (from count to new_count : ℕ) : Type 0 where
  Stays : to ≡ from → ((page : ℕ) → from + count ≤ page → page < from + new_count → contains_key here.areas page ≡ false) → IsLaid here from count to new_count
  Goes : eqb to from ≡ false → (from + count ≤ to) ⊎ (to + new_count ≤ from) → IsLaid here from count to new_count

mapped_not : (m : Memory) (addr : ℕ) → is_mapped m addr ≡ false → m addr ≡ None
mapped_not m addr h = missing_none (m addr) h

four_places : (a s t n : ℕ) → (a + s ≤ t) ⊎ ((t + n ≤ a) ⊎ (((t ≤ a) × (a < t + n)) ⊎ ((a < t) × (t < a + s))))
four_places a s t n = grind (arith, nat_tests)

-- a range that is mapped and one that is free lie apart
free_apart : (m : Memory) (addr size target new_size : ℕ) → 0 < size → 0 < new_size → has_one_prot m addr size ≡ true → none_below (λ i. is_mapped m (target + i)) new_size ≡ true → (addr + size ≤ target) ⊎ (target + new_size ≤ addr)
free_apart m addr size target new_size some new_some one free =
    ⊎_elim
    (λ (before : addr + size ≤ target). inl before)
    (λ rest. ⊎_elim
    (λ (behind : target + new_size ≤ addr). inr behind)
    (λ over. ⊎_elim
    (λ (first : (target ≤ addr) × (addr < target + new_size)).
    let low = first.0 in
    let high = first.1 in
    let at : target + (addr - target) ≡ addr = omega (arith, low) in
    let empty : is_mapped m (target + (addr - target)) ≡ false = none_below_tells (λ i. is_mapped m (target + i)) new_size (addr - target) free (omega (arith, low, high)) in
    absurd (one_prot_some m addr size 0 one some (ap m (add-zero addr) ∙ mapped_not m addr (subst (λ a. is_mapped m a ≡ false) at empty))))
    (λ (inner : (addr < target) × (target < addr + size)).
    let low = inner.0 in
    let high = inner.1 in
    let at : addr + (target - addr) ≡ target = omega (arith, low) in
    let empty : is_mapped m (target + 0) ≡ false = none_below_tells (λ i. is_mapped m (target + i)) new_size 0 free new_some in
    absurd (one_prot_some m addr size (target - addr) one (omega (arith, low, high)) (ap m at ∙ mapped_not m target (subst (λ a. is_mapped m a ≡ false) (add-zero target) empty))))
    over) rest)
    (four_places addr size target new_size)

pages_apart : (addr old_len target new_len : ℕ) → addr % 4096 ≡ 0 → target % 4096 ≡ 0 → (addr + rounded old_len ≤ target) ⊎ (target + rounded new_len ≤ addr) →
    (addr / 4096 + pages_of old_len ≤ target / 4096) ⊎ (target / 4096 + pages_of new_len ≤ addr / 4096)
pages_apart addr old_len target new_len a b h = grind (arith, nat_tests)

goes : (here : Host) (from count to new_count : ℕ) → 0 < count → 0 < new_count → (from + count ≤ to) ⊎ (to + new_count ≤ from) → IsLaid here from count to new_count
goes here from count to new_count a b apart = grind (arith, nat_tests)

some_pages : (len : ℕ) → 0 < len → 0 < pages_of len
some_pages len h = omega arith

some_size : (len : ℕ) → 0 < len → 0 < rounded len
some_size len h = omega arith

pub remapped_laid : (here : Host) (addr old_len new_len target : ℕ) → IsSound here → IsRemapped (memory here) addr old_len new_len target → IsLaid here (addr / 4096) (pages_of old_len) (target / 4096) (pages_of new_len)
remapped_laid here addr old_len new_len target sound is =
    let whole = is.whole in
    let old_some = some_size old_len is.old_some in
    let new_some = some_size new_len is.new_some in
    let placed = remapped_place here addr old_len new_len target sound is in
    let target_whole = placed.whole in
    elim is.place [
      | Shrunk same shorter ↦ Stays (ap (λ a. a / 4096) same) (λ page low high. absurd (omega (arith, shorter, low, high)))
      | Grew same can ↦ Stays (ap (λ a. a / 4096) same)
          (λ page low high.
          let free : is_mapped (memory here) (addr + rounded old_len + (4096 * page - (addr + rounded old_len))) ≡ false =
          none_below_tells (λ i. is_mapped (memory here) (addr + rounded old_len + i)) (rounded new_len - rounded old_len) (4096 * page - (addr + rounded old_len)) (and_left _ _ can) (omega (arith, low, high, whole)) in
          let at : (addr + rounded old_len + (4096 * page - (addr + rounded old_len))) / 4096 ≡ page = omega (arith, low, whole) in
          sym (ap (contains_key here.areas) at) ∙ sym (ap (λ f. f (addr + rounded old_len + (4096 * page - (addr + rounded old_len)))) (is_mapped-memory here)) ∙ free)
      | Moved found ↦
          let free = (four_hold (eqb (target % 4096) 0) (leb LOW target) (leb (target + rounded new_len) HIGH) (none_below (λ i. is_mapped (memory here) (target + i)) (rounded new_len)) (place_found (is_mapped (memory here)) (rounded new_len) target found)).four in
          goes here (addr / 4096) (pages_of old_len) (target / 4096) (pages_of new_len) (some_pages old_len is.old_some) (some_pages new_len is.new_some) (pages_apart addr old_len target new_len whole target_whole (free_apart (memory here) addr (rounded old_len) target (rounded new_len) old_some new_some is.one_prot free))
      | Told at ↦ goes here (addr / 4096) (pages_of old_len) (target / 4096) (pages_of new_len) (some_pages old_len is.old_some) (some_pages new_len is.new_some) (pages_apart addr old_len target new_len whole target_whole (apart_of target (rounded new_len) addr (rounded old_len) at.apart))
    ]

-- The events of an mremap

inside_gone : (object : Object) (owed : ℕ → Option ℕ) (b : Bool) (first count : ℕ) → AreInside object owed → AreInside object (gone_if b owed first count)
inside_gone object owed b first count inside page origin h = grind (arith, nat_tests)

-- the pages of a target that was cleared first
cleared : (b c : Bool) (x y : Option ℕ) → b ≡ true → c ≡ true → cond b (cond c None x) y ≡ None
cleared b c x y one other = grind (arith, nat_tests)

gone_still : (b c : Bool) (o : Option ℕ) → o ≡ None → cond b (cond c None o) o ≡ None
gone_still b c o h = grind (arith, nat_tests)

abbrev tail_cut : ℕ → ℕ → ℕ → ℕ → Option ℕ → Option ℕ
tail_cut from count new_count page o = cond (ltb new_count count) (cond (in_range (from + new_count) (count - new_count) page) None o) o

goes_one : (from count to new_count page : ℕ) (x y : Option ℕ) → (from + count ≤ to) ⊎ (to + new_count ≤ from) →
    cond (in_range to (lesser count new_count) page) (tail_cut from count new_count (from + (page - to)) (cond (in_range to new_count (from + (page - to))) None y))
    (cond (in_range from (lesser count new_count) page) None (tail_cut from count new_count page (cond (in_range to new_count page) None x)))
    ≡ cond (in_range to new_count page) (cond (ltb (page - to) count) y None) (cond (in_range from count page) None x)
goes_one from count to new_count page x y h = grind (arith, nat_tests)

stays_all : (away : Bool) (owed : ℕ → Option ℕ) (from count new_count : ℕ) → away ≡ false → ((page : ℕ) → from + count ≤ page → page < from + new_count → owed page ≡ None) →
    shifted_if away (gone_if (ltb new_count count) (gone_if away owed from new_count) (from + new_count) (count - new_count)) from from (lesser count new_count) ≡ moved_owed owed from count from new_count
stays_all away owed from count new_count is free = grind (arith, nat_tests)

goes_all : (away : Bool) (owed : ℕ → Option ℕ) (from count to new_count : ℕ) → away ≡ true → (from + count ≤ to) ⊎ (to + new_count ≤ from) →
    shifted_if away (gone_if (ltb new_count count) (gone_if away owed to new_count) (from + new_count) (count - new_count)) from to (lesser count new_count) ≡ moved_owed owed from count to new_count
goes_all false owed from count to new_count is apart = none_absurd is
goes_all true owed from count to new_count is apart = grind (arith, nat_tests, goes_one)

all_three : (owed : ℕ → Option ℕ) (here : Host) (from count to new_count : ℕ) → AreMapped here owed → IsLaid here from count to new_count →
    shifted_if (not (eqb to from)) (gone_if (ltb new_count count) (gone_if (not (eqb to from)) owed to new_count) (from + new_count) (count - new_count)) from to (lesser count new_count) ≡ moved_owed owed from count to new_count
all_three owed here from count to new_count mapped (Stays same free) =
    rw same (stays_all (not (eqb from from)) owed from count new_count (ap not (eqb-self from))
    (λ page low high. owed_none owed (λ q. contains_key here.areas q) page mapped (free page low high)))
all_three owed here from count to new_count mapped (Goes other apart) = goes_all (not (eqb to from)) owed from count to new_count (ap not other) apart

-- all the events of an mremap, whether they are queued or not
pub settled_remapped : (object : Object) (here : Host) (owed : ℕ → Option ℕ) (addr count target new_count : ℕ) → AreInside object owed → AreMapped here owed →
    IsLaid here (addr / 4096) count (target / 4096) new_count → settled_messages (remap_messages object addr count target new_count) owed ≡ moved_owed owed (addr / 4096) count (target / 4096) new_count
settled_remapped object here owed addr count target new_count inside mapped laid =
    let from = addr / 4096 in
    let to = target / 4096 in
    let away = not (eqb to from) in
    let shorter = ltb new_count count in
    let one = message_if (away && is_watched object to new_count) (Unmap target (target + 4096 * new_count)) in
    let two = message_if (shorter && is_watched object (from + new_count) (count - new_count)) (Unmap (addr + 4096 * new_count) (addr + 4096 * count)) in
    let three = message_if (away && is_watched object from (lesser count new_count)) (Remap addr target (4096 * lesser count new_count)) in
    let first = gone_if away owed to new_count in
    let second = gone_if shorter first (from + new_count) (count - new_count) in
    let third = shifted_if away second from to (lesser count new_count) in
    let inside_first = inside_gone object owed away to new_count inside in
    let inside_second = inside_gone object first shorter (from + new_count) (count - new_count) inside_first in
    let did_one : settled_messages one owed ≡ first =
    told_gone away (is_watched object to new_count) object owed to new_count (Unmap target (target + 4096 * new_count)) refl inside (unmap_right owed target new_count) in
    let did_two : settled_messages two first ≡ second =
    told_gone shorter (is_watched object (from + new_count) (count - new_count)) object first (from + new_count) (count - new_count) (Unmap (addr + 4096 * new_count) (addr + 4096 * count)) refl inside_first (cut_right first addr new_count count) in
    let did_three : settled_messages three second ≡ third =
    told_shifted away (is_watched object from (lesser count new_count)) object second from to (lesser count new_count) (Remap addr target (4096 * lesser count new_count)) refl inside_second
    (λ (is : away ≡ true) page low high.
    let less = lesser_right count new_count in
    gone_still shorter (in_range (from + new_count) (count - new_count) page) (first page)
    (cleared away (in_range to new_count page) (owed page) (owed page) is (in_range-true to new_count page low (omega (arith, high, less)))))
    (remap_right second addr target (lesser count new_count)) in
    settled-append (one ++ two) three owed
    ∙ ap (settled_messages three) (settled-append one two owed ∙ ap (settled_messages two) did_one ∙ did_two)
    ∙ did_three
    ∙ all_three owed here from count to new_count mapped laid
