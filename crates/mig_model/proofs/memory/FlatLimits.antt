-- No flat memory has more than MAX_PAGES pages.
use Rattle.std.proofs.lemmas.Bool.Decides.{nat_tests}
use Rattle.std.proofs.Common.{◌≡◌, ℕ, zero, suc, ◌+◌, ◌-◌, ◌*◌, ◌<◌, ◌≤◌, ◌&&◌, ◌||◌, Bool, true, false, cond, not, eqb, ltb, Option, Some, None, is_some, List, [], ◌∷◌, inr, refl, ap, ◌∙◌, arith}
use Rattle.std.proofs.lemmas.Bool.{ltb-false}
use Rattle.mig_base.specs.declared.TheConstants.{LOW, HIGH, MAX_PAGES}
use Rattle.mig_base.specs.declared.Prot.{Prot}
use Rattle.mig_base.specs.declared.command.Errno.TheVariants.{Einval, Enomem, Efault}
use Rattle.mig_base.specs.declared.command.Place.{Place}
use Rattle.mig_base.specs.declared.command.Place.TheVariants.{Anywhere, Fixed, NoReplace}
use Rattle.mig_base.specs.declared.command.Command.{Command}
use Rattle.mig_base.specs.declared.command.Reply.{Reply}
use Rattle.mig_base.specs.declared.command.Reply.TheVariants.{At}
use Rattle.mig_base.specs.declared.command.Entry.{Entry}
use Rattle.foundation.specs.Ranges.{count_below, in_range, rounded}
use Rattle.mig_base.specs.FreePlaces.{free_place}
use Rattle.mig_base.specs.Flat.{Cell, Memory, no_memory, is_mapped, mapped_count, fill, moved, zeros_with, is_page_start, is_bad_target, has_one_prot, at_place, mmap_reply, mremap_reply, mremap_target, reply_of, changed, after, memory_from, memory_of}
use Rattle.foundation.proofs.RangeLemmas.{count_below-append, count_below-constant, in_range-true, in_range-false_above, in_range-false_below}
use Rattle.mig_base.proofs.ReplyLemmas.{at_passed, mmap_inside, mremap_told, same_at}
use Rattle.mig_base.proofs.BoundLemmas.{IsBounded, changed_bounded, remapped_inside, high_or}
use Rattle.mig_base.proofs.BoundLemmas.{one_prot_some}
use Rattle.mig_base.proofs.SetSizes.{count_below-few}

-- Counts

count_range : (first count rest : ℕ) → count_below (in_range first count) (first + (count + rest)) ≡ count
count_range first count rest =
    count_below-append (in_range first count) first (count + rest)
    ∙ ap (λ n. n + count_below (λ i. in_range first count (first + i)) (count + rest)) (count_below-constant (in_range first count) false first (λ i l. in_range-false_below first count i l))
    ∙ ap (λ n. 0 + n) (count_below-append (λ i. in_range first count (first + i)) count rest)
    ∙ ap (λ n. 0 + (n + count_below (λ i. in_range first count (first + (count + i))) rest)) (count_below-constant (λ i. in_range first count (first + i)) true count (λ i l. in_range-true first count (first + i) (omega arith) (omega (arith, l))))
    ∙ ap (λ n. 0 + (count + n)) (count_below-constant (λ i. in_range first count (first + (count + i))) false rest (λ i l. in_range-false_above first count (first + (count + i)) (omega arith)))
    ∙ omega arith

-- below the bound lie exactly the `count` numbers of the range
count_inside : (first count bound : ℕ) → first + count ≤ bound → count_below (in_range first count) bound ≡ count
count_inside first count bound h = ap (count_below (in_range first count)) (omega (arith, h)) ∙ count_range first count (bound - (first + count))

either_one : (p q r : Bool) → (r ≡ true → (p || q) ≡ true) → cond r 1 0 ≤ cond p 1 0 + cond q 1 0
either_one p q r h = grind (arith, nat_tests)

sum_either : (a b c d e f : ℕ) → a ≤ b + c → d ≤ e + f → a + d ≤ (b + e) + (c + f)
sum_either a b c d e f h k = omega (arith, h, k)

-- a test that passes only where one of two does passes no more often than both
count_either : (p q r : ℕ → Bool) (bound : ℕ) → ((i : ℕ) → r i ≡ true → (p i || q i) ≡ true) → count_below r bound ≤ count_below p bound + count_below q bound
unfolding count_below
count_either p q r zero h = omega arith
count_either p q r (suc bound) h = grind (arith, nat_tests, sum_either, either_one, count_either p q r bound h)

apart_one : (all part : Bool) → (part ≡ true → all ≡ true) → cond (all && not part) 1 0 + cond part 1 0 ≡ cond all 1 0
apart_one all part h = grind (arith, nat_tests)

sum_apart : (a b c d e f : ℕ) → a + b ≡ c → d + e ≡ f → (a + d) + (b + e) ≡ c + f
sum_apart a b c d e f h k = omega (arith, h, k)

-- a part of what passes, and the rest of it
count_apart : (all part : ℕ → Bool) (bound : ℕ) → ((i : ℕ) → part i ≡ true → all i ≡ true) → count_below (λ i. all i && not (part i)) bound + count_below part bound ≡ count_below all bound
unfolding count_below
count_apart all part zero h = refl
count_apart all part (suc bound) h = grind (arith, nat_tests, sum_apart, apart_one, count_apart all part bound h)

-- Memories

abbrev pub IsFew : Memory → Type 0
IsFew memory = mapped_count memory ≤ 4096 * MAX_PAGES

-- a memory in which nothing is mapped anew
less_few : (old new : Memory) → ((addr : ℕ) → is_mapped new addr ≡ true → is_mapped old addr ≡ true) → IsFew old → IsFew new
less_few old new h few = let less = count_below-few (is_mapped new) (is_mapped old) HIGH h in omega (arith, few, less)

put_or_was : (here : Bool) (cell : Cell) (o : Option Cell) → is_some (cond here (Some cell) o) ≡ true → (here || is_some o) ≡ true
put_or_was here cell o h = grind (arith, nat_tests)

sum_few : (new added add old limit : ℕ) → new ≤ added + old → added ≡ add → old + add ≤ limit → new ≤ limit
sum_few new added add old limit h is k = omega (arith, h, is, k)

filled_few : (memory : Memory) (start size : ℕ) (cell : Cell) → start + size ≤ HIGH → mapped_count memory + size ≤ 4096 * MAX_PAGES → IsFew (fill memory start size cell)
filled_few memory start size cell high room =
    let more = count_either (in_range start size) (is_mapped memory) (is_mapped (fill memory start size cell)) HIGH (λ addr h. put_or_was (in_range start size addr) cell (memory addr) h) in
    sum_few (mapped_count (fill memory start size cell)) (count_below (in_range start size) HIGH) size (mapped_count memory) (4096 * MAX_PAGES) more (count_inside start size HIGH high) room

-- mmap

mapped_few : (memory : Memory) (len : ℕ) (prot : Prot) (place : Place) (start : ℕ) → At start ≡ mmap_reply memory len prot place → IsFew memory → IsFew (fill memory start (rounded len) (zeros_with prot))
mapped_few memory len prot Anywhere start h few =
    let told =
    at_passed ((eqb len 0, Einval) ∷ (ltb (HIGH - LOW) (rounded len), Enomem) ∷ (ltb (4096 * MAX_PAGES) (mapped_count memory + rounded len), Enomem) ∷ []) (at_place (free_place (is_mapped memory) (rounded len))) start h in
    filled_few memory start (rounded len) (zeros_with prot) (mmap_inside memory len prot Anywhere start h).high (ltb-false (4096 * MAX_PAGES) (mapped_count memory + rounded len) told.0.1.1.0)
mapped_few memory len prot (Fixed addr) start h few = grind (arith, nat_tests, at_passed, same_at, ltb-false)
mapped_few memory len prot (NoReplace addr) start h few = grind (arith, nat_tests, at_passed, same_at, ltb-false)

-- mremap

pub some_or : {A : Type 0} (o : Option A) → (o ≡ None → ⊥) → is_some o ≡ true
some_or o h = grind (arith, nat_tests)

moved_or_was : (target old : Bool) (put here : Option Cell) → is_some (cond target put (cond old None here)) ≡ true → (target || (is_some here && not old)) ≡ true
moved_or_was target old put here h = grind (arith, nat_tests)

in_range_at : (first count n : ℕ) → in_range first count n ≡ true → (first + (n - first) ≡ n) × (n - first < count)
in_range_at first count n h = grind arith

sum_moved : (new target kept old all size add limit : ℕ) → new ≤ target + kept → kept + old ≡ all → old ≡ size → target ≡ add → all - size + add ≤ limit → new ≤ limit
sum_moved new target kept old all size add limit h k o t l = omega (arith, h, k, o, t, l)

last_below : (addr size : ℕ) → 0 < size → addr + (size - 1) < HIGH → addr + size ≤ HIGH
last_below addr size some last = omega (arith, some, last)

remapped_few : (memory : Memory) (addr old_size target new_size : ℕ) → IsBounded memory → 0 < old_size → has_one_prot memory addr old_size ≡ true → target + new_size ≤ HIGH →
    mapped_count memory - old_size + new_size ≤ 4096 * MAX_PAGES → IsFew (moved memory addr old_size target new_size)
remapped_few memory addr old_size target new_size bounded some one high room =
    let mapped = λ (n : ℕ) (h : in_range addr old_size n ≡ true).
    let at = in_range_at addr old_size n h in
    some_or (memory n) (λ none. one_prot_some memory addr old_size (n - addr) one at.1 (ap memory at.0 ∙ none)) in
    let last : addr + (old_size - 1) < HIGH = high_or (λ past. one_prot_some memory addr old_size (old_size - 1) one (omega (arith, some)) (bounded (addr + (old_size - 1)) (inr past))) in
    sum_moved (mapped_count (moved memory addr old_size target new_size)) (count_below (in_range target new_size) HIGH) (count_below (λ n. is_mapped memory n && not (in_range addr old_size n)) HIGH)
    (count_below (in_range addr old_size) HIGH) (mapped_count memory) old_size new_size (4096 * MAX_PAGES)
    (count_either (in_range target new_size) (λ n. is_mapped memory n && not (in_range addr old_size n)) (is_mapped (moved memory addr old_size target new_size)) HIGH
    (λ n h. moved_or_was (in_range target new_size n) (in_range addr old_size n) _ (memory n) h))
    (count_apart (is_mapped memory) (in_range addr old_size) HIGH mapped) (count_inside addr old_size HIGH (last_below addr old_size some last)) (count_inside target new_size HIGH high) room

target_few : (memory : Memory) (addr old_size new_size : ℕ) (may_move : Bool) (fixed : Option ℕ) (target : ℕ) → IsBounded memory → 0 < old_size → has_one_prot memory addr old_size ≡ true → target + new_size ≤ HIGH →
    At target ≡ mremap_target memory addr old_size new_size may_move fixed → IsFew (moved memory addr old_size target new_size)
target_few memory addr old_size new_size may_move fixed target bounded some one high h = grind (arith, nat_tests, remapped_few, same_at)

mremap_few : (memory : Memory) (addr old_len new_len : ℕ) (may_move : Bool) (fixed : Option ℕ) (target : ℕ) → IsBounded memory → At target ≡ mremap_reply memory addr old_len new_len may_move fixed →
    IsFew (moved memory addr (rounded old_len) target (rounded new_len))
mremap_few memory addr old_len new_len may_move fixed target bounded h =
    let remapped = mremap_told memory addr old_len new_len may_move fixed target h in
    let told =
    at_passed ((not (is_page_start addr) || eqb old_len 0 || eqb new_len 0 || is_bad_target addr (rounded old_len) (rounded new_len) may_move fixed, Einval) ∷ (not (has_one_prot memory addr (rounded old_len)), Efault) ∷ [])
    (mremap_target memory addr (rounded old_len) (rounded new_len) may_move fixed) target h in
    target_few memory addr (rounded old_len) (rounded new_len) may_move fixed target bounded (let some = remapped.old_some in omega (arith, some)) remapped.one_prot (remapped_inside memory addr old_len new_len target bounded remapped).high told.1

-- Every command

few_changed : (memory : Memory) (command : Command) (reply : Reply) → IsBounded memory → reply ≡ reply_of memory command → IsFew memory → IsFew (changed memory command reply)
few_changed memory command reply bounded h few = grind (arith, nat_tests, less_few, mapped_few, mremap_few)

few_from : (memory : Memory) (entries : List Entry) → IsBounded memory → IsFew memory → IsFew (memory_from memory entries)
few_from memory [] bounded few = few
few_from memory (entry ∷ entries) bounded few = grind (arith, nat_tests, changed_bounded, few_changed, few_from (after memory entry.command) entries (changed_bounded memory entry.command (reply_of memory entry.command) bounded refl) (few_changed memory entry.command (reply_of memory entry.command) bounded refl few))

none_mapped : IsFew no_memory
none_mapped = let none = count_below-constant (is_mapped no_memory) false HIGH (λ i l. refl) in omega (arith, none)

pub memory_of_few : (entries : List Entry) → IsFew (memory_of entries)
memory_of_few entries = few_from no_memory entries (λ addr out. refl) none_mapped
