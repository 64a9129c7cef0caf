-- Every mapped address lies from LOW up to HIGH.
use Rattle.std.proofs.Common.{◌≡◌, ℕ, ◌+◌, ◌-◌, ◌<◌, ◌≤◌, Bool, true, false, cond, not, ltb, Option, Some, None, List, [], ◌∷◌, refl, ap, ◌∙◌, ◌⊎◌, inl, inr, ⊎_elim, arith, add-zero}
use Rattle.std.proofs.lemmas.Bool.{false≢true, not-false, leb-true}
use Rattle.std.proofs.lemmas.Bool.Decides.{nat_tests}
use Rattle.mig_base.specs.declared.TheConstants.{LOW, HIGH}
use Rattle.mig_base.specs.declared.command.Errno.TheVariants.{Enomem}
use Rattle.mig_base.specs.declared.command.Command.{Command}
use Rattle.mig_base.specs.declared.command.Command.TheVariants.{Store, Mmap, Munmap, Mremap, DontNeed}
use Rattle.mig_base.specs.declared.command.Reply.{Reply}
use Rattle.mig_base.specs.declared.command.Reply.TheVariants.{Done, At, Refused}
use Rattle.mig_base.specs.declared.command.Entry.{Entry}
use Rattle.foundation.specs.Ranges.{in_range, rounded}
use Rattle.mig_base.specs.Flat.{Memory, Cell, is_mapped, no_memory, fill, zeros_with, moved, grown, same_prot, has_one_prot, overlaps, written, reply_of, changed, after, memory_from, memory_of}
use Rattle.foundation.proofs.RangeLemmas.{none_below_tells, in_range-false_below, in_range-false_above}
use Rattle.mig_base.proofs.ReplyLemmas.{IsInside, IsRemapped, found_inside, mmap_inside, mremap_told}
use Rattle.mig_base.proofs.ReplyLemmas.IsWhere.{Shrunk, Grew, Moved, Told}
use Rattle.foundation.proofs.TestLemmas.{and_second, cond_none}

abbrev pub IsBounded : Memory → Type 0
IsBounded memory = (addr : ℕ) → (addr < LOW) ⊎ (HIGH ≤ addr) → memory addr ≡ None

pub low_or : {addr : ℕ} → (addr < LOW → ⊥) → LOW ≤ addr
low_or h = grind (arith, nat_tests, h)

pub high_or : {addr : ℕ} → (HIGH ≤ addr → ⊥) → addr < HIGH
high_or h = grind (arith, nat_tests, h)

-- two ranges that do not overlap
pub apart_of : (start size other other_size : ℕ) → overlaps start size other other_size ≡ false → (other + other_size ≤ start) ⊎ (start + size ≤ other)
apart_of start size other other_size h = grind (arith, nat_tests)

pub same_prot_some : (a b : Option Cell) → same_prot a b ≡ true → b ≡ None → ⊥
same_prot_some (Some a) (Some b) h e = cc
same_prot_some (Some a) None h e = false≢true h
same_prot_some None b h e = false≢true h

pub one_prot_some : (memory : Memory) (start size i : ℕ) → has_one_prot memory start size ≡ true → i < size → memory (start + i) ≡ None → ⊥
one_prot_some memory start size i one l none =
    same_prot_some (memory start) (memory (start + i)) (not-false _ (none_below_tells (λ k. not (same_prot (memory start) (memory (start + k)))) size i one l)) none

written_none : (t : Bool) (o : Option Cell) (byte : ℕ) → o ≡ None → cond t (written o byte) o ≡ None
written_none true o byte h = ap (λ c. written c byte) h
written_none false o byte h = h

outside : (start len addr : ℕ) → LOW ≤ start → start + len ≤ HIGH → (addr < LOW) ⊎ (HIGH ≤ addr) → in_range start len addr ≡ false
outside start len addr low high out =
    ⊎_elim
    (λ (below : addr < LOW). in_range-false_below start len addr (omega arith))
    (λ (above : HIGH ≤ addr). in_range-false_above start len addr (omega arith))
    out

filled_bounded : (memory : Memory) (start len : ℕ) (cell : Cell) → IsBounded memory → IsInside start (rounded len) → IsBounded (fill memory start (rounded len) cell)
filled_bounded memory start len cell bounded inside addr out =
    ap (λ t. cond t (Some cell) (memory addr)) (outside start (rounded len) addr inside.low inside.high out)
    ∙ bounded addr out

-- each address of a range of one protection is mapped, so the range lies in the address space
mapped_inside : (memory : Memory) (addr : ℕ) → IsBounded memory → (memory addr ≡ None → ⊥) → (LOW ≤ addr) × (addr < HIGH)
mapped_inside memory addr bounded some = (low_or (λ l. some (bounded addr (inl l))), high_or (λ l. some (bounded addr (inr l))))

-- the place of an mremap lies in the address space
pub remapped_inside : (memory : Memory) (addr old_len new_len target : ℕ) → IsBounded memory → IsRemapped memory addr old_len new_len target → IsInside target (rounded new_len)
remapped_inside memory addr old_len new_len target bounded told =
    let one = told.one_prot in
    let old_some = told.old_some in
    let new_some = told.new_some in
    let whole = told.whole in
    let first = mapped_inside memory addr bounded (λ none. one_prot_some memory addr (rounded old_len) 0 one (omega (arith, old_some)) (ap memory (add-zero addr) ∙ none)) in
    elim told.place [
      | Shrunk same shorter ↦
          let last = mapped_inside memory (addr + (rounded new_len - 1)) bounded (one_prot_some memory addr (rounded old_len) (rounded new_len - 1) one (omega (arith, shorter, new_some))) in
          rw same (record { whole = whole; low = first.0; high = omega (arith, last, new_some) })
      | Grew same can ↦ rw same (record { whole = whole; low = first.0; high = leb-true (addr + rounded new_len) HIGH (and_second _ _ can) })
      | Moved found ↦ found_inside (is_mapped memory) (rounded new_len) target found
      | Told at ↦ at.inside
    ]

moved_bounded : (memory : Memory) (addr old_size target new_size : ℕ) → IsBounded memory → IsInside target new_size → IsBounded (moved memory addr old_size target new_size)
moved_bounded memory addr old_size target new_size bounded inside at out =
    ap (λ t. cond t (cond (ltb (at - target) old_size) (memory (addr + (at - target))) (grown (memory addr))) (cond (in_range addr old_size at) None (memory at))) (outside target new_size at inside.low inside.high out)
    ∙ cond_none (in_range addr old_size at) (memory at) (bounded at out)

-- a command changes no address outside the bounds
pub changed_bounded : (memory : Memory) (command : Command) (reply : Reply) → IsBounded memory → reply ≡ reply_of memory command → IsBounded (changed memory command reply)
changed_bounded memory (Store addr width value) Done bounded h = λ at out. written_none (in_range addr width at) (memory at) _ (bounded at out)
changed_bounded memory (Mmap len prot place) (At start) bounded h = filled_bounded memory start len (zeros_with prot) bounded (mmap_inside memory len prot place start h)
changed_bounded memory (Munmap addr len) Done bounded h = λ at out. cond_none (in_range addr (rounded len) at) (memory at) (bounded at out)
changed_bounded memory (Mremap addr old_len new_len may_move fixed) (At target) bounded h =
    moved_bounded memory addr (rounded old_len) target (rounded new_len) bounded (remapped_inside memory addr old_len new_len target bounded (mremap_told memory addr old_len new_len may_move fixed target h))
changed_bounded memory (DontNeed addr len) Done bounded h = λ at out. written_none (in_range addr (rounded len) at) (memory at) 0 (bounded at out)
changed_bounded memory (DontNeed addr len) (Refused Enomem) bounded h = λ at out. written_none (in_range addr (rounded len) at) (memory at) 0 (bounded at out)
changed_bounded memory _ _ bounded h = bounded

memory_from_bounded : (memory : Memory) (entries : List Entry) → IsBounded memory → IsBounded (memory_from memory entries)
memory_from_bounded memory [] bounded = bounded
memory_from_bounded memory (entry ∷ entries) bounded = memory_from_bounded (after memory entry.command) entries (changed_bounded memory entry.command (reply_of memory entry.command) bounded refl)

pub memory_of_bounded : (entries : List Entry) (addr : ℕ) → (addr < LOW) ⊎ (HIGH ≤ addr) → memory_of entries addr ≡ None
memory_of_bounded entries = memory_from_bounded no_memory entries (λ addr out. refl)
