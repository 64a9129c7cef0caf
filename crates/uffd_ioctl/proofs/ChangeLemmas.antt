-- How the map calls change a host.
use Rattle.std.proofs.Common.{◌≡◌, ℕ, ◌+◌, ◌-◌, ◌/◌, ◌%◌, ◌<◌, ◌≤◌, Bool, false, cond, Option, Some, None, sym, ap, ◌∙◌, subst, ◌⊎◌, ⊎_elim, inl, inr, arith, min, max, is_some}
use Rattle.std.specs.FinMap.{get, contains_key}
use Rattle.std.proofs.lemmas.Bool.Decides.{nat_tests}
use Rattle.std.proofs.lemmas.Bool.{false≢true}
use Rattle.mig_base.specs.declared.TheConstants.{HIGH_PAGE}
use Rattle.mig_base.specs.declared.Prot.{Prot}
use Rattle.mig_base.specs.declared.command.Place.{Place}
use Rattle.mig_base.specs.declared.command.Reply.TheVariants.{At}
use Rattle.foundation.specs.Ranges.{in_range, pages_of, rounded}
use Rattle.mig_base.specs.FreePlaces.{free_place}
use Rattle.mig_base.specs.Pages.{remove_range}
use Rattle.mig_base.specs.Flat.{is_mapped, overlaps, mmap_reply, mremap_reply}
use Rattle.mig_base.proofs.FreePlaceLemmas.{run_found}
use Rattle.mig_base.proofs.PageLemmas.{same_pages, get-remove_range}
use Rattle.mig_base.proofs.ReplyLemmas.{IsRemapped, mmap_inside, mremap_told}
use Rattle.mig_base.proofs.ReplyLemmas.IsWhere.{Shrunk, Grew, Moved, Told}
use Rattle.mig_base.proofs.BoundLemmas.{apart_of}
use Rattle.mig_model.specs.Host.{Host, memory, IsSound}
use Rattle.mig_model.proofs.memory.HostLemmas.{is_mapped-memory}
use Rattle.mig_model.proofs.memory.CommandLemmas.{remapped_place}
use Rattle.uffd_ioctl.specs.Remaps.{IsRemap, HasProt}
use Rattle.uffd_ioctl.proofs.MapCallLemmas.{one_prot_pages, mapped_range}

-- A mapping

-- where mmap put the pages
pub record IsMade (start bytes : ℕ) : Type 0 where
  pub first : start / 4096 < HIGH_PAGE + 1
  pub count : pages_of bytes ≤ HIGH_PAGE
  pub high : start / 4096 + pages_of bytes ≤ HIGH_PAGE

pub made_inside : (host : Host) (bytes : ℕ) (prot : Prot) (place : Place) (start : ℕ) → At start ≡ mmap_reply (memory host) bytes prot place → IsMade start bytes
made_inside host bytes prot place start reply =
    let high = (mmap_inside (memory host) bytes prot place start reply).high in
    record { first = omega arith; count = omega arith; high = omega arith }

-- Pages that are not needed

-- no page past the address space is present
clipped_at : {A : Type 0} (first count low end q : ℕ) (none old : A) → low ≡ min first HIGH_PAGE → end ≡ min (first + count) HIGH_PAGE → (HIGH_PAGE ≤ q → old ≡ none) → cond (in_range low (end - low) q) none old ≡ cond (in_range first count q) none old
clipped_at first count low end q none old is_low is_end past = grind (arith, nat_tests, past)

pub dropped_below : (host : Host) (first count low end : ℕ) → IsSound host → low ≡ min first HIGH_PAGE → end ≡ min (first + count) HIGH_PAGE → remove_range host.bytes low (end - low) ≡ remove_range host.bytes first count
dropped_below host first count low end sound is_low is_end =
    same_pages (remove_range host.bytes low (end - low)) (remove_range host.bytes first count) (λ q.
    get-remove_range host.bytes low (end - low) q
    ∙ clipped_at first count low end q None (get host.bytes q) is_low is_end (λ past. sound.mapped q (sound.bound q past))
    ∙ sym (get-remove_range host.bytes first count q))

-- A range at its new place

apart_or : (from count to new_count : ℕ) → ((from + count ≤ to) ⊎ (to + new_count ≤ from)) ⊎ ((to < from + count) × (from < to + new_count))
apart_or from count to new_count = grind (arith, nat_tests)

some_not : (prot : Prot) (o : Option Prot) → o ≡ Some prot → is_some o ≡ false → ⊥
some_not prot o some none = false≢true (sym none ∙ ap is_some some)

-- a place that is free lies apart from what is mapped
free_apart : (host : Host) (addr count target bytes : ℕ) → 0 < count → 0 < pages_of bytes → HasProt host.areas (addr / 4096) count → free_place (is_mapped (memory host)) (rounded bytes) ≡ Some target → (addr / 4096 + count ≤ target / 4096) ⊎ (target / 4096 + pages_of bytes ≤ addr / 4096)
free_apart host addr count target bytes some longer has found =
    let run = (run_found (λ page. contains_key host.areas page) (rounded bytes) target (sym (ap (λ taken. free_place taken (rounded bytes)) (is_mapped-memory host)) ∙ found)).1 in
    let size : (rounded bytes + 4095) / 4096 ≡ pages_of bytes = omega arith in
    ⊎_elim
    (λ (apart : (addr / 4096 + count ≤ target / 4096) ⊎ (target / 4096 + pages_of bytes ≤ addr / 4096)). apart)
    (λ (met : (target / 4096 < addr / 4096 + count) × (addr / 4096 < target / 4096 + pages_of bytes)).
    let low = met.0 in
    let high = met.1 in
    let page = max (addr / 4096) (target / 4096) in
    absurd (some_not has.0 (get host.areas page) (has.1 page (omega arith) (omega arith)) (run.free page (omega arith) (omega arith))))
    (apart_or (addr / 4096) count (target / 4096) (pages_of bytes))

-- the new range begins where the old one does, or apart from it
abbrev LiesWell : ℕ → ℕ → ℕ → ℕ → Type 0
LiesWell from count to new_count = (to ≡ from) ⊎ ((from + count ≤ to) ⊎ (to + new_count ≤ from))

lies_apart : (addr old_len target new_len : ℕ) → addr % 4096 ≡ 0 → target % 4096 ≡ 0 → overlaps target (rounded new_len) addr (rounded old_len) ≡ false → (addr / 4096 + pages_of old_len ≤ target / 4096) ⊎ (target / 4096 + pages_of new_len ≤ addr / 4096)
lies_apart addr old_len target new_len whole even apart =
    ⊎_elim
    (λ (below : addr + rounded old_len ≤ target). inl (omega arith))
    (λ (above : target + rounded new_len ≤ addr). inr (omega arith))
    (apart_of target (rounded new_len) addr (rounded old_len) apart)

lies_well : (host : Host) (addr old_len new_len target : ℕ) → IsRemapped (memory host) addr old_len new_len target → LiesWell (addr / 4096) (pages_of old_len) (target / 4096) (pages_of new_len)
lies_well host addr old_len new_len target told =
    let old_some = told.old_some in
    let new_some = told.new_some in
    elim told.place [
      | Shrunk same shorter ↦ inl (ap (λ a. a / 4096) same)
      | Grew same can ↦ inl (ap (λ a. a / 4096) same)
      | Moved found ↦ inr (free_apart host addr (pages_of old_len) target new_len (omega arith) (omega arith) (one_prot_pages host addr (pages_of old_len) told.whole (omega arith) told.one_prot) found)
      | Told at ↦ inr (lies_apart addr old_len target new_len told.whole at.inside.whole at.apart)
    ]

-- a remap of whole pages
pub record IsMoved (addr old_len new_len target : ℕ) : Type 0 where
  pub some : 0 < pages_of old_len
  pub from : addr / 4096 + pages_of old_len ≤ HIGH_PAGE
  pub to : target / 4096 + pages_of new_len ≤ HIGH_PAGE
  pub place : LiesWell (addr / 4096) (pages_of old_len) (target / 4096) (pages_of new_len)

pub moved_well : (host : Host) (addr old_len new_len : ℕ) (may_move : Bool) (fixed : Option ℕ) (target : ℕ) → IsSound host → At target ≡ mremap_reply (memory host) addr old_len new_len may_move fixed → IsMoved addr old_len new_len target
moved_well host addr old_len new_len may_move fixed target sound reply =
    let told = mremap_told (memory host) addr old_len new_len may_move fixed target reply in
    let some = told.old_some in
    let high = (remapped_place host addr old_len new_len target sound told).high in
    record {
      some = omega arith;
      from = (mapped_range host addr (pages_of old_len) sound told.whole (omega arith) told.one_prot).inside;
      to = omega arith;
      place = lies_well host addr old_len new_len target told;
    }

pub remap_of : (addr old_len new_len target count new_count : ℕ) → IsMoved addr old_len new_len target → count ≡ pages_of old_len → new_count ≡ pages_of new_len → IsRemap (record { from = addr / 4096; count = count; to = target / 4096; new_count = new_count })
remap_of addr old_len new_len target count new_count moved pages new_pages =
    rw (pages, new_pages) (record { some = moved.some; from = moved.from; to = moved.to; place = moved.place })

pub remap_prot : (host : Host) (addr old_len new_len : ℕ) (may_move : Bool) (fixed : Option ℕ) (target count : ℕ) → At target ≡ mremap_reply (memory host) addr old_len new_len may_move fixed → count ≡ pages_of old_len → HasProt host.areas (addr / 4096) count
remap_prot host addr old_len new_len may_move fixed target count reply pages =
    let told = mremap_told (memory host) addr old_len new_len may_move fixed target reply in
    let some = told.old_some in
    subst (HasProt host.areas (addr / 4096)) (sym pages) (one_prot_pages host addr (pages_of old_len) told.whole (omega arith) told.one_prot)

-- The memory
