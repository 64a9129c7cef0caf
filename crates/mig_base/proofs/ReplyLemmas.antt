-- What the reply of a map call tells of its arguments.
use Rattle.std.proofs.Common.{◌≡◌, ℕ, ◌+◌, ◌-◌, ◌*◌, ◌%◌, ◌<◌, ◌≤◌, ◌||◌, Bool, true, false, cond, not, eqb, ltb, leb, Option, Some, None, List, [], ◌∷◌, ◌++◌, refl, sym, ap, ◌∙◌}
use Rattle.std.proofs.lemmas.Bool.{false≢true, eqb-true, not-false, ltb-false, leb-true}
use Rattle.mig_base.specs.declared.TheConstants.{LOW, HIGH, MAX_PAGES}
use Rattle.mig_base.specs.declared.Prot.{Prot}
use Rattle.mig_base.specs.declared.command.Errno.{Errno}
use Rattle.mig_base.specs.declared.command.Errno.TheVariants.{Enomem, Efault, Eexist, Einval}
use Rattle.mig_base.specs.declared.command.Place.{Place}
use Rattle.mig_base.specs.declared.command.Place.TheVariants.{Anywhere, Fixed, NoReplace}
use Rattle.mig_base.specs.declared.command.Reply.{Reply}
use Rattle.mig_base.specs.declared.command.Reply.TheVariants.{Done, At, Refused}
use Rattle.foundation.specs.Ranges.{rounded}
use Rattle.mig_base.specs.FreePlaces.{free_place}
use Rattle.mig_base.specs.Flat.{Memory, is_mapped, mapped_count, fill, zeros_with, is_page_start, is_unmapped, exceeds_limit, place_refusals, first_refusal, at_place, mmap_reply, munmap_reply, dontneed_reply, has_one_prot, moved, is_bad_target, can_grow, overlaps, mremap_place, mremap_target, mremap_reply}
use Rattle.mig_base.proofs.FreePlaceLemmas.{place_found, four_hold}
use Rattle.foundation.proofs.TestLemmas.{or_first, or_second, positive}

-- no refusal of the list applies
abbrev pub NoneApplies : List (Bool × Errno) → Type 0
NoneApplies [] = Unit {0}
NoneApplies (refusal ∷ refusals) = (refusal.0 ≡ false) × NoneApplies refusals

is_refused : Reply → Bool
is_refused (Refused errno) = true
is_refused _ = false

refused_not : (errno : Errno) (reply : Reply) → is_refused reply ≡ false → reply ≡ Refused errno → ⊥
unfolding is_refused
refused_not errno reply h is = false≢true (sym h ∙ ap is_refused is)

pass_one : (test : Bool) (errno : Errno) (reply rest : Reply) → is_refused reply ≡ false → reply ≡ cond test (Refused errno) rest → (test ≡ false) × (reply ≡ rest)
pass_one true errno reply rest h is = absurd (refused_not errno reply h is)
pass_one false errno reply rest h is = (refl, is)

passed : (refusals : List (Bool × Errno)) (answer reply : Reply) → is_refused reply ≡ false → reply ≡ first_refusal refusals answer → NoneApplies refusals × (reply ≡ answer)
passed [] answer reply h is = (tt, is)
passed (refusal ∷ refusals) answer reply h is =
    let one = pass_one refusal.0 refusal.1 reply (first_refusal refusals answer) h is in
    let rest = passed refusals answer reply h one.1 in
    ((one.0, rest.0), rest.1)

-- mmap and mremap answer a place, or a refusal
pub at_passed : (refusals : List (Bool × Errno)) (answer : Reply) (start : ℕ) → At start ≡ first_refusal refusals answer → NoneApplies refusals × (At start ≡ answer)
unfolding is_refused
at_passed refusals answer start is = passed refusals answer (At start) refl is

pub done_passed : (refusals : List (Bool × Errno)) (answer : Reply) → Done ≡ first_refusal refusals answer → NoneApplies refusals × (Done ≡ answer)
unfolding is_refused
done_passed refusals answer is = passed refusals answer Done refl is

pub at_some_place : (o : Option ℕ) (start : ℕ) → At start ≡ at_place o → o ≡ Some start
at_some_place None start h = absurd (cc)
at_some_place (Some found) start h = cc

pub same_at : (a b : ℕ) → At a ≡ At b → a ≡ b
same_at a b h = cc

-- a page range of the address space
pub record IsInside (start size : ℕ) : Type 0 where
  pub whole : start % 4096 ≡ 0
  pub low : LOW ≤ start
  pub high : start + size ≤ HIGH

asked_inside : (addr size : ℕ) → (not (is_page_start addr) ≡ false) → (ltb addr LOW ≡ false) → (ltb HIGH (addr + size) ≡ false) → IsInside addr size
asked_inside addr size a b c = record { whole = eqb-true (addr % 4096) 0 (not-false (is_page_start addr) a); low = ltb-false addr LOW b; high = ltb-false HIGH (addr + size) c }

pub found_inside : (taken : ℕ → Bool) (size start : ℕ) → free_place taken size ≡ Some start → IsInside start size
found_inside taken size start h =
    let parts = four_hold _ _ _ _ (place_found taken size start h) in
    record { whole = eqb-true (start % 4096) 0 parts.one; low = leb-true LOW start parts.two; high = leb-true (start + size) HIGH parts.three }

-- where mmap put a range
pub mmap_inside : (memory : Memory) (len : ℕ) (prot : Prot) (place : Place) (start : ℕ) → At start ≡ mmap_reply memory len prot place → IsInside start (rounded len)
mmap_inside memory len prot Anywhere start h =
    found_inside (is_mapped memory) (rounded len) start (at_some_place (free_place (is_mapped memory) (rounded len)) start
    (at_passed ((eqb len 0, Einval) ∷ (ltb (HIGH - LOW) (rounded len), Enomem) ∷ (ltb (4096 * MAX_PAGES) (mapped_count memory + rounded len), Enomem) ∷ []) (at_place (free_place (is_mapped memory) (rounded len))) start h).1)
mmap_inside memory len prot (Fixed addr) start h =
    let told = at_passed ((eqb len 0, Einval) ∷ (place_refusals addr (rounded len) ++ (exceeds_limit (fill memory addr (rounded len) (zeros_with prot)), Enomem) ∷ [])) (At addr) start h in
    let t = told.0 in
    rw (same_at start addr told.1) (asked_inside addr (rounded len) t.1.0 t.1.1.1.0 t.1.1.1.1.0)
mmap_inside memory len prot (NoReplace addr) start h =
    let told = at_passed ((eqb len 0, Einval) ∷ (place_refusals addr (rounded len) ++ (not (is_unmapped memory addr (rounded len)), Eexist) ∷ (exceeds_limit (fill memory addr (rounded len) (zeros_with prot)), Enomem) ∷ [])) (At addr) start h in
    let t = told.0 in
    rw (same_at start addr told.1) (asked_inside addr (rounded len) t.1.0 t.1.1.1.0 t.1.1.1.1.0)

pub munmap_whole : (addr len : ℕ) → Done ≡ munmap_reply addr len → addr % 4096 ≡ 0
munmap_whole addr len h =
    let told = done_passed ((not (is_page_start addr), Einval) ∷ (eqb len 0, Einval) ∷ (ltb HIGH (addr + rounded len), Einval) ∷ []) Done h in
    eqb-true (addr % 4096) 0 (not-false (is_page_start addr) told.0.0)

unless_invalid : (a : Bool) (reply rest : Reply) → (reply ≡ Refused Einval → ⊥) → reply ≡ cond (not a) (Refused Einval) rest → a ≡ true
unless_invalid true reply rest h is = refl
unless_invalid false reply rest h is = absurd (h is)

-- a DontNeed that is done, or reaches a hole
pub dontneed_done : (memory : Memory) (addr len : ℕ) → Done ≡ dontneed_reply memory addr len → addr % 4096 ≡ 0
dontneed_done memory addr len h = eqb-true (addr % 4096) 0 (unless_invalid (is_page_start addr) Done _ (λ e. absurd (cc)) h)

pub dontneed_hole : (memory : Memory) (addr len : ℕ) → Refused Enomem ≡ dontneed_reply memory addr len → addr % 4096 ≡ 0
dontneed_hole memory addr len h = eqb-true (addr % 4096) 0 (unless_invalid (is_page_start addr) (Refused Enomem) _ (λ e. absurd (cc)) h)

-- Mremap

-- a fixed target lies in the address space, apart from the old range
pub record IsTarget (addr old_size target new_size : ℕ) : Type 0 where
  pub inside : IsInside target new_size
  pub apart : overlaps target new_size addr old_size ≡ false

target_told : (addr old_size new_size target : ℕ) (may_move : Bool) → is_bad_target addr old_size new_size may_move (Some target) ≡ false → IsTarget addr old_size target new_size
target_told addr old_size new_size target may_move h =
    let start = is_page_start target in
    let low = ltb target LOW in
    let high = ltb HIGH (target + new_size) in
    let over = overlaps target new_size addr old_size in
    let one = or_first (not may_move || not start || low || high) over h in
    let two = or_first (not may_move || not start || low) high one in
    let three = or_first (not may_move || not start) low two in
    record { inside = asked_inside target new_size (or_second (not may_move) (not start) three) (or_second (not may_move || not start) low two) (or_second (not may_move || not start || low) high one); apart = or_second (not may_move || not start || low || high) over h }

-- where an mremap without a fixed target put the range: it is no longer than it was, or grew where it was, or moved
pub data IsWhere (memory : Memory) (addr old_size new_size target : ℕ) : Type 0 where
  Shrunk : target ≡ addr → new_size ≤ old_size → IsWhere memory addr old_size new_size target
  Grew : target ≡ addr → can_grow memory addr old_size new_size ≡ true → IsWhere memory addr old_size new_size target
  Moved : free_place (is_mapped memory) new_size ≡ Some target → IsWhere memory addr old_size new_size target
  Told : IsTarget addr old_size target new_size → IsWhere memory addr old_size new_size target

stays_or_moves : (fits grows may_move : Bool) (memory : Memory) (addr old_size new_size target : ℕ) → fits ≡ leb new_size old_size → grows ≡ can_grow memory addr old_size new_size
    → At target ≡ cond (fits || grows) (At addr) (cond may_move (at_place (free_place (is_mapped memory) new_size)) (Refused Enomem)) → IsWhere memory addr old_size new_size target
stays_or_moves true grows may_move memory addr old_size new_size target fits can h = Shrunk (same_at target addr h) (leb-true new_size old_size (sym fits))
stays_or_moves false true may_move memory addr old_size new_size target fits can h = Grew (same_at target addr h) (sym can)
stays_or_moves false false true memory addr old_size new_size target fits can h = Moved (at_some_place (free_place (is_mapped memory) new_size) target h)
stays_or_moves false false false memory addr old_size new_size target fits can h = absurd (cc)

placed_told : (memory : Memory) (addr old_size new_size target : ℕ) (may_move : Bool) → At target ≡ mremap_target memory addr old_size new_size may_move None → IsWhere memory addr old_size new_size target
placed_told memory addr old_size new_size target may_move h =
    let told = at_passed ((ltb (4096 * MAX_PAGES) (mapped_count memory - old_size + new_size), Enomem) ∷ []) (mremap_place memory addr old_size new_size may_move) target h in
    stays_or_moves (leb new_size old_size) (can_grow memory addr old_size new_size) may_move memory addr old_size new_size target refl refl told.1

fixed_told : (memory : Memory) (addr old_size new_size target fixed : ℕ) (may_move : Bool) → is_bad_target addr old_size new_size may_move (Some fixed) ≡ false
    → At target ≡ mremap_target memory addr old_size new_size may_move (Some fixed) → IsWhere memory addr old_size new_size target
fixed_told memory addr old_size new_size target fixed may_move good h =
    let told = at_passed ((exceeds_limit (moved memory addr old_size fixed new_size), Enomem) ∷ []) (At fixed) target h in
    rw (same_at target fixed told.1) (Told (target_told addr old_size new_size fixed may_move good))

where_told : (memory : Memory) (addr old_size new_size target : ℕ) (may_move : Bool) (fixed : Option ℕ) → is_bad_target addr old_size new_size may_move fixed ≡ false
    → At target ≡ mremap_target memory addr old_size new_size may_move fixed → IsWhere memory addr old_size new_size target
where_told memory addr old_size new_size target may_move None good h = placed_told memory addr old_size new_size target may_move h
where_told memory addr old_size new_size target may_move (Some fixed) good h = fixed_told memory addr old_size new_size target fixed may_move good h

-- what an mremap that is made tells
pub record IsRemapped (memory : Memory) (addr old_len new_len target : ℕ) : Type 0 where
  pub whole : addr % 4096 ≡ 0
  pub old_some : 0 < old_len
  pub new_some : 0 < new_len
  pub one_prot : has_one_prot memory addr (rounded old_len) ≡ true
  pub place : IsWhere memory addr (rounded old_len) (rounded new_len) target

pub mremap_told : (memory : Memory) (addr old_len new_len : ℕ) (may_move : Bool) (fixed : Option ℕ) (target : ℕ) → At target ≡ mremap_reply memory addr old_len new_len may_move fixed → IsRemapped memory addr old_len new_len target
mremap_told memory addr old_len new_len may_move fixed target h =
    let start = is_page_start addr in
    let none = eqb old_len 0 in
    let nothing = eqb new_len 0 in
    let bad = is_bad_target addr (rounded old_len) (rounded new_len) may_move fixed in
    let one = has_one_prot memory addr (rounded old_len) in
    let told = at_passed ((not start || none || nothing || bad, Einval) ∷ (not one, Efault) ∷ []) (mremap_target memory addr (rounded old_len) (rounded new_len) may_move fixed) target h in
    let wrong = told.0.0 in
    let three = or_first (not start || none || nothing) bad wrong in
    let two = or_first (not start || none) nothing three in
    record {
      whole = eqb-true (addr % 4096) 0 (not-false start (or_first (not start) none two));
      old_some = positive old_len (or_second (not start) none two);
      new_some = positive new_len (or_second (not start || none) nothing three);
      one_prot = not-false one told.0.1.0;
      place = where_told memory addr (rounded old_len) (rounded new_len) target may_move fixed (or_second (not start || none || nothing) bad wrong) told.1;
    }
