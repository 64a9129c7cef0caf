-- One location of a flat memory: what each command finds there, and what it leaves.
use Rattle.std.proofs.Common.{◌≡◌, ◌⊎◌, ℕ, zero, suc, ◌+◌, ◌-◌, ◌/◌, ◌%◌, ◌^◌, ◌<◌, ◌≤◌, ◌&&◌, not, Bool, true, false, cond, eqb, ltb, leb, Option, Some, None, is_some, unwrap_or, [], ◌∷◌, refl, sym, ap, ◌∙◌, subst, inl, inr, arith}
use Rattle.std.proofs.lemmas.Bool.{eqb-true, and_parts, not-false}
use Rattle.std.proofs.lemmas.Bool.Decides.{nat_tests}
use Rattle.std.proofs.Math.Nat.{pow-succ', div-one, div-div-eq-div-mul}
use Rattle.mig_base.specs.declared.Prot.TheVariants.{ReadWrite}
use Rattle.mig_base.specs.declared.command.Errno.TheVariants.{Einval, Enomem}
use Rattle.mig_base.specs.declared.command.Place.TheVariants.{Fixed}
use Rattle.mig_base.specs.declared.command.Command.TheVariants as command
use Rattle.mig_base.specs.declared.command.Reply.TheVariants.{Value, Done, At, Segv, BadAccess, Refused}
use Rattle.foundation.specs.Ranges.{in_range, rounded}
use Rattle.mig_base.specs.Flat.{Memory, Cell, byte_of, written, write, zeros_with, is_mapped, is_all_mapped, is_aligned, is_page_start, overlaps, number_at, access_reply, allows_load, allows_store, reply_of, after, changed, first_refusal, IsRunFrom, memory_from}
use Rattle.foundation.proofs.RangeLemmas.{in_range_bounds, in_range-true, in_range-out, in_range_tells, none_below_tells}
use Rattle.mig_base.proofs.ReplyLemmas.{mmap_inside, munmap_whole, dontneed_done}
use Rattle.mig_model.proofs.memory.NumberLemmas.{number_at-zeros, aligned_inside}
use Rattle.history.specs.declared.operation.Action.{Action}
use Rattle.history.specs.declared.operation.Action.TheVariants as action
use Rattle.history.specs.Histories.{entries_of}
use Rattle.history.specs.Contradictions.{found_at, left_at, keeps_whole}

-- the memory has this at the location: a number, or nothing where it is not mapped
pub record HoldsNumber (memory : Memory) (place size value : ℕ) : Type 0 where
  pub mapped : (i : ℕ) → i < size → is_some (memory (place + i)) ≡ true
  pub number : number_at memory place size ≡ value

abbrev pub Shows : Memory → ℕ → ℕ → Option ℕ → Type 0
Shows memory place size None = memory place ≡ None
Shows memory place size (Some value) = HoldsNumber memory place size value

-- Numbers

pub number_same : (m n : Memory) (addr width : ℕ) → ((i : ℕ) → i < width → n (addr + i) ≡ m (addr + i)) → number_at n addr width ≡ number_at m addr width
number_same m n addr zero h = refl
number_same m n addr (suc width) h =
    let here : n addr ≡ m addr = ap n (omega arith) ∙ h 0 (omega arith) ∙ ap m (omega arith) in
    let rest = number_same m n (addr + 1) width (λ i l. ap n (omega arith) ∙ h (suc i) (omega arith) ∙ ap m (omega arith)) in
    rw (here, rest) refl

number_of : (m : Memory) (addr width value : ℕ) → ((i : ℕ) → i < width → byte_of (m (addr + i)) ≡ value / 256 ^ i % 256) → value < 256 ^ width → number_at m addr width ≡ value
number_of m addr zero value h l = let small : value < 1 = l in omega (arith, small)
number_of m addr (suc width) value h l =
    let first = h 0 (omega arith) in
    let here : byte_of (m addr) ≡ value % 256 = ap (λ n. byte_of (m n)) (omega arith) ∙ first ∙ ap (λ n. n % 256) (div-one value) in
    let power = pow-succ' 256 width in
    let small : value / 256 < 256 ^ width = omega (arith, l, power) in
    let rest : number_at m (addr + 1) width ≡ value / 256 =
    number_of m (addr + 1) width (value / 256)
    (λ i less. ap (λ n. byte_of (m n)) (omega arith) ∙ h (suc i) (omega arith) ∙ ap (λ p. value / p % 256) (pow-succ' 256 i) ∙ ap (λ q. q % 256) (sym (div-div-eq-div-mul value 256 (256 ^ i))))
    small in
    rw (here, rest) (omega arith)

is_some-written : (o : Option Cell) (byte : ℕ) → is_some (written o byte) ≡ is_some o
is_some-written o byte = grind (arith, nat_tests)

byte_of-written : (o : Option Cell) (byte : ℕ) → is_some o ≡ true → byte_of (written o byte) ≡ byte
byte_of-written None byte h = cc
byte_of-written (Some cell) byte h = refl

write_inside : (m : Memory) (addr width value i : ℕ) → i < width → write m addr width value (addr + i) ≡ written (m (addr + i)) (value / 256 ^ i % 256)
write_inside m addr width value i l =
    let inside = in_range-true addr width (addr + i) (omega arith) (omega arith) in
    let back : addr + i - addr ≡ i = omega arith in
    rw (inside, back) refl

-- Accesses

is_none : (o : Option Cell) → is_some o ≡ true → o ≡ None → ⊥
is_none None h e = cc
is_none (Some cell) h e = cc

loaded_cell : (allowed : Bool) (value number : ℕ) → Value value ≡ cond allowed (Value number) (Segv true) → value ≡ number
loaded_cell true value number h = cc
loaded_cell false value number h = cc

loaded : (form : Bool) (o : Option Cell) (value number : ℕ) → Value value ≡ cond form (access_reply o allows_load (Value number)) BadAccess → (is_some o ≡ true) × (value ≡ number)
loaded false o value number h = cc
loaded true None value number h = cc
loaded true (Some cell) value number h = (refl, loaded_cell (allows_load cell.prot) value number h)

stored : (form : Bool) (o : Option Cell) → Done ≡ cond form (access_reply o allows_store Done) BadAccess → (form ≡ true) × (is_some o ≡ true)
stored false o h = cc
stored true None h = cc
stored true (Some cell) h = (refl, refl)

-- a load finds what the location holds
load_finds : (m : Memory) (addr width value : ℕ) (s : Option ℕ) → Value value ≡ reply_of m (command.Load addr width) → Shows m addr width s → s ≡ Some value
load_finds m addr width value None h shows =
    let told = loaded (is_aligned addr width) (m addr) value (number_at m addr width) h in
    absurd (is_none (m addr) told.0 shows)
load_finds m addr width value (Some n) h shows =
    let told = loaded (is_aligned addr width) (m addr) value (number_at m addr width) h in
    let same : number_at m addr width ≡ n = shows.number in
    let same_value : value ≡ number_at m addr width = told.1 in
    cc

after_store : (m : Memory) (addr width value : ℕ) → Done ≡ reply_of m (command.Store addr width value) → after m (command.Store addr width value) ≡ write m addr width value
after_store m addr width value h = ap (changed m (command.Store addr width value)) (sym h)

written_number : (m : Memory) (addr width value : ℕ) → value < 256 ^ width → ((i : ℕ) → i < width → is_some (m (addr + i)) ≡ true) → HoldsNumber (write m addr width value) addr width value
written_number m addr width value small mapped = record {
  mapped = λ i l. ap is_some (write_inside m addr width value i l) ∙ is_some-written (m (addr + i)) (value / 256 ^ i % 256) ∙ mapped i l;
  number =
      number_of (write m addr width value) addr width value
      (λ i l. ap byte_of (write_inside m addr width value i l) ∙ byte_of-written (m (addr + i)) (value / 256 ^ i % 256) (mapped i l))
      small;
}

-- a store leaves its value
store_leaves : (m : Memory) (addr width value : ℕ) (s : Option ℕ) → Done ≡ reply_of m (command.Store addr width value) → Shows m addr width s → HoldsNumber (after m (command.Store addr width value)) addr width value
store_leaves m addr width value None h shows =
    let told = stored (is_aligned addr width && ltb value (256 ^ width)) (m addr) h in
    absurd (is_none (m addr) told.1 shows)
store_leaves m addr width value (Some n) h shows =
    let told = stored (is_aligned addr width && ltb value (256 ^ width)) (m addr) h in
    let fits = (and_parts (is_aligned addr width) (ltb value (256 ^ width)) told.0).1 in
    let small : value < 256 ^ width = grind (arith, nat_tests) in
    subst (λ n. HoldsNumber n addr width value) (sym (after_store m addr width value h)) (written_number m addr width value small shows.mapped)

-- What changes elsewhere

kept : (m n : Memory) (place size : ℕ) (s : Option ℕ) → 0 < size → ((i : ℕ) → i < size → n (place + i) ≡ m (place + i)) → Shows m place size s → Shows n place size s
kept m n place size None some same shows = ap n (omega arith) ∙ same 0 some ∙ ap m (omega arith) ∙ shows
kept m n place size (Some value) some same shows = record {
  mapped = λ i l. ap is_some (same i l) ∙ shows.mapped i l;
  number = number_same m n place size same ∙ shows.number;
}

apart : (addr width place size i : ℕ) → not (overlaps addr width place size) ≡ true → i < size → in_range addr width (place + i) ≡ false
apart addr width place size i h l = grind (arith, nat_tests)

store_elsewhere : (m : Memory) (addr width value place size : ℕ) (s : Option ℕ) → 0 < size → not (overlaps addr width place size) ≡ true → Done ≡ reply_of m (command.Store addr width value) → Shows m place size s → Shows (after m (command.Store addr width value)) place size s
store_elsewhere m addr width value place size s some far h shows =
    kept m (after m (command.Store addr width value)) place size s some
    (λ i l. ap (λ (n : Memory). n (place + i)) (after_store m addr width value h) ∙ rw (apart addr width place size i far l) refl)
    shows

-- Map calls: a page range has all of an aligned location, or nothing of it

block : (addr len place size i : ℕ) → addr % 4096 ≡ 0 → place % 4096 + size ≤ 4096 → i < size → in_range addr (rounded len) (place + i) ≡ in_range addr (rounded len) place
block addr len place size i whole inside l = elim (in_range_tells addr (rounded len) place) [
  | inl there ↦ in_range-true addr (rounded len) (place + i) (omega arith) (omega arith) ∙ sym there.0
  | inr elsewhere ↦ in_range-out addr (rounded len) (place + i) (elim elsewhere.1 [ inl below ↦ inl (omega arith) | inr above ↦ inr (omega arith) ]) ∙ sym elsewhere.0
]

pub map_leaves : (m : Memory) (addr len place size i : ℕ) → At addr ≡ reply_of m (command.Mmap len ReadWrite (Fixed addr)) → place % 4096 + size ≤ 4096 → i < size
    → after m (command.Mmap len ReadWrite (Fixed addr)) (place + i) ≡ cond (in_range addr (rounded len) place) (Some (zeros_with ReadWrite)) (m (place + i))
map_leaves m addr len place size i h inside l =
    ap (λ r. changed m (command.Mmap len ReadWrite (Fixed addr)) r (place + i)) (sym h)
    ∙ ap (λ b. cond b (Some (zeros_with ReadWrite)) (m (place + i))) (block addr len place size i (mmap_inside m len ReadWrite (Fixed addr) addr h).whole inside l)

pub unmap_leaves : (m : Memory) (addr len place size i : ℕ) → Done ≡ reply_of m (command.Munmap addr len) → place % 4096 + size ≤ 4096 → i < size
    → after m (command.Munmap addr len) (place + i) ≡ cond (in_range addr (rounded len) place) None (m (place + i))
unmap_leaves m addr len place size i h inside l =
    ap (λ r. changed m (command.Munmap addr len) r (place + i)) (sym h)
    ∙ ap (λ b. cond b None (m (place + i))) (block addr len place size i (munmap_whole addr len h) inside l)

pub discard_leaves : (m : Memory) (addr len place size i : ℕ) → Done ≡ reply_of m (command.DontNeed addr len) → place % 4096 + size ≤ 4096 → i < size
    → after m (command.DontNeed addr len) (place + i) ≡ cond (in_range addr (rounded len) place) (written (m (place + i)) 0) (m (place + i))
discard_leaves m addr len place size i h inside l =
    ap (λ r. changed m (command.DontNeed addr len) r (place + i)) (sym h)
    ∙ ap (λ b. cond b (written (m (place + i)) 0) (m (place + i))) (block addr len place size i (dontneed_done m addr len h) inside l)

discard_told : (start none past whole : Bool) → Done ≡ cond (not start) (Refused Einval) (cond none Done (first_refusal ((past, Einval) ∷ (not whole, Enomem) ∷ []) Done)) → (none ≡ true) ⊎ (whole ≡ true)
discard_told start true past whole h = inl refl
discard_told start false past true h = inr refl
discard_told false false past false h = cc
discard_told true false true false h = cc
discard_told true false false false h = cc

-- an address of the range of a discard that is done was mapped
was_mapped : (m : Memory) (addr len place : ℕ) → Done ≡ reply_of m (command.DontNeed addr len) → in_range addr (rounded len) place ≡ true → is_some (m place) ≡ true
was_mapped m addr len place h there =
    let range = in_range_bounds addr (rounded len) place there in
    elim (discard_told (is_page_start addr) (eqb len 0) (leb (2 ^ 64) (addr + rounded len)) (is_all_mapped m addr (rounded len)) h) [
      | inl none ↦ let empty : len ≡ 0 = eqb-true len 0 none in absurd (omega (arith, range.0, range.1))
      | inr whole ↦
          let each : not (is_some (m (addr + (place - addr)))) ≡ false = none_below_tells (λ i. not (is_mapped m (addr + i))) (rounded len) (place - addr) whole (omega (arith, range.0, range.1)) in
          let back : addr + (place - addr) ≡ place = omega (arith, range.0) in
          not-false (is_some (m place)) (ap (λ n. not (is_some (m n))) (sym back) ∙ each)
    ]

-- what is at the location after an action
abbrev pub now_at : ℕ → Action → Option ℕ → Option ℕ
now_at place action before = unwrap_or (left_at place action) before

-- a step of the location: what an action found there was there, and then there is what it left
pub record Steps (n : Memory) (place size : ℕ) (before : Option ℕ) (act : Action) : Type 0 where
  pub finds : (value : ℕ) → found_at place act ≡ Some value → before ≡ Some value
  pub shows : Shows n place size (now_at place act before)

-- the location is aligned
pub record IsPlace (place size : ℕ) : Type 0 where
  pub some : 0 < size
  pub inside : place % 4096 + size ≤ 4096

load_finds_at : (m : Memory) (place size addr width value : ℕ) (before : Option ℕ) (same : Bool) → eqb addr place ≡ same → cond same (eqb width size) (not (overlaps addr width place size)) ≡ true → Shows m place size before
    → Value value ≡ reply_of m (command.Load addr width) → (n : ℕ) → cond same (Some value) None ≡ Some n → before ≡ Some n
load_finds_at m place size addr width value before false e whole shows h n found = cc
load_finds_at m place size addr width value before true e whole shows h n found =
    let here : addr ≡ place = eqb-true addr place e in
    let wide : width ≡ size = eqb-true width size whole in
    let at : Value value ≡ reply_of m (command.Load place size) = h ∙ ap (λ a. reply_of m (command.Load a width)) here ∙ ap (λ w. reply_of m (command.Load place w)) wide in
    load_finds m place size value before at shows ∙ found

store_shows : (m : Memory) (place size addr width value : ℕ) (before : Option ℕ) (same : Bool) → IsPlace place size → eqb addr place ≡ same → cond same (eqb width size) (not (overlaps addr width place size)) ≡ true → Shows m place size before
    → Done ≡ reply_of m (command.Store addr width value) → Shows (after m (command.Store addr width value)) place size (unwrap_or (cond same (Some (Some value)) None) before)
store_shows m place size addr width value before false is e whole shows h = store_elsewhere m addr width value place size before is.some whole h shows
store_shows m place size addr width value before true is e whole shows h =
    let here : addr ≡ place = eqb-true addr place e in
    let wide : width ≡ size = eqb-true width size whole in
    let at : Shows m addr width before = subst (λ a. Shows m a width before) (sym here) (subst (λ w. Shows m place w before) (sym wide) shows) in
    subst (λ a. HoldsNumber (after m (command.Store addr width value)) a size value) here
    (subst (λ w. HoldsNumber (after m (command.Store addr width value)) addr w value) wide (store_leaves m addr width value before h at))

-- the cells of a location that are all made zeros
zeros_shown : (n : Memory) (place size : ℕ) → ((i : ℕ) → i < size → (is_some (n (place + i)) ≡ true) × (byte_of (n (place + i)) ≡ 0)) → HoldsNumber n place size 0
zeros_shown n place size each = record { mapped = λ i l. (each i l).0; number = number_at-zeros n place size (λ i l. (each i l).1) }

map_shows : (m n : Memory) (place size : ℕ) (before : Option ℕ) (there : Bool) → IsPlace place size → Shows m place size before
    → ((i : ℕ) → i < size → n (place + i) ≡ cond there (Some (zeros_with ReadWrite)) (m (place + i))) → Shows n place size (unwrap_or (cond there (Some (Some 0)) None) before)
map_shows m n place size before false is shows each = kept m n place size before is.some each shows
map_shows m n place size before true is shows each = zeros_shown n place size (λ i l. (ap is_some (each i l), ap byte_of (each i l)))

unmap_shows : (m n : Memory) (place size : ℕ) (before : Option ℕ) (there : Bool) → IsPlace place size → Shows m place size before
    → ((i : ℕ) → i < size → n (place + i) ≡ cond there None (m (place + i))) → Shows n place size (unwrap_or (cond there (Some None) None) before)
unmap_shows m n place size before false is shows each = kept m n place size before is.some each shows
unmap_shows m n place size before true is shows each = ap n (omega arith) ∙ each 0 is.some

discard_shows : (m n : Memory) (place size : ℕ) (before : Option ℕ) (there : Bool) → IsPlace place size → Shows m place size before → (there ≡ true → (i : ℕ) → i < size → is_some (m (place + i)) ≡ true)
    → ((i : ℕ) → i < size → n (place + i) ≡ cond there (written (m (place + i)) 0) (m (place + i))) → Shows n place size (unwrap_or (cond there (Some (Some 0)) None) before)
discard_shows m n place size before false is shows mapped each = kept m n place size before is.some each shows
discard_shows m n place size before true is shows mapped each =
    zeros_shown n place size
    (λ i l. (ap is_some (each i l) ∙ is_some-written (m (place + i)) 0 ∙ mapped refl i l, ap byte_of (each i l) ∙ byte_of-written (m (place + i)) 0 (mapped refl i l)))

pub step_at : (m : Memory) (place size thread : ℕ) (before : Option ℕ) (act : Action) → IsPlace place size → keeps_whole place size act ≡ true → Shows m place size before → IsRunFrom m (entries_of thread act)
    → Steps (memory_from m (entries_of thread act)) place size before act
step_at m place size thread before (action.Load addr width value) is whole shows run = record {
  finds = λ n found. load_finds_at m place size addr width value before (eqb addr place) refl whole shows run.0 n found;
  shows = shows;
}
step_at m place size thread before (action.Store addr width value) is whole shows run = record {
  finds = λ n found. cc;
  shows = store_shows m place size addr width value before (eqb addr place) is refl whole shows run.0;
}
step_at m place size thread before (action.Swap addr width value found) is whole shows run = record {
  finds = λ n it. load_finds_at m place size addr width found before (eqb addr place) refl whole shows run.0 n it;
  shows = store_shows m place size addr width value before (eqb addr place) is refl whole shows run.1.0;
}
step_at m place size thread before (action.Map addr len) is whole shows run = record {
  finds = λ n found. cc;
  shows = map_shows m (after m (command.Mmap len ReadWrite (Fixed addr))) place size before (in_range addr (rounded len) place) is shows (λ i l. map_leaves m addr len place size i run.0 is.inside l);
}
step_at m place size thread before (action.Unmap addr len) is whole shows run = record {
  finds = λ n found. cc;
  shows = unmap_shows m (after m (command.Munmap addr len)) place size before (in_range addr (rounded len) place) is shows (λ i l. unmap_leaves m addr len place size i run.0 is.inside l);
}
step_at m place size thread before (action.Discard addr len) is whole shows run = record {
  finds = λ n found. cc;
  shows =
      discard_shows m (after m (command.DontNeed addr len)) place size before (in_range addr (rounded len) place) is shows
      (λ e i l. was_mapped m addr len (place + i) run.0 (block addr len place size i (dontneed_done m addr len run.0) is.inside l ∙ e))
      (λ i l. discard_leaves m addr len place size i run.0 is.inside l);
}

pub place_of : (place size : ℕ) → is_aligned place size ≡ true → IsPlace place size
place_of place size h = let it = aligned_inside place size h in record { some = it.some; inside = it.inside }
