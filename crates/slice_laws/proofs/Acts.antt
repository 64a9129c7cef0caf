-- Runs of the slices of a guest, put together.
use Rattle.std.proofs.lemmas.Bool.Decides.{nat_tests}
use Rattle.std.proofs.Common.{◌≡◌, ℕ, zero, suc, ◌+◌, ◌-◌, ◌*◌, ◌/◌, ◌%◌, ◌^◌, ◌<◌, ◌≤◌, ◌&&◌, Bool, true, false, cond, eqb, ltb, Option, List, [], ◌∷◌, ◌++◌, refl, sym, ap, ◌∙◌, arith}
use Rattle.std.proofs.lemmas.Bool.{eqb-true, false≢true}
use Rattle.std.specs.List.{list_all}
use Rattle.mig_base.specs.declared.command.Command.{Command}
use Rattle.mig_base.specs.declared.command.Command.TheVariants.{Load, Store, Mmap, Munmap, Mremap, DontNeed}
use Rattle.mig_base.specs.declared.command.Reply.{Reply}
use Rattle.mig_base.specs.declared.command.Reply.TheVariants.{Value, Done, At, Segv, BadAccess, Refused}
use Rattle.mig_base.specs.declared.command.Entry.{Entry}
use Rattle.mig_base.specs.Commands.{is_access, page_of}
use Rattle.foundation.specs.Ranges.{in_range}
use Rattle.foundation.proofs.RangeLemmas.{in_range-true, in_range_bounds}
use Rattle.foundation.proofs.TestLemmas.{eqb-self}
use Rattle.mig_base.specs.Flat.{Cell, IsRunFrom, Memory, access_reply, after, changed, allows_load, allows_store, byte_of, is_aligned, is_width, memory_from, number_at, reply_of, write, written}
use Rattle.mig_model.proofs.memory.CommandLemmas.{stored_form}
use Rattle.mig_model.proofs.memory.Facts.{and_left, and_second}
use Rattle.mig_model.proofs.memory.NumberLemmas.{aligned_inside}
use Rattle.slice_laws.specs.Slices.{Act, AreActs, Cut, IsCut, acts_in, is_act, joined, memories_from, place_of, placed, stepped}

-- Places

-- an address of the same page is as far from the first one in its slice as in the guest
place-next : (cut : Cut) (addr i : ℕ) → addr % 4096 + i < 4096 → place_of cut (addr + i) ≡ place_of cut addr + i
place-next cut addr i l =
    let same : (addr + i) / 4096 ≡ addr / 4096 = omega (arith, l) in
    let rest : (addr + i) % 4096 ≡ addr % 4096 + i = omega (arith, l) in
    (λ k. 4096 * cut.page (same k) + rest k) ∙ omega arith

joined-next : (cut : Cut) (memories : ℕ → Memory) (addr i : ℕ) → addr % 4096 + i < 4096 → joined cut memories (addr + i) ≡ memories (cut.slice (addr / 4096)) (place_of cut addr + i)
joined-next cut memories addr i l =
    let same : (addr + i) / 4096 ≡ addr / 4096 = omega (arith, l) in
    let place = place-next cut addr i l in
    λ k. memories (cut.slice (same k)) (place k)

rest-same : (p addr width : ℕ) → is_width width ≡ true → (4096 * p + addr % 4096) % width ≡ addr % width
rest-same p addr width h = grind (arith, nat_tests)

and-same : (w a b : Bool) → (w ≡ true → a ≡ b) → (w && a) ≡ (w && b)
and-same true a b h = h refl
and-same false a b h = refl

-- an access has the right form in its slice exactly if it has in the guest
form-same : (cut : Cut) (addr width : ℕ) → is_aligned (place_of cut addr) width ≡ is_aligned addr width
form-same cut addr width = and-same (is_width width) (eqb (place_of cut addr % width) 0) (eqb (addr % width) 0) (λ h. ap (λ n. eqb n 0) (rest-same (cut.page (addr / 4096)) addr width h))

-- Loads

number-same : (m n : Memory) (addr other width : ℕ) → ((i : ℕ) → i < width → m (addr + i) ≡ n (other + i)) → number_at m addr width ≡ number_at n other width
number-same m n addr other zero h = refl
number-same m n addr other (suc width) h =
    let here : m addr ≡ n other = ap m (omega arith) ∙ h 0 (omega arith) ∙ ap n (omega arith) in
    let rest = number-same m n (addr + 1) (other + 1) width (λ i l. ap m (omega arith) ∙ h (suc i) (omega (arith, l)) ∙ ap n (omega arith)) in
    λ k. byte_of (here k) + 256 * rest k

cond-same : (b : Bool) (x y z : Reply) → (b ≡ true → x ≡ y) → cond b x z ≡ cond b y z
cond-same true x y z h = h refl
cond-same false x y z h = refl

load-same : (cut : Cut) (memories : ℕ → Memory) (addr width : ℕ) → reply_of (memories (cut.slice (addr / 4096))) (Load (place_of cut addr) width) ≡ reply_of (joined cut memories) (Load addr width)
load-same cut memories addr width =
    let there = memories (cut.slice (addr / 4096)) in
    let number : is_aligned addr width ≡ true → number_at there (place_of cut addr) width ≡ number_at (joined cut memories) addr width
    = λ form. sym (number-same (joined cut memories) there addr (place_of cut addr) width (λ i l. let is = aligned_inside addr width form in let inside = is.inside in joined-next cut memories addr i (omega (arith, l, inside)))) in
    ap (λ b. cond b (access_reply (there (place_of cut addr)) allows_load (Value (number_at there (place_of cut addr) width))) BadAccess) (form-same cut addr width)
    ∙ cond-same (is_aligned addr width) (access_reply (there (place_of cut addr)) allows_load (Value (number_at there (place_of cut addr) width)))
    (access_reply (there (place_of cut addr)) allows_load (Value (number_at (joined cut memories) addr width))) BadAccess
    (λ form. ap (λ n. access_reply (there (place_of cut addr)) allows_load (Value n)) (number form))

-- Stores

store-same : (cut : Cut) (memories : ℕ → Memory) (addr width value : ℕ) → reply_of (memories (cut.slice (addr / 4096))) (Store (place_of cut addr) width value) ≡ reply_of (joined cut memories) (Store addr width value)
store-same cut memories addr width value =
    ap (λ b. cond (b && ltb value (256 ^ width)) (access_reply (memories (cut.slice (addr / 4096)) (place_of cut addr)) allows_store Done) BadAccess) (form-same cut addr width)

inside-same : (cut : Cut) (addr width at : ℕ) → addr % 4096 + width ≤ 4096 → in_range addr width at ≡ true → (cut.slice (at / 4096) ≡ cut.slice (addr / 4096)) × (place_of cut at ≡ place_of cut addr + (at - addr)) × (at ≡ addr + (at - addr)) × (at - addr < width)
inside-same cut addr width at l h =
    let b = in_range_bounds addr width at h in
    let low = b.0 in
    let high = b.1 in
    let same : at / 4096 ≡ addr / 4096 = omega (arith, l, low, high) in
    let back : at ≡ addr + (at - addr) = omega (arith, low) in
    let short : at - addr < width = omega (arith, low, high) in
    (ap cut.slice same, ap (place_of cut) back ∙ place-next cut addr (at - addr) (omega (arith, l, short)), back, short)

-- what is in an access's range of its slice is in the guest's
outside-same : (cut : Cut) → IsCut cut → (addr width at : ℕ) → addr % 4096 + width ≤ 4096 → cut.slice (at / 4096) ≡ cut.slice (addr / 4096) → in_range (place_of cut addr) width (place_of cut at) ≡ true → in_range addr width at ≡ true
outside-same cut is addr width at l slice h =
    let b = in_range_bounds (place_of cut addr) width (place_of cut at) h in
    let low = b.0 in
    let high = b.1 in
    let page : cut.page (at / 4096) ≡ cut.page (addr / 4096) = omega (arith, l, low, high) in
    let same = is (at / 4096) (addr / 4096) slice page in
    in_range-true addr width at (omega (arith, low, high, page, same)) (omega (arith, low, high, page, same))

both-ways : (a b : Bool) → (a ≡ true → b ≡ true) → (b ≡ true → a ≡ true) → a ≡ b
both-ways true true f g = refl
both-ways false false f g = refl
both-ways true false f g = sym (f refl)
both-ways false true f g = g refl

range-same : (cut : Cut) → IsCut cut → (addr width at : ℕ) → addr % 4096 + width ≤ 4096 → cut.slice (at / 4096) ≡ cut.slice (addr / 4096) → in_range (place_of cut addr) width (place_of cut at) ≡ in_range addr width at
range-same cut is addr width at l slice =
    both-ways (in_range (place_of cut addr) width (place_of cut at)) (in_range addr width at) (outside-same cut is addr width at l slice)
    (λ h. let i = inside-same cut addr width at l h in
    let place = i.1 in
    let short = i.3 in
    in_range-true (place_of cut addr) width (place_of cut at) (omega (arith, place)) (omega (arith, place, short)))

away-same : (cut : Cut) (addr width at : ℕ) → addr % 4096 + width ≤ 4096 → in_range addr width at ≡ true → place_of cut at - place_of cut addr ≡ at - addr
away-same cut addr width at l h =
    let place = (inside-same cut addr width at l h).1 in
    omega (arith, place)

cell-same : (b : Bool) (x y : Option Cell) (z : Option Cell) → (b ≡ true → x ≡ y) → cond b x z ≡ cond b y z
cell-same true x y z h = h refl
cell-same false x y z h = refl

-- a byte of the slice that a store is made in
stored-here : (cut : Cut) → IsCut cut → (memories : ℕ → Memory) (addr width value at : ℕ) → addr % 4096 + width ≤ 4096 → cut.slice (at / 4096) ≡ cut.slice (addr / 4096) →
    write (memories (cut.slice (at / 4096))) (place_of cut addr) width value (place_of cut at) ≡ write (joined cut memories) addr width value at
stored-here cut is memories addr width value at l slice =
    let held = joined cut memories at in
    ap (λ b. cond b (written held (value / 256 ^ (place_of cut at - place_of cut addr) % 256)) held) (range-same cut is addr width at l slice)
    ∙ cell-same (in_range addr width at) (written held (value / 256 ^ (place_of cut at - place_of cut addr) % 256)) (written held (value / 256 ^ (at - addr) % 256)) held
    (λ h. ap (λ n. written held (value / 256 ^ n % 256)) (away-same cut addr width at l h))

not-true : (b : Bool) → (b ≡ true → true ≡ false) → b ≡ false
not-true true h = h refl
not-true false h = refl

-- a byte of another slice
stored-there : (cut : Cut) (memories : ℕ → Memory) (addr width value at : ℕ) → addr % 4096 + width ≤ 4096 → eqb (cut.slice (at / 4096)) (cut.slice (addr / 4096)) ≡ false →
    joined cut memories at ≡ write (joined cut memories) addr width value at
stored-there cut memories addr width value at l other =
    let held = joined cut memories at in
    let out : in_range addr width at ≡ false
    = not-true (in_range addr width at) (λ h. sym (ap (λ s. eqb s (cut.slice (addr / 4096))) (inside-same cut addr width at l h).0 ∙ eqb-self (cut.slice (addr / 4096))) ∙ other) in
    ap (λ b. cond b (written held (value / 256 ^ (at - addr) % 256)) held) (sym out)

-- a byte after a store with some reply, in the store's slice
changed-here : (cut : Cut) → IsCut cut → (memories : ℕ → Memory) (addr width value at : ℕ) (reply : Reply) → (Done ≡ reply → addr % 4096 + width ≤ 4096) → cut.slice (at / 4096) ≡ cut.slice (addr / 4096) →
    changed (memories (cut.slice (at / 4096))) (Store (place_of cut addr) width value) reply (place_of cut at) ≡ changed (joined cut memories) (Store addr width value) reply at
changed-here cut is memories addr width value at Done l slice = stored-here cut is memories addr width value at (l refl) slice
changed-here cut is memories addr width value at (Value n) l slice = refl
changed-here cut is memories addr width value at (At start) l slice = refl
changed-here cut is memories addr width value at (Segv mapped) l slice = refl
changed-here cut is memories addr width value at BadAccess l slice = refl
changed-here cut is memories addr width value at (Refused errno) l slice = refl

-- and in another slice
changed-there : (cut : Cut) (memories : ℕ → Memory) (addr width value at : ℕ) (reply : Reply) → (Done ≡ reply → addr % 4096 + width ≤ 4096) → eqb (cut.slice (at / 4096)) (cut.slice (addr / 4096)) ≡ false →
    joined cut memories at ≡ changed (joined cut memories) (Store addr width value) reply at
changed-there cut memories addr width value at Done l other = stored-there cut memories addr width value at (l refl) other
changed-there cut memories addr width value at (Value n) l other = refl
changed-there cut memories addr width value at (At start) l other = refl
changed-there cut memories addr width value at (Segv mapped) l other = refl
changed-there cut memories addr width value at BadAccess l other = refl
changed-there cut memories addr width value at (Refused errno) l other = refl

store-inside : (m : Memory) (addr width value : ℕ) → Done ≡ reply_of m (Store addr width value) → addr % 4096 + width ≤ 4096
store-inside m addr width value h = let is = aligned_inside addr width (stored_form m addr width value h) in is.inside

stored-at : (cut : Cut) → IsCut cut → (memories : ℕ → Memory) (addr width value at : ℕ) (b : Bool) → eqb (cut.slice (at / 4096)) (cut.slice (addr / 4096)) ≡ b →
    cond b (after (memories (cut.slice (at / 4096))) (Store (place_of cut addr) width value)) (memories (cut.slice (at / 4096))) (place_of cut at) ≡ after (joined cut memories) (Store addr width value) at
stored-at cut is memories addr width value at true h =
    let slice = eqb-true (cut.slice (at / 4096)) (cut.slice (addr / 4096)) h in
    let here = memories (cut.slice (at / 4096)) in
    let same : reply_of here (Store (place_of cut addr) width value) ≡ reply_of (joined cut memories) (Store addr width value)
    = ap (λ s. reply_of (memories s) (Store (place_of cut addr) width value)) slice ∙ store-same cut memories addr width value in
    ap (λ reply. changed here (Store (place_of cut addr) width value) reply (place_of cut at)) same
    ∙ changed-here cut is memories addr width value at (reply_of (joined cut memories) (Store addr width value)) (store-inside (joined cut memories) addr width value) slice
stored-at cut is memories addr width value at false h =
    changed-there cut memories addr width value at (reply_of (joined cut memories) (Store addr width value)) (store-inside (joined cut memories) addr width value) h

-- Accesses

-- what an access in its slice is in the guest
record IsAccessed (cut : Cut) (memories : ℕ → Memory) (command : Command) : Type 0 where
  reply : reply_of (memories (cut.slice (page_of command))) (placed cut command) ≡ reply_of (joined cut memories) command
  change : joined cut (λ i. cond (eqb i (cut.slice (page_of command))) (after (memories i) (placed cut command)) (memories i)) ≡ after (joined cut memories) command

cond-both : (b : Bool) (m : Memory) → cond b m m ≡ m
cond-both true m = refl
cond-both false m = refl

is-accessed : (cut : Cut) → IsCut cut → (memories : ℕ → Memory) (command : Command) → is_access command ≡ true → IsAccessed cut memories command
is-accessed cut is memories (Load addr width) access = record {
  reply = load-same cut memories addr width;
  change = λ k at. cond-both (eqb (cut.slice (at / 4096)) (cut.slice (addr / 4096))) (memories (cut.slice (at / 4096))) k (place_of cut at);
}
is-accessed cut is memories (Store addr width value) access = record {
  reply = store-same cut memories addr width value;
  change = λ k at. stored-at cut is memories addr width value at (eqb (cut.slice (at / 4096)) (cut.slice (addr / 4096))) refl k;
}
is-accessed cut is memories (Mmap len prot place) access = absurd (false≢true access)
is-accessed cut is memories (Munmap addr len) access = absurd (false≢true access)
is-accessed cut is memories (Mremap addr old_len new_len may_move fixed) access = absurd (false≢true access)
is-accessed cut is memories (DontNeed addr len) access = absurd (false≢true access)

-- Runs

run-rest : (b : Bool) (m : Memory) (entry : Entry) (rest : List Entry) → IsRunFrom m (cond b (entry ∷ []) [] ++ rest) → IsRunFrom (cond b (after m entry.command) m) rest
run-rest true m entry rest run = run.1
run-rest false m entry rest run = run

run-last : (b : Bool) (m : Memory) (entry : Entry) (rest : List Entry) → memory_from m (cond b (entry ∷ []) [] ++ rest) ≡ memory_from (cond b (after m entry.command) m) rest
run-last true m entry rest = refl
run-last false m entry rest = refl

run-first : (b : Bool) (m : Memory) (entry : Entry) (rest : List Entry) → b ≡ true → IsRunFrom m (cond b (entry ∷ []) [] ++ rest) → entry.reply ≡ reply_of m entry.command
run-first true m entry rest is run = run.0
run-first false m entry rest is run = absurd (false≢true is)

pub acts-joined : (cut : Cut) → IsCut cut → (memories : ℕ → Memory) (acts : List Act) → list_all is_act acts ≡ true → ((slice : ℕ) → IsRunFrom (memories slice) (acts_in cut slice acts)) → AreActs cut memories acts
acts-joined cut is memories [] all runs = tt
acts-joined cut is memories (Act.Access entry ∷ acts) all runs =
    let slice = cut.slice (page_of entry.command) in
    let own = record entry { command = placed cut entry.command } in
    let accessed = is-accessed cut is memories entry.command (and_left (is_access entry.command) (list_all is_act acts) all) in (
      (run-first (eqb slice slice) (memories slice) own (acts_in cut slice acts) (eqb-self slice) (runs slice) ∙ accessed.reply, accessed.change),
      acts-joined cut is (stepped cut memories (Act.Access entry)) acts (and_second (is_access entry.command) (list_all is_act acts) all)
          (λ i. run-rest (eqb i slice) (memories i) own (acts_in cut i acts) (runs i)),
    )
acts-joined cut is memories (Act.MapCall at entry ∷ acts) all runs = (
  run-first (eqb at at) (memories at) entry (acts_in cut at acts) (eqb-self at) (runs at),
  acts-joined cut is (stepped cut memories (Act.MapCall at entry)) acts (and_second _ (list_all is_act acts) all)
      (λ i. run-rest (eqb i at) (memories i) entry (acts_in cut i acts) (runs i)),
)

-- the memory of each slice is what its entries leave
pub memories-of : (cut : Cut) (memories : ℕ → Memory) (acts : List Act) (slice : ℕ) → memories_from cut memories acts slice ≡ memory_from (memories slice) (acts_in cut slice acts)
memories-of cut memories [] slice = refl
memories-of cut memories (Act.Access entry ∷ acts) slice =
    memories-of cut (stepped cut memories (Act.Access entry)) acts slice
    ∙ sym (run-last (eqb slice (cut.slice (page_of entry.command))) (memories slice) (record entry { command = placed cut entry.command }) (acts_in cut slice acts))
memories-of cut memories (Act.MapCall at entry ∷ acts) slice =
    memories-of cut (stepped cut memories (Act.MapCall at entry)) acts slice ∙ sym (run-last (eqb slice at) (memories slice) entry (acts_in cut slice acts))
