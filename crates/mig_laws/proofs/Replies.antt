-- What a flat memory answers once its bytes and those of the command are changed.
use Rattle.std.proofs.Common.{◌≡◌, ℕ, ◌+◌, ◌-◌, ◌*◌, ◌/◌, ◌%◌, ◌^◌, ◌<◌, ◌≤◌, ◌&&◌, ◌||◌, Bool, true, false, cond, not, eqb, ltb, leb, Option, Some, None, unwrap_or, List, [], ◌∷◌, ◌++◌, map, get_or, length, refl, sym, ap, ◌∙◌, ⊎_elim, arith}
use Rattle.std.specs.Option.{option_map}
use Rattle.std.specs.List.{All}
use Rattle.std.specs.Ordering.{nat_cmp}
use Rattle.std.specs.FinMap.{FinMap, get}
use Rattle.std.proofs.lemmas.Bool.{cases_lt, lt-ltb, ltb-true}
use Rattle.std.proofs.Math.ListN.{get_or-map, get_or-eq_default}
use Rattle.mig_base.specs.declared.Prot.{Prot}
use Rattle.mig_base.specs.declared.command.Errno.{Errno}
use Rattle.mig_base.specs.declared.command.Errno.TheVariants.{Eexist, Enomem, Einval, Efault}
use Rattle.mig_base.specs.declared.command.Place.{Place}
use Rattle.mig_base.specs.declared.command.Place.TheVariants.{Anywhere, Fixed, NoReplace}
use Rattle.mig_base.specs.declared.command.Command.{Command}
use Rattle.mig_base.specs.declared.command.Command.TheVariants.{Load, Store, Mmap, Munmap, Mremap, DontNeed}
use Rattle.mig_base.specs.declared.command.Reply.{Reply}
use Rattle.mig_base.specs.declared.command.Reply.TheVariants.{Value, Done, At, Segv, BadAccess, Refused}
use Rattle.foundation.specs.Ranges.{rounded}
use Rattle.mig_base.specs.FreePlaces.{free_place}
use Rattle.mig_base.specs.declared.TheConstants.{HIGH, LOW, MAX_PAGES}
use Rattle.mig_base.specs.Flat.{Cell, Memory, access_reply, allows_load, allows_store, at_place, byte_of, can_grow, dontneed_reply, exceeds_limit, fill, first_refusal, has_one_prot, is_aligned, is_all_mapped, is_bad_target, is_mapped, is_page_start, is_unmapped, mapped_count, moved, place_refusals, zeros_with, mmap_reply, mremap_place, mremap_reply, mremap_target, munmap_reply, number_at, reply_of}
use Rattle.mig_model.specs.Bounds.{IsPageBytes}
use Rattle.mig_model.specs.Host.{Host, byte_in, memory}
use Rattle.mig_model.proofs.memory.HostLemmas.{cell_at, memory-at, same_memory}
use Rattle.mig_model.proofs.memory.NumberLemmas.{aligned_inside}
use Rattle.mig_model.proofs.memory.ReplyOfLemmas.{prots, reply_of-prots}
use Rattle.mig_laws.specs.Contents.{AreWholePages, IsByteMap, command_under, host_under, memory_under, number_under, pages_under, reply_under, stored_under}
use Rattle.mig_laws.proofs.Numbers.{fits-under, number_at-under}
use Rattle.mig_laws.proofs.PageMaps.{get-map_values, unwrap_or-map}

-- The memory of a host

byte_in-under : (f : ℕ → ℕ) (pages : FinMap nat_cmp (List ℕ)) (addr : ℕ) → f 0 ≡ 0 → byte_in (pages_under f pages) addr ≡ f (byte_in pages addr)
byte_in-under f pages addr h =
    let held = get pages (addr / 4096) in
    ap (λ (o : Option (List ℕ)). get_or (unwrap_or o []) (addr % 4096) 0) (get-map_values (map f) pages (addr / 4096))
    ∙ ap (λ (bytes : List ℕ). get_or bytes (addr % 4096) 0) (unwrap_or-map (map f) held [] [] refl)
    ∙ ap (λ d. get_or (map f (unwrap_or held [])) (addr % 4096) d) (sym h)
    ∙ get_or-map f (unwrap_or held []) (addr % 4096) 0

abbrev change : (ℕ → ℕ) → Cell → Cell
change f cell = record cell { byte = f cell.byte }

cell-under : (f : ℕ → ℕ) (pages : FinMap nat_cmp (List ℕ)) (addr : ℕ) (o : Option Prot) → f 0 ≡ 0 → cell_at (pages_under f pages) addr o ≡ option_map (change f) (cell_at pages addr o)
cell-under f pages addr None h = refl
cell-under f pages addr (Some prot) h = ap (λ byte. Some (record { byte = byte; prot = prot })) (byte_in-under f pages addr h)

pub memory-under : (f : ℕ → ℕ) (host : Host) → f 0 ≡ 0 → memory (host_under f host) ≡ memory_under f (memory host)
memory-under f host h =
    same_memory (memory (host_under f host)) (memory_under f (memory host)) (λ addr.
    memory-at (host_under f host) addr ∙ cell-under f host.bytes addr (get host.areas (addr / 4096)) h ∙ ap (option_map (change f)) (sym (memory-at host addr)))

byte_below : (bytes : List ℕ) (i : ℕ) → All (λ byte. byte < 256) bytes → get_or bytes i 0 < 256
byte_below bytes i all =
    ⊎_elim
    (λ (below : i < length bytes). all i 0 below)
    (λ (past : length bytes ≤ i). let none = get_or-eq_default bytes 0 past in omega (arith, none))
    (cases_lt i (length bytes))

held_below : (o : Option (List ℕ)) (i : ℕ) → ((bytes : List ℕ) → o ≡ Some bytes → IsPageBytes bytes) → get_or (unwrap_or o []) i 0 < 256
held_below None i whole = omega arith
held_below (Some bytes) i whole = byte_below bytes i (whole bytes refl).1

cell_below : (pages : FinMap nat_cmp (List ℕ)) (addr : ℕ) (o : Option Prot) → AreWholePages pages → byte_of (cell_at pages addr o) < 256
cell_below pages addr None whole = omega arith
cell_below pages addr (Some prot) whole = held_below (get pages (addr / 4096)) (addr % 4096) (λ bytes is. whole (addr / 4096) bytes is)

-- each byte of the memory is below 256
pub memory_bytes : (host : Host) → AreWholePages host.bytes → (addr : ℕ) → byte_of (memory host addr) < 256
memory_bytes host whole addr = let cell = memory-at host addr in let low = cell_below host.bytes addr (get host.areas (addr / 4096)) whole in rw cell low

-- Loads and stores

either : (f : ℕ → ℕ) (b : Bool) (one other new : Reply) → new ≡ reply_under f one → reply_under f other ≡ other → cond b new other ≡ reply_under f (cond b one other)
either f true one other new h k = h
either f false one other new h k = sym k

cell_reply : (f : ℕ → ℕ) (o : Option Cell) (allows : Prot → Bool) (one new : Reply) → new ≡ reply_under f one → access_reply (option_map (change f) o) allows new ≡ reply_under f (access_reply o allows one)
cell_reply f None allows one new h = refl
cell_reply f (Some cell) allows one new h = either f (allows cell.prot) one (Segv true) new h refl

formed : (f : ℕ → ℕ) (form : Bool) (one new : Reply) → (form ≡ true → new ≡ reply_under f one) → cond form new BadAccess ≡ reply_under f (cond form one BadAccess)
formed f true one new h = h refl
formed f false one new h = refl

ltb-cond : (c : Bool) (x y z : ℕ) → ltb (cond c x y) z ≡ cond c (ltb x z) (ltb y z)
ltb-cond true x y z = refl
ltb-cond false x y z = refl

same_form : (a b new : Bool) → (a ≡ true → b ≡ true → new ≡ true) → (a && cond (a && b) new b) ≡ (a && b)
same_form true true new h = h refl refl
same_form true false new h = refl
same_form false b new h = refl

-- a store has the right form exactly if it had
pub form-under : (f : ℕ → ℕ) → IsByteMap f → (addr width value : ℕ) → (is_aligned addr width && ltb (stored_under f addr width value) (256 ^ width)) ≡ (is_aligned addr width && ltb value (256 ^ width))
form-under f is addr width value =
    let form = is_aligned addr width && ltb value (256 ^ width) in
    ap (λ b. is_aligned addr width && b) (ltb-cond form (number_under f value) value (256 ^ width))
    ∙ same_form (is_aligned addr width) (ltb value (256 ^ width)) (ltb (number_under f value) (256 ^ width)) (λ aligned fits. lt-ltb (number_under f value) (256 ^ width) (fits-under f is width 8 value (ltb-true value (256 ^ width) fits)))

-- Map calls, whose replies have no value

first_under : (f : ℕ → ℕ) (refusals : List (Bool × Errno)) (reply : Reply) → reply_under f reply ≡ reply → reply_under f (first_refusal refusals reply) ≡ first_refusal refusals reply
first_under f [] reply h = h
first_under f (refusal ∷ refusals) reply h = sym (either f refusal.0 (Refused refusal.1) (first_refusal refusals reply) (Refused refusal.1) refl (first_under f refusals reply h))

place_under : (f : ℕ → ℕ) (o : Option ℕ) → reply_under f (at_place o) ≡ at_place o
place_under f None = refl
place_under f (Some start) = refl

choice_under : (f : ℕ → ℕ) (b : Bool) (one other : Reply) → reply_under f one ≡ one → reply_under f other ≡ other → reply_under f (cond b one other) ≡ cond b one other
choice_under f true one other h k = h
choice_under f false one other h k = k

target_under : (f : ℕ → ℕ) (m : Memory) (addr old_size new_size : ℕ) (may_move : Bool) (fixed : Option ℕ) → reply_under f (mremap_target m addr old_size new_size may_move fixed) ≡ mremap_target m addr old_size new_size may_move fixed
target_under f m addr old_size new_size may_move None =
    choice_under f (ltb (4096 * MAX_PAGES) (mapped_count m - old_size + new_size)) (Refused Enomem) (mremap_place m addr old_size new_size may_move) refl
    (choice_under f (leb new_size old_size || can_grow m addr old_size new_size) (At addr) (cond may_move (at_place (free_place (is_mapped m) new_size)) (Refused Enomem)) refl
    (choice_under f may_move (at_place (free_place (is_mapped m) new_size)) (Refused Enomem) (place_under f (free_place (is_mapped m) new_size)) refl))
target_under f m addr old_size new_size may_move (Some target) = choice_under f (exceeds_limit (moved m addr old_size target new_size)) (Refused Enomem) (At target) refl refl

mmap_under : (f : ℕ → ℕ) (m : Memory) (len : ℕ) (prot : Prot) (place : Place) → reply_under f (mmap_reply m len prot place) ≡ mmap_reply m len prot place
mmap_under f m len prot Anywhere =
    first_under f ((eqb len 0, Einval) ∷ (ltb (HIGH - LOW) (rounded len), Enomem) ∷ (ltb (4096 * MAX_PAGES) (mapped_count m + rounded len), Enomem) ∷ [])
    (at_place (free_place (is_mapped m) (rounded len))) (place_under f (free_place (is_mapped m) (rounded len)))
mmap_under f m len prot (Fixed addr) =
    first_under f ((eqb len 0, Einval) ∷ (place_refusals addr (rounded len) ++ (exceeds_limit (fill m addr (rounded len) (zeros_with prot)), Enomem) ∷ [])) (At addr) refl
mmap_under f m len prot (NoReplace addr) =
    first_under f
    ((eqb len 0, Einval) ∷ (place_refusals addr (rounded len) ++ (not (is_unmapped m addr (rounded len)), Eexist) ∷ (exceeds_limit (fill m addr (rounded len) (zeros_with prot)), Enomem) ∷ []))
    (At addr) refl

munmap_under : (f : ℕ → ℕ) (addr len : ℕ) → reply_under f (munmap_reply addr len) ≡ munmap_reply addr len
munmap_under f addr len = first_under f ((not (is_page_start addr), Einval) ∷ (eqb len 0, Einval) ∷ (ltb HIGH (addr + rounded len), Einval) ∷ []) Done refl

mremap_under : (f : ℕ → ℕ) (m : Memory) (addr old_len new_len : ℕ) (may_move : Bool) (fixed : Option ℕ) → reply_under f (mremap_reply m addr old_len new_len may_move fixed) ≡ mremap_reply m addr old_len new_len may_move fixed
mremap_under f m addr old_len new_len may_move fixed =
    first_under f
    ((not (is_page_start addr) || eqb old_len 0 || eqb new_len 0 || is_bad_target addr (rounded old_len) (rounded new_len) may_move fixed, Einval) ∷ (not (has_one_prot m addr (rounded old_len)), Efault) ∷ [])
    (mremap_target m addr (rounded old_len) (rounded new_len) may_move fixed) (target_under f m addr (rounded old_len) (rounded new_len) may_move fixed)

dontneed_under : (f : ℕ → ℕ) (m : Memory) (addr len : ℕ) → reply_under f (dontneed_reply m addr len) ≡ dontneed_reply m addr len
dontneed_under f m addr len =
    let refusals = (leb (2 ^ 64) (addr + rounded len), Einval) ∷ (not (is_all_mapped m addr (rounded len)), Enomem) ∷ [] in
    choice_under f (not (is_page_start addr)) (Refused Einval) (cond (eqb len 0) Done (first_refusal refusals Done)) refl
    (choice_under f (eqb len 0) Done (first_refusal refusals Done) refl (first_under f refusals Done refl))

same_prot_at : (f : ℕ → ℕ) (o : Option Cell) → option_map (λ (cell : Cell). cell.prot) (option_map (change f) o) ≡ option_map (λ (cell : Cell). cell.prot) o
same_prot_at f None = refl
same_prot_at f (Some cell) = refl

same_prots : (f : ℕ → ℕ) (m : Memory) → prots (memory_under f m) ≡ prots m
same_prots f m = λ i addr. same_prot_at f (m addr) i

-- Every command

pub replied : (f : ℕ → ℕ) → IsByteMap f → (m : Memory) → ((addr : ℕ) → byte_of (m addr) < 256) → (command : Command) → reply_of (memory_under f m) (command_under f command) ≡ reply_under f (reply_of m command)
replied f is m bytes (Load addr width) =
    formed f (is_aligned addr width) (access_reply (m addr) allows_load (Value (number_at m addr width))) _ (λ form.
    cell_reply f (m addr) allows_load (Value (number_at m addr width)) (Value (number_at (memory_under f m) addr width))
    (ap Value (number_at-under f is m bytes addr width 8 (aligned_inside addr width form).few)))
replied f is m bytes (Store addr width value) =
    ap (λ b. cond b (access_reply (memory_under f m addr) allows_store Done) BadAccess) (form-under f is addr width value)
    ∙ formed f (is_aligned addr width && ltb value (256 ^ width)) (access_reply (m addr) allows_store Done) _ (λ form. cell_reply f (m addr) allows_store Done Done refl)
replied f is m bytes (Mmap len prot place) = reply_of-prots (memory_under f m) m (Mmap len prot place) (same_prots f m) refl ∙ sym (mmap_under f m len prot place)
replied f is m bytes (Munmap addr len) = sym (munmap_under f addr len)
replied f is m bytes (Mremap addr old_len new_len may_move fixed) =
    reply_of-prots (memory_under f m) m (Mremap addr old_len new_len may_move fixed) (same_prots f m) refl ∙ sym (mremap_under f m addr old_len new_len may_move fixed)
replied f is m bytes (DontNeed addr len) = reply_of-prots (memory_under f m) m (DontNeed addr len) (same_prots f m) refl ∙ sym (dontneed_under f m addr len)

-- the same of a host's memory
pub host_replied : (f : ℕ → ℕ) → IsByteMap f → (host : Host) → AreWholePages host.bytes → (command : Command) → reply_of (memory (host_under f host)) (command_under f command) ≡ reply_under f (reply_of (memory host) command)
host_replied f is host whole command =
    ap (λ (m : Memory). reply_of m (command_under f command)) (memory-under f host is.keeps_zero) ∙ replied f is (memory host) (memory_bytes host whole) command
