-- What a reply depends on: that of a map call on which addresses are mapped with which protection, and that of an access on the cells
-- that it reads.
use Rattle.std.proofs.lemmas.Bool.Decides.{nat_tests}
use Rattle.std.proofs.Common.{◌≡◌, ◌≢◌, ℕ, ◌+◌, ◌-◌, ◌*◌, ◌/◌, ◌^◌, ◌&&◌, ◌||◌, Bool, true, false, cond, not, eqb, ltb, leb, Option, Some, None, [], ◌∷◌, ◌++◌, refl, sym, ap, ◌∙◌, arith, is_some}
use Rattle.std.specs.Option.{option_map}
use Rattle.mig_base.specs.declared.TheConstants.{HIGH, MAX_PAGES}
use Rattle.mig_base.specs.declared.Prot.{Prot}
use Rattle.mig_base.specs.declared.command.Errno.TheVariants.{Enomem, Efault, Eexist, Einval}
use Rattle.mig_base.specs.declared.command.Place.{Place}
use Rattle.mig_base.specs.declared.command.Place.TheVariants.{Anywhere, Fixed, NoReplace}
use Rattle.mig_base.specs.declared.command.Command.{Command}
use Rattle.mig_base.specs.declared.command.Command.TheVariants.{Load, Store, Mmap, Munmap, Mremap, DontNeed}
use Rattle.mig_base.specs.declared.command.Reply.{Reply}
use Rattle.mig_base.specs.declared.command.Reply.TheVariants.{Value, Done, At, BadAccess, Refused}
use Rattle.mig_base.specs.Codes.{prot_number}
use Rattle.foundation.specs.Ranges.{in_range, count_below, none_below, rounded}
use Rattle.mig_base.specs.FreePlaces.{free_place}
use Rattle.mig_base.specs.Flat.{Cell, Memory, is_mapped, fill, zeros_with, moved, grown, written, has_one_prot, is_unmapped, exceeds_limit, mremap_target, mremap_reply, mmap_reply, dontneed_reply, place_refusals, at_place, first_refusal, is_bad_target, is_page_start, is_aligned, access_reply, allows_load, allows_store, number_at, reply_of}
use Rattle.mig_base.specs.Commands.{is_access, page_of}
use Rattle.mig_model.specs.Space.{is_made}
use Rattle.mig_model.specs.Bounds.{IsRightAccess}
use Rattle.mig_model.proofs.memory.Facts.{none_absurd}

-- which addresses are mapped, with which protection
abbrev pub prots : Memory → ℕ → Option Prot
prots memory = λ addr. option_map (λ cell. cell.prot) (memory addr)

mapped_prot : (o : Option Cell) → is_some o ≡ is_some (option_map (λ cell. cell.prot) o)
mapped_prot o = grind (arith, nat_tests)

-- the tests of the flat memory see no bytes
same_mapped : (m n : Memory) → prots m ≡ prots n → is_mapped m ≡ is_mapped n
same_mapped m n h = λ i addr. (mapped_prot (m addr) ∙ ap (λ f. is_some (f addr)) h ∙ sym (mapped_prot (n addr))) i

filled : (b : Bool) (cell : Cell) (o p : Option Cell) → is_some o ≡ is_some p → is_some (cond b (Some cell) o) ≡ is_some (cond b (Some cell) p)
filled b cell o p h = grind (arith, nat_tests)

same_fill : (m n : Memory) (start len : ℕ) (cell : Cell) → is_mapped m ≡ is_mapped n → is_mapped (fill m start len cell) ≡ is_mapped (fill n start len cell)
same_fill m n start len cell h = λ i addr. (filled (in_range start len addr) cell (m addr) (n addr) (ap (λ f. f addr) h)) i

pub is_some-written : (o : Option Cell) (byte : ℕ) → is_some (written o byte) ≡ is_some o
is_some-written o byte = grind (arith, nat_tests)

moved_one : (new old from : Bool) (a b c p q r : Option Cell) → is_some a ≡ is_some p → is_some b ≡ is_some q → is_some c ≡ is_some r → is_some (cond new (cond old a b) (cond from None c)) ≡ is_some (cond new (cond old p q) (cond from None r))
moved_one new old from a b c p q r x y z = grind (arith, nat_tests)

same_moved : (m n : Memory) (old old_size new new_size : ℕ) → is_mapped m ≡ is_mapped n → is_mapped (moved m old old_size new new_size) ≡ is_mapped (moved n old old_size new new_size)
same_moved m n old old_size new new_size h =
    λ i addr.
    (moved_one (in_range new new_size addr) (ltb (addr - new) old_size) (in_range old old_size addr) (m (old + (addr - new))) (grown (m old)) (m addr) (n (old + (addr - new))) (grown (n old)) (n addr)
    (ap (λ f. f (old + (addr - new))) h)
    (is_some-written (m old) 0 ∙ ap (λ f. f old) h ∙ sym (is_some-written (n old) 0))
    (ap (λ f. f addr) h)) i

same_exceeds : (m n : Memory) → is_mapped m ≡ is_mapped n → exceeds_limit m ≡ exceeds_limit n
same_exceeds m n h = ap (λ f. ltb (4096 * MAX_PAGES) (count_below f HIGH)) h

-- Replies of map calls

same_mmap : (m n : Memory) (len : ℕ) (prot : Prot) (place : Place) → is_mapped m ≡ is_mapped n → mmap_reply m len prot place ≡ mmap_reply n len prot place
same_mmap m n len prot Anywhere h = grind (arith, nat_tests)
same_mmap m n len prot (Fixed addr) h =
    ap (λ b. first_refusal ((eqb len 0, Einval) ∷ (place_refusals addr (rounded len) ++ (b, Enomem) ∷ [])) (At addr))
    (same_exceeds (fill m addr (rounded len) (zeros_with prot)) (fill n addr (rounded len) (zeros_with prot)) (same_fill m n addr (rounded len) (zeros_with prot) h))
same_mmap m n len prot (NoReplace addr) h =
    let more = fill m addr (rounded len) (zeros_with prot) in
    let more_too = fill n addr (rounded len) (zeros_with prot) in
    ap (λ f. first_refusal ((eqb len 0, Einval) ∷ (place_refusals addr (rounded len) ++ (not (none_below (λ i. f (addr + i)) (rounded len)), Eexist) ∷ (exceeds_limit more, Enomem) ∷ [])) (At addr)) h
    ∙ ap (λ b. first_refusal ((eqb len 0, Einval) ∷ (place_refusals addr (rounded len) ++ (not (is_unmapped n addr (rounded len)), Eexist) ∷ (b, Enomem) ∷ [])) (At addr))
    (same_exceeds more more_too (same_fill m n addr (rounded len) (zeros_with prot) h))

same_dontneed : (m n : Memory) (addr len : ℕ) → is_mapped m ≡ is_mapped n → dontneed_reply m addr len ≡ dontneed_reply n addr len
same_dontneed m n addr len h =
    ap (λ f. cond (not (is_page_start addr)) (Refused Einval) (cond (eqb len 0) Done
    (first_refusal ((leb (2 ^ 64) (addr + rounded len), Einval) ∷ (not (none_below (λ i. not (f (addr + i))) (rounded len)), Enomem) ∷ []) Done))) h

abbrev same_of : Option Prot → Option Prot → Bool
same_of (Some a) (Some b) = eqb (prot_number a) (prot_number b)
same_of (Some a) None = false
same_of None b = false

one_prot-of : (m : Memory) (start len : ℕ) → has_one_prot m start len ≡ none_below (λ i. not (same_of (prots m start) (prots m (start + i)))) len
one_prot-of m start len = grind (arith, nat_tests)

same_one_prot : (m n : Memory) (start len : ℕ) → prots m ≡ prots n → has_one_prot m start len ≡ has_one_prot n start len
same_one_prot m n start len h =
    one_prot-of m start len ∙ ap (λ f. none_below (λ i. not (same_of (f start) (f (start + i)))) len) h ∙ sym (one_prot-of n start len)

same_target : (m n : Memory) (addr old_size new_size : ℕ) (may_move : Bool) (fixed : Option ℕ) → is_mapped m ≡ is_mapped n → mremap_target m addr old_size new_size may_move fixed ≡ mremap_target n addr old_size new_size may_move fixed
same_target m n addr old_size new_size may_move None h =
    ap (λ f. cond (ltb (4096 * MAX_PAGES) (count_below f HIGH - old_size + new_size)) (Refused Enomem)
    (cond (leb new_size old_size || (none_below (λ i. f (addr + old_size + i)) (new_size - old_size) && leb (addr + new_size) HIGH)) (At addr) (cond may_move (at_place (free_place f new_size)) (Refused Enomem)))) h
same_target m n addr old_size new_size may_move (Some target) h =
    ap (λ b. cond b (Refused Enomem) (At target)) (same_exceeds (moved m addr old_size target new_size) (moved n addr old_size target new_size) (same_moved m n addr old_size target new_size h))

same_mremap : (m n : Memory) (addr old_len new_len : ℕ) (may_move : Bool) (fixed : Option ℕ) → prots m ≡ prots n → mremap_reply m addr old_len new_len may_move fixed ≡ mremap_reply n addr old_len new_len may_move fixed
same_mremap m n addr old_len new_len may_move fixed h =
    let bad = not (is_page_start addr) || eqb old_len 0 || eqb new_len 0 || is_bad_target addr (rounded old_len) (rounded new_len) may_move fixed in
    ap (λ b. first_refusal ((bad, Einval) ∷ (not b, Efault) ∷ []) (mremap_target m addr (rounded old_len) (rounded new_len) may_move fixed)) (same_one_prot m n addr (rounded old_len) h)
    ∙ ap (λ r. first_refusal ((bad, Einval) ∷ (not (has_one_prot n addr (rounded old_len)), Efault) ∷ []) r) (same_target m n addr (rounded old_len) (rounded new_len) may_move fixed (same_mapped m n h))

-- the reply of a map call
pub reply_of-prots : (m n : Memory) (command : Command) → prots m ≡ prots n → is_access command ≡ false → reply_of m command ≡ reply_of n command
reply_of-prots m n (Mmap len prot place) h call = same_mmap m n len prot place (same_mapped m n h)
reply_of-prots m n (Munmap addr len) h call = refl
reply_of-prots m n (Mremap addr old_len new_len may_move fixed) h call = same_mremap m n addr old_len new_len may_move fixed h
reply_of-prots m n (DontNeed addr len) h call = same_dontneed m n addr len (same_mapped m n h)
reply_of-prots m n _ h call = none_absurd (sym call)

-- Replies of accesses

unmade : (form : Bool) (o p : Option Cell) (allows : Prot → Bool) (v w : Reply) → option_map (λ cell. cell.prot) o ≡ option_map (λ cell. cell.prot) p → is_made v ≡ true →
    is_made (cond form (access_reply o allows v) BadAccess) ≡ false → cond form (access_reply p allows w) BadAccess ≡ cond form (access_reply o allows v) BadAccess
unmade form o p allows v w h right un = grind (arith, nat_tests)

-- that of an access which is not made sees no bytes
pub reply_of-unmade : (m n : Memory) (command : Command) → prots m ≡ prots n → is_access command ≡ true → is_made (reply_of m command) ≡ false → reply_of n command ≡ reply_of m command
reply_of-unmade m n (Load addr width) h access un =
    unmade (is_aligned addr width) (m addr) (n addr) allows_load (Value (number_at m addr width)) (Value (number_at n addr width)) (ap (λ f. f addr) h) refl un
reply_of-unmade m n (Store addr width value) h access un =
    unmade (is_aligned addr width && ltb value (256 ^ width)) (m addr) (n addr) allows_store Done Done (ap (λ f. f addr) h) refl un
reply_of-unmade m n _ h access un = none_absurd access

-- that of an access sees the cells of its page alone
pub reply_of-page : (m n : Memory) (command : Command) → is_access command ≡ true → ((addr : ℕ) → addr / 4096 ≡ page_of command → m addr ≡ n addr) → reply_of m command ≡ reply_of n command
reply_of-page m n command access h = grind (arith, nat_tests)

-- a load or store of the right form is answered so on no memory
pub right_answered : (memory : Memory) (command : Command) → IsRightAccess command → reply_of memory command ≢ BadAccess
right_answered memory command is = grind (arith, nat_tests)
