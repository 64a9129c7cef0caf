-- The finite map has the look-ups of the function.
use Rattle.std.proofs.Common.{◌≡◌, ◌≢◌, ℕ, zero, suc, ◌+◌, ◌-◌, ◌/◌, ◌%◌, ◌^◌, cond, eqb, Option, Some, None, List, [], ◌∷◌, refl, sym, ap, ◌∙◌, subst, inr, ⊎_elim, arith}
use Rattle.std.proofs.lemmas.Bool.Decides.{nat_tests}
use Rattle.std.specs.Cmp.{nat_cmp_total, unsigned_tied}
use Rattle.std.specs.FinMap.{len, get, empty, get-empty, get-insert}
use Rattle.std.specs.Ordering.{nat_cmp}
use Rattle.std.proofs.lemmas.Bool.{eq-eqb, cond-true, cond-false, ne_eqb, cases_eq}
use Rattle.mig_base.specs.declared.command.Entry.{Entry}
use Rattle.mig_base.specs.declared.command.Command.{Command}
use Rattle.mig_base.specs.declared.command.Command.TheVariants.{Store, Mmap, Munmap, Mremap, DontNeed}
use Rattle.mig_base.specs.declared.command.Errno.TheVariants.{Enomem}
use Rattle.mig_base.specs.declared.command.Reply.{Reply}
use Rattle.mig_base.specs.declared.command.Reply.TheVariants.{Done, At, Refused}
use Rattle.foundation.specs.Ranges.{in_range, rounded}
use Rattle.mig_base.specs.Flat.{Cell, Memory, zeros_with, grown, zeroed, write, written, reply_of, changed, memory_from, memory_of, mapped_count}
use Rattle.mig_base.specs.FlatMap.{Map, look, put_byte, write_map, zeroed_map, changed_map, map_from, map_of}
use Rattle.mig_base.proofs.PageLemmas.{get-set_range, get-remove_range, get-moved_range, count_below-contains_key}
use Rattle.mig_base.proofs.BoundLemmas.{memory_of_bounded}
use Rattle.mig_base.specs.declared.TheConstants.{HIGH}
use Rattle.foundation.proofs.RangeLemmas.{in_range-none, in_range-end, in_range-last}

before : (first count q : ℕ) → q ≢ first + count → in_range first (suc count) q ≡ in_range first count q
before first count q h = grind (arith, nat_tests)

joined : (addr width value q : ℕ) (m : Memory) → cond (eqb q (addr + width)) (written (m (addr + width)) (value / 256 ^ width % 256)) (write m addr width value q) ≡ write m addr (suc width) value q
joined addr width value q m = ⊎_elim
    (λ (e : q ≡ addr + width).
    let at : addr + width - addr ≡ width = omega arith in
    subst (λ p. cond (eqb p (addr + width)) (written (m (addr + width)) (value / 256 ^ width % 256)) (write m addr width value p) ≡ write m addr (suc width) value p) (sym e)
    (cond-true (eqb (addr + width) (addr + width)) _ (write m addr width value (addr + width)) (eq-eqb (addr + width) (addr + width) refl)
    ∙ ap (λ w. written (m (addr + width)) (value / 256 ^ w % 256)) (sym at)
    ∙ sym (cond-true (in_range addr (suc width) (addr + width)) _ (m (addr + width)) (in_range-last addr width))))
    (λ (n : q ≢ addr + width).
    cond-false (eqb q (addr + width)) _ (write m addr width value q) (ne_eqb q (addr + width) n)
    ∙ ap (λ b. cond b (written (m q) (value / 256 ^ (q - addr) % 256)) (m q)) (sym (before addr width q n)))
    (cases_eq q (addr + width))

get-put_byte : (m : Map) (addr byte q : ℕ) (o : Option Cell) → o ≡ get m addr → get (put_byte m addr byte o) q ≡ cond (eqb q addr) (written (get m addr) byte) (get m q)
get-put_byte m addr byte q None h = ⊎_elim
    (λ (e : q ≡ addr). ap (get m) e ∙ sym h ∙ ap (λ c. written c byte) h ∙ sym (cond-true (eqb q addr) (written (get m addr) byte) (get m q) (eq-eqb q addr e)))
    (λ (n : q ≢ addr). sym (cond-false (eqb q addr) (written (get m addr) byte) (get m q) (ne_eqb q addr n)))
    (cases_eq q addr)
get-put_byte m addr byte q (Some cell) h =
    get-insert nat_cmp_total m addr (record cell { byte = byte }) q
    ∙ ap (λ b. cond b (Some (record cell { byte = byte })) (get m q)) (unsigned_tied q addr)
    ∙ ap (λ c. cond (eqb q addr) c (get m q)) (ap (λ c. written c byte) h)

get-write_map : (m : Map) (addr width value q : ℕ) → get (write_map m addr width value) q ≡ write (look m) addr width value q
unfolding write_map
get-write_map m addr zero value q = sym (cond-false (in_range addr 0 q) _ (get m q) (in_range-none addr q))
get-write_map m addr (suc width) value q =
    let less = write_map m addr width value in
    get-put_byte less (addr + width) (value / 256 ^ width % 256) q (get less (addr + width)) refl
    ∙ ap (λ c. cond (eqb q (addr + width)) (written c (value / 256 ^ width % 256)) (get less q)) (get-write_map m addr width value (addr + width) ∙ cond-false (in_range addr width (addr + width)) _ (get m (addr + width)) (in_range-end addr width))
    ∙ ap (λ c. cond (eqb q (addr + width)) (written (get m (addr + width)) (value / 256 ^ width % 256)) c) (get-write_map m addr width value q)
    ∙ joined addr width value q (get m)

joined_zero : (start len q : ℕ) (m : Memory) → cond (eqb q (start + len)) (written (m (start + len)) 0) (zeroed m start len q) ≡ zeroed m start (suc len) q
joined_zero start len q m = ⊎_elim
    (λ (e : q ≡ start + len).
    subst (λ p. cond (eqb p (start + len)) (written (m (start + len)) 0) (zeroed m start len p) ≡ zeroed m start (suc len) p) (sym e)
    (cond-true (eqb (start + len) (start + len)) _ (zeroed m start len (start + len)) (eq-eqb (start + len) (start + len) refl)
    ∙ sym (cond-true (in_range start (suc len) (start + len)) _ (m (start + len)) (in_range-last start len))))
    (λ (n : q ≢ start + len).
    cond-false (eqb q (start + len)) _ (zeroed m start len q) (ne_eqb q (start + len) n)
    ∙ ap (λ b. cond b (written (m q) 0) (m q)) (sym (before start len q n)))
    (cases_eq q (start + len))

get-zeroed_map : (m : Map) (start len q : ℕ) → get (zeroed_map m start len) q ≡ zeroed (look m) start len q
unfolding zeroed_map
get-zeroed_map m start zero q = sym (cond-false (in_range start 0 q) _ (get m q) (in_range-none start q))
get-zeroed_map m start (suc len) q =
    let less = zeroed_map m start len in
    get-put_byte less (start + len) 0 q (get less (start + len)) refl
    ∙ ap (λ c. cond (eqb q (start + len)) (written c 0) (get less q)) (get-zeroed_map m start len (start + len) ∙ cond-false (in_range start len (start + len)) _ (get m (start + len)) (in_range-end start len))
    ∙ ap (λ c. cond (eqb q (start + len)) (written (get m (start + len)) 0) c) (get-zeroed_map m start len q)
    ∙ joined_zero start len q (get m)

look-changed_map : (m : Map) (command : Command) (reply : Reply) → look (changed_map m command reply) ≡ changed (look m) command reply
look-changed_map m (Store addr width value) Done = λ i q. get-write_map m addr width value q i
look-changed_map m (Mmap bytes prot place) (At start) = λ i q. get-set_range m start (rounded bytes) (zeros_with prot) q i
look-changed_map m (Munmap addr bytes) Done = λ i q. get-remove_range m addr (rounded bytes) q i
look-changed_map m (Mremap addr old_bytes new_bytes may_move fixed) (At target) = λ i q. get-moved_range m addr (rounded old_bytes) target (rounded new_bytes) q (grown (get m addr)) i
look-changed_map m (DontNeed addr bytes) Done = λ i q. get-zeroed_map m addr (rounded bytes) q i
look-changed_map m (DontNeed addr bytes) (Refused Enomem) = λ i q. get-zeroed_map m addr (rounded bytes) q i
look-changed_map m _ _ = refl

look-map_from : (m : Map) (entries : List Entry) → look (map_from m entries) ≡ memory_from (look m) entries
look-map_from m [] = refl
look-map_from m (entry ∷ entries) =
    look-map_from (changed_map m entry.command (reply_of (look m) entry.command)) entries
    ∙ ap (λ f. memory_from f entries) (look-changed_map m entry.command (reply_of (look m) entry.command))

pub get-map_of : (entries : List Entry) (addr : ℕ) → get (map_of entries) addr ≡ memory_of entries addr
get-map_of entries addr =
    ap (λ f. f addr) (look-map_from empty entries ∙ ap (λ f. memory_from f entries) (λ i q. get-empty nat_cmp q i))

pub len-map_of : (entries : List Entry) → len (map_of entries) ≡ mapped_count (memory_of entries)
len-map_of entries =
    sym (count_below-contains_key HIGH (map_of entries) (λ addr l. get-map_of entries addr ∙ memory_of_bounded entries addr (inr l)))
    ∙ ap (λ f. mapped_count f) (λ i addr. get-map_of entries addr i)
