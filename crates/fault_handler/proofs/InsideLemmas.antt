-- The events of every map call lie in the address space.
use Rattle.std.proofs.lemmas.Bool.Decides.{nat_tests}
use Rattle.std.proofs.Common.{◌≡◌, ℕ, ◌+◌, ◌-◌, ◌*◌, ◌/◌, ◌%◌, ◌<◌, ◌≤◌, ◌&&◌, ◌⊎◌, Option, inl, inr, ⊎_elim, Bool, true, false, not, eqb, ltb, leb, cond, List, [], ◌∷◌, ◌++◌, None, is_some, ◌^◌, refl, sym, ap, ◌∙◌, subst, arith}
use Rattle.std.proofs.lemmas.Bool.{false≢true, eqb-true, not-false}
use Rattle.std.specs.FinMap.{contains_key}
use Rattle.mig_base.specs.declared.TheConstants.{HIGH, HIGH_PAGE}
use Rattle.mig_base.specs.declared.command.Errno.TheVariants.{Einval, Enomem}
use Rattle.mig_base.specs.declared.command.Command.{Command}
use Rattle.mig_base.specs.declared.command.Command.TheVariants.{Mmap, Munmap, Mremap, DontNeed}
use Rattle.mig_base.specs.declared.command.Reply.{Reply}
use Rattle.mig_base.specs.declared.command.Reply.TheVariants.{Done, At, Refused}
use Rattle.mig_base.specs.declared.message.Message.{Message}
use Rattle.mig_base.specs.declared.message.Message.TheVariants.{Remap, Remove, Unmap}
use Rattle.foundation.specs.Ranges.{lesser, none_below, pages_of, rounded}
use Rattle.mig_base.specs.Flat.{Memory, is_all_mapped, is_mapped, is_page_start, dontneed_reply, first_refusal, munmap_reply, reply_of}
use Rattle.mig_base.proofs.BoundLemmas.{one_prot_some}
use Rattle.foundation.proofs.RangeLemmas.{none_below-from, none_below_tells}
use Rattle.mig_base.proofs.ReplyLemmas.{done_passed, mmap_inside, mremap_told}
use Rattle.mig_model.specs.Host.{Host, IsSound, memory}
use Rattle.mig_model.specs.Space.{IsSoundSpace, Space, all_queued, call_messages, message_if}
use Rattle.mig_base.specs.Userfault.{Noted, Object, is_registered, is_watched}
use Rattle.mig_model.proofs.owed.CalledLemmas.{IsLaid, remapped_laid}
use Rattle.mig_model.proofs.memory.CommandLemmas.{remapped_place}
use Rattle.mig_model.proofs.memory.Facts.{lesser_left, lesser_right, low_or}
use Rattle.mig_model.proofs.memory.HostLemmas.{memory-none}
use Rattle.mig_model.proofs.owed.SourceMessages.{events_queued, noted_all}
use Rattle.fault_handler.specs.Order.{AreInside, LiesInside}
use Rattle.mig_model.proofs.owed.EventLemmas.{away_not}

-- Messages

abbrev pub AllInside : List Message → Type 0
AllInside [] = Unit {0}
AllInside (message ∷ messages) = LiesInside message × AllInside messages

all_append : (a b : List Message) → AllInside a → AllInside b → AllInside (a ++ b)
all_append [] b one two = two
all_append (message ∷ a) b one two = (one.0, all_append a b one.1 two)

all_told : (reason : Bool) (message : Message) → (reason ≡ true → LiesInside message) → AllInside (message_if reason message)
all_told true message inside = (inside refl, tt)
all_told false message inside = tt

inside_append : (events : List Noted) (messages : List Message) (cpu : ℕ) → AreInside events → AllInside messages → AreInside (events ++ noted_all messages cpu)
inside_append [] [] cpu old new = tt
inside_append [] (message ∷ messages) cpu old new = (new.0, inside_append [] messages cpu tt new.1)
inside_append (noted ∷ events) messages cpu old new = (old.0, inside_append events messages cpu old.1 new)

pub inside_queued : (object : Object) (messages : List Message) (cpu : ℕ) → AreInside object.events → AllInside messages → AreInside (all_queued object messages cpu).events
inside_queued object messages cpu are all = subst AreInside (sym (events_queued object messages cpu)) (inside_append object.events messages cpu are all)

-- Ranges

-- an address that is mapped lies in the address space
mapped_high : (host : Host) (addr : ℕ) → IsSound host → (memory host addr ≡ None → ⊥) → addr < HIGH
mapped_high host addr sound some =
    let below : addr / 4096 < HIGH_PAGE = low_or (λ h. some (memory-none host addr (sound.bound (addr / 4096) h))) in
    omega (arith, below)

-- so does a range, each of whose addresses is
range_high : (host : Host) (addr size : ℕ) → IsSound host → 0 < size → ((i : ℕ) → i < size → memory host (addr + i) ≡ None → ⊥) → addr + size ≤ HIGH
range_high host addr size sound some mapped =
    let last : addr + (size - 1) < HIGH = mapped_high host (addr + (size - 1)) sound (mapped (size - 1) (omega arith)) in
    omega (arith, last)

-- a range of which a page is registered begins in the address space
watched_low : (space : Space) (first count : ℕ) → IsSoundSpace space → is_watched space.object first count ≡ true → first < HIGH_PAGE
watched_low space first count sound watched =
    low_or (λ h. false≢true (sym (ap not (none_below-from (λ i. is_registered space.object (first + i)) count (λ i l. beyond space (first + i) sound (omega (arith, h))))) ∙ watched))
  where
    no_key : (o : Bool) (r : Bool) → (r ≡ true → o ≡ true) → o ≡ false → r ≡ false
    no_key o r h none = grind arith

    beyond : (space : Space) (page : ℕ) → IsSoundSpace space → HIGH_PAGE ≤ page → is_registered space.object page ≡ false
    beyond space page sound h = no_key (contains_key space.host.areas page) (is_registered space.object page) (sound.mapped page) (ap is_some (sound.host.bound page h))

-- Calls

munmap_high : (addr len : ℕ) → Done ≡ munmap_reply addr len → addr + rounded len ≤ HIGH
munmap_high addr len h =
    let told = done_passed ((not (is_page_start addr), Einval) ∷ (eqb len 0, Einval) ∷ (ltb HIGH (addr + rounded len), Einval) ∷ []) Done h in
    let third = told.0.1.1.0 in
    grind (arith, nat_tests)

all_mapped_by : (start nothing all over : Bool) (addr : ℕ) → Done ≡ cond (not start) (Refused Einval) (cond nothing Done (first_refusal ((over, Einval) ∷ (not all, Enomem) ∷ []) Done)) → (nothing ≡ true) ⊎ (all ≡ true)
all_mapped_by start nothing all over addr h = grind (arith, nat_tests)

-- a DontNeed that is done is of no byte, or of a range that is mapped
dontneed_mapped : (memory : Memory) (addr len : ℕ) → Done ≡ dontneed_reply memory addr len → (eqb len 0 ≡ true) ⊎ (is_all_mapped memory addr (rounded len) ≡ true)
dontneed_mapped memory addr len h = all_mapped_by (is_page_start addr) (eqb len 0) (is_all_mapped memory addr (rounded len)) (leb (2 ^ 64) (addr + rounded len)) addr h

-- an event of a range
range_lies : (start size : ℕ) → start + size ≤ HIGH → (start / 4096 ≤ (start + size) / 4096) × ((start + size) / 4096 ≤ HIGH_PAGE)
range_lies start size high = (omega arith, omega (arith, high))

-- one that is cut at the end of the address space
cut_lies : (start size : ℕ) → start / 4096 < HIGH_PAGE → (start / 4096 ≤ lesser (start + size) HIGH / 4096) × (lesser (start + size) HIGH / 4096 ≤ HIGH_PAGE)
cut_lies start size low = grind (arith, nat_tests)

-- the tail of a range that is cut
tail_lies : (start few count : ℕ) → few < count → start + 4096 * count ≤ HIGH → ((start + 4096 * few) / 4096 ≤ (start + 4096 * count) / 4096) × ((start + 4096 * count) / 4096 ≤ HIGH_PAGE)
tail_lies start few count less high = (omega (arith, less), omega (arith, high))

empty_told : (space : Space) (first len : ℕ) (message : Message) → eqb len 0 ≡ true → AllInside (message_if (is_watched space.object first (pages_of len)) message)
unfolding none_below
empty_told space first len message none = rw (eqb-true len 0 none) tt

done_lies : (space : Space) (addr len : ℕ) → IsSoundSpace space → Done ≡ dontneed_reply (memory space.host) addr len → AllInside (message_if (is_watched space.object (addr / 4096) (pages_of len)) (Remove addr (addr + rounded len)))
done_lies space addr len sound is =
    let inside : eqb len 0 ≡ false → is_all_mapped (memory space.host) addr (rounded len) ≡ true → AllInside (message_if (is_watched space.object (addr / 4096) (pages_of len)) (Remove addr (addr + rounded len))) = λ some all.
    all_told _ _ (λ b. range_lies addr (rounded len) (range_high space.host addr (rounded len) sound.host (some_bytes len some) (λ i l none. false≢true (sym (ap is_some none) ∙ mapped_at (memory space.host) addr (rounded len) i all l)))) in
    ⊎_elim (λ (none : eqb len 0 ≡ true). empty_told space (addr / 4096) len (Remove addr (addr + rounded len)) none)
    (λ (all : is_all_mapped (memory space.host) addr (rounded len) ≡ true). by_len (eqb len 0) refl (λ some. inside some all))
    (dontneed_mapped (memory space.host) addr len is)
  where
    some_bytes : (len : ℕ) → eqb len 0 ≡ false → 0 < rounded len
    some_bytes len h = grind (arith, nat_tests)

    mapped_at : (m : Memory) (addr size i : ℕ) → is_all_mapped m addr size ≡ true → i < size → is_some (m (addr + i)) ≡ true
    mapped_at m addr size i all l = not-false (is_some (m (addr + i))) (none_below_tells (λ k. not (is_mapped m (addr + k))) size i all l)

    by_len : (b : Bool) → eqb len 0 ≡ b → (eqb len 0 ≡ false → AllInside (message_if (is_watched space.object (addr / 4096) (pages_of len)) (Remove addr (addr + rounded len)))) → AllInside (message_if (is_watched space.object (addr / 4096) (pages_of len)) (Remove addr (addr + rounded len)))
    by_len true is inside = empty_told space (addr / 4096) len (Remove addr (addr + rounded len)) is
    by_len false is inside = inside is

moved_lies : (from to n count new_count addr target : ℕ) → from ≡ addr / 4096 → to ≡ target / 4096 → n ≤ count → n ≤ new_count → addr % 4096 ≡ 0 → target % 4096 ≡ 0 → addr + 4096 * count ≤ HIGH → target + 4096 * new_count ≤ HIGH →
    (from + n ≤ to) ⊎ (to + n ≤ from) → LiesInside (Remap addr target (4096 * n))
moved_lies from to n count new_count addr target f t less fewer whole target_whole high target_high apart =
    let pages : (4096 * n) / 4096 ≡ n = omega arith in
    (omega (arith, f, pages, less, high), omega (arith, t, pages, fewer, target_high), lies_apart apart)
  where
    lies_apart : (from + n ≤ to) ⊎ (to + n ≤ from) → (addr / 4096 + (4096 * n) / 4096 ≤ target / 4096) ⊎ (target / 4096 + (4096 * n) / 4096 ≤ addr / 4096)
    lies_apart (inl h) = inl (omega (arith, h, f, t))
    lies_apart (inr h) = inr (omega (arith, h, f, t))

fewer_apart : (here : Host) (from count to new_count : ℕ) → IsLaid here from count to new_count → eqb to from ≡ false → (from + lesser count new_count ≤ to) ⊎ (to + lesser count new_count ≤ from)
fewer_apart here from count to new_count h other = grind (arith, nat_tests)

shorter : (few count : ℕ) (w : Bool) → (ltb few count && w) ≡ true → few < count
shorter few count w h = grind (arith, nat_tests)

remap_lies : (space : Space) (addr old_len new_len target : ℕ) (may_move : Bool) (fixed : Option ℕ) → IsSoundSpace space → At target ≡ reply_of (memory space.host) (Mremap addr old_len new_len may_move fixed) →
    AllInside (call_messages space.object (Mremap addr old_len new_len may_move fixed) (At target))
remap_lies space addr old_len new_len target may_move fixed sound is =
    let here = mremap_told (memory space.host) addr old_len new_len may_move fixed target is in
    let placed = remapped_place space.host addr old_len new_len target sound.host here in
    let laid = remapped_laid space.host addr old_len new_len target sound.host here in
    let from = addr / 4096 in
    let to = target / 4096 in
    let count = pages_of old_len in
    let new_count = pages_of new_len in
    let n = lesser count new_count in
    let high : addr + rounded old_len ≤ HIGH = range_high space.host addr (rounded old_len) sound.host (let some = here.old_some in omega (arith, some)) (λ i l none. one_prot_some (memory space.host) addr (rounded old_len) i here.one_prot l none) in
    all_append _ _
    (all_append _ _
    (all_told (not (eqb to from) && is_watched space.object to new_count) (Unmap target (target + 4096 * new_count)) (λ b. range_lies target (4096 * new_count) placed.high))
    (all_told (ltb new_count count && is_watched space.object (from + new_count) (count - new_count)) (Unmap (addr + 4096 * new_count) (addr + 4096 * count)) (λ b. tail_lies addr new_count count (shorter new_count count _ b) high)))
    (all_told (not (eqb to from) && is_watched space.object from n) (Remap addr target (4096 * n))
    (λ b. moved_lies from to n count new_count addr target refl refl (lesser_left count new_count) (lesser_right count new_count) here.whole placed.whole high placed.high (fewer_apart space.host from count to new_count laid (away_not (eqb to from) _ b))))

pub called_inside : (space : Space) (command : Command) (reply : Reply) → IsSoundSpace space → reply ≡ reply_of (memory space.host) command → AllInside (call_messages space.object command reply)
called_inside space (Mmap len prot place) (At start) sound is = all_told _ _ (λ b. range_lies start (rounded len) (mmap_inside (memory space.host) len prot place start is).high)
called_inside space (Munmap addr len) Done sound is = all_told _ _ (λ b. range_lies addr (rounded len) (munmap_high addr len is))
called_inside space (DontNeed addr len) Done sound is = done_lies space addr len sound is
called_inside space (DontNeed addr len) (Refused Enomem) sound is = all_told _ _ (λ b. cut_lies addr (rounded len) (watched_low space (addr / 4096) (pages_of len) sound b))
called_inside space (Mremap addr old_len new_len may_move fixed) (At target) sound is = remap_lies space addr old_len new_len target may_move fixed sound is
called_inside space _ _ sound is = tt
