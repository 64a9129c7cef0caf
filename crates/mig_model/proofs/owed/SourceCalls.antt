-- A map call leaves each registered page of which its messages do not tell as it was, and its messages are right.
use Rattle.std.proofs.Common.{◌≡◌, ℕ, ◌+◌, ◌-◌, ◌*◌, ◌/◌, ◌%◌, ◌<◌, ◌≤◌, ◌&&◌, Bool, true, false, cond, not, eqb, ltb, leb, Some, None, ◌++◌, refl, sym, ap, ◌∙◌, subst, ◌⊎◌, inl, inr, ⊎_elim, arith, is_some, []}
use Rattle.std.specs.Ordering.{nat_cmp}
use Rattle.std.specs.FinMap.{FinMap, get, contains_key}
use Rattle.std.specs.FinSet.{FinSet, contains}
use Rattle.std.proofs.lemmas.Bool.Decides.{nat_tests}
use Rattle.std.proofs.lemmas.Bool.{false≢true, or_left, and_parts, false_from_ne_true, cases_lt, lt-ltb}
use Rattle.mig_base.specs.declared.TheConstants.{LOW, HIGH, HIGH_PAGE}
use Rattle.mig_base.specs.declared.command.Errno.TheVariants.{Enomem}
use Rattle.mig_base.specs.declared.command.Command.{Command}
use Rattle.mig_base.specs.declared.command.Command.TheVariants.{Load, Store, Mmap, Munmap, Mremap, DontNeed}
use Rattle.mig_base.specs.declared.command.Reply.{Reply}
use Rattle.mig_base.specs.declared.command.Reply.TheVariants.{Done, At, Refused}
use Rattle.mig_base.specs.declared.message.Message.TheVariants.{Remap, Unmap}
use Rattle.foundation.specs.Ranges.{in_range, lesser, none_below, pages_of, rounded}
use Rattle.mig_base.specs.FreePlaces.{free_place}
use Rattle.mig_base.specs.Pages.{remove_range}
use Rattle.mig_base.specs.Sets.{without, moved_set}
use Rattle.mig_base.specs.Flat.{is_mapped, has_one_prot, reply_of}
use Rattle.foundation.proofs.RangeLemmas.{none_below_tells, none_below-from}
use Rattle.mig_base.proofs.FreePlaceLemmas.{place_found, four_hold}
use Rattle.mig_base.proofs.PageLemmas.{get-remove_range, get-moved_range}
use Rattle.mig_base.proofs.SetLemmas.{member_without, member_below}
use Rattle.mig_base.proofs.ReplyLemmas.{IsRemapped, found_inside, mremap_told, mmap_inside, munmap_whole, dontneed_done, dontneed_hole}
use Rattle.mig_base.proofs.ReplyLemmas.IsWhere.{Shrunk, Grew, Moved, Told}
use Rattle.mig_base.proofs.BoundLemmas.{one_prot_some, apart_of}
use Rattle.mig_model.specs.Host.{Host, memory, host_changed, IsSound}
use Rattle.mig_base.specs.Commands.{is_access}
use Rattle.mig_base.specs.Userfault.{Object, is_registered, is_watched}
use Rattle.mig_model.specs.Space.{Space, IsSoundSpace, message_if, remap_messages, call_messages, modes_after, protected_after}
use Rattle.mig_model.proofs.memory.HostLemmas.{is_mapped-memory, memory-none}
use Rattle.mig_model.proofs.memory.CommandLemmas.{remapped_place}
use Rattle.mig_model.proofs.owed.SourceMessages.{tells, unmapped_outside, removed_outside, dropped_outside, outside_told, in_bytes-pages, Stays, stays_there, moved_away, AllRight, AllRight-append, told_right}
use Rattle.mig_model.proofs.memory.Facts.{none_absurd, in_range_first, same_or_other, low_or, and_true, lesser_right, whole_page, lesser_left}
use Rattle.mig_base.specs.declared.message.Message.{Message}

-- what the invariant says of a registered page is as before
pub record IsUntouched (space : Space) (host : Host) (pages : FinSet nat_cmp) (object : Object) (page : ℕ) : Type 0 where
  pub bytes : get host.bytes page ≡ get space.host.bytes page
  pub protected : contains pages page ≡ contains space.protected page
  pub protect : contains object.protect page ≡ contains space.object.protect page

-- Ranges taken out

member_stays : (s : FinSet nat_cmp) (first count page : ℕ) → in_range first count page ≡ false → contains (without s first count) page ≡ contains s page
member_stays s first count page out = member_without s first count page ∙ ap (λ b. contains s page && not b) out ∙ and_true (contains s page)

bytes_stay : {X : Type 0} (pages : FinMap nat_cmp X) (first count page : ℕ) → in_range first count page ≡ false → get (remove_range pages first count) page ≡ get pages page
bytes_stay pages first count page out = get-remove_range pages first count page ∙ ap (λ b. cond b None (get pages page)) out

-- Ranges moved

moved_stays : {A : Type 0} (test : ℕ → A) (from count to new_count page : ℕ) (growth none : A) → Stays from count to new_count page →
    cond (in_range to new_count page) (cond (ltb (page - to) count) (test (from + (page - to))) growth) (cond (in_range from count page) none (test page)) ≡ test page
moved_stays test from count to new_count page growth none h = grind (arith, nat_tests)

member_moved : (s : FinSet nat_cmp) (from count to new_count page : ℕ) (growth : Bool) → ltb page HIGH_PAGE ≡ true → Stays from count to new_count page → contains (moved_set s from count to new_count growth) page ≡ contains s page
member_moved s from count to new_count page growth low h = grind (arith, nat_tests, member_below)

-- The place of an mremap

unmapped_page : (host : Host) (start len page : ℕ) → none_below (λ i. is_mapped (memory host) (start + i)) len ≡ true → start ≤ 4096 * page → 4096 * page < start + len → contains_key host.areas page ≡ false
unmapped_page host start len page none low high =
    let at : start + (4096 * page - start) ≡ 4096 * page = omega arith in
    let own : 4096 * page / 4096 ≡ page = omega arith in
    ap (contains_key host.areas) (sym own)
    ∙ sym (ap (λ f. f (4096 * page)) (is_mapped-memory host))
    ∙ ap (is_mapped (memory host)) (sym at)
    ∙ none_below_tells (λ i. is_mapped (memory host) (start + i)) len (4096 * page - start) none (omega arith)

mapped_page : (host : Host) (addr size page : ℕ) → has_one_prot (memory host) addr size ≡ true → addr ≤ 4096 * page → 4096 * page < addr + size → contains_key host.areas page ≡ true
mapped_page host addr size page one low high =
    let at : (addr + (4096 * page - addr)) / 4096 ≡ page = omega arith in
    elim (get host.areas page) as (λ o. get host.areas page ≡ o → is_some o ≡ true) [
      | None ↦ λ e. absurd (one_prot_some (memory host) addr size (4096 * page - addr) one (omega arith) (memory-none host (addr + (4096 * page - addr)) (ap (get host.areas) at ∙ e)))
      | Some prot ↦ λ e. refl
    ] refl

not_both : (b : Bool) → b ≡ true → b ≡ false → ⊥
not_both b is isnt = false≢true (sym isnt ∙ is)

found_free : (taken : ℕ → Bool) (size start : ℕ) → free_place taken size ≡ Some start → none_below (λ i. taken (start + i)) size ≡ true
found_free taken size start h = (four_hold (eqb (start % 4096) 0) (leb LOW start) (leb (start + size) HIGH) (none_below (λ i. taken (start + i)) size) (place_found taken size start h)).four

-- no page by which a range grows where it is was registered
growth_outside : (space : Space) (addr old_len new_len target page : ℕ) → IsSoundSpace space → IsRemapped (memory space.host) addr old_len new_len target → target / 4096 ≡ addr / 4096 → is_registered space.object page ≡ true →
    in_range (addr / 4096 + pages_of old_len) (pages_of new_len - pages_of old_len) page ≡ false
growth_outside space addr old_len new_len target page sound remapped same registered =
    let mapped = sound.mapped page registered in
    let whole = remapped.whole in
    let old_some = remapped.old_some in
    let new_some = remapped.new_some in
    false_from_ne_true (in_range (addr / 4096 + pages_of old_len) (pages_of new_len - pages_of old_len) page) (λ inside.
    let l = in_range_first (addr / 4096 + pages_of old_len) (pages_of new_len - pages_of old_len) page inside in
    elim remapped.place [
      | Shrunk at shorter ↦ absurd (omega (arith, l, shorter))
      | Grew at can ↦ not_both (contains_key space.host.areas page) mapped
          (unmapped_page space.host (addr + rounded old_len) (rounded new_len - rounded old_len) page (and_parts _ _ can).0 (omega (arith, l, whole)) (omega (arith, l, whole)))
      | Moved found ↦
          let free = found_free (is_mapped (memory space.host)) (rounded new_len) target found in
          let start = (found_inside (is_mapped (memory space.host)) (rounded new_len) target found).whole in
          not_both (contains_key space.host.areas page) mapped
          (unmapped_page space.host target (rounded new_len) page free (omega (arith, l, whole, start, same)) (omega (arith, l, whole, start, same)))
      | Told at ↦
          let start = at.inside.whole in
          ⊎_elim
          (λ (above : addr + rounded old_len ≤ target). absurd (omega (arith, above, whole, start, same, old_some)))
          (λ (below : target + rounded new_len ≤ addr). absurd (omega (arith, below, whole, start, same, new_some)))
          (apart_of target (rounded new_len) addr (rounded old_len) at.apart)
    ])

-- a range that is free has no page of one that is mapped
free_apart : (host : Host) (addr target count new_count moved : ℕ) → addr % 4096 ≡ 0 → target % 4096 ≡ 0 → has_one_prot (memory host) addr (4096 * count) ≡ true →
    none_below (λ i. is_mapped (memory host) (target + i)) (4096 * new_count) ≡ true → moved ≤ count → moved ≤ new_count → (addr / 4096 + moved ≤ target / 4096) ⊎ (target / 4096 + moved ≤ addr / 4096)
free_apart host addr target count new_count moved old new one none few fewer =
    ⊎_elim
    (λ (near : target / 4096 < addr / 4096 + moved). ⊎_elim
    (λ (close : addr / 4096 < target / 4096 + moved). ⊎_elim
    (λ (lower : addr / 4096 < target / 4096). absurd (not_both (contains_key host.areas (target / 4096))
    (mapped_page host addr (4096 * count) (target / 4096) one (omega arith) (omega arith)) (unmapped_page host target (4096 * new_count) (target / 4096) none (omega arith) (omega arith))))
    (λ (higher : target / 4096 ≤ addr / 4096). absurd (not_both (contains_key host.areas (addr / 4096))
    (mapped_page host addr (4096 * count) (addr / 4096) one (omega arith) (omega arith)) (unmapped_page host target (4096 * new_count) (addr / 4096) none (omega arith) (omega arith))))
    (cases_lt (addr / 4096) (target / 4096)))
    (λ (far : target / 4096 + moved ≤ addr / 4096). inr far)
    (cases_lt (addr / 4096) (target / 4096 + moved)))
    (λ (far : addr / 4096 + moved ≤ target / 4096). inl far)
    (cases_lt (target / 4096) (addr / 4096 + moved))

-- a range that moves lies apart from its target
pub moved_apart : (host : Host) (addr old_len new_len target moved : ℕ) → IsRemapped (memory host) addr old_len new_len target → (target / 4096 ≡ addr / 4096 → ⊥) → moved ≤ pages_of old_len → moved ≤ pages_of new_len →
    (addr / 4096 + moved ≤ target / 4096) ⊎ (target / 4096 + moved ≤ addr / 4096)
moved_apart host addr old_len new_len target moved remapped other few fewer =
    let whole = remapped.whole in
    elim remapped.place [
      | Shrunk at shorter ↦ absurd (other (ap (λ a. a / 4096) at))
      | Grew at can ↦ absurd (other (ap (λ a. a / 4096) at))
      | Moved found ↦
          let free = found_free (is_mapped (memory host)) (rounded new_len) target found in
          let start = (found_inside (is_mapped (memory host)) (rounded new_len) target found).whole in
          free_apart host addr target (pages_of old_len) (pages_of new_len) moved whole start remapped.one_prot free few fewer
      | Told at ↦
          let start = at.inside.whole in
          ⊎_elim
          (λ (above : addr + rounded old_len ≤ target). inl (omega (arith, above, whole, start)))
          (λ (below : target + rounded new_len ≤ addr). inr (omega (arith, below, whole, start)))
          (apart_of target (rounded new_len) addr (rounded old_len) at.apart)
    ]

-- A registered page that no event names

pub registered_below : (space : Space) (page : ℕ) → IsSoundSpace space → is_registered space.object page ≡ true → page < HIGH_PAGE
registered_below space page sound registered = low_or (λ h. false≢true (sym (ap is_some (sound.host.bound page h)) ∙ sound.mapped page registered))

taken_out : (space : Space) (first count page : ℕ) (host : Host) (pages : FinSet nat_cmp) (object : Object) → in_range first count page ≡ false → host.bytes ≡ remove_range space.host.bytes first count → pages ≡ without space.protected first count →
    object.protect ≡ without space.object.protect first count → IsUntouched space host pages object page
taken_out space first count page host pages object out bytes protected protect = grind (arith, nat_tests, bytes_stay, member_stays)

dropped : (space : Space) (first count page : ℕ) → in_range first count page ≡ false → IsUntouched space (record space.host { bytes = remove_range space.host.bytes first count }) (without space.protected first count) space.object page
dropped space first count page out = record { bytes = bytes_stay space.host.bytes first count page out; protected = member_stays space.protected first count page out; protect = refl }

-- of the three messages that an mremap may send
record AreSilent (object : Object) (addr count target new_count page : ℕ) : Type 0 where
  replaced : tells (message_if (not (eqb (target / 4096) (addr / 4096)) && is_watched object (target / 4096) new_count) (Unmap target (target + 4096 * new_count))) page ≡ false
  cut : tells (message_if (ltb new_count count && is_watched object (addr / 4096 + new_count) (count - new_count)) (Unmap (addr + 4096 * new_count) (addr + 4096 * count))) page ≡ false
  moved : tells (message_if (not (eqb (target / 4096) (addr / 4096)) && is_watched object (addr / 4096) (lesser count new_count)) (Remap addr target (4096 * lesser count new_count))) page ≡ false

are_silent : (object : Object) (addr count target new_count page : ℕ) → tells (remap_messages object addr count target new_count) page ≡ false → AreSilent object addr count target new_count page
are_silent object addr count target new_count page h = grind (arith, nat_tests)

tail_outside : (object : Object) (addr count target new_count page : ℕ) → AreSilent object addr count target new_count page → is_registered object page ≡ true → new_count < count → in_range (addr / 4096 + new_count) (count - new_count) page ≡ false
tail_outside object addr count target new_count page silent registered shorter = grind (arith, nat_tests, outside_told)

remap_stays : (space : Space) (addr old_len new_len target page : ℕ) → IsSoundSpace space → IsRemapped (memory space.host) addr old_len new_len target → is_registered space.object page ≡ true →
    AreSilent space.object addr (pages_of old_len) target (pages_of new_len) page → Stays (addr / 4096) (pages_of old_len) (target / 4096) (pages_of new_len) page
remap_stays space addr old_len new_len target page sound remapped registered silent =
    let count = pages_of old_len in
    let new_count = pages_of new_len in
    let tail = tail_outside space.object addr count target new_count page silent registered in
    ⊎_elim
    (λ (same : target / 4096 ≡ addr / 4096).
    subst (λ to. Stays (addr / 4096) count to new_count page) (sym same) (stays_there (addr / 4096) count new_count page tail (growth_outside space addr old_len new_len target page sound remapped same registered)))
    (λ (other : eqb (target / 4096) (addr / 4096) ≡ false).
    let out = outside_told (not (eqb (target / 4096) (addr / 4096))) (Unmap target (target + 4096 * new_count)) space.object (target / 4096) new_count page
    (λ inside. in_bytes-pages target new_count page ∙ inside) (ap not other) registered silent.replaced in
    let head = outside_told (not (eqb (target / 4096) (addr / 4096))) (Remap addr target (4096 * lesser count new_count)) space.object (addr / 4096) (lesser count new_count) page
    (λ inside. or_left _ _ (in_bytes-pages addr (lesser count new_count) page ∙ inside)) (ap not other) registered silent.moved in
    inr (out, moved_away (addr / 4096) count (target / 4096) new_count page out tail head))
    (same_or_other (target / 4096) (addr / 4096))

pub untouched : (space : Space) (command : Command) (reply : Reply) (page : ℕ) → IsSoundSpace space → is_access command ≡ false → reply ≡ reply_of (memory space.host) command → is_registered space.object page ≡ true →
    tells (call_messages space.object command reply) page ≡ false → IsUntouched space (host_changed space.host command reply) (protected_after space.protected command reply) (modes_after space.object command reply) page
untouched space (Load addr width) reply page sound call is registered silent = none_absurd (sym call)
untouched space (Store addr width value) reply page sound call is registered silent = none_absurd (sym call)
untouched space (Mmap len prot place) (At start) page sound call is registered silent =
    taken_out space (start / 4096) (pages_of len) page _ _ _ (unmapped_outside space.object start (pages_of len) page registered silent) refl refl refl
untouched space (Munmap addr len) Done page sound call is registered silent =
    taken_out space (addr / 4096) (pages_of len) page _ _ _ (unmapped_outside space.object addr (pages_of len) page registered silent) refl refl refl
untouched space (Mremap addr old_len new_len may_move fixed) (At target) page sound call is registered silent =
    let count = pages_of old_len in
    let new_count = pages_of new_len in
    let low = lt-ltb page HIGH_PAGE (registered_below space page sound registered) in
    let stays = remap_stays space addr old_len new_len target page sound (mremap_told (memory space.host) addr old_len new_len may_move fixed target is) registered (are_silent space.object addr count target new_count page silent) in
    record {
      bytes = get-moved_range space.host.bytes (addr / 4096) count (target / 4096) new_count page None ∙ moved_stays (get space.host.bytes) (addr / 4096) count (target / 4096) new_count page None None stays;
      protected = member_moved space.protected (addr / 4096) count (target / 4096) new_count page false low stays;
      protect = member_moved space.object.protect (addr / 4096) count (target / 4096) new_count page _ low stays;
    }
untouched space (DontNeed addr len) Done page sound call is registered silent =
    dropped space (addr / 4096) (pages_of len) page (removed_outside space.object addr (pages_of len) page registered silent)
untouched space (DontNeed addr len) (Refused Enomem) page sound call is registered silent =
    dropped space (addr / 4096) (pages_of len) page (dropped_outside space.object addr (pages_of len) page (registered_below space page sound registered) registered silent)
untouched space _ _ page sound call is registered silent = record { bytes = refl; protected = refl; protect = refl }

-- Right messages

whole_times : (count : ℕ) → 4096 * count % 4096 ≡ 0
whole_times count = omega arith

not_same : (a b : ℕ) (rest : Bool) → (not (eqb a b) && rest) ≡ true → a ≡ b → ⊥
not_same a b rest h e = grind (arith, nat_tests)

right_remap : (host : Host) (object : Object) (addr old_len new_len target : ℕ) (may_move : Bool) (fixed : _) → IsSound host → At target ≡ reply_of (memory host) (Mremap addr old_len new_len may_move fixed) →
    AllRight (remap_messages object addr (pages_of old_len) target (pages_of new_len))
right_remap host object addr old_len new_len target may_move fixed sound is =
    let count = pages_of old_len in
    let new_count = pages_of new_len in
    let remapped = mremap_told (memory host) addr old_len new_len may_move fixed target is in
    let whole = remapped.whole in
    let placed = remapped_place host addr old_len new_len target sound remapped in
    let start = placed.whole in
    let high = placed.high in
    let fewer = lesser_right count new_count in
    let length : 4096 * lesser count new_count / 4096 ≡ lesser count new_count = omega arith in
    let inside : target / 4096 + lesser count new_count ≤ HIGH_PAGE = omega (arith, high, fewer) in
    AllRight-append
    (message_if (not (eqb (target / 4096) (addr / 4096)) && is_watched object (target / 4096) new_count) (Unmap target (target + 4096 * new_count))
    ++ message_if (ltb new_count count && is_watched object (addr / 4096 + new_count) (count - new_count)) (Unmap (addr + 4096 * new_count) (addr + 4096 * count)))
    (message_if (not (eqb (target / 4096) (addr / 4096)) && is_watched object (addr / 4096) (lesser count new_count)) (Remap addr target (4096 * lesser count new_count)))
    (AllRight-append
    (message_if (not (eqb (target / 4096) (addr / 4096)) && is_watched object (target / 4096) new_count) (Unmap target (target + 4096 * new_count)))
    (message_if (ltb new_count count && is_watched object (addr / 4096 + new_count) (count - new_count)) (Unmap (addr + 4096 * new_count) (addr + 4096 * count)))
    (told_right _ _ (λ h. (start, whole_page target new_count start)))
    (told_right _ _ (λ h. (whole_page addr new_count whole, whole_page addr count whole))))
    (told_right _ _ (λ h. (
      whole,
      start,
      whole_times (lesser count new_count),
      subst (λ n. target / 4096 + n ≤ HIGH_PAGE) (sym length) inside,
      subst (λ n. (addr / 4096 + n ≤ target / 4096) ⊎ (target / 4096 + n ≤ addr / 4096)) (sym length)
          (moved_apart host addr old_len new_len target (lesser count new_count) remapped (not_same (target / 4096) (addr / 4096) _ h) (lesser_left count new_count) fewer),
    )))

pub right_messages : (host : Host) (object : Object) (command : Command) (reply : Reply) → IsSound host → reply ≡ reply_of (memory host) command → AllRight (call_messages object command reply)
right_messages host object command reply sound is = grind (arith, nat_tests, mmap_inside, munmap_whole, right_remap, dontneed_done, dontneed_hole)

-- A call queues no event where nothing is registered

abbrev pub IsUnregistered : Object → Type 0
IsUnregistered object = (page : ℕ) → is_registered object page ≡ false

pub untold : (reason : Bool) (message : Message) → reason ≡ false → message_if reason message ≡ []
untold reason message h = grind (arith, nat_tests)

pub no_messages : (object : Object) (command : Command) (reply : Reply) → IsUnregistered object → call_messages object command reply ≡ []
no_messages object command reply none = grind (arith, nat_tests, none_below-from)

-- Modes

pub modes_same : (object : Object) (command : Command) (reply : Reply) → object.missing ≡ object.protect → (modes_after object command reply).missing ≡ (modes_after object command reply).protect
modes_same object command reply same = grind (arith, nat_tests)

pub none_missing : (object : Object) (command : Command) (reply : Reply) → ((page : ℕ) → contains object.missing page ≡ false) → (page : ℕ) → contains (modes_after object command reply).missing page ≡ false
none_missing object command reply none page = grind (arith, nat_tests, member_without, member_below)
