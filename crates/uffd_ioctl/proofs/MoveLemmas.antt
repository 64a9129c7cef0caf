-- The modes and the messages of a range that mremap puts elsewhere, or makes longer or shorter.
use Rattle.std.proofs.Common.{◌≡◌, ℕ, suc, ◌+◌, ◌-◌, ◌*◌, ◌/◌, ◌≤◌, ◌&&◌, ◌||◌, Bool, true, false, cond, not, ltb, List, [], ◌∷◌, ◌++◌, length, take, nat_lt, ◌==◌, refl, sym, ap, ◌∙◌, ◌⊎◌, ⊎_elim, arith, min}
use Rattle.std.specs.Ordering.{nat_cmp}
use Rattle.std.specs.FinSet.{FinSet, contains}
use Rattle.std.proofs.lemmas.Bool.Decides.{nat_tests}
use Rattle.std.proofs.lemmas.List.{length-append, take_at}
use Rattle.mig_base.specs.declared.TheConstants.{HIGH_PAGE}
use Rattle.mig_base.specs.declared.message.Message.{Message}
use Rattle.mig_base.specs.declared.message.Message.TheVariants as message
use Rattle.mig_base.specs.declared.message.Message.TheVariants.{Unmap}
use Rattle.foundation.specs.Ranges.{in_range, lesser}
use Rattle.mig_base.specs.Sets.{without, with_range, moved_set}
use Rattle.mig_base.proofs.SetLemmas.{same_members, member_without, member_with_range, member_below}
use Rattle.foundation.proofs.TestLemmas.{and_true, or_first, or_second}
use Rattle.foundation.specs.Modes.{Mode}
use Rattle.mig_base.specs.Userfault.{Noted, Object, mode_at, unregistered, moved_modes, event_queued, is_registered, is_watched, changing}
use Rattle.mig_model.specs.Space.{message_if, remap_messages, all_queued}
use Rattle.mig_model.proofs.memory.Registering.{pages_again}
use Rattle.mig_model.proofs.memory.Facts.{queued_missing, queued_protect}
use Rattle.mig_model.proofs.owed.SourceMessages.{noted_all, events_queued}
use Rattle.userfault.specs.Modes.{opened, limited, no_mode}
use Rattle.userfault.proofs.ModeLemmas.{is_pages_where}
use Rattle.uffd_ioctl.specs.declared.remap.Remap.{Remap}
use Rattle.uffd_ioctl.specs.Remaps.{IsRemap, AreLow, room_first, room_count, modes_of, three_messages}

abbrev Set : Type 0
Set = FinSet nat_cmp

-- Modes

abbrev moved_test : Set → ℕ → ℕ → ℕ → ℕ → Bool → ℕ → Bool
moved_test set from count to new_count growth = λ page. cond (in_range to new_count page) (cond (ltb (page - to) count) (contains set (from + (page - to))) growth) (not (in_range from count page) && contains set page)

member_limited : (set : Set) (mode : Bool) (first count q : ℕ) → contains (cond mode set (without set first count)) q ≡ (contains set q && (mode || not (in_range first count q)))
member_limited set true first count q = sym (and_true (contains set q))
member_limited set false first count q = member_without set first count q

-- the range stays where it is
stays_at : (from count new_count kept q : ℕ) (along old growth : Bool) → kept ≡ min count new_count → (from ≤ q → along ≡ old)
    → (((in_range (from + kept) (new_count - kept) q || old) && not (in_range (from + kept) (count - kept) q)) && (growth || not (in_range (from + kept) (new_count - kept) q)))
    ≡ cond (in_range from new_count q) (cond (ltb (q - from) count) along growth) (not (in_range from count q) && old)
stays_at from count new_count kept q along old growth least same = grind (arith, nat_tests, same)

same_page : (set : Set) (from q : ℕ) → from ≤ q → contains set (from + (q - from)) ≡ contains set q
same_page set from q h = let e : from + (q - from) ≡ q = omega arith in ap (contains set) e

past_stayed : (from count new_count q : ℕ) (along growth old : Bool) → from + new_count ≤ HIGH_PAGE → HIGH_PAGE ≤ q → old ≡ false → cond (in_range from new_count q) (cond (ltb (q - from) count) along growth) (not (in_range from count q) && old) ≡ false
past_stayed from count new_count q along growth old high past none = grind (arith, nat_tests)

-- the set once a range is opened, its old end is taken out, and the pages by which it grows are limited to a mode
abbrev in_place : Set → ℕ → ℕ → ℕ → ℕ → Bool → Set
in_place set from count new_count kept mode =
    let left = without (with_range set (from + kept) (new_count - kept)) (from + kept) (count - kept) in
    cond mode left (without left (from + kept) (new_count - kept))

stayed : (set : Set) (from count new_count kept : ℕ) (mode : Bool) → kept ≡ min count new_count → from + new_count ≤ HIGH_PAGE → ((q : ℕ) → HIGH_PAGE ≤ q → contains set q ≡ false) → in_place set from count new_count kept mode ≡ moved_set set from count from new_count mode
stayed set from count new_count kept mode least high past =
    let ready = with_range set (from + kept) (new_count - kept) in
    let left = without ready (from + kept) (count - kept) in
    is_pages_where (in_place set from count new_count kept mode) (moved_test set from count from new_count mode)
    (λ q.
    member_limited left mode (from + kept) (new_count - kept) q
    ∙ ap (λ b. b && (mode || not (in_range (from + kept) (new_count - kept) q)))
    (member_without ready (from + kept) (count - kept) q ∙ ap (λ b. b && not (in_range (from + kept) (count - kept) q)) (member_with_range set (from + kept) (new_count - kept) q))
    ∙ stays_at from count new_count kept q (contains set (from + (q - from))) (contains set q) mode least (same_page set from q))
    (λ q out. past_stayed from count new_count q (contains set (from + (q - from))) mode (contains set q) high out (past q out))

-- it goes elsewhere
goes_to : (from count to new_count kept q : ℕ) (along old growth : Bool) → kept ≡ min count new_count → ((from + count ≤ to) ⊎ (to + new_count ≤ from))
    → ((cond (in_range to kept q) (cond (ltb (q - to) kept) (in_range to new_count (from + (q - to)) || along) false) (not (in_range from kept q) && (in_range to new_count q || old)) && not (in_range (from + kept) (count - kept) q)) && (growth || not (in_range (to + kept) (new_count - kept) q)))
    ≡ cond (in_range to new_count q) (cond (ltb (q - to) count) along growth) (not (in_range from count q) && old)
goes_to from count to new_count kept q along old growth least apart = grind (arith, nat_tests)

below_all : (low b out limit : Bool) → (((low && b) && out) && limit) ≡ (low && ((b && out) && limit))
below_all true b out limit = refl
below_all false b out limit = refl

-- the set once a target is opened, pages are moved there, the rest of the range is taken out, and the pages by which it grows are limited
abbrev elsewhere : Set → ℕ → ℕ → ℕ → ℕ → ℕ → Bool → Set
elsewhere set from count to new_count kept mode =
    let left = without (moved_set (with_range set to new_count) from kept to kept false) (from + kept) (count - kept) in
    cond mode left (without left (to + kept) (new_count - kept))

gone : (set : Set) (from count to new_count kept : ℕ) (mode : Bool) → kept ≡ min count new_count → ((from + count ≤ to) ⊎ (to + new_count ≤ from)) → elsewhere set from count to new_count kept mode ≡ moved_set set from count to new_count mode
gone set from count to new_count kept mode least apart =
    let ready = with_range set to new_count in
    let moved = moved_set ready from kept to kept false in
    let left = without moved (from + kept) (count - kept) in
    let out = λ (q : ℕ). not (in_range (from + kept) (count - kept) q) in
    let limit = λ (q : ℕ). mode || not (in_range (to + kept) (new_count - kept) q) in
    same_members (elsewhere set from count to new_count kept mode) (moved_set set from count to new_count mode) (λ q.
    member_limited left mode (to + kept) (new_count - kept) q
    ∙ ap (λ b. b && limit q) (member_without moved (from + kept) (count - kept) q ∙ ap (λ b. b && out q) (member_below (moved_test ready from kept to kept false) HIGH_PAGE q))
    ∙ below_all (ltb q HIGH_PAGE) (moved_test ready from kept to kept false q) (out q) (limit q)
    ∙ ap (λ b. ltb q HIGH_PAGE && b)
    (ap (λ a. (cond (in_range to kept q) (cond (ltb (q - to) kept) a false) (not (in_range from kept q) && contains ready q) && out q) && limit q) (member_with_range set to new_count (from + (q - to)))
    ∙ ap (λ b. (cond (in_range to kept q) (cond (ltb (q - to) kept) (in_range to new_count (from + (q - to)) || contains set (from + (q - to))) false) (not (in_range from kept q) && b) && out q) && limit q) (member_with_range set to new_count q)
    ∙ goes_to from count to new_count kept q (contains set (from + (q - to))) (contains set q) mode least apart)
    ∙ sym (member_below (moved_test set from count to new_count mode) HIGH_PAGE q))

-- The steps that move the modes of a range

must_lie_apart : (range : Remap) → IsRemap range → (range.from ≡ range.to → ⊥) → (range.from + range.count ≤ range.to) ⊎ (range.to + range.new_count ≤ range.from)
must_lie_apart range well other =
    ⊎_elim
    (λ (same : range.to ≡ range.from). absurd (other (sym same)))
    (λ (apart : (range.from + range.count ≤ range.to) ⊎ (range.to + range.new_count ≤ range.from)). apart)
    well.place

-- the room of a range, by where it goes
room_here : (range : Remap) (kept : ℕ) → range.from ≡ range.to → kept ≡ min range.count range.new_count → (room_first range ≡ range.from + kept) × (room_count range ≡ range.new_count - kept)
room_here range kept place least = (grind (arith, nat_tests), grind (arith, nat_tests))

room_there : (range : Remap) → (range.from ≡ range.to → ⊥) → (room_first range ≡ range.to) × (room_count range ≡ range.new_count)
room_there range other = (grind (arith, nat_tests), grind (arith, nat_tests))

-- the mode of a page outside an opened range
mode_kept : (before : Object) (first count page : ℕ) → in_range first count page ≡ false → mode_at (opened before first count) page ≡ mode_at before page
mode_kept before first count page out =
    let one : contains (with_range before.missing first count) page ≡ contains before.missing page = member_with_range before.missing first count page ∙ ap (λ b. b || contains before.missing page) out in
    let two : contains (with_range before.protect first count) page ≡ contains before.protect page = member_with_range before.protect first count page ∙ ap (λ b. b || contains before.protect page) out in
    λ i. record { missing = one i; protect = two i }

both_sets : (object : Object) (a b c d : Set) → a ≡ c → b ≡ d → record object { missing = a; protect = b } ≡ record object { missing = c; protect = d }
both_sets object a b c d h k = λ i. record object { missing = h i; protect = k i }

pub modes_go : (before ready first second new : Object) (range : Remap) (kept : ℕ) (mode : Mode) → IsRemap range → (range.from ≡ range.to → ⊥) → kept ≡ min range.count range.new_count → mode ≡ mode_at ready (range.from + (range.count - 1)) → ready ≡ opened before (room_first range) (room_count range)
    → first ≡ moved_modes ready range.from kept range.to kept no_mode → second ≡ unregistered first (range.from + kept) (range.count - kept) → new ≡ limited second (range.to + kept) (range.new_count - kept) mode → new ≡ modes_of before range
modes_go before ready first second new range kept mode well other least mode_is ready_is one two is =
    let apart = must_lie_apart range well other in
    let some = well.some in
    let room = room_there range other in
    let here : ready ≡ opened before range.to range.new_count = ready_is ∙ (λ i. opened before (room.0 i) (room.1 i)) in
    let last : mode ≡ mode_at before (range.from + (range.count - 1)) = mode_is ∙ ap (λ o. mode_at o (range.from + (range.count - 1))) here ∙ mode_kept before range.to range.new_count (range.from + (range.count - 1)) (grind (arith, nat_tests)) in
    is
    ∙ ap (λ o. limited o (range.to + kept) (range.new_count - kept) mode) (two ∙ ap (λ o. unregistered o (range.from + kept) (range.count - kept)) (one ∙ ap (λ o. moved_modes o range.from kept range.to kept no_mode) here))
    ∙ both_sets before _ _ _ _ (gone before.missing range.from range.count range.to range.new_count kept mode.missing least apart) (gone before.protect range.from range.count range.to range.new_count kept mode.protect least apart)
    ∙ ap (moved_modes before range.from range.count range.to range.new_count) last

pub modes_stay : (before ready second new : Object) (range : Remap) (kept : ℕ) (mode : Mode) → IsRemap range → AreLow before → range.from ≡ range.to → kept ≡ min range.count range.new_count → mode ≡ mode_at ready (range.from + (range.count - 1)) → ready ≡ opened before (room_first range) (room_count range)
    → second ≡ unregistered ready (range.from + kept) (range.count - kept) → new ≡ limited second (range.to + kept) (range.new_count - kept) mode → new ≡ modes_of before range
modes_stay before ready second new range kept mode well low place least mode_is ready_is two is =
    let some = well.some in
    let to = well.to in
    let room = room_here range kept place least in
    let here : ready ≡ opened before (range.from + kept) (range.new_count - kept) = ready_is ∙ (λ i. opened before (room.0 i) (room.1 i)) in
    let last : mode ≡ mode_at before (range.from + (range.count - 1)) = mode_is ∙ ap (λ o. mode_at o (range.from + (range.count - 1))) here ∙ mode_kept before (range.from + kept) (range.new_count - kept) (range.from + (range.count - 1)) (grind (arith, nat_tests)) in
    is
    ∙ ap (λ o. limited o (range.to + kept) (range.new_count - kept) mode) (two ∙ ap (λ o. unregistered o (range.from + kept) (range.count - kept)) here)
    ∙ ap (λ to. limited (unregistered (opened before (range.from + kept) (range.new_count - kept)) (range.from + kept) (range.count - kept)) (to + kept) (range.new_count - kept) mode) (sym place)
    ∙ both_sets before _ _ _ _
    (stayed before.missing range.from range.count range.new_count kept mode.missing least (omega arith) (λ q past. or_first _ _ (low q past)))
    (stayed before.protect range.from range.count range.new_count kept mode.protect least (omega arith) (λ q past. or_second _ _ (low q past)))
    ∙ ap (λ to. moved_modes before range.from range.count to range.new_count mode) place
    ∙ ap (moved_modes before range.from range.count range.to range.new_count) last

-- Messages

noted_count : (messages : List Message) (cpu : ℕ) → length (noted_all messages cpu) ≡ length messages
noted_count [] cpu = refl
noted_count (message ∷ messages) cpu = ap (λ n. suc n) (noted_count messages cpu)

-- an object with messages queued differs in its events alone
events_alone : (object : Object) (messages : List Message) (cpu : ℕ) → all_queued object messages cpu ≡ record object { events = (all_queued object messages cpu).events }
events_alone object [] cpu = refl
events_alone object (message ∷ messages) cpu = events_alone (event_queued object message cpu) messages cpu

-- the messages of a call are unread
pub are_unread : (object before : Object) (messages : List Message) (cpu queued : ℕ) → object ≡ all_queued before messages cpu → queued ≡ length messages → queued ≤ changing object
are_unread object before messages cpu queued is counted =
    let events : length object.events ≡ length before.events + length messages =
    ap (λ o. length o.events) is ∙ ap length (events_queued before messages cpu) ∙ length-append before.events (noted_all messages cpu) ∙ ap (λ n. length before.events + n) (noted_count messages cpu) in
    omega (arith, events, counted)

abbrev pub last_off : Object → ℕ → Object
last_off object queued = record object { events = take (changing object - queued) object.events }

-- and the object is as it was once they are taken back
pub taken_back : (object before : Object) (messages : List Message) (cpu queued : ℕ) → object ≡ all_queued before messages cpu → queued ≡ length messages → last_off object queued ≡ before
taken_back object before messages cpu queued is counted =
    let old = before.events in
    let more = noted_all messages cpu in
    let sizes : length (old ++ more) ≡ length old + length messages = length-append old more ∙ ap (λ n. length old + n) (noted_count messages cpu) in
    let left : take (length (old ++ more) - queued) (old ++ more) ≡ old = take_at old more (length (old ++ more) - queued) (omega (arith, sizes, counted)) in
    ap (λ o. last_off o queued) (is ∙ events_alone before messages cpu)
    ∙ ap (λ (l : List Noted). record before { events = take (length l - queued) l }) (events_queued before messages cpu)
    ∙ ap (λ (l : List Noted). record before { events = l }) left

forgotten : (object : Object) (first count cpu : ℕ) (due : Bool) (message : Message) → unregistered (all_queued object (message_if due message) cpu) first count ≡ all_queued (unregistered object first count) (message_if due message) cpu
forgotten object first count cpu true message = refl
forgotten object first count cpu false message = refl

-- a message reports a range, and none of its pages is registered any more
pub told_of : (object noted new : Object) (first count cpu : ℕ) (due : Bool) (message : Message) → noted ≡ all_queued object (message_if due message) cpu → new ≡ unregistered noted first count → due ≡ is_watched object first count
    → new ≡ all_queued (unregistered object first count) (message_if (is_watched object first count) message) cpu
told_of object noted new first count cpu due message is_noted is is_due =
    is ∙ ap (λ o. unregistered o first count) is_noted
    ∙ forgotten object first count cpu due message
    ∙ ap (λ b. all_queued (unregistered object first count) (message_if b message) cpu) is_due

abbrev messages_at : Object → ℕ → ℕ → ℕ → ℕ → ℕ → ℕ → List Message
messages_at object addr count target new_count from to =
    message_if (not (to == from) && is_watched object to new_count) (Unmap target (target + 4096 * new_count))
    ++ message_if (nat_lt new_count count && is_watched object (from + new_count) (count - new_count)) (Unmap (addr + 4096 * new_count) (addr + 4096 * count))
    ++ message_if (not (to == from) && is_watched object from (lesser count new_count)) (message.Remap addr target (4096 * lesser count new_count))

pub messages_are : (object : Object) (range : Remap) → three_messages object range ≡ remap_messages object (4096 * range.from) range.count (4096 * range.to) range.new_count
messages_are object range =
    sym (ap (λ from. messages_at object (4096 * range.from) range.count (4096 * range.to) range.new_count from (4096 * range.to / 4096)) (pages_again range.from)
    ∙ ap (λ to. messages_at object (4096 * range.from) range.count (4096 * range.to) range.new_count range.from to) (pages_again range.to))

-- the modes and the messages, whichever come first
queued_modes : (before : Object) (range : Remap) (messages : List Message) (cpu : ℕ) → modes_of (all_queued before messages cpu) range ≡ all_queued (modes_of before range) messages cpu
queued_modes before range [] cpu = refl
queued_modes before range (message ∷ messages) cpu = queued_modes (event_queued before message cpu) range messages cpu

pub remap_done : (object told new : Object) (range : Remap) (cpu : ℕ) → told ≡ all_queued object (three_messages object range) cpu → new ≡ modes_of told range → new ≡ all_queued (modes_of object range) (remap_messages object (4096 * range.from) range.count (4096 * range.to) range.new_count) cpu
remap_done object told new range cpu is_told is =
    is ∙ ap (λ o. modes_of o range) is_told
    ∙ queued_modes object range (three_messages object range) cpu
    ∙ ap (λ m. all_queued (modes_of object range) m cpu) (messages_are object range)

-- no page past the end is registered once messages are queued
pub still_low : (object told : Object) (messages : List Message) (cpu : ℕ) → AreLow object → told ≡ all_queued object messages cpu → AreLow told
still_low object told messages cpu low is page past =
    ap (λ o. is_registered o page) is
    ∙ (λ i. contains (queued_missing object messages cpu i) page || contains (queued_protect object messages cpu i) page)
    ∙ low page past
