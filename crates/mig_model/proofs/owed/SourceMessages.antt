-- The messages of a map call: each is right, and together they tell of every registered page that the call changes.
use Rattle.std.proofs.Common.{◌≡◌, append-nil, ℕ, ◌+◌, ◌-◌, ◌*◌, ◌/◌, ◌<◌, ◌≤◌, ◌&&◌, ◌||◌, Bool, true, false, not, ltb, List, [], ◌∷◌, ◌++◌, refl, sym, ap, ◌∙◌, ◌⊎◌, arith, append_assoc}
use Rattle.std.proofs.lemmas.Bool.Decides.{nat_tests}
use Rattle.std.proofs.lemmas.Bool.{false≢true}
use Rattle.mig_base.specs.declared.TheConstants.{HIGH, HIGH_PAGE}
use Rattle.mig_base.specs.declared.message.Message.{Message}
use Rattle.mig_base.specs.declared.message.Message.TheVariants.{Remove, Unmap}
use Rattle.foundation.specs.Ranges.{in_range, lesser, none_below}
use Rattle.foundation.proofs.RangeLemmas.{none_below_tells}
use Rattle.mig_base.specs.Userfault.{Noted, Object, is_registered, event_queued, is_watched}
use Rattle.mig_model.specs.Guest.{is_changed_by, in_bytes}
use Rattle.mig_model.specs.Space.{message_if, all_queued}
use Rattle.mig_model.specs.Whereabouts.{is_unread}
use Rattle.mig_model.specs.Invariant.{IsWholeEvent, AreWholeEvents}
use Rattle.mig_model.proofs.memory.Facts.{in_range_first, or_assoc}

-- Messages and the events that they become

abbrev pub noted_all : List Message → ℕ → List Noted
noted_all [] cpu = []
noted_all (message ∷ messages) cpu = record { message = message; cpu = cpu } ∷ noted_all messages cpu

pub events_queued : (object : Object) (messages : List Message) (cpu : ℕ) → (all_queued object messages cpu).events ≡ object.events ++ noted_all messages cpu
events_queued object [] cpu = sym (append-nil object.events)
events_queued object (message ∷ messages) cpu = events_queued (event_queued object message cpu) messages cpu ∙ append_assoc object.events (record { message = message; cpu = cpu } ∷ []) (noted_all messages cpu)

-- whether a message tells that a page was changed
abbrev pub tells : List Message → ℕ → Bool
tells [] page = false
tells (message ∷ messages) page = is_changed_by message page || tells messages page

pub is_unread-append : (events : List Noted) (messages : List Message) (cpu page : ℕ) → is_unread (events ++ noted_all messages cpu) page ≡ (is_unread events page || tells messages page)
is_unread-append [] [] cpu page = refl
is_unread-append [] (message ∷ messages) cpu page = ap (λ b. is_changed_by message page || b) (is_unread-append [] messages cpu page)
is_unread-append (noted ∷ events) messages cpu page = grind (arith, nat_tests, or_assoc, is_unread-append events messages cpu page)

abbrev pub AllRight : List Message → Type 0
AllRight [] = Unit {0}
AllRight (message ∷ messages) = IsWholeEvent message × AllRight messages

pub AreRight-append : (events : List Noted) (messages : List Message) (cpu : ℕ) → AreWholeEvents events → AllRight messages → AreWholeEvents (events ++ noted_all messages cpu)
AreRight-append [] [] cpu old new = tt
AreRight-append [] (message ∷ messages) cpu old new = (new.0, AreRight-append [] messages cpu tt new.1)
AreRight-append (noted ∷ events) messages cpu old new = (old.0, AreRight-append events messages cpu old.1 new)

pub AllRight-append : (a b : List Message) → AllRight a → AllRight b → AllRight (a ++ b)
AllRight-append [] b one two = two
AllRight-append (message ∷ a) b one two = (one.0, AllRight-append a b one.1 two)

pub told_right : (reason : Bool) (message : Message) → (reason ≡ true → IsWholeEvent message) → AllRight (message_if reason message)
told_right reason message right = grind (arith, nat_tests)

-- A message is queued if a page of its range was registered

watched_by : (none : Bool) → (none ≡ true → ⊥) → not none ≡ true
watched_by none never = grind arith

watched_page : (object : Object) (first count page : ℕ) → is_registered object page ≡ true → in_range first count page ≡ true → is_watched object first count ≡ true
watched_page object first count page registered inside =
    let l = in_range_first first count page inside in
    let at : first + (page - first) ≡ page = omega (arith, l) in
    watched_by (none_below (λ i. is_registered object (first + i)) count) (λ none.
    false≢true (sym (none_below_tells (λ i. is_registered object (first + i)) count (page - first) none (omega (arith, l))) ∙ ap (is_registered object) at ∙ registered))

pub in_bytes-pages : (start count page : ℕ) → in_bytes start (start + 4096 * count) page ≡ in_range (start / 4096) count page
in_bytes-pages start count page = let n : (start + 4096 * count) / 4096 - start / 4096 ≡ count = omega arith in ap (λ k. in_range (start / 4096) k page) n

-- a registered page that no message names lies outside of each range that a message would name
pub outside_told : (reason : Bool) (message : Message) (object : Object) (first count page : ℕ) → (in_range first count page ≡ true → is_changed_by message page ≡ true) → reason ≡ true → is_registered object page ≡ true →
    tells (message_if (reason && is_watched object first count) message) page ≡ false → in_range first count page ≡ false
outside_told reason message object first count page covers reasoned registered h = grind (arith, nat_tests, watched_page)

pub unmapped_outside : (object : Object) (start count page : ℕ) → is_registered object page ≡ true → tells (message_if (is_watched object (start / 4096) count) (Unmap start (start + 4096 * count))) page ≡ false → in_range (start / 4096) count page ≡ false
unmapped_outside object start count page registered h =
    outside_told true (Unmap start (start + 4096 * count)) object (start / 4096) count page (λ inside. in_bytes-pages start count page ∙ inside) refl registered h

pub removed_outside : (object : Object) (start count page : ℕ) → is_registered object page ≡ true → tells (message_if (is_watched object (start / 4096) count) (Remove start (start + 4096 * count))) page ≡ false → in_range (start / 4096) count page ≡ false
removed_outside object start count page registered h =
    outside_told true (Remove start (start + 4096 * count)) object (start / 4096) count page (λ inside. in_bytes-pages start count page ∙ inside) refl registered h

pub lesser_is : (a b : ℕ) → (lesser a b ≡ a) ⊎ (lesser a b ≡ b)
lesser_is a b = grind (arith, nat_tests)

below_end : (start count page end : ℕ) → page < HIGH_PAGE → start / 4096 ≤ page → page < start / 4096 + count → (end ≡ start + 4096 * count) ⊎ (end ≡ HIGH) → in_bytes start end page ≡ true
below_end start count page end below low high h = grind (arith, nat_tests)

-- the same where the message names the range to its end, or to the end of the address space
pub dropped_outside : (object : Object) (start count page : ℕ) → page < HIGH_PAGE → is_registered object page ≡ true → tells (message_if (is_watched object (start / 4096) count) (Remove start (lesser (start + 4096 * count) HIGH))) page ≡ false →
    in_range (start / 4096) count page ≡ false
dropped_outside object start count page below registered h =
    let end = lesser (start + 4096 * count) HIGH in
    outside_told true (Remove start end) object (start / 4096) count page
    (λ inside. let l = in_range_first (start / 4096) count page inside in below_end start count page end below l.0 l.1 (lesser_is (start + 4096 * count) HIGH)) refl registered h

-- Mremap

-- where a page stays: in a range that stays, or outside of both ranges
abbrev pub Stays : ℕ → ℕ → ℕ → ℕ → ℕ → Type 0
Stays from count to new_count page =
    ((in_range to new_count page ≡ true) × (ltb (page - to) count ≡ true) × (from + (page - to) ≡ page)) ⊎ ((in_range to new_count page ≡ false) × (in_range from count page ≡ false))

pub stays_there : (from count new_count page : ℕ) → (new_count < count → in_range (from + new_count) (count - new_count) page ≡ false) → in_range (from + count) (new_count - count) page ≡ false → Stays from count from new_count page
stays_there from count new_count page tail growth = grind (arith, nat_tests)

pub moved_away : (from count to new_count page : ℕ) → in_range to new_count page ≡ false → (new_count < count → in_range (from + new_count) (count - new_count) page ≡ false) → in_range from (lesser count new_count) page ≡ false →
    in_range from count page ≡ false
moved_away from count to new_count page out tail head = grind (arith, nat_tests)
