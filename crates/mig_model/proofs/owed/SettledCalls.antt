-- The settled owed relation once a map call has queued its events: it changes as the pages do.
use Rattle.std.proofs.lemmas.Bool.Decides.{nat_tests}
use Rattle.std.proofs.Common.{◌≡◌, ℕ, ◌+◌, ◌-◌, ◌*◌, ◌/◌, ◌<◌, ◌≤◌, ◌&&◌, Bool, true, false, cond, Option, Some, None, List, [], ◌∷◌, ◌++◌, refl, sym, ap, subst, arith, if◌then◌else◌}
use Rattle.std.proofs.lemmas.Bool.{not-false}
use Rattle.mig_base.specs.declared.message.Message.{Message}
use Rattle.mig_base.specs.declared.message.Message.TheVariants.{Remap, Remove, Unmap}
use Rattle.foundation.specs.Ranges.{in_range}
use Rattle.foundation.proofs.RangeLemmas.{none_below_tells}
use Rattle.mig_base.specs.Userfault.{Object, is_registered, event_queued, is_watched}
use Rattle.mig_model.specs.Space.{message_if, all_queued}
use Rattle.mig_model.specs.Invariant.{AreWholeEvents}
use Rattle.mig_model.proofs.owed.SeenLemmas.{owed_none}
use Rattle.mig_model.specs.Owed.{owed_after, settled_by}
use Rattle.mig_model.specs.Promises.{gone}
use Rattle.mig_model.proofs.memory.Facts.{in_range_first, settled-push}
use Rattle.mig_model.proofs.owed.SourceMessages.{events_queued, AreRight-append}
pub use Rattle.mig_model.proofs.owed.SourceMessages.{AllRight, AllRight-append as right-append, told_right as right-told}
pub use Rattle.mig_model.specs.Promises.{gone, moved_owed, owed_changed}

-- Events queued

-- the look-up after messages, in their order
abbrev pub settled_messages : List Message → (ℕ → Option ℕ) → ℕ → Option ℕ
settled_messages [] owed = owed
settled_messages (message ∷ messages) owed = settled_messages messages (owed_after message owed)

pub settled-queued : (object : Object) (messages : List Message) (cpu : ℕ) (owed : ℕ → Option ℕ) → settled_by (all_queued object messages cpu).events owed ≡ settled_messages messages (settled_by object.events owed)
settled-queued object [] cpu owed = refl
settled-queued object (message ∷ messages) cpu owed = grind (arith, nat_tests, settled-push, settled-queued (event_queued object message cpu) messages cpu owed)

pub settled-append : (some more : List Message) (owed : ℕ → Option ℕ) → settled_messages (some ++ more) owed ≡ settled_messages more (settled_messages some owed)
settled-append [] more owed = refl
settled-append (message ∷ some) more owed = settled-append some more (owed_after message owed)

pub right-queued : (object : Object) (messages : List Message) (cpu : ℕ) → AreWholeEvents object.events → AllRight messages → AreWholeEvents (all_queued object messages cpu).events
right-queued object messages cpu are all = subst AreWholeEvents (sym (events_queued object messages cpu)) (AreRight-append object.events messages cpu are all)

-- Pairs of a range that goes, and of one that moves

-- the same unless the range stays
abbrev pub gone_if : Bool → (ℕ → Option ℕ) → ℕ → ℕ → ℕ → Option ℕ
gone_if b owed first count = λ page. if b then gone owed first count page else owed page

-- as many pages at the new place
abbrev pub shifted : (ℕ → Option ℕ) → ℕ → ℕ → ℕ → ℕ → Option ℕ
shifted owed from to count = λ page. if in_range to count page then owed (from + (page - to)) else if in_range from count page then None else owed page

abbrev pub shifted_if : Bool → (ℕ → Option ℕ) → ℕ → ℕ → ℕ → ℕ → Option ℕ
shifted_if b owed from to count = λ page. if b then shifted owed from to count page else owed page

-- each owed page is registered
abbrev pub AreInside : Object → (ℕ → Option ℕ) → Type 0
AreInside object owed = (page origin : ℕ) → owed page ≡ Some origin → is_registered object page ≡ true

-- in a range of which no page is registered none is owed
unwatched : (object : Object) (owed : ℕ → Option ℕ) (first count page : ℕ) → AreInside object owed → is_watched object first count ≡ false → first ≤ page → page < first + count → owed page ≡ None
unwatched object owed first count page inside un low high =
    let at : first + (page - first) ≡ page = omega arith in
    let free : is_registered object (first + (page - first)) ≡ false = none_below_tells (λ i. is_registered object (first + i)) count (page - first) (not-false _ un) (omega arith) in
    owed_none owed (is_registered object) page inside (subst (λ q. is_registered object q ≡ false) at free)

gone_none : (b : Bool) (o : Option ℕ) → (b ≡ true → o ≡ None) → o ≡ cond b None o
gone_none b o h = grind arith

-- the pairs of a range that goes end, whether a page of it was registered or not
pub told_gone : (b w : Bool) (object : Object) (owed : ℕ → Option ℕ) (first count : ℕ) (message : Message) → w ≡ is_watched object first count → AreInside object owed →
    ((page : ℕ) → owed_after message owed page ≡ gone owed first count page) → settled_messages (message_if (b && w) message) owed ≡ gone_if b owed first count
told_gone false w object owed first count message is inside right = refl
told_gone true true object owed first count message is inside right = λ i page. right page i
told_gone true false object owed first count message is inside right =
    λ i page.
    (gone_none (in_range first count page) (owed page) (λ h. let r = in_range_first first count page h in unwatched object owed first count page inside (sym is) r.0 r.1)) i

shifted_none : (b c : Bool) (o p : Option ℕ) → (b ≡ true → (o ≡ None) × (p ≡ None)) → (c ≡ true → o ≡ None) → o ≡ cond b p (cond c None o)
shifted_none b c o p h g = grind arith

-- and those of a range that moves move
pub told_shifted : (b w : Bool) (object : Object) (owed : ℕ → Option ℕ) (from to count : ℕ) (message : Message) → w ≡ is_watched object from count → AreInside object owed →
    (b ≡ true → (page : ℕ) → to ≤ page → page < to + count → owed page ≡ None) →
    ((page : ℕ) → owed_after message owed page ≡ shifted owed from to count page) → settled_messages (message_if (b && w) message) owed ≡ shifted_if b owed from to count
told_shifted false w object owed from to count message is inside free right = refl
told_shifted true true object owed from to count message is inside free right = λ i page. right page i
told_shifted true false object owed from to count message is inside free right =
    λ i page.
    (shifted_none (in_range to count page) (in_range from count page) (owed page) (owed (from + (page - to)))
    (λ h. let r = in_range_first to count page h in (free refl page r.0 r.1, unwatched object owed from count (from + (page - to)) inside (sym is) (omega arith) (let a = r.0 in let b = r.1 in omega (arith, a, b))))
    (λ h. let r = in_range_first from count page h in unwatched object owed from count page inside (sym is) r.0 r.1)) i

-- What each message does

pub unmap_right : (owed : ℕ → Option ℕ) (start n page : ℕ) → owed_after (Unmap start (start + 4096 * n)) owed page ≡ gone owed (start / 4096) n page
unmap_right owed start n page = ap (λ k. cond (in_range (start / 4096) k page) None (owed page)) (let k : (start + 4096 * n) / 4096 - start / 4096 ≡ n = omega arith in k)

pub remove_right : (owed : ℕ → Option ℕ) (start n page : ℕ) → owed_after (Remove start (start + 4096 * n)) owed page ≡ gone owed (start / 4096) n page
remove_right owed start n page = ap (λ k. cond (in_range (start / 4096) k page) None (owed page)) (let k : (start + 4096 * n) / 4096 - start / 4096 ≡ n = omega arith in k)

pub cut_right : (owed : ℕ → Option ℕ) (addr n m page : ℕ) → owed_after (Unmap (addr + 4096 * n) (addr + 4096 * m)) owed page ≡ gone owed (addr / 4096 + n) (m - n) page
cut_right owed addr n m page = grind (arith, nat_tests)

pub remap_right : (owed : ℕ → Option ℕ) (addr target n page : ℕ) → owed_after (Remap addr target (4096 * n)) owed page ≡ shifted owed (addr / 4096) (target / 4096) n page
remap_right owed addr target n page = ap (λ k. shifted owed (addr / 4096) (target / 4096) k page) (let k : 4096 * n / 4096 ≡ n = omega arith in k)
