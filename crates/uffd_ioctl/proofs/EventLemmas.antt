-- Map calls of which no page is registered: the object stays as it is, and nothing is queued.
use Rattle.std.proofs.Common.{◌≡◌, ℕ, ◌+◌, ◌-◌, ◌*◌, ◌<◌, ◌≤◌, ◌&&◌, ◌++◌, Bool, true, false, cond, not, ltb, [], refl, sym, ap, ◌∙◌, arith}
use Rattle.std.specs.Ordering.{nat_cmp}
use Rattle.std.specs.FinSet.{FinSet, contains}
use Rattle.std.proofs.lemmas.Bool.Decides.{nat_tests}
use Rattle.std.proofs.lemmas.Bool.{not-false}
use Rattle.mig_base.specs.declared.TheConstants.{HIGH_PAGE}
use Rattle.mig_base.specs.declared.message.Message.{Message}
use Rattle.foundation.specs.Ranges.{in_range, lesser}
use Rattle.mig_base.specs.Sets.{moved_set}
use Rattle.foundation.proofs.RangeLemmas.{none_below_tells, none_below-from}
use Rattle.foundation.proofs.TestLemmas.{or_first, or_second}
use Rattle.mig_base.specs.Userfault.{Object, mode_at, is_registered, is_watched, moved_modes}
use Rattle.mig_model.specs.Space.{message_if, remap_messages}
use Rattle.userfault.proofs.ModeLemmas.{is_pages_where}
use Rattle.uffd_ioctl.specs.declared.remap.Remap.{Remap}
use Rattle.uffd_ioctl.specs.Remaps.{IsRemap, AreLow, replaced_message, cut_message, moved_message}
use Rattle.uffd_ioctl.proofs.MoveLemmas.{messages_are}

abbrev Set : Type 0
Set = FinSet nat_cmp

-- a page of a range that is not watched is not registered
unwatched_at : (object : Object) (first count page : ℕ) → is_watched object first count ≡ false → in_range first count page ≡ true → is_registered object page ≡ false
unwatched_at object first count page none here =
    let low : first ≤ page = grind (arith, nat_tests) in
    let high : page < first + count = grind (arith, nat_tests) in
    let same : first + (page - first) ≡ page = omega arith in
    sym (ap (is_registered object) same) ∙ none_below_tells (λ i. is_registered object (first + i)) count (page - first) (not-false _ none) (omega arith)

-- a part of a range
pub unwatched_part : (object : Object) (first count start size : ℕ) → first ≤ start → start + size ≤ first + count → is_watched object first count ≡ false → is_watched object start size ≡ false
unwatched_part object first count start size low high none =
    ap not (none_below-from (λ i. is_registered object (start + i)) size (λ i l. unwatched_at object first count (start + i) none (grind (arith, nat_tests))))

-- what a page keeps that is neither in the range nor in its target
stays_put : (there low here along growth old : Bool) → (there ≡ true → old ≡ false) → (here ≡ true → old ≡ false) → (there ≡ true → low ≡ true → along ≡ false) → growth ≡ false → cond there (cond low along growth) (not here && old) ≡ old
stays_put true true here along growth old h k m n = m refl refl ∙ sym (h refl)
stays_put true false here along growth old h k m n = n ∙ sym (h refl)
stays_put false low true along growth old h k m n = sym (k refl)
stays_put false low false along growth old h k m n = refl

moved_none : (set : Set) (range : Remap) (growth : Bool) → IsRemap range → ((page : ℕ) → HIGH_PAGE ≤ page → contains set page ≡ false) → ((page : ℕ) → in_range range.from range.count page ≡ true → contains set page ≡ false) → ((page : ℕ) → in_range range.to range.new_count page ≡ true → contains set page ≡ false)
    → growth ≡ false → set ≡ moved_set set range.from range.count range.to range.new_count growth
moved_none set range growth well past from to none =
    is_pages_where set (λ q. cond (in_range range.to range.new_count q) (cond (ltb (q - range.to) range.count) (contains set (range.from + (q - range.to))) growth) (not (in_range range.from range.count q) && contains set q))
    (λ q. sym (stays_put (in_range range.to range.new_count q) (ltb (q - range.to) range.count) (in_range range.from range.count q) (contains set (range.from + (q - range.to))) growth (contains set q) (to q) (from q)
    (λ there low. from (range.from + (q - range.to)) (grind (arith, nat_tests))) none))
    (λ q out.
    stays_put (in_range range.to range.new_count q) (ltb (q - range.to) range.count) (in_range range.from range.count q) (contains set (range.from + (q - range.to))) growth (contains set q) (to q) (from q)
    (λ there low. from (range.from + (q - range.to)) (grind (arith, nat_tests))) none
    ∙ past q out)

-- a range is moved of which no page is watched, to one of which none is
pub remap_unwatched : (object : Object) (range : Remap) → IsRemap range → AreLow object → is_watched object range.from range.count ≡ false → is_watched object range.to range.new_count ≡ false
    → object ≡ moved_modes object range.from range.count range.to range.new_count (mode_at object (range.from + (range.count - 1)))
remap_unwatched object range well low from to =
    let some = well.some in
    let last = unwatched_at object range.from range.count (range.from + (range.count - 1)) from (grind (arith, nat_tests)) in
    let missing = moved_none object.missing range (contains object.missing (range.from + (range.count - 1))) well (λ q past. or_first _ _ (low q past)) (λ q here. or_first _ _ (unwatched_at object range.from range.count q from here)) (λ q here. or_first _ _ (unwatched_at object range.to range.new_count q to here)) (or_first _ _ last) in
    let protect = moved_none object.protect range (contains object.protect (range.from + (range.count - 1))) well (λ q past. or_second _ _ (low q past)) (λ q here. or_second _ _ (unwatched_at object range.from range.count q from here)) (λ q here. or_second _ _ (unwatched_at object range.to range.new_count q to here)) (or_second _ _ last) in
    λ i. record object { missing = missing i; protect = protect i }

-- Messages

untold : (due watched : Bool) (message : Message) → (due ≡ true → watched ≡ false) → message_if (due && watched) message ≡ []
untold true watched message h = ap (λ b. message_if b message) (h refl)
untold false watched message h = refl

-- a remap of ranges without a registered page queues no message
pub remap_untold : (object : Object) (range : Remap) → is_watched object range.from range.count ≡ false → is_watched object range.to range.new_count ≡ false
    → remap_messages object (4096 * range.from) range.count (4096 * range.to) range.new_count ≡ []
remap_untold object range from to =
    let replaced : replaced_message object range ≡ [] = untold _ _ _ (λ _. to) in
    let cut : cut_message object range ≡ [] = untold _ _ _ (λ less. unwatched_part object range.from range.count (range.from + range.new_count) (range.count - range.new_count) (omega arith) (grind (arith, nat_tests)) from) in
    let moved : moved_message object range ≡ [] = untold _ _ _ (λ _. unwatched_part object range.from range.count range.from (lesser range.count range.new_count) (omega arith) (grind (arith, nat_tests)) from) in
    sym (messages_are object range) ∙ (λ i. replaced i ++ cut i ++ moved i)
