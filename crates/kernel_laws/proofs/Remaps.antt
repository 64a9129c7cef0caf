-- mremap(2): the same pages move in both objects, and a kernel has events of its own to tell.
use Rattle.std.proofs.lemmas.Bool.Decides.{nat_tests}
use Rattle.std.proofs.lemmas.Bool.{and_from, false≢true}
use Rattle.std.proofs.lemmas.List.Folds.{list_any-append}
use Rattle.std.proofs.lemmas.List.{append-nil}
use Rattle.std.proofs.Common.{◌≡◌, ◌⊎◌, inl, inr, ℕ, zero, suc, ◌<◌, ◌≤◌, ◌+◌, ◌-◌, ◌*◌, ◌/◌, ◌%◌, ◌^◌, ◌&&◌, ◌||◌, Bool, true, false, not, cond, eqb, leb, ltb, Option, Some, None, List, [], ◌∷◌, ◌++◌, filter, arith, refl, sym, ap, subst, ◌∙◌}
use Rattle.std.specs.Prelude.{is_some, min}
use Rattle.std.specs.Ordering.{nat_cmp}
use Rattle.std.specs.List.{list_any}
use Rattle.std.specs.FinMap.{FinMap, contains_key, get}
use Rattle.std.specs.FinSet.{FinSet, contains}
use Rattle.mig_base.specs.declared.TheConstants.{HIGH, HIGH_PAGE}
use Rattle.mig_base.specs.declared.command.Command.TheVariants.{Mremap}
use Rattle.mig_base.specs.declared.command.Errno.{Errno}
use Rattle.mig_base.specs.declared.command.Reply.TheVariants.{At, Refused}
use Rattle.mig_base.specs.declared.message.Message.{Message}
use Rattle.mig_base.specs.declared.message.Message.TheVariants.{Remap, Unmap}
use Rattle.foundation.specs.Bits.{is_one}
use Rattle.mig_base.specs.Flat.{mremap_reply}
use Rattle.mig_base.specs.Pages.{moved_range}
use Rattle.foundation.specs.Ranges.{in_range, lesser, pages_of, rounded}
use Rattle.mig_base.specs.Sets.{moved_set}
use Rattle.mig_base.specs.Userfault.{Object, is_registered, is_watched, mode_at, moved_modes}
use Rattle.mig_base.proofs.PageLemmas.{get-moved_range}
use Rattle.foundation.proofs.RangeLemmas.{in_range_bounds}
use Rattle.mig_base.proofs.BoundLemmas.{one_prot_some}
use Rattle.mig_base.proofs.ReplyLemmas.{IsRemapped, mremap_told}
use Rattle.mig_base.proofs.SetLemmas.{member_below}
use Rattle.foundation.proofs.TestLemmas.{eqb-self}
use Rattle.mig_model.specs.Host.{Host, IsSound, host_moved, memory}
use Rattle.mig_model.specs.Space.{IsSoundSpace, Space, all_queued, call_messages, called, message_if, modes_after}
use Rattle.mig_model.proofs.memory.CommandLemmas.{past_none, remapped_place}
use Rattle.mig_model.proofs.memory.SpaceLemmas.{IsSoundSpace-called}
use Rattle.uffd_log.specs.declared.call.Message.TheVariants as log
use Rattle.uffd_log.specs.declared.line.Answer.TheVariants as answer
use Rattle.kernel_rules.specs.declared.calling.Told.{Told}
use Rattle.kernel_rules.specs.declared.calling.Untold.{Untold}
use Rattle.kernel_rules.specs.declared.difference.Difference.TheVariants.{MessagesOfMremap}
use Rattle.kernel_rules.specs.declared.known.Page.{Page}
use Rattle.kernel_rules.specs.declared.known.Presence.TheVariants.{Missing}
use Rattle.kernel_rules.specs.declared.object.Registration.{Registration}
use Rattle.kernel_rules.specs.Ioctls.{page_set, pages_set}
use Rattle.kernel_rules.specs.MapCalls.{arrivals, arrived, emptied, forgotten, grown_page, is_mappable, is_told, leavings, may_move, move_told, moved, moved_page, moved_pages, movers, mremapped, objects_in, remap_told, tail_told, tells_anybody, told_in, unmap_told, watchers_of, watches_in, with_calling, with_events, with_name, with_number, with_ranges}
use Rattle.kernel_rules.specs.Pages.{is_poisoned, is_present, known_as}
use Rattle.kernel_rules.specs.State.{Kernel, allowed, noted_if}
use Rattle.kernel_rules.proofs.Moved.{leavings_none}
use Rattle.kernel_laws.specs.Agreement.{Agree, AgreesAt, Takes, has_page, message_of, number_of, telling}
use Rattle.kernel_laws.specs.Logs.{noted_by}
use Rattle.kernel_laws.specs.Maps.{MapCall, Move, called_told, moves_told, told_by}
use Rattle.kernel_laws.proofs.FaultReads.{sound-requeued}
use Rattle.kernel_laws.proofs.MapReplies.{by-reply, called_as, takes-none}
use Rattle.kernel_laws.proofs.Tellings.{AreEvents, by-name, more-messages, noted-texts, queued-all, with_messages}
use Rattle.kernel_laws.proofs.Unmaps.{is-watched, new-call, remap-tells, tells-remap, unmap-tells, untold-more, watchers}

-- What a kernel tells

-- messages change neither pages nor ranges
same-watchers : (kernel : Kernel) (told : List Told) (events : List Untold) (space first end : ℕ) (ranges : List Registration) (names : List ℕ) →
    watchers_of (record kernel { told = told; events = events }) space first end ranges names ≡ watchers_of kernel space first end ranges names
same-watchers kernel told events space first end [] names = refl
same-watchers kernel told events space first end (range ∷ ranges) names = same-watchers kernel told events space first end ranges (cond (watches_in kernel space first end range) (with_name names range.object) names)

-- one more message, to those who watch a range
says-more : (it : MapCall) (bit first count : ℕ) (w : Bool) (message : Message) (before : List Message) → told_in it.one.kernel bit it.one.object.space first (first + count) ≡ cond w (it.one.name ∷ []) [] →
    with_events (with_messages it.one.kernel it.key it.one.name before) it.key (message_of message) (told_in (with_messages it.one.kernel it.key it.one.name before) bit it.one.object.space first (first + count))
    ≡ with_messages it.one.kernel it.key it.one.name (before ++ message_if w message)
says-more it bit first count w message before tells =
    let kernel = it.one.kernel in
    let now = with_messages kernel it.key it.one.name before in
    ap (with_events now it.key (message_of message))
    (ap (λ names. filter (is_told kernel bit) names) (same-watchers kernel now.told now.events it.one.object.space first (first + count) kernel.ranges []) ∙ tells)
    ∙ by-name now it.key it.one.name message w
    ∙ more-messages kernel it.key it.one.name before (message_if w message)

unmap-more : (it : MapCall) (first count start stop : ℕ) (before : List Message) → start ≡ first * 4096 → stop ≡ (first + count) * 4096 →
    unmap_told (with_messages it.one.kernel it.key it.one.name before) it.key it.one.object.space first count ≡ with_messages it.one.kernel it.key it.one.name (before ++ message_if (is_watched it.one.space.object first count) (Unmap start stop))
unmap-more it first count start stop before low high =
    let now = with_messages it.one.kernel it.key it.one.name before in
    (λ i. with_events now it.key (log.Unmap (sym low i) (sym high i)) (told_in now 6 it.one.object.space first (first + count)))
    ∙ says-more it 6 first count (is_watched it.one.space.object first count) (Unmap start stop) before (unmap-tells it first count (is_watched it.one.space.object first count) refl)

tail-more : (it : MapCall) (from count new_count start stop : ℕ) (before : List Message) (b : Bool) → ltb new_count count ≡ b → (b ≡ true → start ≡ (from + new_count) * 4096) → (b ≡ true → stop ≡ (from + new_count + (count - new_count)) * 4096) →
    tail_told (with_messages it.one.kernel it.key it.one.name before) it.key it.one.object.space from count new_count
    ≡ with_messages it.one.kernel it.key it.one.name (before ++ message_if (ltb new_count count && is_watched it.one.space.object (from + new_count) (count - new_count)) (Unmap start stop))
tail-more it from count new_count start stop before true is low high =
    let now = with_messages it.one.kernel it.key it.one.name before in
    ap (λ b. cond b (unmap_told now it.key it.one.object.space (from + new_count) (count - new_count)) now) is
    ∙ unmap-more it (from + new_count) (count - new_count) start stop before (low refl) (high refl)
    ∙ ap (λ b. with_messages it.one.kernel it.key it.one.name (before ++ message_if (b && is_watched it.one.space.object (from + new_count) (count - new_count)) (Unmap start stop))) (sym is)
tail-more it from count new_count start stop before false is low high =
    let now = with_messages it.one.kernel it.key it.one.name before in
    ap (λ b. cond b (unmap_told now it.key it.one.object.space (from + new_count) (count - new_count)) now) is
    ∙ (λ i. with_messages it.one.kernel it.key it.one.name (sym (append-nil before) i))
    ∙ ap (λ b. with_messages it.one.kernel it.key it.one.name (before ++ message_if (b && is_watched it.one.space.object (from + new_count) (count - new_count)) (Unmap start stop))) (sym is)

remap-more : (it : MapCall) (from count to new_count addr target : ℕ) (before : List Message) → addr ≡ from * 4096 → target ≡ to * 4096 →
    remap_told (with_messages it.one.kernel it.key it.one.name before) it.key it.one.object.space from count to new_count
    ≡ with_messages it.one.kernel it.key it.one.name (before ++ message_if (is_watched it.one.space.object from (lesser count new_count)) (Remap addr target (4096 * lesser count new_count)))
remap-more it from count to new_count addr target before low high =
    let now = with_messages it.one.kernel it.key it.one.name before in
    let kept = lesser count new_count in
    let w = is_watched it.one.space.object from kept in
    let less : min count new_count ≡ kept = grind (arith, nat_tests) in
    let long : kept * 4096 ≡ 4096 * kept = omega (arith) in
    (λ i. with_events now it.key (log.Remap (sym low i) (sym high i) ((ap (λ n. n * 4096) less ∙ long) i)) (told_in now 2 it.one.object.space from (from + less i)))
    ∙ says-more it 2 from kept w (Remap addr target (4096 * kept)) before (remap-tells it from kept w refl)

-- all of them
told-moved : (it : MapCall) (addr count target new_count : ℕ) → addr % 4096 ≡ 0 → target % 4096 ≡ 0 →
    move_told it.one.kernel it.key it.one.object.space (addr / 4096) count (target / 4096) new_count false ≡ with_messages it.one.kernel it.key it.one.name (moves_told it.one.space.object addr count target new_count)
told-moved it addr count target new_count whole new_whole =
    by (eqb to from) refl
  where
    from : ℕ
    from = addr / 4096

    to : ℕ
    to = target / 4096

    kernel : Kernel
    kernel = it.one.kernel

    key : ℕ
    key = it.key

    space : ℕ
    space = it.one.object.space

    kept : ℕ
    kept = lesser count new_count

    tail : Message
    tail = Unmap (addr + 4096 * new_count) (addr + 4096 * count)

    starts : (addr : ℕ) → addr % 4096 ≡ 0 → addr ≡ addr / 4096 * 4096
    starts addr whole = omega (arith, whole)

    stops : (addr n : ℕ) → addr % 4096 ≡ 0 → addr + 4096 * n ≡ (addr / 4096 + n) * 4096
    stops addr n whole = omega (arith, whole)

    longer : (addr count new_count : ℕ) → addr % 4096 ≡ 0 → ltb new_count count ≡ true → addr + 4096 * count ≡ (addr / 4096 + new_count + (count - new_count)) * 4096
    longer addr count new_count whole less = by-less (less-than new_count count less) where
      less-than : (a b : ℕ) → ltb a b ≡ true → a < b
      less-than a b h = grind (arith, nat_tests, h)

      by-less : new_count < count → addr + 4096 * count ≡ (addr / 4096 + new_count + (count - new_count)) * 4096
      by-less h = omega (arith, whole, h)

    nothing : kernel ≡ with_messages kernel key it.one.name []
    nothing = λ i. record kernel { told = sym (append-nil kernel.told) i; events = sym (append-nil kernel.events) i }

    tail_if : List Message
    tail_if = message_if (ltb new_count count && is_watched it.one.space.object (from + new_count) (count - new_count)) tail

    tail-of : (before : List Message) → tail_told (with_messages kernel key it.one.name before) key space from count new_count ≡ with_messages kernel key it.one.name (before ++ tail_if)
    tail-of before = tail-more it from count new_count (addr + 4096 * new_count) (addr + 4096 * count) before (ltb new_count count) refl (λ less. stops addr new_count whole) (λ less. longer addr count new_count whole less)

    by : (b : Bool) → eqb to from ≡ b → move_told kernel key space from count to new_count false ≡ with_messages kernel key it.one.name (moves_told it.one.space.object addr count target new_count)
    by true same =
        ap (λ b. cond b (tail_told kernel key space from count new_count) (unmap_told (tail_told (remap_told (unmap_told kernel key space to new_count) key space from count to new_count) key space from count new_count) key space from (min count new_count))) same
        ∙ ap (λ k. tail_told k key space from count new_count) nothing
        ∙ tail-of []
        ∙ ap (λ l. with_messages kernel key it.one.name l) (sym (append-nil tail_if))
        ∙ ap (λ b. with_messages kernel key it.one.name
        (message_if (not b && is_watched it.one.space.object to new_count) (Unmap target (target + 4096 * new_count)) ++ message_if (not b && is_watched it.one.space.object from kept) (Remap addr target (4096 * kept))
        ++ tail_if ++ message_if (not b && is_watched it.one.space.object from kept) (Unmap addr (addr + 4096 * kept)))) (sym same)
    by false apart =
        let first = message_if (is_watched it.one.space.object to new_count) (Unmap target (target + 4096 * new_count)) in
        let second = message_if (is_watched it.one.space.object from kept) (Remap addr target (4096 * kept)) in
        let last = message_if (is_watched it.one.space.object from kept) (Unmap addr (addr + 4096 * kept)) in
        let less : min count new_count ≡ kept = grind (arith, nat_tests) in
        ap (λ b. cond b (tail_told kernel key space from count new_count) (unmap_told (tail_told (remap_told (unmap_told kernel key space to new_count) key space from count to new_count) key space from count new_count) key space from (min count new_count))) apart
        ∙ (λ i. unmap_told (tail_told (remap_told (unmap_told (nothing i) key space to new_count) key space from count to new_count) key space from count new_count) key space from (less i))
        ∙ ap (λ k. unmap_told (tail_told (remap_told k key space from count to new_count) key space from count new_count) key space from kept) (unmap-more it to new_count target (target + 4096 * new_count) [] (starts target new_whole) (stops target new_count new_whole))
        ∙ ap (λ k. unmap_told (tail_told k key space from count new_count) key space from kept) (remap-more it from count to new_count addr target first (starts addr whole) (starts target new_whole))
        ∙ ap (λ k. unmap_told k key space from kept) (tail-of (first ++ second))
        ∙ unmap-more it from kept addr (addr + 4096 * kept) ((first ++ second) ++ tail_if) (starts addr whole) (stops addr kept whole)
        ∙ ap (λ b. with_messages kernel key it.one.name
        (message_if (not b && is_watched it.one.space.object to new_count) (Unmap target (target + 4096 * new_count)) ++ message_if (not b && is_watched it.one.space.object from kept) (Remap addr target (4096 * kept))
        ++ tail_if ++ message_if (not b && is_watched it.one.space.object from kept) (Unmap addr (addr + 4096 * kept)))) (sym apart)

-- Where the pages are then

pages-both : (kernel : Kernel) (space : ℕ) (xs ys : List (ℕ × Option Page)) → pages_set kernel space (xs ++ ys) ≡ pages_set (pages_set kernel space xs) space ys
pages-both kernel space [] ys = refl
pages-both kernel space (x ∷ xs) ys = pages-both (page_set kernel space x.0 x.1) space xs ys

-- nothing else changes
pages-only : (kernel : Kernel) (space : ℕ) (list : List (ℕ × Option Page)) → pages_set kernel space list ≡ record kernel { pages = (pages_set kernel space list).pages }
pages-only kernel space [] = refl
pages-only kernel space (x ∷ list) = pages-only (page_set kernel space x.0 x.1) space list

-- one more arrives, if it is registered
one-arrives : (kernel : Kernel) (space to n page : ℕ) (found : Option Page) (here : Bool) → in_range (to + n) 1 page ≡ here → (here ≡ true → kernel.pages space page ≡ None) →
    (pages_set kernel space (with_number (to + n) found)).pages space page ≡ cond here found (kernel.pages space page)
one-arrives kernel space to n page None true is none = none refl
one-arrives kernel space to n page None false is none = refl
one-arrives kernel space to n page (Some found) here is none = (λ i. cond (eqb-self space i && is i) (Some found) (kernel.pages space page))

-- those of the first places of the new range, none of which was registered
have-arrived : (now kernel : Kernel) (space from count to n page : ℕ) → (in_range to n page ≡ true → now.pages space page ≡ None) →
    (pages_set now space (arrivals kernel space from count to n)).pages space page ≡ cond (in_range to n page) (arrived kernel space from count (page - to) (eqb to from)) (now.pages space page)
unfolding arrivals
have-arrived now kernel space from count to zero page none = ap (λ b. cond b (arrived kernel space from count (page - to) (eqb to from)) (now.pages space page)) (sym (nowhere to page)) where
  nowhere : (to page : ℕ) → in_range to 0 page ≡ false
  nowhere to page = grind (arith, nat_tests)
have-arrived now kernel space from count to (suc n) page none =
    let before = pages_set now space (arrivals kernel space from count to n) in
    let at = arrived kernel space from count n (eqb to from) in
    let old : before.pages space page ≡ cond (in_range to n page) (arrived kernel space from count (page - to) (eqb to from)) (now.pages space page) =
    have-arrived now kernel space from count to n page (λ h. none (more to n page h)) in
    ap (λ (k : Kernel). k.pages space page) (pages-both now space (arrivals kernel space from count to n) (with_number (to + n) at))
    ∙ one-arrives before space to n page at (in_range (to + n) 1 page) refl (λ h. old ∙ ap (λ b. cond b (arrived kernel space from count (page - to) (eqb to from)) (now.pages space page)) (last to n page h) ∙ none (own to n page h))
    ∙ ap (cond (in_range (to + n) 1 page) at) old
    ∙ by (in_range (to + n) 1 page) (in_range to n page) refl refl
  where
    more : (to n page : ℕ) → in_range to n page ≡ true → in_range to (suc n) page ≡ true
    more to n page h = grind (arith, nat_tests, h)

    last : (to n page : ℕ) → in_range (to + n) 1 page ≡ true → in_range to n page ≡ false
    last to n page h = grind (arith, nat_tests, h)

    own : (to n page : ℕ) → in_range (to + n) 1 page ≡ true → in_range to (suc n) page ≡ true
    own to n page h = grind (arith, nat_tests, h)

    place : (to n page : ℕ) → in_range (to + n) 1 page ≡ true → page - to ≡ n
    place to n page h = grind (arith, nat_tests, h)

    outside : (to n page : ℕ) → in_range (to + n) 1 page ≡ false → in_range to n page ≡ false → in_range to (suc n) page ≡ false
    outside to n page h k = grind (arith, nat_tests, h, k)

    by : (here before : Bool) → in_range (to + n) 1 page ≡ here → in_range to n page ≡ before →
        cond here (arrived kernel space from count n (eqb to from)) (cond before (arrived kernel space from count (page - to) (eqb to from)) (now.pages space page))
        ≡ cond (in_range to (suc n) page) (arrived kernel space from count (page - to) (eqb to from)) (now.pages space page)
    by true before is was =
        (λ i. cond (sym (own to n page is) i) (arrived kernel space from count (sym (place to n page is) i) (eqb to from)) (now.pages space page))
    by false true is was = ap (λ b. cond b (arrived kernel space from count (page - to) (eqb to from)) (now.pages space page)) (sym (more to n page was))
    by false false is was = ap (λ b. cond b (arrived kernel space from count (page - to) (eqb to from)) (now.pages space page)) (sym (outside to n page is was))

-- a page of either object
abbrev moved_to : Kernel → (space from count to new_count page : ℕ) → Option Page
moved_to kernel space from count to new_count page =
    cond (in_range to new_count page) (arrived kernel space from count (page - to) (eqb to from)) (cond (in_range from count page) None (kernel.pages space page))

-- both places are emptied first
abbrev emptied_both : Kernel → (space from count to new_count : ℕ) → Kernel
emptied_both kernel space from count to new_count = forgotten (forgotten kernel space from count) space to new_count

pages-moved : (kernel : Kernel) (space from count to new_count page : ℕ) → (moved_pages kernel space from count to new_count false).pages space page ≡ moved_to kernel space from count to new_count page
pages-moved kernel space from count to new_count page =
    let now = emptied_both kernel space from count to new_count in
    let at = λ (first n : ℕ). ap (λ e. e && in_range first n page) (eqb-self space) in
    let none : (b : Bool) → in_range to new_count page ≡ b → now.pages space page ≡ cond b None (cond (in_range from count page) None (kernel.pages space page)) =
    λ b is. (λ i. cond ((at to new_count ∙ is) i) None (cond (at from count i) None (kernel.pages space page))) in
    (λ i. (pages_set (pages_set now space (sym (leavings_none kernel space from) i)) space (arrivals kernel space from count to new_count)).pages space page)
    ∙ have-arrived now kernel space from count to new_count page (λ h. none true h)
    ∙ by (in_range to new_count page) refl none
  where
    by : (b : Bool) → in_range to new_count page ≡ b →
        ((b : Bool) → in_range to new_count page ≡ b → (emptied_both kernel space from count to new_count).pages space page ≡ cond b None (cond (in_range from count page) None (kernel.pages space page))) →
        cond (in_range to new_count page) (arrived kernel space from count (page - to) (eqb to from)) ((emptied_both kernel space from count to new_count).pages space page) ≡ moved_to kernel space from count to new_count page
    by true is none = (λ i. cond (is i) (arrived kernel space from count (page - to) (eqb to from)) ((emptied_both kernel space from count to new_count).pages space page)) ∙ (λ i. cond (sym is i) (arrived kernel space from count (page - to) (eqb to from)) (cond (in_range from count page) None (kernel.pages space page)))
    by false is none = ap (cond (in_range to new_count page) (arrived kernel space from count (page - to) (eqb to from))) (none false is)

-- The model's page there

-- it agrees as another did before
pub page-as : (old new : Space) (name page was : ℕ) (found : Option Page) → contains new.object.missing page ≡ contains old.object.missing was → contains new.object.protect page ≡ contains old.object.protect was →
    contains_key new.host.bytes page ≡ contains_key old.host.bytes was → (contains new.protected page ≡ true → contains old.protected was ≡ true) → AgreesAt old name was found → AgreesAt new name page found
page-as old new name page was None missing protect bytes guards agrees = (λ i. missing i || protect i) ∙ agrees
page-as old new name page was (Some one) missing protect bytes guards agrees =
    record {
      object = agrees.object;
      missing = agrees.missing ∙ sym missing;
      protect = agrees.protect ∙ sym protect;
      registered = (λ i. missing i || protect i) ∙ agrees.registered;
      absent = λ h. bytes ∙ agrees.absent h;
      present = λ h. bytes ∙ agrees.present h;
      whole = agrees.whole;
      plain = agrees.plain;
      guarded = λ h. agrees.guarded (guards h);
    }

-- it is one by which a range grows
page-grown : (old new : Space) (name page was : ℕ) (found : Option Page) → contains new.object.missing page ≡ contains old.object.missing was → contains new.object.protect page ≡ contains old.object.protect was →
    contains_key new.host.bytes page ≡ false → contains new.protected page ≡ false → AgreesAt old name was found → AgreesAt new name page (grown_page found)
page-grown old new name page was None missing protect bytes guards agrees = (λ i. missing i || protect i) ∙ agrees
page-grown old new name page was (Some one) missing protect bytes guards agrees =
    record {
      object = agrees.object;
      missing = agrees.missing ∙ sym missing;
      protect = agrees.protect ∙ sym protect;
      registered = (λ i. missing i || protect i) ∙ agrees.registered;
      absent = λ h. bytes;
      present = λ h. absurd (false≢true (sym (not-there one.missing) ∙ h));
      whole = sound one.missing;
      plain = agrees.plain;
      guarded = λ h. absurd (false≢true (sym guards ∙ h));
    }
  where
    not-there : (missing : Bool) → is_present (known_as missing Missing) ≡ false
    not-there true = refl
    not-there false = refl

    sound : (missing : Bool) → is_poisoned (known_as missing Missing) ≡ false
    sound true = refl
    sound false = refl

-- its object asked for REMAP
still-told : (it : MapCall) (page : ℕ) (found : Option Page) → AgreesAt it.one.space it.one.name page found → moved_page it.one.kernel found ≡ found
still-told it page None agrees = refl
still-told it page (Some one) agrees = ap (λ b. cond b (Some one) None) (ap (is_told it.one.kernel 2) agrees.object ∙ tells-remap it)

still-grown : (it : MapCall) (page : ℕ) (found : Option Page) → AgreesAt it.one.space it.one.name page found → moved_page it.one.kernel (grown_page found) ≡ grown_page found
still-grown it page None agrees = refl
still-grown it page (Some one) agrees = ap (λ b. cond b (Some (emptied one)) None) (ap (is_told it.one.kernel 2) agrees.object ∙ tells-remap it)

either-way : (b : Bool) (found there : Option Page) → found ≡ there → cond b there found ≡ there
either-way true found there same = refl
either-way false found there same = same

-- The space after it

-- a range of a space has moved, and these messages are queued
abbrev pub moved_space : Space → (from count to new_count cpu : ℕ) → List Message → Space
moved_space space from count to new_count cpu messages =
    record {
      host = host_moved space.host from count to new_count;
      protected = moved_set space.protected from count to new_count false;
      object = all_queued (moved_modes space.object from count to new_count (mode_at space.object (from + (count - 1)))) messages cpu;
    }

abbrev set_at : FinSet nat_cmp → (from count to new_count : ℕ) → (growth : Bool) → ℕ → Bool
set_at set from count to new_count growth page =
    cond (in_range to new_count page) (cond (ltb (page - to) count) (contains set (from + (page - to))) growth) (not (in_range from count page) && contains set page)

in-set : (set : FinSet nat_cmp) (from count to new_count page : ℕ) (growth : Bool) → contains (moved_set set from count to new_count growth) page ≡ (ltb page HIGH_PAGE && set_at set from count to new_count growth page)
in-set set from count to new_count page growth = member_below (set_at set from count to new_count growth) HIGH_PAGE page

low-set : (set : FinSet nat_cmp) (from count to new_count page : ℕ) (growth : Bool) → ltb page HIGH_PAGE ≡ true → contains (moved_set set from count to new_count growth) page ≡ set_at set from count to new_count growth page
low-set set from count to new_count page growth low = in-set set from count to new_count page growth ∙ ap (λ b. b && set_at set from count to new_count growth page) low

-- a page apart from both ranges
apart-set : (set : FinSet nat_cmp) (from count to new_count page : ℕ) (growth : Bool) → in_range to new_count page ≡ false → in_range from count page ≡ false → (contains set page ≡ true → ltb page HIGH_PAGE ≡ true) →
    contains (moved_set set from count to new_count growth) page ≡ contains set page
apart-set set from count to new_count page growth out off low =
    in-set set from count to new_count page growth
    ∙ (λ i. ltb page HIGH_PAGE && cond (out i) (cond (ltb (page - to) count) (contains set (from + (page - to))) growth) (not (off i) && contains set page))
    ∙ both (ltb page HIGH_PAGE) (contains set page) low
  where
    both : (a b : Bool) → (b ≡ true → a ≡ true) → (a && b) ≡ b
    both true b h = refl
    both false true h = h refl
    both false false h = refl

abbrev byte_at : FinMap nat_cmp (List ℕ) → (from count to new_count page : ℕ) → Option (List ℕ)
byte_at bytes from count to new_count page =
    cond (in_range to new_count page) (cond (ltb (page - to) count) (get bytes (from + (page - to))) None) (cond (in_range from count page) None (get bytes page))

in-bytes : (bytes : FinMap nat_cmp (List ℕ)) (from count to new_count page : ℕ) → contains_key (moved_range bytes from count to new_count None) page ≡ is_some (byte_at bytes from count to new_count page)
in-bytes bytes from count to new_count page = ap is_some (get-moved_range bytes from count to new_count page None)

-- where the ranges of a call are
pub record Ranges (from count to new_count : ℕ) : Type 0 where
  pub some : 0 < count
  pub low : from + count ≤ HIGH_PAGE
  pub high : to + new_count ≤ HIGH_PAGE

in-page : (from count to new_count page : ℕ) → Ranges from count to new_count → in_range to new_count page ≡ true → ltb page HIGH_PAGE ≡ true
in-page from count to new_count page ranges inside = below page (to + new_count) ranges.high (in_range_bounds to new_count page inside).1 where
  below : (page end : ℕ) → end ≤ HIGH_PAGE → page < end → ltb page HIGH_PAGE ≡ true
  below page end h k = grind (arith, nat_tests, h, k)

-- a page that is registered or protected lies in the address space
registered-low : (space : Space) (page : ℕ) → IsSoundSpace space → is_registered space.object page ≡ true → ltb page HIGH_PAGE ≡ true
registered-low space page sound registered =
    by (ltb page HIGH_PAGE) refl
  where
    not-less : (page : ℕ) → ltb page HIGH_PAGE ≡ false → HIGH_PAGE ≤ page
    not-less page h = grind (arith, nat_tests, h)

    by : (b : Bool) → ltb page HIGH_PAGE ≡ b → b ≡ true
    by true is = refl
    by false is = absurd (false≢true (sym (ap is_some (sound.host.bound page (not-less page is))) ∙ sound.mapped page registered))

page-arrived : (it : MapCall) (new : Space) (from count to new_count page : ℕ) (kept stays : Bool) → Ranges from count to new_count → in_range to new_count page ≡ true → ltb (page - to) count ≡ kept → eqb to from ≡ stays →
    new.host.bytes ≡ moved_range it.one.space.host.bytes from count to new_count None → new.protected ≡ moved_set it.one.space.protected from count to new_count false →
    new.object.missing ≡ moved_set it.one.space.object.missing from count to new_count (contains it.one.space.object.missing (from + (count - 1))) →
    new.object.protect ≡ moved_set it.one.space.object.protect from count to new_count (contains it.one.space.object.protect (from + (count - 1))) →
    AgreesAt new it.one.name page (arrived it.one.kernel it.one.object.space from count (page - to) stays)
page-arrived it new from count to new_count page true stays ranges inside is same bytes guards missing protect =
    let space = it.one.space in
    let was = from + (page - to) in
    let low = in-page from count to new_count page ranges inside in
    let found = it.one.kernel.pages it.one.object.space was in
    let agrees = it.one.agree.pages was in
    let at = λ (set : FinSet nat_cmp) (growth : Bool). low-set set from count to new_count page growth low ∙ (λ i. cond (inside i) (cond (is i) (contains set was) growth) (not (in_range from count page) && contains set page)) in
    let there = (ap (λ b. cond b found (cond (eqb count 0) None (grown_page (it.one.kernel.pages it.one.object.space (from + (count - 1)))))) is) in
    subst (AgreesAt new it.one.name page)
    (sym ((λ i. cond stays (there i) (moved_page it.one.kernel (there i))) ∙ either-way stays (moved_page it.one.kernel found) found (still-told it was found agrees)))
    (page-as space new it.one.name page was found (ap (λ s. contains s page) missing ∙ at space.object.missing (contains space.object.missing (from + (count - 1)))) (ap (λ s. contains s page) protect ∙ at space.object.protect (contains space.object.protect (from + (count - 1))))
    (ap (λ m. contains_key m page) bytes ∙ in-bytes space.host.bytes from count to new_count page
    ∙ (λ i. is_some (cond (inside i) (cond (is i) (get space.host.bytes was) None) (cond (in_range from count page) None (get space.host.bytes page)))))
    (λ h. sym (ap (λ s. contains s page) guards ∙ at space.protected false) ∙ h) agrees)
page-arrived it new from count to new_count page false stays ranges inside is same bytes guards missing protect =
    let space = it.one.space in
    let was = from + (count - 1) in
    let low = in-page from count to new_count page ranges inside in
    let found = it.one.kernel.pages it.one.object.space was in
    let agrees = it.one.agree.pages was in
    let at = λ (set : FinSet nat_cmp) (growth : Bool). low-set set from count to new_count page growth low ∙ (λ i. cond (inside i) (cond (is i) (contains set (from + (page - to))) growth) (not (in_range from count page) && contains set page)) in
    let last = cond (eqb count 0) None (grown_page found) in
    let there : cond (ltb (page - to) count) (it.one.kernel.pages it.one.object.space (from + (page - to))) last ≡ grown_page found = λ i. cond (is i) (it.one.kernel.pages it.one.object.space (from + (page - to))) (cond (some count ranges.some i) None (grown_page found)) in
    subst (AgreesAt new it.one.name page)
    (sym ((λ i. cond stays (there i) (moved_page it.one.kernel (there i))) ∙ either-way stays (moved_page it.one.kernel (grown_page found)) (grown_page found) (still-grown it was found agrees)))
    (page-grown space new it.one.name page was found (ap (λ s. contains s page) missing ∙ at space.object.missing (contains space.object.missing was)) (ap (λ s. contains s page) protect ∙ at space.object.protect (contains space.object.protect was))
    (ap (λ m. contains_key m page) bytes ∙ in-bytes space.host.bytes from count to new_count page
    ∙ (λ i. is_some (cond (inside i) (cond (is i) (get space.host.bytes (from + (page - to))) None) (cond (in_range from count page) None (get space.host.bytes page)))))
    (ap (λ s. contains s page) guards ∙ at space.protected false) agrees)
  where
    some : (count : ℕ) → 0 < count → eqb count 0 ≡ false
    some count h = grind (arith, nat_tests, h)

page-moved : (it : MapCall) (new : Space) (from count to new_count page : ℕ) (inside within : Bool) → Ranges from count to new_count → in_range to new_count page ≡ inside → in_range from count page ≡ within →
    new.host.bytes ≡ moved_range it.one.space.host.bytes from count to new_count None → new.protected ≡ moved_set it.one.space.protected from count to new_count false →
    new.object.missing ≡ moved_set it.one.space.object.missing from count to new_count (contains it.one.space.object.missing (from + (count - 1))) →
    new.object.protect ≡ moved_set it.one.space.object.protect from count to new_count (contains it.one.space.object.protect (from + (count - 1))) →
    AgreesAt new it.one.name page (cond inside (arrived it.one.kernel it.one.object.space from count (page - to) (eqb to from)) (cond within None (it.one.kernel.pages it.one.object.space page)))
page-moved it new from count to new_count page true within ranges is was bytes guards missing protect =
    page-arrived it new from count to new_count page (ltb (page - to) count) (eqb to from) ranges is refl refl bytes guards missing protect
page-moved it new from count to new_count page false true ranges is was bytes guards missing protect =
    (λ i. contains (missing i) page || contains (protect i) page) ∙ (λ i. out it.one.space.object.missing (contains it.one.space.object.missing (from + (count - 1))) i || out it.one.space.object.protect (contains it.one.space.object.protect (from + (count - 1))) i)
  where
    nothing : (b : Bool) → (b && false) ≡ false
    nothing true = refl
    nothing false = refl

    out : (set : FinSet nat_cmp) (growth : Bool) → contains (moved_set set from count to new_count growth) page ≡ false
    out set growth =
        in-set set from count to new_count page growth
        ∙ (λ i. ltb page HIGH_PAGE && cond (is i) (cond (ltb (page - to) count) (contains set (from + (page - to))) growth) (not (was i) && contains set page))
        ∙ nothing (ltb page HIGH_PAGE)
page-moved it new from count to new_count page false false ranges is was bytes guards missing protect =
    let space = it.one.space in
    let low = registered-low space page it.one.agree.sound in
    let watched = λ (h : contains space.object.missing page ≡ true). low (ap (λ b. b || contains space.object.protect page) h) in
    let watched_too = λ (h : contains space.object.protect page ≡ true). low (ap (λ b. contains space.object.missing page || b) h ∙ or-true (contains space.object.missing page)) in
    page-as space new it.one.name page page (it.one.kernel.pages it.one.object.space page)
    (ap (λ s. contains s page) missing ∙ apart-set space.object.missing from count to new_count page (contains space.object.missing (from + (count - 1))) is was watched)
    (ap (λ s. contains s page) protect ∙ apart-set space.object.protect from count to new_count page (contains space.object.protect (from + (count - 1))) is was watched_too)
    (ap (λ m. contains_key m page) bytes ∙ in-bytes space.host.bytes from count to new_count page ∙ (λ i. is_some (cond (is i) (cond (ltb (page - to) count) (get space.host.bytes (from + (page - to))) None) (cond (was i) None (get space.host.bytes page)))))
    (λ h. sym (ap (λ s. contains s page) guards ∙ apart-set space.protected from count to new_count page false is was (λ k. watched_too (it.one.agree.sound.watched page k))) ∙ h)
    (it.one.agree.pages page)
  where
    or-true : (b : Bool) → (b || true) ≡ true
    or-true b = grind (arith, nat_tests)

-- Ranges

-- the kernel once a range has moved, by what it has told, whether that is noted, and whose range it is
abbrev moved_by : Kernel → (key space from count to new_count : ℕ) → Bool → List ℕ → Kernel
moved_by told key space from count to new_count differs names = with_calling (with_ranges (noted_if differs MessagesOfMremap (moved_pages told space from count to new_count false)) to new_count names) key

-- what is registered there was registered before, in the old range
registered-there : (space : Space) (from count to new_count page : ℕ) (inside : Bool) → 0 < count → in_range to new_count page ≡ inside →
    is_registered (moved_modes space.object from count to new_count (mode_at space.object (from + (count - 1)))) page ≡ true →
    (inside ≡ true → is_watched space.object from count ≡ true) × (inside ≡ false → is_registered space.object page ≡ true)
registered-there space from count to new_count page inside some is registered = (λ h. within (is ∙ h) (ltb (page - to) count) refl, λ h. without (is ∙ h))
  where
    missing : FinSet nat_cmp
    missing = space.object.missing

    protect : FinSet nat_cmp
    protect = space.object.protect

    last : ℕ
    last = from + (count - 1)

    both : set_at missing from count to new_count (contains missing last) page ≡ true ⊎ (set_at protect from count to new_count (contains protect last) page ≡ true)
    both = pick (ltb page HIGH_PAGE) (set_at missing from count to new_count (contains missing last) page) (set_at protect from count to new_count (contains protect last) page)
        (sym (λ i. in-set missing from count to new_count page (contains missing last) i || in-set protect from count to new_count page (contains protect last) i) ∙ registered)
      where
        pick : (low a b : Bool) → ((low && a) || (low && b)) ≡ true → a ≡ true ⊎ (b ≡ true)
        pick true true b h = inl refl
        pick true false b h = inr h
        pick false a b h = absurd (false≢true h)

    either-set : (page : ℕ) → contains missing page ≡ true ⊎ (contains protect page ≡ true) → is_registered space.object page ≡ true
    either-set page (inl h) = ap (λ b. b || contains protect page) h
    either-set page (inr h) = ap (λ b. contains missing page || b) h ∙ or-true (contains missing page) where
      or-true : (b : Bool) → (b || true) ≡ true
      or-true b = grind (arith, nat_tests)

    less-than : (a b : ℕ) → ltb a b ≡ true → a < b
    less-than a b h = grind (arith, nat_tests, h)

    first-low : (i : ℕ) → from ≤ from + i
    first-low i = omega (arith)

    first-high : (i : ℕ) → i < count → from + i < from + count
    first-high i h = omega (arith, h)

    last-in : count - 1 < count
    last-in = omega (arith, some)

    within : in_range to new_count page ≡ true → (less : Bool) → ltb (page - to) count ≡ less → is_watched space.object from count ≡ true
    within inside true small =
        is-watched space from count (from + (page - to)) (first-low (page - to)) (first-high (page - to) (less-than (page - to) count small)) (either-set (from + (page - to)) (one-of both)) where
          one-of : set_at missing from count to new_count (contains missing last) page ≡ true ⊎ (set_at protect from count to new_count (contains protect last) page ≡ true) → contains missing (from + (page - to)) ≡ true ⊎ (contains protect (from + (page - to)) ≡ true)
          one-of (inl h) = inl (sym (λ i. cond (inside i) (cond (small i) (contains missing (from + (page - to))) (contains missing last)) (not (in_range from count page) && contains missing page)) ∙ h)
          one-of (inr h) = inr (sym (λ i. cond (inside i) (cond (small i) (contains protect (from + (page - to))) (contains protect last)) (not (in_range from count page) && contains protect page)) ∙ h)
    within inside false small =
        is-watched space from count last (first-low (count - 1)) (first-high (count - 1) last-in) (either-set last (one-of both)) where
          one-of : set_at missing from count to new_count (contains missing last) page ≡ true ⊎ (set_at protect from count to new_count (contains protect last) page ≡ true) → contains missing last ≡ true ⊎ (contains protect last ≡ true)
          one-of (inl h) = inl (sym (λ i. cond (inside i) (cond (small i) (contains missing (from + (page - to))) (contains missing last)) (not (in_range from count page) && contains missing page)) ∙ h)
          one-of (inr h) = inr (sym (λ i. cond (inside i) (cond (small i) (contains protect (from + (page - to))) (contains protect last)) (not (in_range from count page) && contains protect page)) ∙ h)

    without : in_range to new_count page ≡ false → is_registered space.object page ≡ true
    without outside = either-set page (one-of both) where
      also : (a b : Bool) → (a && b) ≡ true → b ≡ true
      also true b h = h
      also false b h = absurd (false≢true h)

      one-of : set_at missing from count to new_count (contains missing last) page ≡ true ⊎ (set_at protect from count to new_count (contains protect last) page ≡ true) → contains missing page ≡ true ⊎ (contains protect page ≡ true)
      one-of (inl h) = inl (also (not (in_range from count page)) (contains missing page) (sym (λ i. cond (outside i) (cond (ltb (page - to) count) (contains missing (from + (page - to))) (contains missing last)) (not (in_range from count page) && contains missing page)) ∙ h))
      one-of (inr h) = inr (also (not (in_range from count page)) (contains protect page) (sym (λ i. cond (outside i) (cond (ltb (page - to) count) (contains protect (from + (page - to))) (contains protect last)) (not (in_range from count page) && contains protect page)) ∙ h))

-- the new range is one of the object
has-there : (name to new_count page : ℕ) → to + new_count ≤ HIGH_PAGE → in_range to new_count page ≡ true → has_page name page (record { object = name; first = to; count = new_count }) ≡ true
has-there name to new_count page high inside = (λ i. (eqb-self name i && small (to + new_count) high i) && inside i) where
  small : (n : ℕ) → n ≤ HIGH_PAGE → leb n (2 ^ 52) ≡ true
  small n h = grind (arith, nat_tests, h)

ranged-more : (name page to new_count : ℕ) (ranges : List Registration) (w inside : Bool) → in_range to new_count page ≡ inside → to + new_count ≤ HIGH_PAGE → (inside ≡ true → w ≡ true) → (inside ≡ false → list_any (has_page name page) ranges ≡ true) →
    list_any (has_page name page) (ranges ++ cond w (record { object = name; first = to; count = new_count } ∷ []) []) ≡ true
ranged-more name page to new_count ranges true true is high some old =
    list_any-append (has_page name page) ranges (record { object = name; first = to; count = new_count } ∷ []) ∙ ap (λ b. list_any (has_page name page) ranges || (b || false)) (has-there name to new_count page high is) ∙ or-true (list_any (has_page name page) ranges)
  where
    or-true : (b : Bool) → (b || (true || false)) ≡ true
    or-true b = grind (arith, nat_tests)
ranged-more name page to new_count ranges false true is high some old = absurd (false≢true (some refl))
ranged-more name page to new_count ranges w false is high some old =
    list_any-append (has_page name page) ranges (cond w (record { object = name; first = to; count = new_count } ∷ []) []) ∙ ap (λ b. b || list_any (has_page name page) (cond w (record { object = name; first = to; count = new_count } ∷ []) [])) (old refl)

-- Both afterwards

-- the kernel, with whom the range is noted
abbrev pub closed_form : Kernel → (key space from count to new_count name : ℕ) → Bool → Bool → Kernel
closed_form told key space from count to new_count name differs w =
    record told {
      pages = (moved_pages told space from count to new_count false).pages;
      ranges = told.ranges ++ cond w (record { object = name; first = to; count = new_count } ∷ []) [];
      calls = told.calls ++ key ∷ [];
      differs = cond differs (told.differs ++ MessagesOfMremap ∷ []) told.differs;
    }

closes : (told : Kernel) (key space from count to new_count name : ℕ) (differs w : Bool) → moved_by told key space from count to new_count differs (cond w (name ∷ []) []) ≡ closed_form told key space from count to new_count name differs w
closes told key space from count to new_count name differs w =
    (λ i. with_calling (with_ranges (noted_if differs MessagesOfMremap (only i)) to new_count (cond w (name ∷ []) [])) key) ∙ by differs w
  where
    pages : ℕ → ℕ → Option Page
    pages = (moved_pages told space from count to new_count false).pages

    only : moved_pages told space from count to new_count false ≡ record told { pages = pages }
    only =
        let now = emptied_both told space from count to new_count in
        let more = arrivals told space from count to new_count in
        pages-only (pages_set now space (leavings told space from 0)) space more ∙ (λ i. record (pages-only now space (leavings told space from 0) i) { pages = pages })

    by : (differs w : Bool) → with_calling (with_ranges (noted_if differs MessagesOfMremap (record told { pages = pages })) to new_count (cond w (name ∷ []) [])) key ≡ closed_form told key space from count to new_count name differs w
    by true true = refl
    by false true = refl
    by true false = λ i. record told { pages = pages; calls = told.calls ++ key ∷ []; differs = told.differs ++ MessagesOfMremap ∷ []; ranges = sym (append-nil told.ranges) i }
    by false false = λ i. record told { pages = pages; calls = told.calls ++ key ∷ []; ranges = sym (append-nil told.ranges) i }

moved-by : (it : MapCall) (from count to new_count cpu : ℕ) (messages : List Message) (differs w : Bool) → Ranges from count to new_count → is_watched it.one.space.object from count ≡ w → AreEvents messages →
    IsSoundSpace (moved_space it.one.space from count to new_count cpu messages) →
    Agree (moved_space it.one.space from count to new_count cpu messages) (closed_form (with_messages it.one.kernel it.key it.one.name messages) it.key it.one.object.space from count to new_count it.one.name differs w) it.one.name it.one.object
moved-by it from count to new_count cpu messages differs w ranges is these sound =
    let space = it.one.space in
    let agree = it.one.agree in
    let told = with_messages it.one.kernel it.key it.one.name messages in
    let object = moved_modes space.object from count to new_count (mode_at space.object (from + (count - 1))) in
    let new : Space = record { host = host_moved space.host from count to new_count; protected = moved_set space.protected from count to new_count false; object = record object { events = object.events ++ noted_by cpu messages } } in
    let same : new ≡ moved_space space from count to new_count cpu messages = λ i. record new { object = sym (queued-all object messages cpu) i } in
    let after = closed_form told it.key it.one.object.space from count to new_count it.one.name differs w in
    subst (λ s. Agree s after it.one.name it.one.object) same
    (record {
      sound = subst IsSoundSpace (sym same) sound;
      named = agree.named;
      features = agree.features;
      pages = λ page.
          subst (AgreesAt new it.one.name page) (sym (pages-moved told it.one.object.space from count to new_count page))
          (page-moved it new from count to new_count page (in_range to new_count page) (in_range from count page) ranges refl refl refl refl refl refl);
      unread = agree.unread;
      untold = untold-more it.one.name (telling it.one.kernel) it.key messages space.object.events (noted_by cpu messages) (new-call (telling it.one.kernel) it.key it.is_new) agree.untold (sym (noted-texts cpu messages)) these;
      alone = agree.alone;
      ranged = λ page registered.
          let before = registered-there space from count to new_count page (in_range to new_count page) ranges.some refl registered in
          ranged-more it.one.name page to new_count it.one.kernel.ranges w (in_range to new_count page) refl ranges.high (λ h. sym is ∙ before.0 h) (λ h. agree.ranged page (before.1 h));
    })

-- whose range it is then
moved-names : (it : MapCall) (from count to : ℕ) (w : Bool) → is_watched it.one.space.object from count ≡ w → movers it.one.kernel it.one.object.space from count to ≡ cond w (it.one.name ∷ []) []
moved-names it from count to w is = by (eqb to from) where
  by : (b : Bool) → cond b (objects_in it.one.kernel it.one.object.space from (from + count)) (told_in it.one.kernel 2 it.one.object.space from (from + count)) ≡ cond w (it.one.name ∷ []) []
  by true = watchers it.one from count w is
  by false = remap-tells it from count w is

-- where an mremap has moved pages, they lie in the address space
in-ranges : (host : Host) (addr old_len new_len target : ℕ) → IsSound host → IsRemapped (memory host) addr old_len new_len target → Ranges (addr / 4096) (pages_of old_len) (target / 4096) (pages_of new_len)
in-ranges host addr old_len new_len target sound told =
    let place = remapped_place host addr old_len new_len target sound told in
    let whole = told.whole in
    let some = told.old_some in
    let last = high-or (addr + (rounded old_len - 1)) (λ past. one_prot_some (memory host) addr (rounded old_len) (rounded old_len - 1) told.one_prot (bytes old_len some) (past_none host (addr + (rounded old_len - 1)) sound past)) in
    record { some = any old_len some; low = low addr old_len whole some last; high = high target new_len place.whole place.high }
  where
    high-or : (n : ℕ) → (HIGH ≤ n → ⊥) → n < HIGH
    high-or n never = by (ltb n HIGH) refl where
      less : (n : ℕ) → ltb n HIGH ≡ true → n < HIGH
      less n h = grind (arith, nat_tests, h)

      more : (n : ℕ) → ltb n HIGH ≡ false → HIGH ≤ n
      more n h = grind (arith, nat_tests, h)

      by : (b : Bool) → ltb n HIGH ≡ b → n < HIGH
      by true is = less n is
      by false is = absurd (never (more n is))

    any : (len : ℕ) → 0 < len → 0 < pages_of len
    any len h = omega (arith, h)

    bytes : (len : ℕ) → 0 < len → rounded len - 1 < rounded len
    bytes len h = omega (arith, h)

    low : (addr len : ℕ) → addr % 4096 ≡ 0 → 0 < len → addr + (rounded len - 1) < HIGH → addr / 4096 + pages_of len ≤ HIGH_PAGE
    low addr len whole some h = omega (arith, whole, some, h)

    high : (target len : ℕ) → target % 4096 ≡ 0 → target + rounded len ≤ HIGH → target / 4096 + pages_of len ≤ HIGH_PAGE
    high target len whole h = omega (arith, whole, h)

are-events : (object : Object) (addr count target new_count : ℕ) → AreEvents (moves_told object addr count target new_count)
are-events object addr count target new_count =
    let from = addr / 4096 in
    let to = target / 4096 in
    let kept = lesser count new_count in
    let goes = not (eqb to from) && is_watched object from kept in
    by (not (eqb to from) && is_watched object to new_count) goes (ltb new_count count && is_watched object (from + new_count) (count - new_count)) goes _ _ _ _ _ _ _ _ _
  where
    by : (first second third last : Bool) (a b c d e f g h i : ℕ) → AreEvents (message_if first (Unmap a b) ++ message_if second (Remap c d e) ++ message_if third (Unmap f g) ++ message_if last (Unmap h i))
    by true true true true a b c d e f g h i = (refl, (refl, (refl, (refl, tt))))
    by true true true false a b c d e f g h i = (refl, (refl, (refl, tt)))
    by true true false true a b c d e f g h i = (refl, (refl, (refl, tt)))
    by true true false false a b c d e f g h i = (refl, (refl, tt))
    by true false true true a b c d e f g h i = (refl, (refl, (refl, tt)))
    by true false true false a b c d e f g h i = (refl, (refl, tt))
    by true false false true a b c d e f g h i = (refl, (refl, tt))
    by true false false false a b c d e f g h i = (refl, tt)
    by false true true true a b c d e f g h i = (refl, (refl, (refl, tt)))
    by false true true false a b c d e f g h i = (refl, (refl, tt))
    by false true false true a b c d e f g h i = (refl, (refl, tt))
    by false true false false a b c d e f g h i = (refl, tt)
    by false false true true a b c d e f g h i = (refl, (refl, tt))
    by false false true false a b c d e f g h i = (refl, tt)
    by false false false true a b c d e f g h i = (refl, tt)
    by false false false false a b c d e f g h i = tt

-- The call

-- the space of an mremap that has moved, with a kernel's events
told-space : (space : Space) (cpu addr old_len new_len target : ℕ) (may_move : Bool) (fixed : Option ℕ) → mremap_reply (memory space.host) addr old_len new_len may_move fixed ≡ At target →
    called_told space cpu (Mremap addr old_len new_len may_move fixed)
    ≡ moved_space space (addr / 4096) (pages_of old_len) (target / 4096) (pages_of new_len) cpu (moves_told space.object addr (pages_of old_len) target (pages_of new_len))
told-space space cpu addr old_len new_len target may_move fixed is =
    let command = Mremap addr old_len new_len may_move fixed in
    ap (λ reply. record (called_as space cpu command reply) { object = all_queued (modes_after space.object command reply) (told_by space.object command reply) cpu }) is

moved-sound : (space : Space) (cpu addr old_len new_len target : ℕ) (may_move : Bool) (fixed : Option ℕ) (messages : List Message) → mremap_reply (memory space.host) addr old_len new_len may_move fixed ≡ At target → IsSoundSpace space →
    IsSoundSpace (moved_space space (addr / 4096) (pages_of old_len) (target / 4096) (pages_of new_len) cpu messages)
moved-sound space cpu addr old_len new_len target may_move fixed messages is sound =
    let command = Mremap addr old_len new_len may_move fixed in
    let from = addr / 4096 in
    let count = pages_of old_len in
    let to = target / 4096 in
    let new_count = pages_of new_len in
    let object = moved_modes space.object from count to new_count (mode_at space.object (from + (count - 1))) in
    let queued = λ (messages : List Message). queued-all object messages cpu in
    let model = call_messages space.object command (At target) in
    let old : IsSoundSpace (moved_space space from count to new_count cpu model) = subst IsSoundSpace (by-reply space cpu command (At target) is) (IsSoundSpace-called space cpu command refl sound) in
    let base = sound-requeued (record (moved_space space from count to new_count cpu model) { object = record object { events = object.events ++ noted_by cpu model } }) object.faults (object.events ++ noted_by cpu messages)
    (subst (λ o. IsSoundSpace (record (moved_space space from count to new_count cpu model) { object = o })) (queued model) old) in
    subst (λ o. IsSoundSpace (record (moved_space space from count to new_count cpu model) { object = o })) (sym (queued messages)) base

-- the kernel after an mremap that moves pages, with these events
abbrev pub remapped : MapCall → (from count to new_count : ℕ) → List Message → Kernel
remapped it from count to new_count messages =
    let now = with_messages it.one.kernel it.key it.one.name messages in
    closed_form now it.key it.one.object.space from count to new_count it.one.name (not (eqb to from) && tells_anybody now it.key) (is_watched it.one.space.object from count)

-- what is known of one
pub record IsRemap (it : MapCall) (move : Move) (target : ℕ) : Type 0 where
  pub whole : move.addr % 4096 ≡ 0
  pub new_whole : target % 4096 ≡ 0
  pub ranges : Ranges (move.addr / 4096) (pages_of move.old_len) (target / 4096) (pages_of move.new_len)
  pub events : AreEvents (moves_told it.one.space.object move.addr (pages_of move.old_len) target (pages_of move.new_len))
  pub is : moved it.one.kernel it.key it.one.object.space (move.addr / 4096) (pages_of move.old_len) (target / 4096) (pages_of move.new_len) (is_one move.flags 2)
      ≡ remapped it (move.addr / 4096) (pages_of move.old_len) (target / 4096) (pages_of move.new_len) (moves_told it.one.space.object move.addr (pages_of move.old_len) target (pages_of move.new_len))

pub is-remap : (it : MapCall) (move : Move) (target : ℕ) → mremap_reply (memory it.one.space.host) move.addr move.old_len move.new_len move.may_move move.fixed ≡ At target → IsRemap it move target
is-remap it move target is =
    let space = it.one.space in
    let sound = it.one.agree.sound.host in
    let told = mremap_told (memory space.host) move.addr move.old_len move.new_len move.may_move move.fixed target (sym is) in
    let from = move.addr / 4096 in
    let count = pages_of move.old_len in
    let to = target / 4096 in
    let new_count = pages_of move.new_len in
    let new_whole = (remapped_place space.host move.addr move.old_len move.new_len target sound told).whole in
    let events = told-moved it move.addr count target new_count told.whole new_whole in
    let w = is_watched space.object from count in
    record {
      whole = told.whole;
      new_whole = new_whole;
      ranges = in-ranges space.host move.addr move.old_len move.new_len target sound told;
      events = are-events space.object move.addr count target new_count;
      is = ap (moved it.one.kernel it.key it.one.object.space from count to new_count) move.unmaps
          ∙ (λ i. moved_by (events i) it.key it.one.object.space from count to new_count (not (eqb to from) && tells_anybody (events i) it.key) (moved-names it from count to w refl i))
          ∙ (let now = with_messages it.one.kernel it.key it.one.name (moves_told space.object move.addr count target new_count) in
          closes now it.key it.one.object.space from count to new_count it.one.name (not (eqb to from) && tells_anybody now it.key) w);
    }

pub mremap-taken : (it : MapCall) (move : Move) (cpu target : ℕ) → mremap_reply (memory it.one.space.host) move.addr move.old_len move.new_len move.may_move move.fixed ≡ At target →
    Takes (mremapped it.one.kernel it.key it.one.object.space move.addr move.old_len move.new_len move.flags (answer.Value target)) (called_told it.one.space cpu (Mremap move.addr move.old_len move.new_len move.may_move move.fixed)) it.one.name
mremap-taken it move cpu target is =
    let space = it.one.space in
    let facts = is-remap it move target is in
    let from = move.addr / 4096 in
    let count = pages_of move.old_len in
    let to = target / 4096 in
    let new_count = pages_of move.new_len in
    let messages = moves_told space.object move.addr count target new_count in
    let now = with_messages it.one.kernel it.key it.one.name messages in
    let after = remapped it from count to new_count messages in
    record {
      kernel = after;
      object = it.one.object;
      taken = (λ i. allowed (and_from (is_mappable from count) (is_mappable to new_count) (small (from + count) facts.ranges.low) (small (to + new_count) facts.ranges.high) i) (facts.is i));
      agree = subst (λ s. Agree s after it.one.name it.one.object) (sym (told-space space cpu move.addr move.old_len move.new_len target move.may_move move.fixed is))
          (moved-by it from count to new_count cpu messages (not (eqb to from) && tells_anybody now it.key) (is_watched space.object from count) facts.ranges refl facts.events
          (moved-sound space cpu move.addr move.old_len move.new_len target move.may_move move.fixed messages is it.one.agree.sound));
    }
  where
    small : (n : ℕ) → n ≤ HIGH_PAGE → ltb n (2 ^ 52) ≡ true
    small n h = grind (arith, nat_tests, h)

pub mremap-refused : (it : MapCall) (move : Move) (cpu : ℕ) (errno : Errno) → mremap_reply (memory it.one.space.host) move.addr move.old_len move.new_len move.may_move move.fixed ≡ Refused errno →
    Takes (mremapped it.one.kernel it.key it.one.object.space move.addr move.old_len move.new_len move.flags (answer.Failed (number_of errno) None)) (called it.one.space cpu (Mremap move.addr move.old_len move.new_len move.may_move move.fixed)) it.one.name
mremap-refused it move cpu errno is =
    let command = Mremap move.addr move.old_len move.new_len move.may_move move.fixed in
    takes-none it cpu command _ refl (by-reply it.one.space cpu command (Refused errno) is)
