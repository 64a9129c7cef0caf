-- MADV_DONTNEED of pages of which one is registered, in a log: it takes effect once its REMOVE is the next message, and returns when that is read.
use Rattle.std.proofs.lemmas.Bool.{false≢true}
use Rattle.std.proofs.Common.{◌≡◌, ℕ, ◌<◌, ◌≤◌, ◌+◌, ◌-◌, ◌^◌, ◌&&◌, ◌||◌, Bool, true, false, not, cond, eqb, leb, Option, Some, None, [], ◌∷◌, ◌++◌, map, arith, refl, sym, ap, subst, ◌∙◌}
use Rattle.std.specs.Prelude.{if◌then◌else◌, is_some}
use Rattle.foundation.specs.Ranges.{in_range}
use Rattle.mig_base.specs.Userfault.{Noted, is_registered, is_watched}
use Rattle.foundation.proofs.TestLemmas.{and_first, eqb-self}
use Rattle.mig_model.specs.Space.{IsSoundSpace, Space}
use Rattle.mig_model.proofs.memory.Registering.{pages_again}
use Rattle.kernel_rules.specs.declared.calling.Span.{Span}
use Rattle.kernel_rules.specs.declared.difference.Difference.TheVariants.{RemoveOfEachArea}
use Rattle.kernel_rules.specs.declared.known.Page.{Page}
use Rattle.kernel_rules.specs.declared.known.Presence.TheVariants.{Missing}
use Rattle.kernel_rules.specs.declared.object.Object.{Object}
use Rattle.kernel_rules.specs.declared.object.Registration.{Registration}
use Rattle.kernel_rules.specs.Changes.{page_with}
use Rattle.kernel_rules.specs.Ioctls.{has_untold, is_own}
use Rattle.kernel_rules.specs.MapCalls.{cleared_by, all_cleared, clearing, clears, may_return, returned, tells, told_in, watches_in, with_all_told, with_clearing}
use Rattle.kernel_rules.specs.Pages.{cleared_page, is_poisoned, is_present, known_as}
use Rattle.kernel_rules.specs.Reads.{event_read, first_unread, is_next_remove, is_queued_as, is_whole, message_taken, removes_left, teller, watches_within}
use Rattle.kernel_rules.specs.State.{Kernel, allowed, fresh_kernel, noted_if}
use Rattle.foundation.specs.Tests.{is_empty}
use Rattle.kernel_laws.specs.Agreement.{Agree, AgreesAt, AreUntold, Counterparts, has_page, message_of, telling}
use Rattle.kernel_laws.proofs.Clearing.{dropped-bytes, dropped_space, page-dropped}
use Rattle.kernel_laws.proofs.EventReads.{is-remove, no-faults, remove_of, removed, takes-event}
use Rattle.kernel_laws.proofs.Events.{any-weaker}
use Rattle.kernel_laws.proofs.OpenCalls.{untold-of}
use Rattle.kernel_laws.proofs.Unmaps.{page-watched, some-below}

-- the call's range, for a kernel that is at rest

abbrev pub span_for : (key home first end : ℕ) → Span
span_for key home first end = record { key = key; space = home; first = first; end = end; frees = false }

-- the kernel once the call has taken effect
abbrev pub discarding : Kernel → (name : ℕ) → Span → Kernel
discarding kernel name span = record kernel { calls = span.key ∷ []; told = record { key = span.key; object = name } ∷ []; events = []; queued = []; untold = span ∷ []; clears = span ∷ [] }

-- once it has queued its REMOVE, and once that is read
abbrev pub announcing : Kernel → (name : ℕ) → Span → Kernel
announcing kernel name span = record (discarding kernel name span) { queued = span.key ∷ [] }

abbrev pub announced : Kernel → (name : ℕ) → Span → Kernel
announced kernel name span = record (discarding kernel name span) { untold = [] }

-- and once it has cleared its pages
abbrev pub discarded : Kernel → (name : ℕ) → Span → Kernel
discarded kernel name span = all_cleared (record (announced kernel name span) { clears = [] }) span.space span.first (span.end - span.first) span.frees

pub discards-it : (kernel : Kernel) (key home first count name : ℕ) → telling kernel ≡ fresh_kernel → told_in kernel 3 home first (first + count) ≡ name ∷ [] → clearing kernel key home first count false ≡ discarding kernel name (span_for key home first (first + count))
discards-it kernel key home first count name quiet told =
    let span = span_for key home first (first + count) in
    ap (λ names. if is_empty names then all_cleared kernel home first count false else with_clearing (with_all_told kernel key names) key home first count false) told
    ∙ (λ i. record kernel {
      calls = (quiet i).calls ++ key ∷ [];
      told = (quiet i).told ++ record { key = key; object = name } ∷ [];
      events = (quiet i).events;
      queued = (quiet i).queued;
      untold = (quiet i).untold ++ span ∷ [];
      clears = (quiet i).clears ++ span ∷ [];
    })

pub announces : (kernel : Kernel) (name : ℕ) (span : Span) → tells (discarding kernel name span) span.key ≡ Some (announcing kernel name span)
announces kernel name span = λ i. allowed (not (not (is_some (cond (eqb-self span.key i) (Some span) None) && (eqb-self span.key i || false)))) (announcing kernel name span)

-- the next message
own-told : (kernel : Kernel) (name : ℕ) (span : Span) → is_queued_as (announcing kernel name span) name (remove_of span) span.key ≡ is_next_remove (announcing kernel name span) name span.key (remove_of span) (Some span)
own-told kernel name span = λ i. (eqb-self span.key i || false) && is_next_remove (announcing kernel name span) name span.key (remove_of span) (cond (eqb-self span.key i) (Some span) None)

whole-remove : (span : Span) → is_whole (remove_of span) (Some span) ≡ true
whole-remove span = (λ i. eqb (pages_again span.first i) span.first && eqb (pages_again span.end i) span.end) ∙ (λ i. eqb-self span.first i && eqb-self span.end i)

reads-remove : (kernel : Kernel) (name : ℕ) (span : Span) → event_read (announcing kernel name span) span.key (remove_of span) None ≡ announced kernel name span
reads-remove kernel name span =
    (λ i. record (discarding kernel name span) {
      queued = cond (not (eqb-self span.key i)) (span.key ∷ []) [];
      untold = removes_left (announcing kernel name span) span.key (remove_of span) (cond (eqb-self span.key i) (Some span) None);
    })
    ∙ (λ i. record (discarding kernel name span) { untold = removed (announcing kernel name span) span.key span i })
    ∙ (λ i. record (discarding kernel name span) { untold = cond (not (eqb-self span.key i)) (span ∷ []) [] })

pub takes-remove : (kernel : Kernel) (key name : ℕ) (object : Object) (span : Span) → watches_within kernel name span.space span.first span.end ≡ true → first_unread kernel.faults name ≡ None →
    message_taken (announcing kernel name span) key None name object (remove_of span) 0 ≡ Some (announced kernel name span)
takes-remove kernel key name object span watched none =
    let now = announcing kernel name span in
    takes-event now key None name object (remove_of span) (Some (span.key, false)) (announced kernel name span) refl (no-faults kernel.faults name none)
    (ap (λ b. cond b (Some (span.key, false)) (teller now name (remove_of span) [] (false || has_untold now name span.key)))
    (own-told kernel name span ∙ is-remove now name span.key span (λ i. (eqb-self span.key i && eqb-self name i) || false) watched))
    ((λ i. Some (noted_if (not (is_whole (remove_of span) (cond (eqb-self span.key i) (Some span) None))) RemoveOfEachArea (reads-remove kernel name span i)))
    ∙ (λ i. Some (noted_if (not (whole-remove span i)) RemoveOfEachArea (announced kernel name span))))

-- its reader returns
pub reader-may : (kernel : Kernel) (name key : ℕ) (span : Span) → eqb span.key key ≡ false → may_return (announced kernel name span) key ≡ true
reader-may kernel name key span apart = ap (λ b. not (is_some (cond b (Some span) None))) apart

pub reader-returns : (kernel : Kernel) (name key : ℕ) (span : Span) → eqb span.key key ≡ false → returned (announced kernel name span) key ≡ announced kernel name span
reader-returns kernel name key span apart =
    λ i. record (announced kernel name span) { calls = cond (not (apart i)) (span.key ∷ []) []; told = cond (not (apart i)) (record { key = span.key; object = name } ∷ []) [] }

-- the call clears its pages, and returns
pub clears-it : (kernel : Kernel) (name : ℕ) (span : Span) → clears (announced kernel name span) span.key ≡ Some (discarded kernel name span)
clears-it kernel name span =
    (λ i. cleared_by (announced kernel name span) span.key (cond (eqb-self span.key i) (Some span) None))
    ∙ (λ i. Some (all_cleared (record (announced kernel name span) { clears = cond (not (eqb-self span.key i)) (span ∷ []) [] }) span.space span.first (span.end - span.first) span.frees))

pub quiet-again : (kernel : Kernel) (name : ℕ) (span : Span) → telling (returned (discarded kernel name span) span.key) ≡ fresh_kernel
quiet-again kernel name span = λ i. record fresh_kernel { calls = cond (not (eqb-self span.key i)) (span.key ∷ []) []; told = cond (not (eqb-self span.key i)) (record { key = span.key; object = name } ∷ []) [] }

-- Both afterwards

-- a page, of which a kernel knows that it is missing
page-discarded : (space : Space) (first count start stop cpu name page : ℕ) (b : Bool) (found : Option Page) → IsSoundSpace (dropped_space space first count start stop cpu false) → in_range first count page ≡ b → AgreesAt space name page found →
    AgreesAt (dropped_space space first count start stop cpu false) name page (cond b (page_with cleared_page found) found)
page-discarded space first count start stop cpu name page true None sound is agrees = agrees
page-discarded space first count start stop cpu name page true (Some one) sound is agrees =
    let gone = dropped-bytes space first count page is in
    record {
      object = agrees.object;
      missing = agrees.missing;
      protect = agrees.protect;
      registered = agrees.registered;
      absent = λ h. gone;
      present = λ h. absurd (never one.missing h);
      whole = known-whole one.missing;
      plain = agrees.plain;
      guarded = λ h. absurd (false≢true (sym gone ∙ sound.present page h));
    }
  where
    never : (missing : Bool) → is_present (known_as missing Missing) ≡ true → ⊥
    never true h = false≢true h
    never false h = false≢true h

    known-whole : (missing : Bool) → is_poisoned (known_as missing Missing) ≡ false
    known-whole true = refl
    known-whole false = refl
page-discarded space first count start stop cpu name page false found sound is agrees =
    page-dropped space (dropped_space space first count start stop cpu false) first count name page false found refl refl refl refl is (λ h. absurd (false≢true h)) agrees

-- a page of the range is registered, in a range of the object
pub range-watched : (one : Counterparts) (first count : ℕ) → is_watched one.space.object first count ≡ true → watches_within one.kernel one.name one.object.space first (first + count) ≡ true
range-watched one first count is =
    let found = some-below (λ i. is_registered one.space.object (first + i)) count is in
    let inside = found.1 in
    any-weaker (has_page one.name (first + found.0)) (λ (range : Registration). eqb range.object one.name && watches_in one.kernel one.object.space first (first + count) range)
    (λ range h. λ i. named range h i && page-watched one.space one.kernel one.name one.object first count (first + found.0) range one.agree (low first found.0) (high first found.0 count inside) found.2 h i) one.kernel.ranges
    (one.agree.ranged (first + found.0) found.2)
  where
    low : (first i : ℕ) → first ≤ first + i
    low first i = omega (arith)

    high : (first i count : ℕ) → i < count → first + i < first + count
    high first i count h = omega (arith, h)

    named : (range : Registration) → has_page one.name (first + (some-below (λ i. is_registered one.space.object (first + i)) count is).0) range ≡ true → eqb range.object one.name ≡ true
    named range h = and_first (eqb range.object one.name) (leb (range.first + range.count) (2 ^ 52)) (and_first (is_own one.name range) (in_range range.first range.count (first + (some-below (λ i. is_registered one.space.object (first + i)) count is).0)) h)

pub agree-discarded : (one : Counterparts) (first count start stop cpu : ℕ) (key : ℕ) → IsSoundSpace (dropped_space one.space first count start stop cpu false) → one.space.object.events ≡ [] →
    Agree (dropped_space one.space first count start stop cpu false) (returned (discarded one.kernel one.name (span_for key one.object.space first (first + count))) key) one.name one.object
agree-discarded one first count start stop cpu key sound events =
    let agree = one.agree in
    let own = one.object.space in
    let new = dropped_space one.space first count start stop cpu false in
    let change = λ (page : ℕ). page_with cleared_page (one.kernel.pages own page) in
    let at = λ (page : ℕ). ap (λ e. e && in_range first (first + count - first) page) (eqb-self own) ∙ ap (λ n. in_range first n page) (back first count) in
    record {
      sound = sound;
      named = agree.named;
      features = agree.features;
      pages = λ page.
          subst (λ b. AgreesAt new one.name page (cond b (change page) (one.kernel.pages own page))) (sym (at page))
          (page-discarded one.space first count start stop cpu one.name page (in_range first count page) (one.kernel.pages own page) sound refl (agree.pages page));
      unread = agree.unread;
      untold = subst (λ k. AreUntold one.name k one.space.object.events) (sym (quiet-again one.kernel one.name (span_for key own first (first + count))))
          (untold-of one.name [] one.space.object.events tt (ap (map (λ (noted : Noted). message_of noted.message)) (sym events)));
      alone = agree.alone;
      ranged = agree.ranged;
    }
  where
    back : (first count : ℕ) → first + count - first ≡ count
    back first count = omega (arith)
