-- A map call returns, once what it had to tell is read.
use Rattle.std.proofs.lemmas.Bool.Decides.{nat_tests}
use Rattle.std.proofs.lemmas.Bool.{eqb-true, false≢true, not-true}
use Rattle.std.proofs.lemmas.List.Concat.{flat_map-cons}
use Rattle.std.proofs.Common.{◌≡◌, ℕ, ◌&&◌, ◌||◌, Bool, true, false, not, cond, eqb, Option, Some, None, List, [], ◌∷◌, ◌++◌, filter, map, arith, refl, sym, ap, ◌∙◌}
use Rattle.std.specs.Prelude.{is_some}
use Rattle.std.specs.List.{flat_map, list_any}
use Rattle.foundation.specs.Tests.{is_empty}
use Rattle.mig_base.specs.Userfault.{Noted}
use Rattle.foundation.proofs.TestLemmas.{and_first, and_second}
use Rattle.uffd_log.specs.declared.call.Message.{Message as LogMessage}
use Rattle.kernel_rules.specs.declared.calling.Span.{Span}
use Rattle.kernel_rules.specs.declared.calling.Told.{Told}
use Rattle.kernel_rules.specs.declared.calling.Untold.{Untold}
use Rattle.kernel_rules.specs.Ioctls.{span_of, tells_object}
use Rattle.kernel_rules.specs.MapCalls.{has_events, is_told_all, may_return, numbers_without, returned, tells_anybody}
use Rattle.kernel_rules.specs.State.{Kernel}
use Rattle.kernel_laws.specs.Agreement.{Agree, AreUntold, Counterparts, are_once, messages_of, removes, telling}
use Rattle.kernel_laws.proofs.EventReads.{none-filter, spans-gone, spans-left, tells-anybody, turned}
use Rattle.kernel_laws.proofs.Unmaps.{filtered-none}

abbrev texts : List Untold → List LogMessage
texts events = map (λ (one : Untold). one.message) events

-- It has nothing more to tell

nothing-told : (span : Option Span) (some tells : Bool) → (is_empty (removes span) ≡ false → tells ≡ true) → is_some span ≡ some → not (some && tells) ≡ true → removes span ≡ []
nothing-told None some tells told is none = refl
nothing-told (Some span) some tells told is none = absurd (false≢true (ap not (λ i. is i && sym (told refl) i) ∙ none))

none-left : (kernel : Kernel) (name key : ℕ) (events : List Noted) → AreUntold name (telling kernel) events → is_told_all kernel key ≡ true → messages_of (telling kernel) key ≡ []
none-left kernel name key events are told =
    let few = not-true (has_events kernel key) (and_first (not (has_events kernel key)) (not (is_some (span_of kernel.untold key) && tells_anybody kernel key)) told) in
    let none = filtered-none (λ (one : Untold). eqb one.key key) kernel.events few in
    (λ i. texts (none i)
    ++ nothing-told (span_of kernel.untold key) (is_some (span_of kernel.untold key)) (tells_anybody kernel key)
    (λ some. tells-anybody kernel key name (are.tells key (ap (λ l. is_empty (texts l ++ removes (span_of kernel.untold key))) none ∙ some))) refl
    (and_second (not (has_events kernel key)) (not (is_some (span_of kernel.untold key) && tells_anybody kernel key)) told) i)

-- The others still have theirs

one-less : (kernel now : Kernel) (key call : ℕ) (calls kept : List ℕ) (b : Bool) → eqb call key ≡ b → messages_of kernel key ≡ [] → (b ≡ false → messages_of now call ≡ messages_of kernel call) → flat_map (messages_of now) kept ≡ flat_map (messages_of kernel) calls →
    flat_map (messages_of now) (cond (not b) (call ∷ kept) kept) ≡ flat_map (messages_of kernel) (call ∷ calls)
one-less kernel now key call calls kept true is none same rest =
    rest ∙ sym (flat_map-cons (messages_of kernel) call calls ∙ ap (λ l. l ++ flat_map (messages_of kernel) calls) (ap (messages_of kernel) (eqb-true call key is) ∙ none))
one-less kernel now key call calls kept false is none same rest =
    flat_map-cons (messages_of now) call kept ∙ (λ i. same refl i ++ rest i) ∙ sym (flat_map-cons (messages_of kernel) call calls)

all-told : (kernel now : Kernel) (key : ℕ) → messages_of kernel key ≡ [] → ((other : ℕ) → eqb key other ≡ false → messages_of now other ≡ messages_of kernel other) → (calls : List ℕ) →
    flat_map (messages_of now) (numbers_without calls key) ≡ flat_map (messages_of kernel) calls
all-told kernel now key none same [] = refl
all-told kernel now key none same (call ∷ calls) =
    one-less kernel now key call calls (numbers_without calls key) (eqb call key) refl none (λ apart. same call (turned call key apart)) (all-told kernel now key none same calls)

once-one : (call : ℕ) (kept : List ℕ) (b : Bool) → list_any (λ other. eqb other call) kept ≡ false → are_once kept ≡ true → are_once (cond b (call ∷ kept) kept) ≡ true
once-one call kept true none once = (λ i. not (none i) && once i)
once-one call kept false none once = once

once-less : (key : ℕ) (calls : List ℕ) → are_once calls ≡ true → are_once (numbers_without calls key) ≡ true
once-less key [] once = refl
once-less key (call ∷ calls) once =
    let twice = list_any (λ other. eqb other call) calls in
    once-one call (numbers_without calls key) (not (eqb call key))
    (none-filter (λ other. not (eqb other key)) (λ other. eqb other call) calls (not-true twice (and_first (not twice) (are_once calls) once)))
    (once-less key calls (and_second (not twice) (are_once calls) once))

any-one : {X : Type 0} (q : X → Bool) (x : X) (kept : List X) (b : Bool) (rest : Bool) → (q x ≡ true → b ≡ true) → (rest ≡ true → list_any q kept ≡ true) → (q x || rest) ≡ true → list_any q (cond b (x ∷ kept) kept) ≡ true
any-one q x kept true rest keeps more is = either (q x) rest (list_any q kept) more is where
  either : (a rest kept : Bool) → (rest ≡ true → kept ≡ true) → (a || rest) ≡ true → (a || kept) ≡ true
  either a rest kept more is = grind (arith, nat_tests)
any-one q x kept false rest keeps more is = more (other (q x) rest keeps is) where
  other : (a rest : Bool) → (a ≡ true → false ≡ true) → (a || rest) ≡ true → rest ≡ true
  other a rest keeps is = grind (arith, nat_tests)

any-kept : {X : Type 0} (p q : X → Bool) → ((x : X) → q x ≡ true → p x ≡ true) → (xs : List X) → list_any q xs ≡ true → list_any q (filter p xs) ≡ true
any-kept p q keeps [] is = is
any-kept p q keeps (x ∷ xs) is = any-one q x (filter p xs) (p x) (list_any q xs) (keeps x) (any-kept p q keeps xs) is

not-this : (key other call : ℕ) (own : Bool) → eqb key other ≡ false → (eqb call other && own) ≡ true → not (eqb call key) ≡ true
not-this key other call own apart is = grind (arith, nat_tests)

told-yet : (kernel : Kernel) (name key other : ℕ) (events : List Noted) (b : Bool) → AreUntold name (telling kernel) events → messages_of (telling kernel) key ≡ [] → eqb key other ≡ b →
    is_empty (messages_of (telling (returned kernel key)) other) ≡ false → tells_object (returned kernel key) other name ≡ true
told-yet kernel name key other events true are none is some =
    absurd
    (false≢true
    (sym some ∙ ap (λ n. is_empty (messages_of (telling (returned kernel key)) n)) (sym (eqb-true key other is))
    ∙ (λ i. is_empty (texts (filter (λ (one : Untold). eqb one.key key) kernel.events) ++ removes (spans-gone kernel.untold key i)))
    ∙ first-empty (texts (filter (λ (one : Untold). eqb one.key key) kernel.events)) (removes (span_of kernel.untold key)) none))
  where
    first-empty : (xs ys : List LogMessage) → xs ++ ys ≡ [] → is_empty (xs ++ []) ≡ true
    first-empty [] ys none = refl
    first-empty (x ∷ xs) ys none = absurd (false≢true (ap is_empty none))
told-yet kernel name key other events false are none is some =
    any-kept (λ (one : Told). not (eqb one.key key)) (λ (one : Told). eqb one.key other && eqb one.object name) (λ one h. not-this key other one.key (eqb one.object name) is h) kernel.told
    (are.tells other (ap (λ s. is_empty (texts (filter (λ (one : Untold). eqb one.key other) kernel.events) ++ removes s)) (sym (spans-left kernel.untold key other is)) ∙ some))

untold-returned : (kernel : Kernel) (name key : ℕ) (events : List Noted) → AreUntold name (telling kernel) events → is_told_all kernel key ≡ true → AreUntold name (telling (returned kernel key)) events
untold-returned kernel name key events are told =
    let none = none-left kernel name key events are told in
    record {
      same = all-told (telling kernel) (telling (returned kernel key)) key none
          (λ other apart. ap (λ s. texts (filter (λ (one : Untold). eqb one.key other) kernel.events) ++ removes s) (spans-left kernel.untold key other apart)) kernel.calls
          ∙ are.same;
      once = once-less key kernel.calls are.once;
      ranks = are.ranks;
      own = are.own;
      tells = λ other some. told-yet kernel name key other events (eqb key other) are none refl some;
      none_queued = ap (λ l. numbers_without l key) are.none_queued;
    }

pub returned-agree : (one : Counterparts) (key : ℕ) → may_return one.kernel key ≡ true → Agree one.space (returned one.kernel key) one.name one.object
returned-agree one key may =
    let agree = one.agree in
    record {
      sound = agree.sound;
      named = agree.named;
      features = agree.features;
      pages = agree.pages;
      unread = agree.unread;
      untold = untold-returned one.kernel one.name key one.space.object.events agree.untold (and_first (is_told_all one.kernel key) (not (is_some (span_of one.kernel.clears key))) may);
      alone = agree.alone;
      ranged = agree.ranged;
    }
