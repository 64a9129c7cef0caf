-- Unread events: while there are any, the address space is changing at both.
use Rattle.std.proofs.lemmas.Bool.Decides.{nat_tests}
use Rattle.std.proofs.lemmas.Bool.{false≢true}
use Rattle.std.proofs.lemmas.List.Concat.{flat_map-cons}
use Rattle.std.proofs.Common.{◌≡◌, ℕ, ◌&&◌, ◌||◌, Bool, true, false, not, cond, eqb, ltb, Option, Some, None, List, [], ◌∷◌, ◌++◌, filter, length, map, arith, refl, sym, ap, ◌∙◌}
use Rattle.std.specs.Prelude.{is_some}
use Rattle.std.specs.List.{flat_map, list_any}
use Rattle.foundation.specs.Tests.{is_empty}
use Rattle.mig_base.specs.Userfault.{Noted, changing}
use Rattle.foundation.proofs.TestLemmas.{or_first, or_second}
use Rattle.mig_model.specs.Space.{Space}
use Rattle.kernel_rules.specs.declared.calling.Span.{Span}
use Rattle.kernel_rules.specs.declared.calling.Told.{Told}
use Rattle.kernel_rules.specs.declared.calling.Untold.{Untold}
use Rattle.kernel_rules.specs.declared.difference.Difference.TheVariants.{ChangingLonger}
use Rattle.kernel_rules.specs.declared.object.Object.{Object}
use Rattle.kernel_rules.specs.Ioctls.{has_untold, is_changing, may_be_changing, refused_while_changing, span_of, tells_object}
use Rattle.kernel_rules.specs.Reads.{is_same_event}
use Rattle.kernel_rules.specs.State.{Kernel, allowed, noted_if}
use Rattle.kernel_laws.specs.Agreement.{Agree, AreUntold, Takes, is_of_another, message_of, messages_of, removes, telling}
use Rattle.kernel_laws.proofs.Kernels.{agree-noted}

-- Lists

pub is_empty-append : {X : Type 0} (xs ys : List X) → is_empty (xs ++ ys) ≡ (is_empty xs && is_empty ys)
is_empty-append [] ys = refl
is_empty-append (x ∷ xs) ys = refl

either : (has more : Bool) (found : Bool) → (has ≡ true → found ≡ true) → (more ≡ true → found ≡ true) → (has || more) ≡ true → found ≡ true
either has more found one others is = grind (arith, nat_tests)

pub any-weaker : {X : Type 0} (p q : X → Bool) → ((x : X) → p x ≡ true → q x ≡ true) → (xs : List X) → list_any p xs ≡ true → list_any q xs ≡ true
any-weaker p q tells [] is = is
any-weaker p q tells (x ∷ xs) is =
    either (p x) (list_any p xs) (q x || list_any q xs) (λ h. ap (λ b. b || list_any q xs) (tells x h)) (λ h. or_true (q x) (list_any q xs) (any-weaker p q tells xs h)) is
  where
    or_true : (a b : Bool) → b ≡ true → (a || b) ≡ true
    or_true a b h = grind (arith, nat_tests)

-- One call

own-one : (object same : Bool) → not (object && same) ≡ false → object ≡ true
own-one object same h = grind (arith, nat_tests)

event-one : (key object rest : Bool) (one : Untold) (kept : List Untold) → object ≡ true → rest ≡ not (is_empty kept) → (key && object || rest) ≡ not (is_empty (cond key (one ∷ kept) kept))
event-one true object rest one kept is same = ap (λ b. b || rest) is
event-one false object rest one kept is same = same

has-event : (name key : ℕ) (events : List Untold) → list_any (is_of_another name) events ≡ false →
    list_any (λ (one : Untold). eqb one.key key && eqb one.object name) events ≡ not (is_empty (filter (λ (one : Untold). eqb one.key key) events))
has-event name key [] own = refl
has-event name key (one ∷ events) own =
    event-one (eqb one.key key) (eqb one.object name) (list_any (λ (one : Untold). eqb one.key key && eqb one.object name) events) one (filter (λ (one : Untold). eqb one.key key) events)
    (own-one (eqb one.object name) (is_same_event one.message one.message) (or_first (is_of_another name one) (list_any (is_of_another name) events) own))
    (has-event name key events (or_second (is_of_another name one) (list_any (is_of_another name) events) own))

has-more : (events : List Untold) (span : Option Span) (tells : Bool) → (is_empty (map (λ (one : Untold). one.message) events ++ removes span) ≡ false → tells ≡ true) →
    (not (is_empty events) || is_some span && tells) ≡ not (is_empty (map (λ (one : Untold). one.message) events ++ removes span))
has-more [] None tells h = refl
has-more [] (Some span) tells h = h refl
has-more (one ∷ events) span tells h = refl

pub untold-any : (name : ℕ) (kernel : Kernel) (events : List Noted) (key : ℕ) → AreUntold name kernel events → has_untold kernel name key ≡ not (is_empty (messages_of kernel key))
untold-any name kernel events key are =
    ap (λ b. b || is_some (span_of kernel.untold key) && tells_object kernel key name) (has-event name key kernel.events are.own)
    ∙ has-more (filter (λ (one : Untold). eqb one.key key) kernel.events) (span_of kernel.untold key) (tells_object kernel key name) (are.tells key)

-- All calls

some-of : {X : Type 0} (xs ys : List X) → (not (is_empty xs) || not (is_empty ys)) ≡ not (is_empty (xs ++ ys))
some-of [] ys = refl
some-of (x ∷ xs) ys = refl

any-of : (name : ℕ) (kernel : Kernel) (events : List Noted) (keys : List ℕ) → AreUntold name kernel events → list_any (has_untold kernel name) keys ≡ not (is_empty (flat_map (messages_of kernel) keys))
any-of name kernel events [] are = refl
any-of name kernel events (key ∷ keys) are =
    (λ i. untold-any name kernel events key are i || any-of name kernel events keys are i) ∙ some-of (messages_of kernel key) (flat_map (messages_of kernel) keys)
    ∙ ap (λ l. not (is_empty l)) (sym (flat_map-cons (messages_of kernel) key keys))

some-events : (events : List Noted) → not (is_empty (map (λ (noted : Noted). message_of noted.message) events)) ≡ ltb 0 (length events)
some-events [] = refl
some-events (noted ∷ events) = grind (arith, nat_tests)

pub changes : {space : Space} {kernel : Kernel} {name : ℕ} {object : Object} → Agree space kernel name object → is_changing kernel name ≡ ltb 0 (changing space.object)
changes {space = space} {kernel = kernel} {name = name} agree =
    any-of name (telling kernel) space.object.events kernel.calls agree.untold ∙ ap (λ l. not (is_empty l)) agree.untold.same ∙ some-events space.object.events

told-one : (key name : ℕ) (told : List Told) → list_any (λ (one : Told). eqb one.key key && eqb one.object name) told ≡ true → list_any (λ (one : Told). eqb one.object name) told ≡ true
told-one key name told is = any-weaker (λ (one : Told). eqb one.key key && eqb one.object name) (λ (one : Told). eqb one.object name) (λ one h. and_last (eqb one.key key) (eqb one.object name) h) told is where
  and_last : (a b : Bool) → (a && b) ≡ true → b ≡ true
  and_last a b h = grind (arith, nat_tests)

told-any : (name : ℕ) (kernel : Kernel) (events : List Noted) (keys : List ℕ) → AreUntold name kernel events → list_any (has_untold kernel name) keys ≡ true → may_be_changing kernel name ≡ true
told-any name kernel events [] are is = absurd (false≢true is)
told-any name kernel events (key ∷ keys) are is =
    either (has_untold kernel name key) (list_any (has_untold kernel name) keys) (may_be_changing kernel name)
    (λ h. told-one key name kernel.told (are.tells key (some-not (is_empty (messages_of kernel key)) (sym (untold-any name kernel events key are) ∙ h)))) (told-any name kernel events keys are) is
  where
    some-not : (b : Bool) → not b ≡ true → b ≡ false
    some-not b h = grind (arith, nat_tests)

-- EAGAIN
pub refused-changing : (space : Space) (kernel : Kernel) (name : ℕ) (object : Object) → Agree space kernel name object → ltb 0 (changing space.object) ≡ true → Takes (refused_while_changing kernel name) space name
refused-changing space kernel name object agree is =
    let new = noted_if (not (is_changing kernel name)) ChangingLonger kernel in
    record {
      kernel = new;
      object = object;
      taken = ap (λ b. allowed b new) (told-any name (telling kernel) space.object.events kernel.calls agree.untold (changes agree ∙ is));
      agree = agree-noted (not (is_changing kernel name)) ChangingLonger space kernel name object agree;
    }
