-- A call that has begun, and has had no effect yet, changes nothing for the steps of others.
use Rattle.std.proofs.lemmas.Bool.{eqb-true, or_from}
use Rattle.std.proofs.lemmas.List.Elements.{filter-append, filter_map-append}
use Rattle.std.proofs.lemmas.List.Folds.{list_any-append}
use Rattle.std.proofs.lemmas.List.{append_assoc}
use Rattle.std.proofs.lemmas.Option.{none-some, same_Some}
use Rattle.std.proofs.Common.{◌≡◌, ℕ, ◌-◌, ◌||◌, Bool, true, false, not, cond, eqb, Option, Some, None, List, [], ◌∷◌, ◌++◌, refl, sym, ap, subst, ◌∙◌}
use Rattle.std.specs.Prelude.{is_some}
use Rattle.std.specs.List.{list_any}
use Rattle.foundation.proofs.TestLemmas.{eqb-self, or_first, or_second}
use Rattle.kernel_rules.specs.declared.run.Made.{Made}
use Rattle.kernel_rules.specs.Runs.{Begun, Event, IsStep, Leads, Outcome, Step, World, all_left, begins, begun_of, effect_by, ends, line_of, lines_of, next_of, none_left, protect_of, protects_first, refuses, starts, takes, takes_next, without_begun, world_with}
use Rattle.kernel_rules.specs.State.{Kernel}
use Rattle.kernel_laws.proofs.EventReads.{all-kept, none-filter, turned}
use Rattle.kernel_laws.proofs.LogRuns.{leads-append}

-- whether a call has this number
abbrev pub has_key : ℕ → Begun → Bool
has_key key one = eqb one.made.key key

-- whether a line begins a call of this number
abbrev pub begins_call : ℕ → Event → Bool
begins_call key (begins made) = eqb made.key key
begins_call key (ends other out) = false

-- a world of these calls
abbrev pub world_of : Kernel → List Begun → World
world_of kernel begun = record { kernel = kernel; begun = begun }

-- Calls by their numbers

pub none-of : (begun : List Begun) (key : ℕ) → list_any (has_key key) begun ≡ false → begun_of begun key ≡ None
none-of [] key none = refl
none-of (one ∷ begun) key none =
    ap (λ b. cond b (Some one) (begun_of begun key)) (or_first (has_key key one) (list_any (has_key key) begun) none) ∙ none-of begun key (or_second (has_key key one) (list_any (has_key key) begun) none)

begun-beside : (extra : Begun) (first rest : List Begun) (key : ℕ) → eqb extra.made.key key ≡ false → begun_of (first ++ extra ∷ rest) key ≡ begun_of (first ++ rest) key
begun-beside extra [] rest key apart = ap (λ b. cond b (Some extra) (begun_of rest key)) apart
begun-beside extra (one ∷ first) rest key apart = ap (λ o. cond (eqb one.made.key key) (Some one) o) (begun-beside extra first rest key apart)

without-beside : (extra : Begun) (first rest : List Begun) (key : ℕ) → eqb extra.made.key key ≡ false → without_begun (first ++ extra ∷ rest) key ≡ without_begun first key ++ extra ∷ without_begun rest key
without-beside extra first rest key apart =
    filter-append (λ (one : Begun). not (eqb one.made.key key)) first (extra ∷ rest)
    ∙ ap (λ b. without_begun first key ++ cond (not b) (extra ∷ without_begun rest key) (without_begun rest key)) apart

pub own-found : (extra : Begun) (first rest : List Begun) → list_any (has_key extra.made.key) first ≡ false → begun_of (first ++ extra ∷ rest) extra.made.key ≡ Some extra
own-found extra [] rest none = ap (λ b. cond b (Some extra) (begun_of rest extra.made.key)) (eqb-self extra.made.key)
own-found extra (one ∷ first) rest none =
    ap (λ b. cond b (Some one) (begun_of (first ++ extra ∷ rest) extra.made.key)) (or_first (has_key extra.made.key one) (list_any (has_key extra.made.key) first) none)
    ∙ own-found extra first rest (or_second (has_key extra.made.key one) (list_any (has_key extra.made.key) first) none)

pub own-without : (extra : Begun) (first rest : List Begun) → list_any (has_key extra.made.key) (first ++ rest) ≡ false → without_begun (first ++ extra ∷ rest) extra.made.key ≡ first ++ rest
own-without extra first rest none =
    let key = extra.made.key in
    let both = sym (list_any-append (has_key key) first rest) ∙ none in
    filter-append (λ (one : Begun). not (eqb one.made.key key)) first (extra ∷ rest)
    ∙ (λ i. all-kept (has_key key) first (or_first (list_any (has_key key) first) (list_any (has_key key) rest) both) i ++ cond (not (eqb-self key i)) (extra ∷ without_begun rest key) (without_begun rest key))
    ∙ ap (λ l. first ++ l) (all-kept (has_key key) rest (or_second (list_any (has_key key) first) (list_any (has_key key) rest) both))

-- one that is found is another one
other-found : (begun : List Begun) (mine key : ℕ) (one : Begun) (b : Bool) → eqb mine key ≡ b → list_any (has_key mine) begun ≡ false → begun_of begun key ≡ Some one → b ≡ false
other-found begun mine key one false is none found = refl
other-found begun mine key one true is none found = absurd (none-some one (sym (none-of begun mine none) ∙ ap (begun_of begun) (eqb-true mine key is) ∙ found))

-- of another number
same-key : (begun : List Begun) (mine key : ℕ) (one : Begun) → list_any (has_key mine) begun ≡ false → begun_of begun key ≡ Some one → eqb one.made.key mine ≡ false
same-key [] mine key one none found = absurd (none-some one found)
same-key (first ∷ begun) mine key one none found =
    by (eqb first.made.key key) (λ rest. same-key begun mine key one (or_second (has_key mine first) (list_any (has_key mine) begun) none) rest) found
  where
    by : (b : Bool) → (begun_of begun key ≡ Some one → eqb one.made.key mine ≡ false) → cond b (Some first) (begun_of begun key) ≡ Some one → eqb one.made.key mine ≡ false
    by true rest found = ap (λ (it : Begun). eqb it.made.key mine) (sym (same_Some first one found)) ∙ or_first (has_key mine first) (list_any (has_key mine) begun) none
    by false rest found = rest found

-- Steps

-- a step beside a call leads to a world beside it
pub record Beside (extra : Begun) (kernel : Kernel) (first rest : List Begun) (steps : List Step) (after : World) : Type 0 where
  pub before : List Begun
  pub later : List Begun
  pub is : after.begun ≡ before ++ later
  pub none : list_any (has_key extra.made.key) (before ++ later) ≡ false
  pub leads : Leads (world_of kernel (first ++ extra ∷ rest)) steps (world_of after.kernel (before ++ extra ∷ later))

one-step : {extra : Begun} {kernel : Kernel} {first rest : List Begun} (step : Step) (after : World) (before later : List Begun) → after.begun ≡ before ++ later → list_any (has_key extra.made.key) (before ++ later) ≡ false →
    IsStep (world_of kernel (first ++ extra ∷ rest)) step (world_of after.kernel (before ++ extra ∷ later)) → Beside extra kernel first rest (step ∷ []) after
one-step {extra = extra} step after before later is none step_is = record { before = before; later = later; is = is; none = none; leads = (world_of after.kernel (before ++ extra ∷ later), step_is, refl) }

-- what no line shows leaves the calls
ruled-beside : (kernel : Kernel) (begun more : List Begun) (rule : Option Kernel) (after : World) → world_with (world_of kernel begun) rule ≡ Some after → (after.begun ≡ begun) × (world_with (world_of kernel more) rule ≡ Some (world_of after.kernel more))
ruled-beside kernel begun more None after is = absurd (none-some after is)
ruled-beside kernel begun more (Some new) after is =
    let same = same_Some (world_of new begun) after is in
    (ap (λ (w : World). w.begun) (sym same), ap (λ (w : World). Some (world_of w.kernel more)) same)

ruled : {extra : Begun} {kernel : Kernel} {first rest : List Begun} (step : Step) (rule : Option Kernel) (after : World) → list_any (has_key extra.made.key) (first ++ rest) ≡ false → world_with (world_of kernel (first ++ rest)) rule ≡ Some after →
    (world_with (world_of kernel (first ++ extra ∷ rest)) rule ≡ Some (world_of after.kernel (first ++ extra ∷ rest)) → IsStep (world_of kernel (first ++ extra ∷ rest)) step (world_of after.kernel (first ++ extra ∷ rest))) → Beside extra kernel first rest (step ∷ []) after
ruled {extra = extra} {kernel = kernel} {first = first} {rest = rest} step rule after none is lifts =
    let both = ruled-beside kernel (first ++ rest) (first ++ extra ∷ rest) rule after is in
    one-step step after first rest both.0 none (lifts both.1)

-- a call begins
begins-beside : (extra : Begun) (kernel : Kernel) (first rest : List Begun) (new : Begun) (after : World) → list_any (has_key extra.made.key) (first ++ rest) ≡ false → eqb new.made.key extra.made.key ≡ false → begun_of (first ++ rest) new.made.key ≡ None → new.out ≡ None →
    after ≡ world_of kernel ((first ++ rest) ++ record { made = new.made; out = None; left = 0 } ∷ []) → Beside extra kernel first rest (Step.line (begins new.made) ∷ []) after
begins-beside extra kernel first rest new after none apart unbegun out is =
    let begun : Begun = record { made = new.made; out = None; left = 0 } in
    let key = extra.made.key in
    let whole = append_assoc first rest (begun ∷ []) in
    one-step (Step.line (begins new.made)) after first (rest ++ begun ∷ []) (ap (λ (w : World). w.begun) is ∙ whole)
    (sym (ap (list_any (has_key key)) whole) ∙ list_any-append (has_key key) (first ++ rest) (begun ∷ []) ∙ or_from (list_any (has_key key) (first ++ rest)) (eqb new.made.key key || false) none (or_from (eqb new.made.key key) false apart refl)) (
      begun-beside extra first rest new.made.key (turned new.made.key extra.made.key apart) ∙ unbegun,
      (λ i. world_of (is i).kernel (sym (append_assoc first (extra ∷ rest) (begun ∷ [])) i)),
    )

-- it ends
ends-beside : (extra : Begun) (kernel : Kernel) (first rest : List Begun) (key : ℕ) (out : Outcome) (after : World) → list_any (has_key extra.made.key) (first ++ rest) ≡ false → IsStep (world_of kernel (first ++ rest)) (Step.line (ends key out)) after →
    Beside extra kernel first rest (Step.line (ends key out) ∷ []) after
ends-beside extra kernel first rest key out after none (one, still, found, may, is, all, leads) =
    let mine = extra.made.key in
    let apart = other-found (first ++ rest) mine key one (eqb mine key) refl none found in
    let left = filter-append (λ (one : Begun). not (eqb one.made.key key)) first rest in
    one-step (Step.line (ends key out)) after (without_begun first key) (without_begun rest key) (ap (λ (w : World). w.begun) leads ∙ left)
    (sym (ap (list_any (has_key mine)) left) ∙ none-filter (λ (one : Begun). not (eqb one.made.key key)) (has_key mine) (first ++ rest) none)
    (one, still, begun-beside extra first rest key apart ∙ found, may, is, all, (λ i. world_of (leads i).kernel (sym (without-beside extra first rest key apart) i)))

-- it has this outcome from then on, and this many messages left, by a rule
changes-beside : (step : Step) (extra : Begun) (kernel : Kernel) (first rest : List Begun) (key : ℕ) (one : Begun) (out : Option Outcome) (left : ℕ) (rule : Option Kernel) (after : World) →
    list_any (has_key extra.made.key) (first ++ rest) ≡ false → begun_of (first ++ rest) key ≡ Some one → world_with (world_of kernel (without_begun (first ++ rest) key ++ record one { out = out; left = left } ∷ [])) rule ≡ Some after →
    ((to : World) → begun_of (first ++ extra ∷ rest) key ≡ Some one → world_with (world_of kernel (without_begun (first ++ extra ∷ rest) key ++ record one { out = out; left = left } ∷ [])) rule ≡ Some to →
    IsStep (world_of kernel (first ++ extra ∷ rest)) step to) → Beside extra kernel first rest (step ∷ []) after
changes-beside step extra kernel first rest key one out left None after none found is lifts = absurd (none-some after is)
changes-beside step extra kernel first rest key one out left (Some new) after none found is lifts =
    let mine = extra.made.key in
    let over : Begun = record one { out = out; left = left } in
    let apart = other-found (first ++ rest) mine key one (eqb mine key) refl none found in
    let keys = same-key (first ++ rest) mine key one none found in
    let same = same_Some (world_of new (without_begun (first ++ rest) key ++ over ∷ [])) after is in
    let test = λ (one : Begun). not (eqb one.made.key key) in
    let later = without_begun rest key ++ over ∷ [] in
    let parts : without_begun (first ++ rest) key ++ over ∷ [] ≡ without_begun first key ++ later = ap (λ l. l ++ over ∷ []) (filter-append test first rest) ∙ append_assoc (without_begun first key) (without_begun rest key) (over ∷ []) in
    let more : without_begun (first ++ extra ∷ rest) key ++ over ∷ [] ≡ without_begun first key ++ extra ∷ later =
    ap (λ l. l ++ over ∷ []) (without-beside extra first rest key apart) ∙ append_assoc (without_begun first key) (extra ∷ without_begun rest key) (over ∷ []) in
    one-step step after (without_begun first key) later (ap (λ (w : World). w.begun) (sym same) ∙ parts)
    (sym (ap (list_any (has_key mine)) parts) ∙ list_any-append (has_key mine) (without_begun (first ++ rest) key) (over ∷ [])
    ∙ or_from (list_any (has_key mine) (without_begun (first ++ rest) key)) (eqb one.made.key mine || false) (none-filter test (has_key mine) (first ++ rest) none) (or_from (eqb one.made.key mine) false keys refl))
    (lifts (world_of after.kernel (without_begun first key ++ extra ∷ later)) (begun-beside extra first rest key apart ∙ found)
    (ap (λ b. Some (world_of new b)) more ∙ ap (λ (w : World). Some (world_of w.kernel (without_begun first key ++ extra ∷ later))) same))

-- it takes effect, or is refused, or begins to take its messages, by a rule
affects-beside : (rule : Kernel → Made → Outcome → Option Kernel) (left : Outcome → ℕ) (step : Step) (extra : Begun) (kernel : Kernel) (first rest : List Begun) (key : ℕ) (out : Outcome) (after : World) (found : Option Begun) →
    ((from to : World) → effect_by rule left from (begun_of from.begun key) key out ≡ Some to → IsStep from step to) → list_any (has_key extra.made.key) (first ++ rest) ≡ false → begun_of (first ++ rest) key ≡ found →
    effect_by rule left (world_of kernel (first ++ rest)) found key out ≡ Some after → Beside extra kernel first rest (step ∷ []) after
affects-beside rule left step extra kernel first rest key out after None lifts none found is = absurd (none-some after is)
affects-beside rule left step extra kernel first rest key out after (Some one) lifts none found is =
    by (is_some one.out) refl is
  where
    over : Begun
    over = record one { out = Some out; left = left out }

    by : (b : Bool) → is_some one.out ≡ b → cond b None (world_with (world_of kernel (without_begun (first ++ rest) key ++ over ∷ [])) (rule kernel one.made out)) ≡ Some after → Beside extra kernel first rest (step ∷ []) after
    by true done is = absurd (none-some after is)
    by false done is =
        let from = world_of kernel (first ++ extra ∷ rest) in
        changes-beside step extra kernel first rest key one (Some out) (left out) (rule kernel one.made out) after none found is
        (λ to there leads. lifts from to
        (ap (λ o. effect_by rule left from o key out) there ∙ (λ i. cond (done i) None (world_with (world_of kernel (without_begun (first ++ extra ∷ rest) key ++ over ∷ [])) (rule kernel one.made out))) ∙ leads))

-- it takes the next of its messages
takes-beside : (extra : Begun) (kernel : Kernel) (first rest : List Begun) (key : ℕ) (after : World) (found : Option Begun) → list_any (has_key extra.made.key) (first ++ rest) ≡ false → begun_of (first ++ rest) key ≡ found →
    next_of (world_of kernel (first ++ rest)) found key ≡ Some after → Beside extra kernel first rest (Step.read_takes key ∷ []) after
takes-beside extra kernel first rest key after None none found is = absurd (none-some after is)
takes-beside extra kernel first rest key after (Some one) none found is =
    by one.out found is
  where
    by : (out : Option Outcome) → begun_of (first ++ rest) key ≡ Some (record one { out = out }) → next_of (world_of kernel (first ++ rest)) (Some (record one { out = out })) key ≡ Some after → Beside extra kernel first rest (Step.read_takes key ∷ []) after
    by None found is = absurd (none-some after is)
    by (Some out) found is =
        changes-beside (Step.read_takes key) extra kernel first rest key (record one { out = Some out }) (Some out) (one.left - 1) (takes_next kernel one.made one.left out) after none found is
        (λ to there leads. ap (λ o. next_of (world_of kernel (first ++ extra ∷ rest)) o key) there ∙ leads)

-- it protects a page
protects-beside : (extra : Begun) (kernel : Kernel) (first rest : List Begun) (key page : ℕ) (after : World) (found : Option Begun) → list_any (has_key extra.made.key) (first ++ rest) ≡ false → begun_of (first ++ rest) key ≡ found →
    protect_of (world_of kernel (first ++ rest)) found page ≡ Some after → Beside extra kernel first rest (Step.call_protects key page ∷ []) after
protects-beside extra kernel first rest key page after None none found is = absurd (none-some after is)
protects-beside extra kernel first rest key page after (Some one) none found is =
    let mine = extra.made.key in
    let apart = other-found (first ++ rest) mine key one (eqb mine key) refl none found in
    ruled (Step.call_protects key page) (protects_first kernel one.made (is_some one.out) page) after none is
    (λ lifted. ap (λ o. protect_of (world_of kernel (first ++ extra ∷ rest)) o page) (begun-beside extra first rest key apart ∙ found) ∙ lifted)

step-beside : (extra : Begun) (kernel : Kernel) (first rest : List Begun) (step : Step) (after : World) → list_any (has_key extra.made.key) (first ++ rest) ≡ false → list_any (begins_call extra.made.key) (lines_of (step ∷ [])) ≡ false →
    IsStep (world_of kernel (first ++ rest)) step after → Beside extra kernel first rest (step ∷ []) after
step-beside extra kernel first rest (Step.line (begins made)) after none apart is =
    begins-beside extra kernel first rest (record { made = made; out = None; left = 0 }) after none (or_first (eqb made.key extra.made.key) false apart) is.0 refl is.1
step-beside extra kernel first rest (Step.line (ends key out)) after none apart is = ends-beside extra kernel first rest key out after none is
step-beside extra kernel first rest (Step.effect key out) after none apart is = affects-beside takes none_left (Step.effect key out) extra kernel first rest key out after (begun_of (first ++ rest) key) (λ from to h. h) none refl is
step-beside extra kernel first rest (Step.refusal key out) after none apart is = affects-beside refuses none_left (Step.refusal key out) extra kernel first rest key out after (begun_of (first ++ rest) key) (λ from to h. h) none refl is
step-beside extra kernel first rest (Step.thread_sees thread object page flags) after none apart is = ruled (Step.thread_sees thread object page flags) _ after none is (λ h. h)
step-beside extra kernel first rest (Step.thread_queues thread) after none apart is = ruled (Step.thread_queues thread) _ after none is (λ h. h)
step-beside extra kernel first rest (Step.thread_leaves thread) after none apart is = ruled (Step.thread_leaves thread) _ after none is (λ h. h)
step-beside extra kernel first rest (Step.call_tells key) after none apart is = ruled (Step.call_tells key) _ after none is (λ h. h)
step-beside extra kernel first rest (Step.call_clears key) after none apart is = ruled (Step.call_clears key) _ after none is (λ h. h)
step-beside extra kernel first rest (Step.page_drops object page) after none apart is = ruled (Step.page_drops object page) _ after none is (λ h. h)
step-beside extra kernel first rest (Step.call_protects key page) after none apart is = protects-beside extra kernel first rest key page after (begun_of (first ++ rest) key) none refl is
step-beside extra kernel first rest (Step.read_starts key out) after none apart is = affects-beside starts all_left (Step.read_starts key out) extra kernel first rest key out after (begun_of (first ++ rest) key) (λ from to h. h) none refl is
step-beside extra kernel first rest (Step.read_takes key) after none apart is = takes-beside extra kernel first rest key after (begun_of (first ++ rest) key) none refl is

-- Runs

pub leads-beside : (extra : Begun) (kernel : Kernel) (first rest : List Begun) (steps : List Step) (last : World) → list_any (has_key extra.made.key) (first ++ rest) ≡ false → list_any (begins_call extra.made.key) (lines_of steps) ≡ false →
    Leads (world_of kernel (first ++ rest)) steps last → Beside extra kernel first rest steps last
leads-beside extra kernel first rest [] last none apart is =
    record { before = first; later = rest; is = ap (λ (w : World). w.begun) (sym is); none = none; leads = ap (λ (w : World). world_of w.kernel (first ++ extra ∷ rest)) is }
leads-beside extra kernel first rest (step ∷ steps) last none apart (next, is, more) =
    let mine = extra.made.key in
    let both = sym (list_any-append (begins_call mine) (lines_of (step ∷ [])) (lines_of steps)) ∙ sym (ap (list_any (begins_call mine)) (filter_map-append line_of (step ∷ []) steps)) ∙ apart in
    let one = step-beside extra kernel first rest step next none (or_first (list_any (begins_call mine) (lines_of (step ∷ []))) (list_any (begins_call mine) (lines_of steps)) both) is in
    let rest_of = leads-beside extra next.kernel one.before one.later steps last one.none (or_second (list_any (begins_call mine) (lines_of (step ∷ []))) (list_any (begins_call mine) (lines_of steps)) both)
    (subst (λ begun. Leads (world_of next.kernel begun) steps last) one.is more) in
    record {
      before = rest_of.before;
      later = rest_of.later;
      is = rest_of.is;
      none = rest_of.none;
      leads = leads-append (world_of kernel (first ++ extra ∷ rest)) (world_of next.kernel (one.before ++ extra ∷ one.later)) (world_of last.kernel (rest_of.before ++ extra ∷ rest_of.later)) (step ∷ []) steps one.leads rest_of.leads;
    }
