-- A value that is found was left: in an order that explains a history, some operation before the reader left it, and none between them left
-- anything else.
use Rattle.std.proofs.Common.{◌≡◌, ◌≢◌, ◌⊎◌, ℕ, zero, suc, ◌<◌, ◌≤◌, Option, Some, None, unwrap_or, List, [], ◌∷◌, ◌++◌, Bool, true, false, cond, eqb, refl, sym, ap, ◌∙◌, subst, inl, inr, arith, length, get_or}
use Rattle.std.specs.List.{All, AllPairs, Contains}
use Rattle.std.specs.List.Sorted.{IsPermutation}
use Rattle.std.proofs.lemmas.Bool.{cases_lt}
use Rattle.std.proofs.lemmas.Bool.Decides.{eqb_tells}
use Rattle.std.proofs.lemmas.List.{get_or_default}
use Rattle.std.proofs.lemmas.List.Elements.{All-head, All-tail, Contains-append_left, Contains-append_right}
use Rattle.std.proofs.lemmas.List.Sorted.{All-permutation, Contains-permutation}
use Rattle.mig_base.specs.declared.command.Entry.{Entry}
use Rattle.mig_base.specs.Flat.{Memory, no_memory, after, IsRunFrom, memory_from}
use Rattle.history.specs.declared.operation.TheConstants.{NEVER}
use Rattle.history.specs.declared.operation.Clock.{Clock}
use Rattle.history.specs.declared.operation.Clock.TheVariants.{Counter, Time}
use Rattle.history.specs.declared.operation.Operation.{Operation}
use Rattle.history.specs.Histories.{entries, entries_of, MayPrecede, Explains, ticks, ticks_of, GaveTicks}
use Rattle.history.specs.Contradictions.{found_at, left_at, keeps_whole, Before, Disturbs, CannotGive, HasNoSource, IsAt, IsBackward, Overlaps, ShareTick}
use Rattle.history.proofs.Locations.{Shows, now_at, IsPlace, step_at, place_of}

-- Runs in two parts

run_parts : (m : Memory) (xs ys : List Entry) → IsRunFrom m (xs ++ ys) → IsRunFrom m xs × IsRunFrom (memory_from m xs) ys
run_parts m [] ys run = (tt, run)
run_parts m (x ∷ xs) ys run = let rest = run_parts (after m x.command) xs ys run.1 in ((run.0, rest.0), rest.1)

-- each value that an operation found at the place was there
pub Traces : ℕ → Option ℕ → List Operation → Type 0
Traces place before [] = Unit {0}
Traces place before (x ∷ xs) = ((value : ℕ) → found_at place x.action ≡ Some value → before ≡ Some value) × Traces place (now_at place x.action before) xs

traces : (m : Memory) (place size : ℕ) (before : Option ℕ) (order : List Operation) → IsPlace place size → All (λ x. keeps_whole place size x.action ≡ true) order → Shows m place size before → IsRunFrom m (entries order) → Traces place before order
unfolding Traces
traces m place size before [] is whole shows run = tt
traces m place size before (x ∷ xs) is whole shows run =
    let parts = run_parts m (entries_of x.thread x.action) (entries xs) run in
    let step = step_at m place size x.thread before x.action is (All-head (λ y. keeps_whole place size y.action ≡ true) x xs whole) shows parts.0 in
    (step.finds, traces (memory_from m (entries_of x.thread x.action)) place size (now_at place x.action before) xs is (All-tail (λ y. keeps_whole place size y.action ≡ true) x xs whole) step.shows parts.1)

-- Who left a value

-- the operation at `from` left the value that is there at `at`
pub record Left (place : ℕ) (order : List Operation) (d : Operation) (at value : ℕ) : Type 0 where
  pub from : ℕ
  pub before : from < at
  pub leaves : left_at place (get_or order from d).action ≡ Some (Some value)
  pub untouched : (q : ℕ) → from < q → q < at → left_at place (get_or order q d).action ≡ None

later_none : (place : ℕ) (x : Operation) (xs : List Operation) (d : Operation) (from at : ℕ) → ((q : ℕ) → from < q → q < at → left_at place (get_or xs q d).action ≡ None) → (q : ℕ) → suc from < q → q < suc at → left_at place (get_or (x ∷ xs) q d).action ≡ None
later_none place x xs d from at h zero l m = absurd (omega arith)
later_none place x xs d from at h (suc q) l m = h q (omega arith) (omega arith)

first_none : (place : ℕ) (x : Operation) (xs : List Operation) (d : Operation) (at : ℕ) → ((q : ℕ) → q < at → left_at place (get_or xs q d).action ≡ None) → (q : ℕ) → 0 < q → q < suc at → left_at place (get_or (x ∷ xs) q d).action ≡ None
first_none place x xs d at h zero l m = absurd (omega arith)
first_none place x xs d at h (suc q) l m = h q (omega arith)

all_none : (place : ℕ) (x : Operation) (xs : List Operation) (d : Operation) (at : ℕ) → left_at place x.action ≡ None → ((q : ℕ) → q < at → left_at place (get_or xs q d).action ≡ None) → (q : ℕ) → q < suc at → left_at place (get_or (x ∷ xs) q d).action ≡ None
all_none place x xs d at here h zero m = here
all_none place x xs d at here h (suc q) m = h q (omega arith)

-- the value was left by an operation, or it was there at first and none has left anything
Given : ℕ → Option ℕ → List Operation → Operation → ℕ → ℕ → Type 0
Given place before order d at value = Left place order d at value ⊎ ((before ≡ Some value) × ((q : ℕ) → q < at → left_at place (get_or order q d).action ≡ None))

given_first : (place : ℕ) (before : Option ℕ) (x : Operation) (xs : List Operation) (d : Operation) (at value : ℕ) (left : Option (Option ℕ)) → left_at place x.action ≡ left → unwrap_or left before ≡ Some value
    → ((q : ℕ) → q < at → left_at place (get_or xs q d).action ≡ None) → Given place before (x ∷ xs) d (suc at) value
unfolding Given
given_first place before x xs d at value None e is none = inr (is, all_none place x xs d at e none)
given_first place before x xs d at value (Some now) e is none = inl (record { from = 0; before = omega arith; leaves = e ∙ ap (λ (n : Option ℕ). Some n) is; untouched = first_none place x xs d at none })

given : (place : ℕ) (before : Option ℕ) (order : List Operation) (d : Operation) (at value : ℕ) → Traces place before order → at < length order → found_at place (get_or order at d).action ≡ Some value → Given place before order d at value
unfolding Traces Given
given place before [] d at value trace inside found = absurd (omega arith)
given place before (x ∷ xs) d zero value trace inside found = inr (trace.0 value found, λ q l. absurd (omega arith))
given place before (x ∷ xs) d (suc at) value trace inside found = elim (given place (now_at place x.action before) xs d at value trace.1 (omega arith) found) [
  | inl left ↦ inl (record { from = suc left.from; before = omega (arith, left.before); leaves = left.leaves; untouched = later_none place x xs d left.from at left.untouched })
  | inr first ↦ given_first place before x xs d at value (left_at place x.action) refl first.0 first.1
]

-- where nothing is mapped at first, an operation left what is found
pub left_by : (place size : ℕ) (order : List Operation) (d : Operation) (at value : ℕ) → IsPlace place size → All (λ x. keeps_whole place size x.action ≡ true) order → IsRunFrom no_memory (entries order) → at < length order
    → found_at place (get_or order at d).action ≡ Some value → Left place order d at value
unfolding Given
left_by place size order d at value is whole run inside found = elim (given place None order d at value (traces no_memory place size None order is whole refl run) inside found) [
  | inl left ↦ left
  | inr first ↦ let none : None ≡ Some value = first.0 in cc
]

-- The order and the intervals

-- an operation of the history is at some index of the order
pub record Placed (order : List Operation) (d x : Operation) : Type 0 where
  pub at : ℕ
  pub inside : at < length order
  pub is : get_or order at d ≡ x

pub place_in : (history order : List Operation) (d x : Operation) → IsPermutation history order → Contains history x → Placed order d x
place_in history order d x same there =
    let it = Contains-permutation history order x same there in
    record { at = it.0; inside = it.1; is = get_or_default order it.0 d x it.1 ∙ it.2 }

-- of two operations of which the first is before the second, the second may not precede the first
not_both : (x y : Operation) → Before x y → MayPrecede y x → ⊥
not_both x y before may = elim before [
  | inl ended ↦ let began = may.began in omega (arith, began, ended)
  | inr made ↦
      let back = may.one_thread (sym made.0) in
      let one = made.1.lines back.ended in
      let other = back.lines made.1.ended in
      omega (arith, one, other)
]

not_itself : (x : Operation) → x.begin ≤ x.end → Before x x → ⊥
not_itself x timed before = elim before [
  | inl ended ↦ omega (arith, timed, ended)
  | inr made ↦ let less = made.1.lines made.1.ended in omega (arith, less)
]

-- one that is before another comes first
pub comes_first : (history order : List Operation) (d x y : Operation) (i j : ℕ) → Explains history order → i < length order → j < length order → get_or order i d ≡ x → get_or order j d ≡ y → Before x y → i < j
comes_first history order d x y i j explains in_i in_j is_x is_y before = elim (cases_lt i j) [
  | inl less ↦ less
  | inr least ↦ elim (cases_lt j i) [
    | inl less ↦
        let may = explains.agrees j i d less in_i in
        let turned : MayPrecede y x = subst (λ (a : Operation). MayPrecede a x) is_y (subst (λ (b : Operation). MayPrecede (get_or order j d) b) is_x may) in
        absurd (not_both x y before turned)
    | inr most ↦
        let same : i ≡ j = omega arith in
        let timed : x.begin ≤ x.end = subst (λ (a : Operation). a.begin ≤ a.end) is_x (explains.timed i d in_i) in
        let one : x ≡ y = sym is_x ∙ ap (λ n. get_or order n d) same ∙ is_y in
        absurd (not_itself x timed (subst (λ (b : Operation). Before x b) (sym one) before))
  ]
]

-- A value without a source

-- an operation that disturbs a value is not between the one that left it and one that found it
undisturbed : (place size : ℕ) (order : List Operation) (d : Operation) (at value mid : ℕ) → IsPlace place size → All (λ x. keeps_whole place size x.action ≡ true) order → IsRunFrom no_memory (entries order) → at < length order
    → (left : Left place order d at value) → left.from < mid → mid < at → Disturbs place value (get_or order mid d) → ⊥
undisturbed place size order d at value mid is whole run inside left after_it before_it disturbs = elim disturbs [
  | inl leaves ↦ leaves (left.untouched mid after_it before_it)
  | inr finds ↦
      let other = left_by place size order d mid finds.0 is whole run (omega arith) finds.1 in
      elim (cases_lt left.from other.from) [
        | inl less ↦
            let none : left_at place (get_or order other.from d).action ≡ None = left.untouched other.from less (omega (arith, other.before)) in
            let some = other.leaves in
            cc
        | inr most ↦ elim (cases_lt other.from left.from) [
          | inl less ↦
              let none : left_at place (get_or order left.from d).action ≡ None = other.untouched left.from less after_it in
              let some = left.leaves in
              cc
          | inr least ↦
              let same : other.from ≡ left.from = omega arith in
              let both : Some (Some finds.0) ≡ Some (Some value) = sym other.leaves ∙ ap (λ n. left_at place (get_or order n d).action) same ∙ left.leaves in
              finds.2 (cc)
        ]
      ]
]

-- the source of what a reader found is one that could not have given it
pub no_source : (history order : List Operation) (place size value : ℕ) (reader : Operation) (between : Option Operation) → HasNoSource history place size value reader between → Explains history order → ⊥
no_source history order place size value reader None wrong explains =
    let is = place_of place size wrong.location.aligned in
    let whole = All-permutation (λ x. keeps_whole place size x.action ≡ true) history order explains.all wrong.location.whole in
    let at = place_in history order reader reader explains.all wrong.reads in
    let found : found_at place (get_or order at.at reader).action ≡ Some value = ap (λ (x : Operation). found_at place x.action) at.is ∙ wrong.found in
    let left = left_by place size order reader at.at value is whole explains.flat at.inside found in
    let sources = All-permutation (λ x. left_at place x.action ≡ Some (Some value) → CannotGive None reader x) history order explains.all wrong.sources in
    let within : left.from < length order = omega (arith, left.before, at.inside) in
    let after_it : Before reader (get_or order left.from reader) = sources left.from reader within left.leaves in
    let turned = comes_first history order reader reader (get_or order left.from reader) at.at left.from explains at.inside within at.is refl after_it in
    absurd (omega (arith, left.before))
no_source history order place size value reader (Some between) wrong explains =
    let is = place_of place size wrong.location.aligned in
    let whole = All-permutation (λ x. keeps_whole place size x.action ≡ true) history order explains.all wrong.location.whole in
    let at = place_in history order reader reader explains.all wrong.reads in
    let mid = place_in history order reader between explains.all wrong.disturbed.0 in
    let found : found_at place (get_or order at.at reader).action ≡ Some value = ap (λ (x : Operation). found_at place x.action) at.is ∙ wrong.found in
    let left = left_by place size order reader at.at value is whole explains.flat at.inside found in
    let sources = All-permutation (λ x. left_at place x.action ≡ Some (Some value) → CannotGive (Some between) reader x) history order explains.all wrong.sources in
    let within : left.from < length order = omega (arith, left.before, at.inside) in
    elim (sources left.from reader within left.leaves) [
      | inl after_it ↦
          let turned = comes_first history order reader reader (get_or order left.from reader) at.at left.from explains at.inside within at.is refl after_it in
          absurd (omega (arith, left.before))
      | inr before_it ↦
          let first = comes_first history order reader (get_or order left.from reader) between left.from mid.at explains within mid.inside refl mid.is before_it in
          let second = comes_first history order reader between reader mid.at at.at explains mid.inside at.inside mid.is at.is wrong.disturbed.1 in
          undisturbed place size order reader at.at value mid.at is whole explains.flat at.inside left first second (subst (λ (x : Operation). Disturbs place value x) (sym mid.is) wrong.disturbed.2)
    ]

-- Clocks

timed_in : (history order : List Operation) (x : Operation) → Contains history x → Explains history order → x.begin ≤ x.end
timed_in history order x there explains =
    let at = place_in history order x x explains.all there in
    subst (λ (a : Operation). a.begin ≤ a.end) at.is (explains.timed at.at x at.inside)

later_apart : (xs ys : List ℕ) → AllPairs (λ x y. x ≢ y) (xs ++ ys) → AllPairs (λ x y. x ≢ y) ys
later_apart [] ys h = h
later_apart (x ∷ xs) ys h = later_apart xs ys (λ i j d l m. h (suc i) (suc j) d (omega arith) (omega arith))

-- two operations that a counter has given one tick

apart_parts : (xs ys : List ℕ) (tick : ℕ) → Contains xs tick → Contains ys tick → AllPairs (λ x y. x ≢ y) (xs ++ ys) → ⊥
apart_parts [] ys tick one other h = absurd (omega (arith, one.1))
apart_parts (x ∷ xs) ys tick (zero, inside, is) other h =
    let more = Contains-append_right xs ys tick other in
    h 0 (suc more.0) tick (omega arith) (omega (arith, more.1)) (is ∙ sym more.2)
apart_parts (x ∷ xs) ys tick (suc k, inside, is) other h = apart_parts xs ys tick (k, omega arith, is) other (later_apart (x ∷ []) (xs ++ ys) h)

tick_there : (history : List Operation) (i tick : ℕ) (x : Operation) → IsAt history i x → Contains (ticks_of x) tick → Contains (ticks history) tick
tick_there [] i tick x at has = absurd (omega (arith, at.0))
tick_there (y ∷ ys) zero tick x at has = Contains-append_left (ticks_of y) (ticks ys) tick (subst (λ (z : Operation). Contains (ticks_of z) tick) (sym at.1) has)
tick_there (y ∷ ys) (suc i) tick x at has = Contains-append_right (ticks_of y) (ticks ys) tick (tick_there ys i tick x (omega (arith, at.0), at.1) has)

shared_in_turn : (history : List Operation) (i j tick : ℕ) (x y : Operation) → i < j → IsAt history i x → IsAt history j y → Contains (ticks_of x) tick → Contains (ticks_of y) tick → AllPairs (λ a b. a ≢ b) (ticks history) → ⊥
shared_in_turn [] i j tick x y less at_x at_y has_x has_y h = absurd (omega (arith, at_x.0))
shared_in_turn (z ∷ zs) zero zero tick x y less at_x at_y has_x has_y h = absurd (omega arith)
shared_in_turn (z ∷ zs) zero (suc j) tick x y less at_x at_y has_x has_y h =
    apart_parts (ticks_of z) (ticks zs) tick (subst (λ (a : Operation). Contains (ticks_of a) tick) (sym at_x.1) has_x) (tick_there zs j tick y (omega (arith, at_y.0), at_y.1) has_y) h
shared_in_turn (z ∷ zs) (suc i) zero tick x y less at_x at_y has_x has_y h = absurd (omega arith)
shared_in_turn (z ∷ zs) (suc i) (suc j) tick x y less at_x at_y has_x has_y h =
    shared_in_turn zs i j tick x y (omega arith) (omega (arith, at_x.0), at_x.1) (omega (arith, at_y.0), at_y.1) has_x has_y (later_apart (ticks_of z) (ticks zs) h)

pub never_shared : (clock : Clock) (history : List Operation) (i j : ℕ) (x y : Operation) → i ≢ j → IsAt history i x → IsAt history j y → ShareTick clock x y → GaveTicks clock history → ⊥
never_shared Counter history i j x y apart at_x at_y shared gave = elim (cases_lt i j) [
  | inl less ↦ shared_in_turn history i j shared.0 x y less at_x at_y shared.1 shared.2 gave
  | inr least ↦ shared_in_turn history j i shared.0 y x (omega (arith, least, apart)) at_y at_x shared.2 shared.1 gave
]
never_shared Time history i j x y apart at_x at_y shared gave = shared

first_twice : (begin end : ℕ) (is_never : Bool) (rest : List ℕ) → is_never ≡ false → begin ≡ end → AllPairs (λ x y. x ≢ y) (begin ∷ (cond is_never [] (end ∷ []) ++ rest)) → ⊥
first_twice begin end true rest e same h = cc
first_twice begin end false rest e same h = h 0 1 0 (omega arith) (omega arith) same

other_number : (a b : ℕ) → a ≢ b → eqb a b ≡ false
other_number a b h = elim (eqb_tells a b) [ inl same ↦ absurd (h same.1) | inr other ↦ other.0 ]

-- a counter has not given one tick for the begin and the end of an operation
given_twice : (history : List Operation) (x : Operation) (k : ℕ) → k < length history → get_or history k x ≡ x → x.begin ≡ x.end → x.end ≢ NEVER → AllPairs (λ x y. x ≢ y) (ticks history) → ⊥
given_twice [] x k inside is same known h = omega arith
given_twice (y ∷ ys) x zero inside is same known h =
    first_twice y.begin y.end (eqb y.end NEVER) (ticks ys) (other_number y.end NEVER (subst (λ (a : Operation). a.end ≢ NEVER) (sym is) known)) (subst (λ (a : Operation). a.begin ≡ a.end) (sym is) same) h
given_twice (y ∷ ys) x (suc k) inside is same known h = given_twice ys x k (omega arith) is same known (later_apart (ticks_of y) (ticks ys) h)

pub never_backward : (clock : Clock) (history order : List Operation) (x : Operation) → Contains history x → IsBackward clock x → GaveTicks clock history → Explains history order → ⊥
never_backward Counter history order x there back gave explains =
    let timed = timed_in history order x there explains in
    given_twice history x there.0 there.1 there.2 (omega (arith, timed, back.0)) back.1 gave
never_backward Time history order x there back gave explains = let timed = timed_in history order x there explains in omega (arith, timed, back)

pub never_overlap : (history order : List Operation) (x y : Operation) → Contains history x → Contains history y → Overlaps x y → Explains history order → ⊥
never_overlap history order x y x_there y_there wrong explains =
    let first_open = wrong.first_open in
    let second_open = wrong.second_open in
    let a = place_in history order x x explains.all x_there in
    let b = place_in history order x y explains.all y_there in
    elim (cases_lt a.at b.at) [
      | inl less ↦
          let may = explains.agrees a.at b.at x less b.inside in
          let after : MayPrecede x y = subst (λ (p : Operation). MayPrecede p y) a.is (subst (λ (q : Operation). MayPrecede (get_or order a.at x) q) b.is may) in
          let ended = (after.one_thread wrong.one_thread).ended in
          absurd (omega (arith, ended, first_open))
      | inr least ↦ elim (cases_lt b.at a.at) [
        | inl less ↦
            let may = explains.agrees b.at a.at x less a.inside in
            let after : MayPrecede y x = subst (λ (p : Operation). MayPrecede p x) b.is (subst (λ (q : Operation). MayPrecede (get_or order b.at x) q) a.is may) in
            let ended = (after.one_thread (sym wrong.one_thread)).ended in
            absurd (omega (arith, ended, second_open))
        | inr most ↦
            let one : a.at ≡ b.at = omega arith in
            wrong.apart (ap (λ (p : Operation). p.line) (sym a.is ∙ ap (λ n. get_or order n x) one ∙ b.is))
      ]
    ]
