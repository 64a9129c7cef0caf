-- What one operation left at a location is there until the last operation that found it. So two exchanges cannot both have found it, and
-- the values of a location are there one after the other.
use Rattle.std.proofs.Common.{◌≡◌, ◌≢◌, ◌⊎◌, ℕ, ◌<◌, ◌≤◌, Option, Some, None, IfSome, List, true, refl, sym, ap, ◌∙◌, subst, inl, inr, arith, length, get_or}
use Rattle.std.specs.List.{All, Contains}
use Rattle.std.proofs.lemmas.Bool.{cases_lt}
use Rattle.std.proofs.lemmas.List.Sorted.{All-permutation}
use Rattle.history.specs.declared.operation.Operation.{Operation}
use Rattle.history.specs.Histories.{MayPrecede, Explains}
use Rattle.history.specs.Contradictions.{found_at, left_at, keeps_whole, Before, CannotGive, IsLocation, IsOnly, IsReader, Sees, IsFork, LeftFirst}
use Rattle.history.proofs.Locations.{IsPlace, place_of}
use Rattle.history.proofs.Sources.{place_in, comes_first, Left, left_by}

-- one operation has one place in an order
not_again : (history order : List Operation) (d x : Operation) (p q : ℕ) → Explains history order → p < length order → q < length order → get_or order p d ≡ x → get_or order q d ≡ x → p < q → ⊥
not_again history order d x p q explains in_p in_q is_p is_q less =
    let may = explains.agrees p q d less in_q in
    let after : MayPrecede x x = subst (λ (a : Operation). MayPrecede a x) is_p (subst (λ (b : Operation). MayPrecede (get_or order p d) b) is_q may) in
    let made = after.one_thread refl in
    let less_line : x.line < x.line = made.lines made.ended in
    absurd (omega (arith, less_line))

one_place : (history order : List Operation) (d x : Operation) (p q : ℕ) → Explains history order → p < length order → q < length order → get_or order p d ≡ x → get_or order q d ≡ x → p ≡ q
one_place history order d x p q explains in_p in_q is_p is_q = elim (cases_lt p q) [
  | inl less ↦ absurd (not_again history order d x p q explains in_p in_q is_p is_q less)
  | inr least ↦ elim (cases_lt q p) [
    | inl less ↦ absurd (not_again history order d x q p explains in_q in_p is_q is_p less)
    | inr most ↦ omega arith
  ]
]

-- nothing was left at the location after the operation at `from` and before the one at `at`
record Stays (place : ℕ) (order : List Operation) (d : Operation) (from at : ℕ) : Type 0 where
  reached : from ≤ at
  untouched : (q : ℕ) → from < q → q < at → left_at place (get_or order q d).action ≡ None

-- the operation that left what a reader found
gave : (history order : List Operation) (place : ℕ) (source reader d : Operation) (between : Option Operation) (value i j : ℕ) → Explains history order → i < length order → j < length order → get_or order i d ≡ source → get_or order j d ≡ reader
    → left_at place source.action ≡ Some (Some value) → (came : IfSome between (λ it. (it ≡ source) × Before it reader)) → (left : Left place order d j value) → IsOnly (Some source) (get_or order left.from d) ⊎ CannotGive between reader (get_or order left.from d) → left.from ≡ i
gave history order place source reader d None value i j explains in_i in_j is_i is_j leaves came left who = elim who [
  | inl one ↦ one_place history order d source left.from i explains (omega (arith, left.before)) in_i one is_i
  | inr late ↦
      let turned = comes_first history order d reader (get_or order left.from d) j left.from explains in_j (omega (arith, left.before)) is_j refl late in
      absurd (omega (arith, left.before))
]
gave history order place source reader d (Some between) value i j explains in_i in_j is_i is_j leaves came left who = elim who [
  | inl one ↦ one_place history order d source left.from i explains (omega (arith, left.before)) in_i one is_i
  | inr other ↦ elim other [
    | inl late ↦
        let turned = comes_first history order d reader (get_or order left.from d) j left.from explains in_j (omega (arith, left.before)) is_j refl late in
        absurd (omega (arith, left.before))
    | inr early ↦
        let first = comes_first history order d (get_or order left.from d) between left.from i explains (omega (arith, left.before)) in_i refl (is_i ∙ sym came.0) early in
        let second = comes_first history order d between reader i j explains in_i in_j (is_i ∙ sym came.0) is_j came.1 in
        let none : left_at place (get_or order i d).action ≡ None = left.untouched i first second in
        let some : left_at place (get_or order i d).action ≡ Some (Some value) = ap (λ (x : Operation). left_at place x.action) is_i ∙ leaves in
        cc
  ]
]

record Read (place : ℕ) (order : List Operation) (d : Operation) (i j : ℕ) : Type 0 where
  before : i < j
  untouched : (q : ℕ) → i < q → q < j → left_at place (get_or order q d).action ≡ None

read : (history order : List Operation) (place size : ℕ) (source reader d : Operation) (i j : ℕ) → Explains history order → IsPlace place size → All (λ x. keeps_whole place size x.action ≡ true) order → i < length order → j < length order
    → get_or order i d ≡ source → get_or order j d ≡ reader → IsReader history place source reader → Read place order d i j
read history order place size source reader d i j explains is whole in_i in_j is_i is_j it =
    let left = left_by place size order d j it.value is whole explains.flat in_j (ap (λ (x : Operation). found_at place x.action) is_j ∙ it.found) in
    let sources = All-permutation (λ x. left_at place x.action ≡ Some (Some it.value) → IsOnly (Some source) x ⊎ CannotGive it.between reader x) history order explains.all it.sources in
    let within : left.from < length order = omega (arith, left.before, in_j) in
    let same : left.from ≡ i = gave history order place source reader d it.between it.value i j explains in_i in_j is_i is_j it.left it.came left (sources left.from d within left.leaves) in
    record {
      before = omega (arith, left.before, same);
      untouched = λ q l m. left.untouched q (omega (arith, l, same)) m;
    }

stays : (history order : List Operation) (place size : ℕ) (source member d : Operation) (i j : ℕ) → Explains history order → IsPlace place size → All (λ x. keeps_whole place size x.action ≡ true) order → i < length order → j < length order
    → get_or order i d ≡ source → get_or order j d ≡ member → Sees history place source member → Stays place order d i j
stays history order place size source member d i j explains is whole in_i in_j is_i is_j it = elim it [
  | inl same ↦
      let one : i ≡ j = one_place history order d source i j explains in_i in_j is_i (is_j ∙ same) in
      record { reached = omega (arith, one); untouched = λ q l m. absurd (omega (arith, one, l, m)) }
  | inr reads ↦
      let it = read history order place size source member d i j explains is whole in_i in_j is_i is_j reads in
      record { reached = omega (arith, it.before); untouched = it.untouched }
]

-- Two exchanges

fork_in_order : (place : ℕ) (order : List Operation) (d : Operation) (i a b : ℕ) → Read place order d i a → Read place order d i b → left_at place (get_or order a d).action ≢ None → a < b → ⊥
fork_in_order place order d i a b first second leaves less = leaves (second.untouched a first.before less)

pub fork : (history order : List Operation) (place size : ℕ) (source first second : Operation) → IsFork history place size source first second → Explains history order → ⊥
fork history order place size source first second wrong explains =
    let is = place_of place size wrong.location.aligned in
    let whole = All-permutation (λ x. keeps_whole place size x.action ≡ true) history order explains.all wrong.location.whole in
    let from = place_in history order source source explains.all wrong.source_there in
    let a = place_in history order source first explains.all wrong.first_there in
    let b = place_in history order source second explains.all wrong.second_there in
    let one = read history order place size source first source from.at a.at explains is whole from.inside a.inside from.is a.is wrong.first_reads in
    let other = read history order place size source second source from.at b.at explains is whole from.inside b.inside from.is b.is wrong.second_reads in
    elim (cases_lt a.at b.at) [
      | inl less ↦ fork_in_order place order source from.at a.at b.at one other (subst (λ (x : Operation). left_at place x.action ≢ None) (sym a.is) wrong.first_leaves) less
      | inr least ↦ elim (cases_lt b.at a.at) [
        | inl less ↦ fork_in_order place order source from.at b.at a.at other one (subst (λ (x : Operation). left_at place x.action ≢ None) (sym b.is) wrong.second_leaves) less
        | inr most ↦
            let same : a.at ≡ b.at = omega arith in
            wrong.apart (ap (λ (p : Operation). p.line) (sym a.is ∙ ap (λ n. get_or order n source) same ∙ b.is))
      ]
    ]

-- One value after the other

-- in each order that explains a history one operation comes before another
abbrev pub ComesFirst : List Operation → Operation → Operation → Type 0
ComesFirst history first second = (order : List Operation) → Explains history order → (i j : ℕ) (d : Operation) → i < length order → j < length order → get_or order i d ≡ first → get_or order j d ≡ second → i < j

pub read_first : (history : List Operation) (place size : ℕ) (source next : Operation) → IsLocation history place size → IsReader history place source next → ComesFirst history source next
read_first history place size source next location reads order explains i j d in_i in_j is_i is_j =
    (read history order place size source next d i j explains (place_of place size location.aligned) (All-permutation (λ x. keeps_whole place size x.action ≡ true) history order explains.all location.whole) in_i in_j is_i is_j reads).before

pub left_first : (history : List Operation) (place size : ℕ) (source early next late : Operation) → IsLocation history place size → Contains history early → Contains history late → LeftFirst history place source early next late → ComesFirst history source next
left_first history place size source early next late location early_there late_there it order explains i j d in_i in_j is_i is_j =
    let is = place_of place size location.aligned in
    let whole = All-permutation (λ x. keeps_whole place size x.action ≡ true) history order explains.all location.whole in
    let a = place_in history order d early explains.all early_there in
    let b = place_in history order d late explains.all late_there in
    let one = stays history order place size source early d i a.at explains is whole in_i a.inside is_i a.is it.early_sees in
    let other = stays history order place size next late d j b.at explains is whole in_j b.inside is_j b.is it.late_sees in
    let before = comes_first history order d early late a.at b.at explains a.inside b.inside a.is b.is it.ended in
    elim (cases_lt i j) [
      | inl less ↦ less
      | inr least ↦ elim (cases_lt j i) [
        | inl less ↦ absurd (subst (λ (x : Operation). left_at place x.action ≢ None) (sym is_i) it.leaves (other.untouched i less (omega (arith, one.reached, before))))
        | inr most ↦
            let same : i ≡ j = omega arith in
            absurd (it.apart (ap (λ (p : Operation). p.line) (sym is_i ∙ ap (λ n. get_or order n d) same ∙ is_j)))
      ]
    ]

pub then_first : (history : List Operation) (x y z : Operation) → Contains history y → ComesFirst history x y → ComesFirst history y z → ComesFirst history x z
then_first history x y z there one other order explains i j d in_i in_j is_i is_j =
    let at = place_in history order d y explains.all there in
    let first = one order explains i at.at d in_i at.inside is_i at.is in
    let second = other order explains at.at j d at.inside in_j at.is is_j in
    omega (arith, first, second)

pub never_first : (history order : List Operation) (x : Operation) → Contains history x → ComesFirst history x x → Explains history order → ⊥
never_first history order x there turned explains =
    let at = place_in history order x x explains.all there in
    absurd (omega (arith, turned order explains at.at at.at x at.inside at.inside at.is at.is))

-- where no operation is the only source, none can have given the value
pub without_source : (history : List Operation) (place value : ℕ) (reader : Operation) (between : Option Operation) → All (λ source. left_at place source.action ≡ Some (Some value) → IsOnly None source ⊎ CannotGive between reader source) history
    → All (λ source. left_at place source.action ≡ Some (Some value) → CannotGive between reader source) history
without_source history place value reader between h k d l leaves = elim (h k d l leaves) [ inl none ↦ absurd none | inr cannot ↦ cannot ]
