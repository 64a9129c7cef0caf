-- Operations that are taken one after the other, and agree with their intervals and threads.
use Rattle.std.proofs.Common.{◌≡◌, ℕ, ◌+◌, ◌<◌, ◌≤◌, ◌⊎◌, List, inl, inr, sym, ap, ◌∙◌, subst, arith, length, get_or, set}
use Rattle.std.proofs.lemmas.Bool.Decides.{eqb_tells}
use Rattle.std.proofs.lemmas.List.{get_or_default, get_or-set_same, get_or-set_other}
use Rattle.history.specs.declared.operation.Action.TheVariants.{Load}
use Rattle.history.specs.declared.operation.Operation.{Operation}
use Rattle.history.specs.Histories.{IsMadeBefore, MayPrecede}

-- the operation that a read past the end shows
abbrev pub no_operation : Operation
no_operation = record { begin = 0; end = 0; action = Load 0 0 0; line = 0; thread = 0 }

-- the first `count` operations agree; none of them began after `top`, and those of a thread had ended at its tick of `last`. Those that began
-- there are on no line after its one of `lines`
pub record Agrees (operations : List Operation) (count top : ℕ) (last lines : List ℕ) : Type 0 where
  pub timed : (k : ℕ) (d : Operation) → k < count → (get_or operations k d).begin ≤ (get_or operations k d).end
  pub pairs : (i j : ℕ) (d : Operation) → i < j → j < count → MayPrecede (get_or operations i d) (get_or operations j d)
  pub latest : (k : ℕ) (d : Operation) → k < count → (get_or operations k d).begin ≤ top
  pub ends : (k : ℕ) (d : Operation) → k < count → (get_or operations k d).end ≤ get_or last (get_or operations k d).thread 0
  pub at_once : (k : ℕ) (d : Operation) → k < count → get_or last (get_or operations k d).thread 0 ≤ (get_or operations k d).begin → (get_or operations k d).line ≤ get_or lines (get_or operations k d).thread 0

pub none_agree : (operations : List Operation) (ends lines : List ℕ) → Agrees operations 0 0 ends lines
none_agree operations ends lines = record {
  timed = λ k d l. absurd (omega arith);
  pairs = λ i j d l m. absurd (omega arith);
  latest = λ k d l. absurd (omega arith);
  ends = λ k d l. absurd (omega arith);
  at_once = λ k d l m. absurd (omega arith);
}

pub below_or_last : (k count : ℕ) → k < count + 1 → (k < count) ⊎ (k ≡ count)
below_or_last k count l = elim (eqb_tells k count) [ inl same ↦ inr same.1 | inr other ↦ inl (omega arith) ]

last_end : (ends : List ℕ) (thread end other earlier : ℕ) → thread < length ends → earlier ≤ get_or ends other 0 → get_or ends thread 0 ≤ end → earlier ≤ get_or (set ends thread end) other 0
last_end ends thread end other earlier inside h l = elim (eqb_tells other thread) [
  | inl same ↦
      let here : get_or (set ends thread end) other 0 ≡ end = ap (λ n. get_or (set ends thread end) n 0) same.1 ∙ get_or-set_same ends thread end 0 inside in
      let before : get_or ends other 0 ≡ get_or ends thread 0 = ap (λ n. get_or ends n 0) same.1 in
      omega arith
  | inr apart ↦
      let there : get_or (set ends thread end) other 0 ≡ get_or ends other 0 = get_or-set_other ends thread other end 0 apart.1 in
      omega arith
]

-- an operation that is the next of its thread, after the tick at which the last one ended, and on a later line than one that began there
pub record Follows (ends lines : List ℕ) (x : Operation) : Type 0 where
  pub timed : x.begin ≤ x.end
  pub idle : get_or ends x.thread 0 ≤ x.begin
  pub later : x.end ≡ get_or ends x.thread 0 → get_or lines x.thread 0 < x.line

-- one of its thread that began when it ended is on an earlier line
earlier_line : (operations : List Operation) (count top : ℕ) (ends lines : List ℕ) (x : Operation) (k : ℕ) (d : Operation) → Agrees operations count top ends lines → Follows ends lines x → k < count → (get_or operations k d).thread ≡ x.thread → x.end ≤ (get_or operations k d).begin
    → (get_or operations k d).line < x.line
earlier_line operations count top ends lines x k d agree next l own began =
    let timed = agree.timed k d l in
    let ended = agree.ends k d l in
    let there : get_or ends (get_or operations k d).thread 0 ≡ get_or ends x.thread 0 = ap (λ n. get_or ends n 0) own in
    let idle = next.idle in
    let reached = next.timed in
    let line = agree.at_once k d l (omega (arith, there, idle, reached, began)) in
    let on : get_or lines (get_or operations k d).thread 0 ≡ get_or lines x.thread 0 = ap (λ n. get_or lines n 0) own in
    let less = next.later (omega (arith, timed, ended, there, idle, reached, began)) in
    omega (arith, line, on, less)

next_line : (operations : List Operation) (count top line : ℕ) (ends lines : List ℕ) (x : Operation) (k : ℕ) (d : Operation) → Agrees operations count top ends lines → Follows ends lines x → x.thread < length ends → x.thread < length lines → (x.end ≤ x.begin → line ≡ x.line) → k < count
    → get_or (set ends x.thread x.end) (get_or operations k d).thread 0 ≤ (get_or operations k d).begin → (get_or operations k d).line ≤ get_or (set lines x.thread line) (get_or operations k d).thread 0
next_line operations count top line ends lines x k d agree next room room_too is l began = elim (eqb_tells (get_or operations k d).thread x.thread) [
  | inl own ↦
      let here : get_or (set ends x.thread x.end) (get_or operations k d).thread 0 ≡ x.end = ap (λ n. get_or (set ends x.thread x.end) n 0) own.1 ∙ get_or-set_same ends x.thread x.end 0 room in
      let there : get_or (set lines x.thread line) (get_or operations k d).thread 0 ≡ line = ap (λ n. get_or (set lines x.thread line) n 0) own.1 ∙ get_or-set_same lines x.thread line 0 room_too in
      let after_it : x.end ≤ (get_or operations k d).begin = omega (arith, here, began) in
      let less = earlier_line operations count top ends lines x k d agree next l own.1 after_it in
      let timed = agree.timed k d l in
      let ended = agree.ends k d l in
      let same : get_or ends (get_or operations k d).thread 0 ≡ get_or ends x.thread 0 = ap (λ n. get_or ends n 0) own.1 in
      let idle = next.idle in
      let on : line ≡ x.line = is (omega (arith, after_it, timed, ended, same, idle)) in
      omega (arith, there, less, on)
  | inr other ↦
      let here : get_or (set ends x.thread x.end) (get_or operations k d).thread 0 ≡ get_or ends (get_or operations k d).thread 0 = get_or-set_other ends x.thread (get_or operations k d).thread x.end 0 other.1 in
      let there : get_or (set lines x.thread line) (get_or operations k d).thread 0 ≡ get_or lines (get_or operations k d).thread 0 = get_or-set_other lines x.thread (get_or operations k d).thread line 0 other.1 in
      let old = agree.at_once k d l (omega (arith, here, began)) in
      omega (arith, there, old)
]

pub one_more : (operations : List Operation) (count before latest line : ℕ) (ends lines : List ℕ) (x : Operation) → count < length operations → ((d : Operation) → get_or operations count d ≡ x)
    → x.thread < length ends → x.thread < length lines → before ≤ latest → x.begin ≤ latest → (x.end ≤ x.begin → line ≡ x.line)
    → Agrees operations count before ends lines → before ≤ x.end → Follows ends lines x → Agrees operations (count + 1) latest (set ends x.thread x.end) (set lines x.thread line)
one_more operations count before latest line ends lines x inside is room room_too rises reached own agree reaches next = record {
  timed = λ k d l. elim (below_or_last k count l) [
    | inl less ↦ agree.timed k d less
    | inr same ↦ subst (λ (y : Operation). y.begin ≤ y.end) (sym (ap (λ n. get_or operations n d) same ∙ is d)) next.timed
  ];
  pairs = λ i j d first l. elim (below_or_last j count l) [
    | inl less ↦ agree.pairs i j d first less
    | inr same ↦
        let below : i < count = omega arith in
        let began = agree.latest i d below in
        let ended = agree.ends i d below in
        let idle = next.idle in
        let may : MayPrecede (get_or operations i d) x = record {
          began = omega (arith, began);
          one_thread =
              λ e.
              let at : get_or ends (get_or operations i d).thread 0 ≡ get_or ends x.thread 0 = ap (λ n. get_or ends n 0) e in
              record { ended = omega (arith, ended, at, idle); lines = earlier_line operations count before ends lines x i d agree next below e };
        } in
        subst (λ (y : Operation). MayPrecede (get_or operations i d) y) (sym (ap (λ n. get_or operations n d) same ∙ is d)) may
  ];
  latest = λ k d l. elim (below_or_last k count l) [
    | inl less ↦ let old = agree.latest k d less in omega (arith, old)
    | inr same ↦ subst (λ (y : Operation). y.begin ≤ latest) (sym (ap (λ n. get_or operations n d) same ∙ is d)) reached
  ];
  ends = λ k d l. elim (below_or_last k count l) [
    | inl less ↦
        let idle = next.idle in
        let timed = next.timed in
        last_end ends x.thread x.end (get_or operations k d).thread (get_or operations k d).end room (agree.ends k d less) (omega (arith, idle, timed))
    | inr same ↦
        let here : get_or (set ends x.thread x.end) x.thread 0 ≡ x.end = get_or-set_same ends x.thread x.end 0 room in
        subst (λ (y : Operation). y.end ≤ get_or (set ends x.thread x.end) y.thread 0) (sym (ap (λ n. get_or operations n d) same ∙ is d)) (omega (arith, here))
  ];
  at_once = λ k d l. elim (below_or_last k count l) [
    | inl less ↦ next_line operations count before line ends lines x k d agree next room room_too own less
    | inr same ↦
        let here : get_or (set ends x.thread x.end) x.thread 0 ≡ x.end = get_or-set_same ends x.thread x.end 0 room in
        let there : get_or (set lines x.thread line) x.thread 0 ≡ line = get_or-set_same lines x.thread line 0 room_too in
        subst (λ (y : Operation). get_or (set ends x.thread x.end) y.thread 0 ≤ y.begin → y.line ≤ get_or (set lines x.thread line) y.thread 0) (sym (ap (λ n. get_or operations n d) same ∙ is d))
        (λ m. let on = own (omega (arith, here, m)) in omega (arith, there, on))
  ];
}

-- what holds of each of the first operations, and of the next
pub each_more : (P : Operation → Type 0) (operations : List Operation) (i : ℕ) (e : Operation) → i < length operations → ((k : ℕ) (d : Operation) → k < i → P (get_or operations k d)) → P (get_or operations i e) → (k : ℕ) (d : Operation) → k < i + 1 → P (get_or operations k d)
each_more P operations i e inside all here k d l = elim (below_or_last k i l) [
  | inl less ↦ all k d less
  | inr same ↦ subst P (sym (ap (λ n. get_or operations n d) same ∙ get_or_default operations i d e inside)) here
]
