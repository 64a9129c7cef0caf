-- Bytes that lie in pieces, compared piece by piece.
use Rattle.std.proofs.Common.{◌≡◌, ◌↔◌, Bool, true, false, not, ℕ, suc, ◌+◌, ◌<◌, ◌≤◌, List, [], ◌∷◌, ◌++◌, length, take, drop, get_or, refl, sym, ap, ◌∙◌, append_assoc, arith}
use Rattle.std.proofs.lemmas.List.{append_cancel_left, take-append-drop, take_at, drop_all}
use Rattle.std.proofs.lemmas.Slice.Eq.{bytes_eq-Decides}
use Rattle.std.proofs.Math.Seq.{drop-cons}
use Rattle.std.specs.Str.{bytes_eq}
use Rattle.std.specs.List.{concat}
use Rattle.wires.specs.Chunks.{bytes_from}

-- the next piece
pub next_piece : (pieces : List (List ℕ)) (rest bytes : List ℕ) (next : ℕ) → next < length pieces → rest ≡ [] → bytes ≡ get_or pieces next [] → bytes_from pieces bytes (next + 1) ≡ bytes_from pieces rest next
next_piece pieces rest bytes next inside none is =
    let more : suc next ≡ next + 1 = omega arith in
    (λ i. is i ++ concat (drop (sym more i) pieces))
    ∙ ap concat (sym (drop-cons pieces next [] inside))
    ∙ ap (λ (r : List ℕ). r ++ concat (drop next pieces)) (sym none)

-- after the last piece
pub no_piece : (pieces : List (List ℕ)) (rest : List ℕ) (next : ℕ) → length pieces ≤ next → rest ≡ [] → bytes_from pieces rest next ≡ []
no_piece pieces rest next past none = (λ i. none i ++ concat (drop_all next pieces past i))

-- bytes cut in two
pub cut : (bytes front rest behind : List ℕ) (n : ℕ) → front ≡ take n bytes → rest ≡ drop n bytes → bytes ++ behind ≡ front ++ (rest ++ behind)
cut bytes front rest behind n is left =
    ap (λ (b : List ℕ). b ++ behind) (sym (take-append-drop n bytes)) ∙ append_assoc (take n bytes) (drop n bytes) behind ∙ (λ i. sym is i ++ (sym left i ++ behind))

-- this holds if and only if what is left of two lists is equal
abbrev pub Tells : Type 0 → List ℕ → List ℕ → Type 0
Tells P left behind = P ↔ (left ≡ behind)

pub tells_along : (P : Type 0) (left behind rest more : List ℕ) → Tells P left behind → left ≡ rest → behind ≡ more → Tells P rest more
tells_along P left behind rest more tells is also = (λ p. sym is ∙ tells.0 p ∙ also, λ e. tells.1 (is ∙ e ∙ sym also))

pub tells_more : (P : Type 0) (front left other behind : List ℕ) → Tells P (front ++ left) (other ++ behind) → front ≡ other → Tells P left behind
tells_more P front left other behind tells same =
    (λ p. append_cancel_left front left behind (tells.0 p ∙ ap (λ (f : List ℕ). f ++ behind) (sym same)), λ e. tells.1 (λ i. same i ++ e i))

pub tells_apart : (P : Type 0) (front left other behind : List ℕ) (n : ℕ) → Tells P (front ++ left) (other ++ behind) → length front ≡ n → length other ≡ n → P → front ≡ other
tells_apart P front left other behind n tells size also p =
    sym (take_at front left n size) ∙ ap (take n) (tells.0 p) ∙ take_at other behind n also

-- what `!=` says of two slices
pub told_same : (xs ys : List ℕ) (b : Bool) → b ≡ not (bytes_eq xs ys) → b ≡ false → xs ≡ ys
told_same xs ys b is off = (bytes_eq-Decides xs ys).0 (by_case (bytes_eq xs ys) (sym is ∙ off))
  where
    by_case : (equal : Bool) → not equal ≡ false → equal ≡ true
    by_case true e = refl
    by_case false e = cc

pub told_other : (xs ys : List ℕ) (b : Bool) → b ≡ not (bytes_eq xs ys) → b ≡ true → xs ≡ ys → ⊥
told_other xs ys b is on e = let same = (bytes_eq-Decides xs ys).1 e in let other = sym (ap not same) ∙ sym is ∙ on in cc
