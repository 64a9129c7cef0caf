-- Where the first line feed stands.
use Rattle.std.proofs.Common.{◌≡◌, ℕ, ◌≤◌, List, [], ◌∷◌, ◌++◌, length, refl, arith}
use Rattle.grammar.specs.Lines.{HasNoFeed}

pub no_feed-append : (xs ys : List ℕ) → HasNoFeed xs → HasNoFeed ys → HasNoFeed (xs ++ ys)
no_feed-append [] ys p q = q
no_feed-append (x ∷ xs) ys p q = (p.0, no_feed-append xs ys p.1 q)

pub feed_inside : (xs ys : List ℕ) → HasNoFeed (xs ++ 10 ∷ ys) → ⊥
feed_inside [] ys h = h.0 refl
feed_inside (x ∷ xs) ys h = feed_inside xs ys h.1

-- two ways to cut at the first line feed are one
pub one_cut : (xs ys a b : List ℕ) → HasNoFeed xs → HasNoFeed ys → xs ++ 10 ∷ a ≡ ys ++ 10 ∷ b → (xs ≡ ys) × (a ≡ b)
one_cut [] [] a b p q e = (refl, cc)
one_cut [] (y ∷ ys) a b p q e = let h : y ≡ 10 = cc in absurd (q.0 h)
one_cut (x ∷ xs) [] a b p q e = let h : x ≡ 10 = cc in absurd (p.0 h)
one_cut (x ∷ xs) (y ∷ ys) a b p q e =
    let t : xs ++ 10 ∷ a ≡ ys ++ 10 ∷ b = cc in
    let r = one_cut xs ys a b p.1 q.1 t in
    let h : x ≡ y = cc in
    (rw (h, r.0) refl, r.1)

-- the first line feed comes after bytes that have none
pub feed_behind : (xs ys a more : List ℕ) → HasNoFeed ys → xs ++ 10 ∷ a ≡ ys ++ more → length ys ≤ length xs
feed_behind xs [] a more q e = omega arith
feed_behind [] (y ∷ ys) a more q e = let h : y ≡ 10 = cc in absurd (q.0 h)
feed_behind (x ∷ xs) (y ∷ ys) a more q e =
    let t : xs ++ 10 ∷ a ≡ ys ++ more = cc in
    let r = feed_behind xs ys a more q.1 t in
    omega (arith, r)
