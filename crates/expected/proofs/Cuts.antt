-- Where an order ends and its answer begins, and which texts say nothing.
use Rattle.std.proofs.Common.{◌≡◌, ℕ, ◌-◌, ◌<◌, ◌≤◌, List, [], ◌∷◌, ◌++◌, length, get_or, take, drop, suc, refl, sym, ap, ◌∙◌, arith, Some, None, subst, inl, inr}
use Rattle.std.proofs.lemmas.List.{take-append-drop}
use Rattle.std.proofs.Math.Seq.{drop-cons, drop-length}
use Rattle.std.proofs.lemmas.Bool.{cases_lt}
use Rattle.memchr.specs.Find.{OccursAt, Nowhere}
use Rattle.grammar.specs.declared.line.Language.TheVariants.{Script}
use Rattle.grammar.specs.declared.line.Line.{Line}
use Rattle.grammar.specs.declared.line.Line.TheVariants.{Skipped, Do}
use Rattle.grammar.specs.declared.order.Order.{Order}
use Rattle.grammar.specs.Spelling.{Spells}
use Rattle.grammar.proofs.Meaning.{one_line}
use Rattle.expected.specs.Cases.{Case, Nothing, Cpus, Asks, arrow, Cut, NoCpus, IsCase}

one_at : (text : List ℕ) (a b : ℕ) → OccursAt text arrow a → Nowhere (OccursAt text arrow) 0 a → OccursAt text arrow b → Nowhere (OccursAt text arrow) 0 b → a ≡ b
one_at text a b p none q nowhere = elim (cases_lt a b) [
  | inl lt ↦ absurd (nowhere a (omega arith) lt p)
  | inr ge ↦ elim (cases_lt b a) [
    | inl lt ↦ absurd (none b (omega arith) lt q)
    | inr le ↦ omega (arith, ge, le)
  ]
]

-- a text has one first arrow
pub one_front : (text f x g y : List ℕ) → Cut text f x → Cut text g y → f ≡ g
one_front text f x g y p q = p.before ∙ ap (λ (n : ℕ). take n text) (one_at text p.at q.at p.occurs p.first q.occurs q.first) ∙ sym q.before

-- a comment or an empty line is not an order
pub skipped_no_order : (text : List ℕ) (order : Order) → Spells Script text Skipped → Spells Script text (Do order) → ⊥
skipped_no_order text order p q = let same : Skipped ≡ Do order = one_line Script text Skipped (Do order) p q in cc

-- a text with no arrow that is not a line of a script says nothing
pub wrong_cut : (number : ℕ) (text : List ℕ) → NoCpus number text → ((line : Line) → Spells Script text line → ⊥) → ((front answer : List ℕ) → Cut text front answer → ⊥) → (case : Case) → IsCase number text case → ⊥
wrong_cut number text cpus other none Nothing p = other Skipped p.1
wrong_cut number text cpus other none (Cpus count) p = cpus p.0 p.1.words p.1.line
wrong_cut number text cpus other none (Asks order None) p = other (Do order) p
wrong_cut number text cpus other none (Asks order (Some answer)) p = none p.front answer p.cut

-- nor does one with no order before its first arrow
pub wrong_front : (number : ℕ) (text front answer : List ℕ) → NoCpus number text → ((line : Line) → Spells Script text line → ⊥) → Cut text front answer → ((order : Order) → Spells Script front (Do order) → ⊥)
    → (case : Case) → IsCase number text case → ⊥
wrong_front number text front answer cpus other cut none Nothing p = other Skipped p.1
wrong_front number text front answer cpus other cut none (Cpus count) p = cpus p.0 p.1.words p.1.line
wrong_front number text front answer cpus other cut none (Asks order None) p = other (Do order) p
wrong_front number text front answer cpus other cut none (Asks order (Some said)) p =
    none order (subst (λ (t : List ℕ). Spells Script t (Do order)) (one_front text p.front said front answer p.cut cut) p.spells)

-- an output is an answer and a line feed where its last byte is a line feed, and the others are the answer
pub last_parts : (out : List ℕ) → 1 ≤ length out → get_or out (length out - 1) 0 ≡ 10 → out ≡ take (length out - 1) out ++ 10 ∷ []
last_parts out some last =
    let n = length out - 1 in
    let lt : n < length out = omega (arith, some) in
    let all : suc n ≡ length out = omega (arith, some) in
    sym (take-append-drop n out) ∙ ap (λ (t : List ℕ). take n out ++ t) (drop-cons out n 0 lt ∙ ap (λ (x : ℕ). x ∷ drop (suc n) out) last ∙ ap (λ (t : List ℕ). 10 ∷ t) (ap (λ (k : ℕ). drop k out) all ∙ drop-length out))

pub is_behind : (text answer : List ℕ) → text ++ 10 ∷ [] ≡ answer ++ 10 ∷ [] → text ≡ answer
is_behind [] [] e = refl
is_behind [] (y ∷ []) e = cc
is_behind [] (y ∷ z ∷ ys) e = cc
is_behind (x ∷ []) [] e = cc
is_behind (x ∷ z ∷ xs) [] e = cc
is_behind (x ∷ xs) (y ∷ ys) e =
    let t : xs ++ 10 ∷ [] ≡ ys ++ 10 ∷ [] = cc in
    let h : x ≡ y = cc in
    rw (h, is_behind xs ys t) refl
