-- A seat that knows of every index leaves no page.
use Rattle.std.proofs.Common.{◌≡◌, ℕ, ◌+◌, ◌<◌, ◌≤◌, ◌⊎◌, inl, inr, List, [], ◌∷◌, ◌++◌, length, Option, Some, None, sym, refl, subst, ⊎_elim, arith}
use mathlib.Core.Logic.{dite}
use native.Mathlib.Decide.{ℕ_discrete}
use Rattle.std.specs.Prelude.{All, Contains, IfSome, IfNone, IsPermutation}
use Rattle.pusher.specs.Rule.{IsWhole}
use Rattle.std.proofs.lemmas.List.Elements.{All-head, All-cons, All-nil, Contains-push, Contains-append_left}
use Rattle.mig_base.specs.declared.schedule.Ticket.{Ticket}
use Rattle.pusher.specs.Seats.{Starting, Held, IsUnclaimed}

abbrev pub Knows : Held → ℕ → Type 0
Knows s i = Contains s.claimed i ⊎ Contains s.seen i

pub knows_more : (r : Option Ticket) (index : ℕ) (s t : Held) → IfSome r (λ _. (t.claimed ≡ s.claimed ++ index ∷ []) × (t.seen ≡ s.seen)) → IfNone r ((t.claimed ≡ s.claimed) × (t.seen ≡ s.seen ++ index ∷ []))
    → ((i : ℕ) → i < index → Knows s i) → (i : ℕ) → i < index + 1 → Knows t i
knows_more (Some x) index s t won lost old i l = dite (ℕ_discrete i index)
    (λ e. inl (subst (λ k. Contains t.claimed k) (sym e) (subst (λ xs. Contains xs index) (sym won.0) (Contains-push s.claimed index))))
    (λ n. ⊎_elim (λ a. inl (subst (λ xs. Contains xs i) (sym won.0) (Contains-append_left s.claimed (index ∷ []) i a))) (λ b. inr (subst (λ xs. Contains xs i) (sym won.1) b)) (old i (omega arith)))
knows_more None index s t won lost old i l = dite (ℕ_discrete i index)
    (λ e. inr (subst (λ k. Contains t.seen k) (sym e) (subst (λ xs. Contains xs index) (sym lost.1) (Contains-push s.seen index))))
    (λ n. ⊎_elim (λ a. inl (subst (λ xs. Contains xs i) (sym lost.0) a)) (λ b. inr (subst (λ xs. Contains xs i) (sym lost.1) (Contains-append_left s.seen (index ∷ []) i b))) (old i (omega arith)))

pub nothing_left : (c : Starting) (s : Held) (left : List ℕ) → ((i : ℕ) → i < length c.pages → Knows s i) → All (IsUnclaimed c s) left → left ≡ []
nothing_left c s [] known all = refl
nothing_left c s (x ∷ xs) known all = let (i, inside, is, not_claimed, not_seen) = All-head (IsUnclaimed c s) x xs all in absurd (⊎_elim not_claimed not_seen (known i inside))

-- two halves are the whole
two_halves : (share : List ℕ) → share ≡ 1 ∷ 1 ∷ [] → IsWhole share
two_halves share e = subst IsWhole (sym e) (1, All-cons (λ d. d ≤ 1) 1 (1 ∷ []) (omega arith) (All-cons (λ d. d ≤ 1) 1 [] (omega arith) (All-nil (λ d. d ≤ 1))), refl)

pub everything : (c : Starting) (s : Held) (pages left won : List ℕ) → c.pages ≡ pages → s.share ≡ 1 ∷ 1 ∷ [] → ((i : ℕ) → i < length c.pages → Knows s i) → All (IsUnclaimed c s) left
    → (IsWhole s.share → IsPermutation c.pages (left ++ won)) → IsPermutation pages won
everything c s pages left won e halves known unclaimed all =
    subst (λ l. IsPermutation l won) e (subst (λ l. IsPermutation c.pages (l ++ won)) (nothing_left c s left known unclaimed) (all (two_halves s.share halves)))

pub knows_joined : (s t u : Held) (n : ℕ) → u.claimed ≡ s.claimed ++ t.claimed → u.seen ≡ s.seen ++ t.seen → ((i : ℕ) → i < n → Knows s i) → (i : ℕ) → i < n → Knows u i
knows_joined s t u n e f known i l = ⊎_elim (λ a. inl (subst (λ xs. Contains xs i) (sym e) (Contains-append_left s.claimed t.claimed i a))) (λ b. inr (subst (λ xs. Contains xs i) (sym f) (Contains-append_left s.seen t.seen i b))) (known i l)
