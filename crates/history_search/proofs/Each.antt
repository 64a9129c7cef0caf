-- What holds of each of the first items of a list, and of the next.
use Rattle.std.proofs.Common.{ℕ, ◌+◌, ◌<◌, List, inl, inr, sym, ap, ◌∙◌, subst, arith, length, get_or}
use Rattle.std.proofs.lemmas.Bool.Decides.{eqb_tells}
use Rattle.std.proofs.lemmas.List.{get_or_default}

pub each_more : {X : Type 0} (P : X → Type 0) (xs : List X) (i : ℕ) (e : X) → i < length xs → ((k : ℕ) (d : X) → k < i → P (get_or xs k d)) → P (get_or xs i e) → (k : ℕ) (d : X) → k < i + 1 → P (get_or xs k d)
each_more P xs i e inside all here k d l = elim (eqb_tells k i) [
  | inl same ↦ subst P (sym (ap (λ n. get_or xs n d) same.1 ∙ get_or_default xs i d e inside)) here
  | inr other ↦ all k d (omega arith)
]
