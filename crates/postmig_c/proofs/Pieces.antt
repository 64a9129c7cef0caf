-- The bytes on a wire, piece by piece.
use Rattle.std.proofs.Common.{◌≡◌, ℕ, ◌+◌, ◌<◌, List, [], ◌∷◌, ◌++◌, take, get_or, length, append-nil, sym, ap, ◌∙◌}
use Rattle.std.specs.List.{concat}
use Rattle.std.proofs.lemmas.List.{take_more}
use Rattle.std.proofs.lemmas.List.Folds.{concat-append}

-- one piece more
pub joined : (pieces : List (List ℕ)) (i : ℕ) (bytes more : List ℕ) → i < length pieces → bytes ≡ concat (take i pieces) → more ≡ get_or pieces i [] → bytes ++ more ≡ concat (take (i + 1) pieces)
joined pieces i bytes more below so_far next =
    ap (λ (b : List ℕ). b ++ more) so_far ∙ ap (λ (m : List ℕ). concat (take i pieces) ++ m) next
    ∙ ap (λ (m : List ℕ). concat (take i pieces) ++ m) (sym (append-nil (get_or pieces i [])))
    ∙ sym (concat-append (take i pieces) (get_or pieces i [] ∷ []))
    ∙ sym (ap (λ (some : List (List ℕ)). concat some) (take_more pieces i [] below))
