-- Pages that are owed, one after another.
use Rattle.std.proofs.Common.{◌≡◌, ◌∙◌, ℕ, ◌+◌, List, [], ◌∷◌, ◌++◌, sym, ap, append_assoc}
use Rattle.std.specs.Prelude.{if◌then◌else◌}
use Rattle.std.proofs.Math.Numerals.{add-one}
use Rattle.std.proofs.lemmas.List.{append-nil}
use Rattle.kernel_rules.specs.declared.object.Object.{Object}
use Rattle.kernel_rules.specs.Ioctls.{is_owed, owed_in, with_owed}
use Rattle.kernel_rules.specs.State.{Kernel, page_is}

-- one page more that may be owed
pub owed_more : (kernel before after : Kernel) (name : ℕ) (object : Object) (first i : ℕ) → before ≡ with_owed kernel name object first i
    → after ≡ record before { owed = before.owed ++ (if page_is (is_owed name object) (before.pages object.space (first + i)) then (object.space, first + i) ∷ [] else []) }
    → after ≡ with_owed kernel name object first (i + 1)
unfolding owed_in
owed_more kernel before after name object first i is more =
    let one : List (ℕ × ℕ) = if page_is (is_owed name object) (kernel.pages object.space (first + i)) then (object.space, first + i) ∷ [] else [] in
    more
    ∙ ap (λ (k : Kernel). record k { owed = k.owed ++ (if page_is (is_owed name object) (k.pages object.space (first + i)) then (object.space, first + i) ∷ [] else []) }) is
    ∙ rw (add-one i) (ap (λ o. record kernel { owed = o }) (append_assoc kernel.owed (owed_in kernel name object first i) one))

-- no page
pub owed_none : (kernel : Kernel) (name : ℕ) (object : Object) (first : ℕ) → kernel ≡ with_owed kernel name object first 0
unfolding owed_in
owed_none kernel name object first = ap (λ o. record kernel { owed = o }) (sym (append-nil kernel.owed))
