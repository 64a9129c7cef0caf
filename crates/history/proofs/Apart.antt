-- Numbers that a sort has put in order, of which no two are the same.
use Rattle.std.proofs.Common.{◌≡◌, ◌≢◌, ℕ, ◌<◌, eqb, List, arith, get_or}
use Rattle.std.specs.List.{AllPairs}
use Rattle.std.specs.List.Sorted.{IsPermutation, IsStrictlyIncreasing}
use Rattle.std.proofs.lemmas.Bool.Decides.{nat_tests, Decides-eqb}
use Rattle.std.proofs.lemmas.List.Kept.{AllPairs-from_increasing}
use Rattle.std.proofs.lemmas.List.Sorted.{IsPermutation-sym}
use Rattle.std.proofs.lemmas.Map.Keys.{IsDistinct-IsPermutation}
use Rattle.std.proofs.lemmas.Map.Made.{AllPairs-from_IsDistinct, IsDistinct-from_AllPairs}

not_same : (a b : ℕ) → a < b → a ≢ b
not_same a b l e = omega arith

flips : (a b : ℕ) → eqb a b ≡ eqb b a
flips a b = grind (arith, nat_tests)

pub apart_from_increasing : (before after : List ℕ) → IsPermutation before after → IsStrictlyIncreasing after → AllPairs (λ x y. x ≢ y) before
apart_from_increasing before after same rising =
    let below : AllPairs (λ x y. x < y) after = AllPairs-from_increasing after rising in
    let apart : AllPairs (λ x y. x ≢ y) after = λ i j d less inside. not_same (get_or after i d) (get_or after j d) (below i j d less inside) in
    AllPairs-from_IsDistinct {eq = eqb} Decides-eqb before
    (IsDistinct-IsPermutation eqb flips after before (IsPermutation-sym before after same) (IsDistinct-from_AllPairs {eq = eqb} Decides-eqb after apart))
