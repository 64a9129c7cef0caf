-- Little-endian numbers as byteorder reads and writes them.
use Rattle.std.proofs.Common.{◌≡◌, ℕ, zero, suc, ◌+◌, ◌*◌, List, [], ◌∷◌, refl, ap, ◌∙◌, length}
use Rattle.std.specs.Prelude.{slice_index}
use Rattle.byteorder.specs.Endian.{little_from, little_number}
use Rattle.mig_base.specs.Bytes.{little_endian}

-- a byte before the place makes no difference
little_from-cons : (i n x : ℕ) (xs : List ℕ) → little_from (suc i) n (x ∷ xs) ≡ little_from i n xs
little_from-cons i zero x xs = refl
little_from-cons i (suc n) x xs = ap (λ k. slice_index xs i + 256 * k) (little_from-cons (suc i) n x xs)

pub little_number-all : (bytes : List ℕ) → little_number (length bytes) bytes ≡ little_endian bytes
little_number-all [] = refl
little_number-all (x ∷ xs) = ap (λ k. x + 256 * k) (little_from-cons 0 (length xs) x xs ∙ little_number-all xs)
