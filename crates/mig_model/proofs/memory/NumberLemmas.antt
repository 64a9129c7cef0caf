-- Little-endian numbers in memory, and the place of an access in its page.
use Rattle.std.proofs.lemmas.Bool.Decides.{nat_tests}
use Rattle.std.proofs.Common.{◌≡◌, ℕ, zero, suc, ◌+◌, ◌%◌, ◌<◌, ◌≤◌, true, eqb, List, [], ◌∷◌, refl, sym, ap, ◌∙◌, arith, length, get_or}
use Rattle.mig_base.specs.Flat.{Memory, byte_of, number_at, is_width, is_aligned}
use Rattle.mig_base.specs.Bytes.{little_endian}
use Rattle.mig_model.proofs.memory.Facts.{and_left}

-- a number read byte by byte
pub number_at-bytes : (memory : Memory) (addr : ℕ) (xs : List ℕ) → ((i : ℕ) → i < length xs → byte_of (memory (addr + i)) ≡ get_or xs i 0) → number_at memory addr (length xs) ≡ little_endian xs
number_at-bytes memory addr [] h = refl
number_at-bytes memory addr (x ∷ xs) h =
    let here : byte_of (memory addr) ≡ x = ap (λ n. byte_of (memory n)) (omega arith) ∙ h 0 (omega arith) in
    let rest = number_at-bytes memory (addr + 1) xs (λ i l. ap (λ n. byte_of (memory n)) (omega arith) ∙ h (suc i) (omega arith)) in
    rw (here, rest) refl

pub number_at-zeros : (memory : Memory) (addr width : ℕ) → ((i : ℕ) → i < width → byte_of (memory (addr + i)) ≡ 0) → number_at memory addr width ≡ 0
number_at-zeros memory addr zero h = refl
number_at-zeros memory addr (suc width) h =
    let here : byte_of (memory addr) ≡ 0 = ap (λ n. byte_of (memory n)) (omega arith) ∙ h 0 (omega arith) in
    let rest = number_at-zeros memory (addr + 1) width (λ i l. ap (λ n. byte_of (memory n)) (omega arith) ∙ h (suc i) (omega arith)) in
    rw (here, rest) refl

-- an access whose form is right stays inside its page
pub record IsInside (addr width : ℕ) : Type 0 where
  pub some : 0 < width
  pub few : width ≤ 8
  pub inside : addr % 4096 + width ≤ 4096

pub aligned_inside : (addr width : ℕ) → is_aligned addr width ≡ true → IsInside addr width
aligned_inside addr width h = grind (arith, nat_tests)

pub aligned_width : (addr width : ℕ) → true ≡ is_aligned addr width → is_width width ≡ true
aligned_width addr width h = and_left (is_width width) (eqb (addr % width) 0) (sym h)
