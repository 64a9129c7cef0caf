-- Zeros written into a page of zeros.
use Rattle.std.proofs.Common.{◌≡◌, ℕ, zero, suc, if◌then◌else◌, Some, None, ◌+◌, ◌-◌, ◌≤◌, ◌&&◌, not, eqb, true, false, refl, ap, ◌∙◌, arith, List, [], ◌∷◌, ◌++◌, length, drop}
use Rattle.std.specs.Prelude.{replicate}
use Rattle.std.specs.List.{list_all}
use Rattle.std.proofs.lemmas.Bool.{and_parts, eqb-true}
use Rattle.std.proofs.lemmas.List.{take-replicate, drop-replicate, replicate-append-replicate}
use Rattle.mig_base.specs.Bytes.{overwrite, zero_page}
use Rattle.page_table.specs.Bytes.{is_zeros, unless_zeros, write_needs_room}

zeros : ℕ → List ℕ
zeros n = replicate {A = ℕ} n 0

all_zero : (bytes : List ℕ) → list_all (λ byte. eqb byte 0) bytes ≡ true → bytes ≡ zeros (length bytes)
unfolding zeros
all_zero [] h = refl
all_zero (byte ∷ bytes) h =
    let tests = and_parts (eqb byte 0) (list_all (λ x. eqb x 0) bytes) h in
    ap (λ x. x ∷ bytes) (eqb-true byte 0 tests.0) ∙ ap (λ xs. 0 ∷ xs) (all_zero bytes tests.1)

zeros_pass : (n : ℕ) → list_all (λ byte. eqb byte 0) (zeros n) ≡ true
unfolding zeros
zeros_pass zero = refl
zeros_pass (suc n) = zeros_pass n

-- a page of zeros has no other byte
pub none_of_zeros : unless_zeros (Some zero_page) ≡ None
unfolding zero_page zeros
none_of_zeros = ap (λ all. if all then None else Some (zeros 4096)) (zeros_pass 4096)

-- a page of zeros needs bytes of its own for another byte
pub zeros_need_room : (bytes : List ℕ) → is_zeros bytes ≡ false → write_needs_room (Some zero_page) bytes ≡ true
unfolding zero_page zeros
zeros_need_room bytes other = ap (λ all. all && not (is_zeros bytes)) (zeros_pass 4096) ∙ ap not other

three_zeros : (a b c : ℕ) → zeros a ++ (zeros b ++ zeros c) ≡ zeros (a + (b + c))
unfolding zeros
three_zeros a b c = ap (λ xs. replicate {A = ℕ} a 0 ++ xs) (replicate-append-replicate b c 0) ∙ replicate-append-replicate a (b + c) 0

pub zeros_over : (offset : ℕ) (bytes : List ℕ) → offset + length bytes ≤ 4096 → list_all (λ byte. eqb byte 0) bytes ≡ true → overwrite zero_page offset bytes ≡ zero_page
unfolding overwrite zero_page zeros
zeros_over offset bytes inside h =
    let whole : offset + (length bytes + (4096 - (offset + length bytes))) ≡ 4096 = omega arith in
    ap (λ front. front ++ (bytes ++ drop (offset + length bytes) (zeros 4096))) (take-replicate offset 4096 0 (omega arith))
    ∙ ap (λ back. zeros offset ++ (bytes ++ back)) (drop-replicate (offset + length bytes) 4096 0)
    ∙ ap (λ xs. zeros offset ++ (xs ++ zeros (4096 - (offset + length bytes)))) (all_zero bytes h)
    ∙ three_zeros offset (length bytes) (4096 - (offset + length bytes))
    ∙ ap zeros whole
