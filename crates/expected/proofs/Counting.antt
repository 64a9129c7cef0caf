-- How many answers were compared.
use Rattle.std.proofs.Common.{◌≡◌, ℕ, ◌+◌, ◌<◌, ◌≤◌, ◌^◌, List, [], ◌∷◌, ◌++◌, length, Some, None, arith}
use Rattle.std.proofs.lemmas.List.Sums.{sum_by-cons, sum_by_push}
use Rattle.expected.specs.Cases.{Case, Nothing, Cpus, Asks, answers_of, answers_in}
use Rattle.expected.specs.Parts.{CountsAnswers}

one_at_most : (case : Case) → answers_of case ≤ 1
one_at_most Nothing = omega arith
one_at_most (Cpus count) = omega arith
one_at_most (Asks order None) = omega arith
one_at_most (Asks order (Some answer)) = omega arith

-- no more than there are lines
answers_le : (cases : List Case) → answers_in cases ≤ length cases
answers_le [] = omega arith
answers_le (case ∷ cases) = omega (arith, sum_by-cons answers_of case cases, one_at_most case, answers_le cases)

-- one line more, where the number of lines is below the greatest number
pub count_then : (cases : List Case) (case : Case) (old new : ℕ) → old ≡ answers_in cases → length cases + 1 < 2 ^ 64 → CountsAnswers old case new → new ≡ answers_in cases + answers_of case
count_then cases case old new is few counts =
    let room : old + 1 < 2 ^ 64 = omega (arith, answers_le cases) in
    omega (arith, counts room)

pub count_push : (cases : List Case) (case : Case) (old new : ℕ) → old ≡ answers_in cases → length cases + 1 < 2 ^ 64 → CountsAnswers old case new → new ≡ answers_in (cases ++ case ∷ [])
count_push cases case old new is few counts =
    omega (arith, count_then cases case old new is few counts, sum_by_push answers_of cases case)
