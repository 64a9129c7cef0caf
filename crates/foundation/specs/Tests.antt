-- Tests, and choices by tests.
use Rattle.std.specs.Prelude.{ℕ, ◌+◌, Bool, true, false, not, if◌then◌else◌, Option, Some, None, List, [], ◌∷◌}
use Rattle.foundation.specs.Ranges.{none_below}

-- whether two tests answer the same
abbrev pub same_bool : Bool → Bool → Bool
same_bool true other = other
same_bool false other = not other

-- whether a list is empty
abbrev pub is_empty : {A : Type 0} → List A → Bool
is_empty [] = true
is_empty (x ∷ xs) = false

-- whether each number of a range passes a test
abbrev pub is_every : (ℕ → Bool) → ℕ → ℕ → Bool
is_every test first count = none_below (λ i. not (test (first + i))) count

-- `make` of the first choice whose test holds, else the rest
abbrev pub first_by : {A : Type 0} → {B : Type 0} → (A → B) → List (Bool × A) → B → B
first_by make [] rest = rest
first_by make (choice ∷ choices) rest = if choice.0 then make choice.1 else first_by make choices rest

-- the first choice whose test holds, if any
abbrev pub first_holding : {A : Type 0} → List (Bool × A) → Option A
first_holding choices = first_by (λ choice. Some choice) choices None
