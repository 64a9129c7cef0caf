-- The bits of a word.
use Rattle.std.specs.Prelude.{ℕ, ◌==◌, Bool}
use Rattle.std.specs.Int.{bit_at}

-- whether a word has a 1 at place i, counted from the lowest bit
unfoldable pub is_one : ℕ → ℕ → Bool
is_one word i = bit_at word i == 1
