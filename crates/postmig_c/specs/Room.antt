-- Bytes that are written to a piece of memory of the caller.
use Rattle.std.specs.Prelude.{◌≡◌, ◌<◌, ℕ, List, length, take}

-- the piece begins with the bytes, and this is how many there are
abbrev pub Fills : List ℕ → ℕ → List ℕ → Type 0
Fills bytes count out = (count ≡ length bytes) × (take count out ≡ bytes)

-- this is how many bytes there are, and the piece is shorter
abbrev pub IsTooLong : List ℕ → ℕ → List ℕ → Type 0
IsTooLong bytes count out = (count ≡ length bytes) × (length out < count)
