-- The bytes of a copy that has arrived, as the code keeps them.
use Rattle.std.specs.Prelude.{ℕ, List, Option, Some, None}
use Rattle.mig_base.specs.Bytes.{zero_page}

-- the bytes that came, or zeros for a Zero, with which none came
abbrev pub came_bytes : Option (List ℕ) → List ℕ
came_bytes (Some bytes) = bytes
came_bytes None = zero_page
