-- What is written as a picture.
use Rattle.std.specs.Prelude.{ℕ, List, Option}
use Rattle.std.specs.Io.KnownBytes.{Appends}
use Rattle.diagram.specs.Trees.{IsPicture}

-- a picture is written: one `svg` element, whose elements are closed and whose texts are escaped
abbrev pub Draws : Option (List ℕ) → Option (List ℕ) → Type 0
Draws before after = (picture : List ℕ) × (IsPicture picture × Appends before after picture)
