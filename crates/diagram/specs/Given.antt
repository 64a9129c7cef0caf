-- The attributes that a caller gives.
use Rattle.std.specs.Prelude.{List, map}
use Rattle.diagram.specs.declared.tags.Attribute.{Attribute}
use Rattle.diagram.specs.Trees.{Pair}

-- an attribute, as a tree has it
abbrev pub given : Attribute → Pair
given attribute = (attribute.key, attribute.value.now)

-- attributes, as a tree has them
abbrev pub all_given : List Attribute → List Pair
all_given attributes = map given attributes
