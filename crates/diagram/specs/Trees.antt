-- A tree of elements, and its text.
use Rattle.std.specs.Prelude.{ℕ, List, [], ◌∷◌, ◌++◌, ◌≡◌, codes}
use Rattle.std.specs.List.{flat_map}
use Rattle.diagram.specs.declared.name.Tag.{Tag}
use Rattle.diagram.specs.declared.name.Tag.TheVariants.{Svg}
use Rattle.diagram.specs.declared.name.Key.{Key}
use Rattle.diagram.specs.Escapes.{escaped}
use Rattle.diagram.specs.Names.{tag_name, key_name}

-- an attribute: its name, and its value before it is escaped
abbrev pub Pair : Type 0
Pair = Key × List ℕ

-- what stands inside an element: nothing, or a text or an element after what stands before it
pub data Contents : Type 0 where
  Nothing : Contents
  Words : Contents → List ℕ → Contents
  Element : Contents → Tag → List Pair → Contents → Contents

-- what stands before the value of an attribute in a tag, with a space before it
abbrev pub attribute_start : Key → List ℕ
attribute_start key = 32 ∷ (key_name key ++ codes "=\"")

-- an attribute in a tag, with a space before it
abbrev pub attribute_text : Pair → List ℕ
attribute_text pair = attribute_start pair.0 ++ escaped pair.1 ++ 34 ∷ []

-- the attributes in a tag
abbrev pub attributes_text : List Pair → List ℕ
attributes_text pairs = flat_map attribute_text pairs

-- the tag that begins an element
abbrev pub start_tag : Tag → List Pair → List ℕ
start_tag tag pairs = 60 ∷ (tag_name tag ++ attributes_text pairs ++ 62 ∷ [])

-- the tag that ends an element
abbrev pub end_tag : Tag → List ℕ
end_tag tag = codes "</" ++ tag_name tag ++ 62 ∷ []

-- the text of what stands inside an element: each text is escaped, and each element begins with its tag and ends with it
abbrev pub rendered : Contents → List ℕ
rendered Nothing = []
rendered (Words before text) = rendered before ++ escaped text
rendered (Element before tag pairs inside) = rendered before ++ start_tag tag pairs ++ rendered inside ++ end_tag tag

-- the bytes are the text of one `svg` element with all that stands inside it
abbrev pub IsPicture : List ℕ → Type 0
IsPicture bytes = (pairs : List Pair) × ((inside : Contents) × (bytes ≡ start_tag Svg pairs ++ rendered inside ++ end_tag Svg))
