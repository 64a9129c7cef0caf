-- A picture that is being written.
use Rattle.std.specs.Prelude.{ℕ, Bool, true, ◌≡◌, List, [], ◌∷◌, ◌++◌, map, reverse}
use Rattle.diagram.specs.declared.name.Tag.{Tag}
use Rattle.diagram.specs.declared.name.Tag.TheVariants.{Svg}
use Rattle.diagram.specs.Trees.{Pair, Contents, start_tag, rendered}

-- an element that is open: what stands before it, its tag and its attributes
pub record Opened : Type 0 where
  pub before : Contents
  pub tag : Tag
  pub pairs : List Pair

-- the text of what is written inside the open elements, the innermost of which comes first
abbrev pub written_inside : List Opened → Contents → List ℕ
written_inside [] inside = rendered inside
written_inside (opened ∷ outer) inside = written_inside outer opened.before ++ start_tag opened.tag opened.pairs ++ rendered inside

-- the bytes are those of a tree up to now: an `svg` element with all that stands inside it, and inside that the open elements
pub record IsDrawn (open_tags : List Tag) (bytes : List ℕ) : Type 0 where
  pub pairs : List Pair
  pub opened : List Opened
  pub inside : Contents
  pub tags : map (λ one. one.tag) opened ≡ reverse open_tags
  pub text : bytes ≡ start_tag Svg pairs ++ written_inside opened inside

-- the same, unless a call ran out of memory
abbrev pub IsSheet : Bool → List Tag → List ℕ → Type 0
IsSheet whole open_tags bytes = whole ≡ true → IsDrawn open_tags bytes
