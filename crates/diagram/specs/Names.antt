-- The names of elements and of attributes.
use Rattle.std.specs.Prelude.{ℕ, List, codes}
use Rattle.diagram.specs.declared.name.Tag.{Tag}
use Rattle.diagram.specs.declared.name.Tag.TheVariants as tag
use Rattle.diagram.specs.declared.name.Key.{Key}
use Rattle.diagram.specs.declared.name.Key.TheVariants as key

-- the name of an element
abbrev pub tag_name : Tag → List ℕ
tag_name tag.Svg = codes "svg"
tag_name tag.Title = codes "title"
tag_name tag.Style = codes "style"
tag_name tag.Defs = codes "defs"
tag_name tag.Pattern = codes "pattern"
tag_name tag.Group = codes "g"
tag_name tag.Path = codes "path"
tag_name tag.Text = codes "text"

-- the name of an attribute
abbrev pub key_name : Key → List ℕ
key_name key.Namespace = codes "xmlns"
key_name key.ViewBox = codes "viewBox"
key_name key.Width = codes "width"
key_name key.Height = codes "height"
key_name key.Role = codes "role"
key_name key.Id = codes "id"
key_name key.Class = codes "class"
key_name key.PatternUnits = codes "patternUnits"
key_name key.Shape = codes "d"
key_name key.Transform = codes "transform"
