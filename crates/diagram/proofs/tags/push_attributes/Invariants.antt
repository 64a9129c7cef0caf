use Rattle.std.proofs.Common.{◌≡◌, ◌++◌, take}
use Rattle.diagram.specs.Given.{all_given}
use Rattle.diagram.specs.Trees.{attributes_text}
use Rattle.diagram.proofs.tags.push_attributes.Given as goal

abbrev pub invariant-loop-attribute : goal.invariant-loop-attribute
invariant-loop-attribute l = l.bytes.items ≡ l.initial.bytes.items ++ attributes_text (all_given (take l.attribute-index l.attributes))
