use Rattle.diagram.specs.Given.{all_given}
use Rattle.diagram.proofs.Drawn.{drawn_new}
use Rattle.diagram.proofs.sheet.Sheet.new.Goals as goal

pub invariant_of-result : goal.invariant_of-result
invariant_of-result c = rw (c.in_ok-push_start.ensures, c.new-bytes.ensures.items, c.new.ensures.items) (λ whole. drawn_new (all_given c.args.attributes.now))
