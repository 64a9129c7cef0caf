use Rattle.diagram.specs.Given.{all_given}
use Rattle.diagram.proofs.Drawn.{drawn_open}
use Rattle.diagram.proofs.sheet.Sheet.begin.Goals as goal

pub invariant_of-self-2 : goal.invariant_of-self-2
invariant_of-self-2 c = rw (c.in_ok-push_start.ensures, c.in_ok-push.ensures.items) (λ whole.
    drawn_open c.self.inside.inner.items c.self.inside.bytes.items c.args.tag (all_given c.args.attributes.now) (c.self.invariant whole))
