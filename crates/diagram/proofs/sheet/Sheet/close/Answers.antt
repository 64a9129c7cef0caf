use Rattle.diagram.proofs.Drawn.{drawn_close}
use Rattle.diagram.proofs.sheet.Sheet.close.Goals as goal

pub invariant_of-self-2 : goal.invariant_of-self-2
invariant_of-self-2 c = rw c.in_ok-push_end.ensures (λ whole.
    drawn_close c.pop.new.self.items c.in-Some.tag c.self.inside.bytes.items ((rw c.in-Some.ensures.items at c.self.invariant) whole))
