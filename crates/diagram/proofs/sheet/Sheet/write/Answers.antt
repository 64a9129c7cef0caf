use Rattle.diagram.proofs.Drawn.{drawn_words}
use Rattle.diagram.proofs.sheet.Sheet.write.Goals as goal

pub invariant_of-self-2 : goal.invariant_of-self-2
invariant_of-self-2 c = rw c.in_ok-push_escaped.ensures (λ whole.
    drawn_words c.self.inside.inner.items c.self.inside.bytes.items c.args.text.now (c.self.invariant whole))
