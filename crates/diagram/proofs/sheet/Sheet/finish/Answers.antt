use Rattle.std.proofs.Common.{◌≡◌, [], true, rules, arith}
use Rattle.std.proofs.lemmas.Grind.{common_steps}
use Rattle.diagram.proofs.Drawn.{drawn_end}
use Rattle.diagram.proofs.sheet.Sheet.finish.Goals as goal

pub returns : goal.returns
returns c =
    let whole : c.sheet-2.inside.whole ≡ true = search rules in
    let none : c.sheet-2.inside.inner.items ≡ [] = grind (arith, common_steps) in
    rw c.in_ok-push_end.ensures (drawn_end c.sheet-2.inside.bytes.items ((rw none at c.sheet-2.invariant) whole))
