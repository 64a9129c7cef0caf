use Rattle.grammar.specs.declared.line.Line.{Line as LineOf}
use Rattle.grammar.specs.declared.line.Language.TheVariants.{Script as AScript}
use Rattle.grammar.specs.declared.line.Line.TheVariants.{Do}
use Rattle.grammar.specs.Spelling.{Spells}
use Rattle.expected.proofs.player.order_of.Goals as goal

pub returns-in-None-clause-none : goal.returns-in-None-clause-none
returns-in-None-clause-none c =
    let none : (line : LineOf) → Spells AScript c.args.text.now line → ⊥ = rw c.in-None.is at c.in_ok-order.ensures.none in
    λ order spells. none (Do order) spells
