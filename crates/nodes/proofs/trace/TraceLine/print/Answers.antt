use Rattle.std.proofs.Common.{ℕ, List, ◌++◌, ap, ◌∙◌}
use Rattle.std.specs.Prelude.{codes}
use Rattle.mig_base.specs.Texts.{effect_text}
use Rattle.grammar.specs.declared.order.Order.{Order}
use Rattle.grammar.specs.Printed.{outcome_line}
use Rattle.grammar.specs.Texts.{order_text}
use Rattle.nodes.specs.Traces.{line_text}
use Rattle.nodes.proofs.trace.TraceLine.print.Goals as goal

pub returns : goal.returns
unfolding line_text outcome_line
returns c =
    let effect = c.args.self.now.effect in
    c.in_ok-write.ensures.bytes
    ∙ ap (λ (before : List ℕ). before ++ (order_text c.of.result ++ (codes " => " ++ (effect_text effect ++ codes "\n")))) (c.try_reserve.ensures.bytes ∙ c.clear.ensures.bytes)
    ∙ ap (λ (order : Order). order_text order ++ (codes " => " ++ (effect_text effect ++ codes "\n"))) c.of.ensures.is
