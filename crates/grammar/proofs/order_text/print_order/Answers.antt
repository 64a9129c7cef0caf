use Rattle.std.proofs.Common.{◌≡◌, ℕ, List, arith, rules, string_bytes, subst, sym}
use Rattle.std.proofs.lemmas.Grind.{common_steps}
use Rattle.grammar.specs.declared.line.Language.TheVariants.{Script}
use Rattle.grammar.specs.declared.line.Line.TheVariants.{Do}
use Rattle.grammar.specs.Fits.{CanBeSpelled, OrderFits}
use Rattle.grammar.specs.Lines.{IsLine}
use Rattle.grammar.specs.Texts.{order_text}
use Rattle.grammar.proofs.Printing.{order_line}
use Rattle.grammar.proofs.order_text.print_order.Goals as goal

pub returns-clause-line : goal.returns-clause-line
returns-clause-line c =
    let written : string_bytes c.write.new.self ≡ order_text c.args.order = first_of (search rules, grind (arith, common_steps)) in
    let fits : CanBeSpelled c.args.order → OrderFits c.args.order = first_of (search rules, grind (arith, common_steps)) in
    λ can. subst (λ (text : List ℕ). IsLine Script text (Do c.args.order)) (sym written) (order_line c.args.order (fits can))
