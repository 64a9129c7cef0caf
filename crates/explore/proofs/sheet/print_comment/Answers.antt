use Rattle.std.proofs.Common.{◌≡◌, ℕ, List, arith, rules, string_bytes, subst, sym}
use Rattle.std.proofs.lemmas.Grind.{common_steps}
use Rattle.grammar.specs.declared.line.Language.TheVariants.{Script}
use Rattle.grammar.specs.declared.line.Line.TheVariants.{Skipped}
use Rattle.grammar.specs.Lines.{IsLine}
use Rattle.explore.specs.Plans.{comment_text}
use Rattle.explore.proofs.Comments.{PlanFits, comment}
use Rattle.explore.proofs.sheet.print_comment.Goals as goal

pub returns-clause-line : goal.returns-clause-line
unfolding comment_text
returns-clause-line c =
    let written : string_bytes c.write.new.self ≡ comment_text c.args.plan = first_of (search rules, grind (arith, common_steps)) in
    let fits : PlanFits c.args.plan = search rules in
    subst (λ (text : List ℕ). IsLine Script text Skipped) (sym written) (comment c.args.plan fits)
