use Rattle.std.proofs.Common.{subst, ◌∙◌}
use Rattle.grammar.specs.declared.line.Line.{Line}
use Rattle.grammar.specs.Spelling.{Spells}
use Rattle.engine.specs.declared.fault.RunFault.{RunFault}
use Rattle.engine.specs.Engine.{Gathered, Leaves, MakeFault, language_of}
use Rattle.postmig_c.proofs.worlds.do_line.Goals as goal

pub returns-in-Err-Line-clause-no_line : goal.returns-in-Err-Line-clause-no_line
returns-in-Err-Line-clause-no_line c = λ is.
    let before = c.drop_output.new.self in let text = c.args.line.now in
    let fault = subst (λ (fault : RunFault). MakeFault (language_of before.work) 1 text fault) c.in-Err-Line.field-0-is c.in-Err-Line.ensures.fault in
    let left = subst (λ (fault : RunFault). Leaves before text fault c.run_line.new.self) c.in-Err-Line.field-0-is c.in-Err-Line.ensures.left in
    (subst (λ (runner : Gathered). (line : Line) → Spells (language_of runner.work) text line → ⊥) c.drop_output.ensures fault.1, left ∙ c.drop_output.ensures)
