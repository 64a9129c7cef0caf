use Rattle.std.proofs.Common.{subst, refl}
use Rattle.std.specs.Prelude.{Option, IfSome}
use Rattle.grammar.specs.Spelling.{Spells}
use Rattle.grammar.specs.declared.line.Language.TheVariants.{Script as AScript}
use Rattle.grammar.specs.declared.line.Line.{Line}
use Rattle.grammar.specs.declared.line.Line.TheVariants.{Skipped, Do}
use Rattle.postmig_c.proofs.would.line_status.Goals as goal

pub returns-in-Ok-Some-Do-clause-would : goal.returns-in-Ok-Some-Do-clause-would
returns-in-Ok-Some-Do-clause-would c = λ _ _ _.
    let text = c.args.text.now in let arm = c.in-Ok-Some-Do in
    let found = subst (λ (f : Option Line). IfSome f (λ line. Spells AScript text line)) arm.field-0-is arm.ensures.found in
    let spells = subst (λ (line : Line). Spells AScript text line) arm.field-0-0-is found in
    record { state = c.in-Some.world.now; line = Do arm.order; runs = c.in-Some.ensures.some; spells = spells; checks = c.order_status.ensures.checks }

pub returns-in-Ok-Some-Skipped-clause-would : goal.returns-in-Ok-Some-Skipped-clause-would
returns-in-Ok-Some-Skipped-clause-would c = λ _ _ _.
    let text = c.args.text.now in let arm = c.in-Ok-Some-Skipped in
    let found = subst (λ (f : Option Line). IfSome f (λ line. Spells AScript text line)) arm.field-0-is arm.ensures.found in
    let spells = subst (λ (line : Line). Spells AScript text line) arm.field-0-0-is found in
    record { state = c.in-Some.world.now; line = Skipped; runs = c.in-Some.ensures.some; spells = spells; checks = refl }
