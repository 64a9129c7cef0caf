use Rattle.std.proofs.Common.{◌≡◌, ℕ, ◌≤◌, List, Bool, sym, subst, arith}
use Rattle.grammar.specs.declared.line.Language.{Language}
use Rattle.grammar.specs.declared.line.Line.{Line}
use Rattle.grammar.specs.Spelling.{Spells}
use Rattle.engine.specs.Lines.{held_line, line_text}
use Rattle.lint.specs.Parts.{IsOfLanguage}
use Rattle.lint.proofs.linter.wrong_in.Goals as goal

is_right : (language : Language) (front text : List ℕ) (len : ℕ) (ended : Bool) (line : Line) → text ≡ line_text ended front → len ≤ 256 → Spells language text line → IsOfLanguage language (held_line front len ended)
is_right language front text len ended line e short spells = (line, (short, subst (λ (t : List ℕ). Spells language t line) e spells))

is_wrong : (language : Language) (front text : List ℕ) (len : ℕ) (ended : Bool) → text ≡ line_text ended front → ((line : Line) → Spells language text line → ⊥) → IsOfLanguage language (held_line front len ended) → ⊥
is_wrong language front text len ended e none right = none right.0 (subst (λ (t : List ℕ). Spells language t right.0) (sym e) right.1.1)

pub returns-in-Some-clause-right : goal.returns-in-Some-clause-right
returns-in-Some-clause-right c =
    is_right _ c.args.front.now _ c.args.len c.args.ended _ c.text_of-text.ensures (omega (arith, c.if-len.false)) (rw c.in-Some.is at c.in_ok-parse.ensures.found)

pub returns-in-None-clause-wrong : goal.returns-in-None-clause-wrong
returns-in-None-clause-wrong c = is_wrong _ c.args.front.now _ c.args.len c.args.ended c.text_of-text.ensures (rw c.in-None.is at c.in_ok-parse.ensures.none)
