use Rattle.std.proofs.Common.{◌≡◌, ℕ, ◌≤◌, List, length, Bool, sym, subst, arith}
use Rattle.std.proofs.lemmas.List.{take_all}
use Rattle.grammar.specs.declared.line.Language.{Language}
use Rattle.grammar.specs.declared.line.Line.{Line}
use Rattle.grammar.specs.Spelling.{Spells}
use Rattle.postmig_c.specs.Reasons.{IsLine, language_for}
use Rattle.postmig_c.proofs.reasons.reason_in.Goals as goal

is_right : (is_transcript : Bool) (language : Language) (text : List ℕ) (line : Line) → language ≡ language_for is_transcript → length text ≤ 256 → Spells language text line → IsLine is_transcript text
is_right is_transcript language text line is short spells =
    (line, (short, subst (λ (t : List ℕ). Spells (language_for is_transcript) t line) (sym (take_all 256 text short)) (subst (λ (l : Language). Spells l text line) is spells)))

is_wrong : (is_transcript : Bool) (language : Language) (text : List ℕ) → language ≡ language_for is_transcript → length text ≤ 256 → ((line : Line) → Spells language text line → ⊥) → IsLine is_transcript text → ⊥
is_wrong is_transcript language text is short none right =
    none right.0 (subst (λ (l : Language). Spells l text right.0) (sym is) (subst (λ (t : List ℕ). Spells (language_for is_transcript) t right.0) (take_all 256 text short) right.1.1))

pub returns-in-Some-clause-right : goal.returns-in-Some-clause-right
returns-in-Some-clause-right c =
    is_right c.args.is_transcript _ c.args.text.now _ c.language_for-language.ensures (omega (arith, c.if-text-gt-MAX_LINE.false)) (rw c.in-Some.is at c.in_ok-parse.ensures.found)

pub returns-clause-wrong : goal.returns-clause-wrong
returns-clause-wrong c =
    is_wrong c.args.is_transcript _ c.args.text.now c.language_for-language.ensures (omega (arith, c.if-text-gt-MAX_LINE.false)) (rw c.in-None.is at c.in_ok-parse.ensures.none)
