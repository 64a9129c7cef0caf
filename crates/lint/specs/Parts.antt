-- What is listed of one line.
use Rattle.std.specs.Prelude.{◌≡◌, ℕ, ◌⊎◌, ◌↔◌, IsTrue, List, []}
use Rattle.grammar.specs.declared.line.Language.{Language}
use Rattle.grammar.specs.declared.line.Line.{Line}
use Rattle.engine.specs.Lines.{RawLine, SpellsRaw}
use Rattle.lint.specs.declared.linter.Linter.{Linter}
use Rattle.lint.specs.Listing.{IsListed}

-- the line is one of the language
abbrev pub IsOfLanguage : Language → RawLine → Type 0
IsOfLanguage language raw = (line : Line) × SpellsRaw language raw line

-- what is listed of a line
abbrev pub ListsRaw : Language → List ℕ → ℕ → RawLine → List ℕ → Type 0
ListsRaw language name number raw text = (IsOfLanguage language raw × (text ≡ [])) ⊎ ((IsOfLanguage language raw → ⊥) × IsListed name number text)

-- the line was listed, if it is wrong
pub record Takes (old : Linter) (number : ℕ) (raw : RawLine) (new : Linter) (text : List ℕ) : Type 0 where
  pub lists : ListsRaw old.language old.name.now number raw text
  pub clean : IsTrue new.clean ↔ (IsTrue old.clean × (text ≡ []))
  pub language : new.language ≡ old.language
  pub name : new.name.now ≡ old.name.now
