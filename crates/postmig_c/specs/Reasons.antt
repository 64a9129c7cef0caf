-- What is wrong with the lines of a text.
use Rattle.std.specs.Prelude.{ℕ, Bool, true, false, List}
use Rattle.grammar.specs.Lines.{HasNoFeed}
use Rattle.grammar.specs.declared.line.Language.{Language}
use Rattle.grammar.specs.declared.line.Language.TheVariants.{Script, Transcript}
use Rattle.engine.specs.Lines.{raw_line}
use Rattle.lint.specs.Parts.{IsOfLanguage}

-- the language of transcripts, or that of scripts
abbrev pub language_for : Bool → Language
language_for true = Transcript
language_for false = Script

-- a text without a line feed is by itself a line of the language, as `lint` reads it
abbrev pub IsLine : Bool → List ℕ → Type 0
IsLine is_transcript text = IsOfLanguage (language_for is_transcript) (raw_line text false)

-- a reason is any text of one line
abbrev pub IsReason : List ℕ → Type 0
IsReason text = HasNoFeed text
