-- What is done with one line.
use Rattle.std.specs.Prelude.{ℕ, List}
use Rattle.grammar.specs.declared.line.Language.TheVariants.{Script}
use Rattle.grammar.specs.declared.line.Line.{Line}
use Rattle.engine.specs.Lines.{RawLine, SpellsRaw}
use Rattle.host_calls.specs.declared.stepper.Stepper.{Stepper}
use Rattle.host_calls.specs.Stepped.{DoesCalls}

-- the line is one of a script, and has this effect and this output
abbrev pub Takes : Stepper → ℕ → RawLine → Stepper → List ℕ → Type 0
Takes old number raw new out = (line : Line) × SpellsRaw Script raw line × DoesCalls old.world line new.world out

-- the line is none of a script
abbrev pub Refuses : Stepper → ℕ → RawLine → Type 0
Refuses state number raw = (line : Line) → SpellsRaw Script raw line → ⊥
