-- The output of a check of a transcript.
use Rattle.std.specs.Prelude.{◌≡◌, ℕ, ◌<◌, Bool, true, false, List, [], ◌∷◌, ◌++◌, length, codes, Option}
use Rattle.std.specs.Fmt.{decimal}
use Rattle.std.specs.Io.KnownBytes.{Appends}
use Rattle.mig_base.specs.declared.command.Entry.{Entry}
use Rattle.mig_base.specs.declared.command.Reply.{Reply}
use Rattle.mig_base.specs.Flat.{IsFlatRun}
use Rattle.mig_base.specs.Texts.{reply_text}
use Rattle.report.specs.Checks.{FirstWrong}
use Rattle.grammar.specs.declared.line.Language.TheVariants as language
use Rattle.grammar.specs.declared.line.Line.{Line}
use Rattle.grammar.specs.declared.line.Line.TheVariants.{Skipped, Do, Enter}
use Rattle.engine.specs.declared.fault.RunFault.{RunFault}
use Rattle.engine.specs.declared.fault.RunFault.TheVariants as faults
use Rattle.grammar.specs.Lines.{Reads}
use Rattle.engine.specs.Script.{StopsBy}

-- the entries of a list of lines
abbrev pub entries_in : List Line → List Entry
entries_in [] = []
entries_in (Skipped ∷ lines) = entries_in lines
entries_in (Do order ∷ lines) = entries_in lines
entries_in (Enter entry ∷ lines) = entry ∷ entries_in lines

-- the input is a transcript of these entries
abbrev pub IsTranscript : List ℕ → List Entry → Type 0
IsTranscript input entries = (lines : List Line) × Reads language.Transcript input lines [] × (entries ≡ entries_in lines)

-- the line of a flat run: ok, and the number of entries
abbrev pub ok_line : ℕ → List ℕ
ok_line count = codes "ok " ++ decimal count ++ 10 ∷ []

-- the line of any other: wrong, the index of an entry, counted from 0, and the reply that one flat memory gives there
abbrev pub wrong_line : ℕ → Reply → List ℕ
wrong_line index expected = codes "wrong " ++ decimal index ++ codes " expected " ++ reply_text expected ++ 10 ∷ []

-- whether the entries are a flat run, and the line that says so; otherwise the line names the first wrong entry
abbrev pub IsVerdict : List Entry → Bool → List ℕ → Type 0
IsVerdict entries true text = IsFlatRun entries × (text ≡ ok_line (length entries))
IsVerdict entries false text = (index : ℕ) × (expected : Reply) × FirstWrong entries index expected × (text ≡ wrong_line index expected)

-- the input is a transcript, and its verdict was written
pub record Checks (input : List ℕ) (answer : Bool) (before after : Option (List ℕ)) : Type 0 where
  pub entries : List Entry
  pub text : List ℕ
  pub transcript : IsTranscript input entries
  pub verdict : IsVerdict entries answer text
  pub appends : Appends before after text

-- the input is a transcript, and a part of its verdict was not written
pub record ChecksUnwritten (input : List ℕ) (before after : Option (List ℕ)) : Type 0 where
  pub entries : List Entry
  pub answer : Bool
  pub written : List ℕ
  pub more : List ℕ
  pub transcript : IsTranscript input entries
  pub verdict : IsVerdict entries answer (written ++ more)
  pub missing : 0 < length more
  pub appends : Appends before after written

-- lines of a transcript have no output of their own
abbrev pub Silent : List Line → List ℕ → Type 0
Silent lines text = text ≡ []

-- a check ends with a fault: nothing is written before its verdict
abbrev pub CheckStops : List ℕ → Option (List ℕ) → RunFault → Option (List ℕ) → Option (List ℕ) → Type 0
CheckStops input unread (faults.Line n) before after = StopsBy language.Transcript Silent input unread (faults.Line n) before after
CheckStops input unread faults.ReadFault before after = StopsBy language.Transcript Silent input unread faults.ReadFault before after
CheckStops input unread faults.WriteFault before after = ChecksUnwritten input before after
CheckStops input unread faults.NoMemory before after = StopsBy language.Transcript Silent input unread faults.NoMemory before after
