-- What is written of a transcript whose wrong entries are listed.
use Rattle.std.specs.Prelude.{◌≡◌, ◌≢◌, ℕ, ◌+◌, ◌<◌, ◌⊎◌, Bool, true, false, List, [], ◌∷◌, ◌++◌, length, take, Option, ⊤}
use Rattle.std.specs.Io.KnownBytes.{Appends}
use Rattle.mig_base.specs.declared.command.Entry.{Entry}
use Rattle.mig_base.specs.Flat.{Memory, no_memory, reply_of, after}
use Rattle.grammar.specs.declared.line.Language.TheVariants as language
use Rattle.engine.specs.declared.fault.RunFault.{RunFault}
use Rattle.engine.specs.declared.fault.RunFault.TheVariants as faults
use Rattle.engine.specs.Script.{StopsBy}
use Rattle.engine.specs.Checking.{IsTranscript, Silent, ok_line, wrong_line}
use Rattle.explain.specs.declared.explain.Asks.{Asks}
use Rattle.explain.specs.declared.wrong.WrongReply.{WrongReply}

-- of the entries, made on this memory and counted from the index on, these are all whose reply is not the memory's, in order, each with
-- the reply that it gives
abbrev pub AreWrong : Memory → ℕ → List Entry → List WrongReply → Type 0
AreWrong memory index [] wrongs = wrongs ≡ []
AreWrong memory index (entry ∷ entries) wrongs =
    ((entry.reply ≡ reply_of memory entry.command) × AreWrong (after memory entry.command) (index + 1) entries wrongs)
    ⊎ ((rest : List WrongReply)
    × (entry.reply ≢ reply_of memory entry.command)
    × (wrongs ≡ (record { index = index; expected = reply_of memory entry.command }) ∷ rest)
    × AreWrong (after memory entry.command) (index + 1) entries rest)

-- a reason is any text, and none where none is asked for
abbrev pub IsReason : Bool → List ℕ → Type 0
IsReason true text = ⊤
IsReason false text = text ≡ []

-- the line of each wrong entry, in order, and after each its reason
abbrev pub ListsWrong : Bool → List WrongReply → List ℕ → Type 0
ListsWrong reasons [] text = text ≡ []
ListsWrong reasons (wrong ∷ wrongs) text =
    (reason : List ℕ) × (rest : List ℕ) × IsReason reasons reason × (text ≡ wrong_line wrong.index wrong.expected ++ reason ++ rest) × ListsWrong reasons wrongs rest

-- the wrong entries that are listed: all, or the first alone
abbrev pub listed : Bool → List WrongReply → List WrongReply
listed true wrongs = wrongs
listed false wrongs = take 1 wrongs

-- what is written of `count` entries of which these are wrong, and whether all is well
abbrev pub ExplainsAll : Asks → ℕ → List WrongReply → Bool → List ℕ → Type 0
ExplainsAll asks count [] answer text = (answer ≡ true) × (text ≡ ok_line count)
ExplainsAll asks count (wrong ∷ wrongs) answer text = (answer ≡ false) × ListsWrong asks.reasons (listed asks.all (wrong ∷ wrongs)) text

-- what is written of entries
abbrev pub IsReport : Asks → List Entry → Bool → List ℕ → Type 0
IsReport asks entries answer text = (wrongs : List WrongReply) × AreWrong no_memory 0 entries wrongs × ExplainsAll asks (length entries) wrongs answer text

-- the input is a transcript of `count` entries, and its report was written
pub record Explains (asks : Asks) (input : List ℕ) (answer : Bool) (count : ℕ) (before after : Option (List ℕ)) : Type 0 where
  pub entries : List Entry
  pub text : List ℕ
  pub transcript : IsTranscript input entries
  pub counts : count ≡ length entries
  pub report : IsReport asks entries answer text
  pub appends : Appends before after text

-- the input is a transcript, and a part of its report is missing in what was written
pub record ExplainsUnwritten (asks : Asks) (input : List ℕ) (before after : Option (List ℕ)) : Type 0 where
  pub entries : List Entry
  pub answer : Bool
  pub written : List ℕ
  pub more : List ℕ
  pub transcript : IsTranscript input entries
  pub report : IsReport asks entries answer (written ++ more)
  pub missing : 0 < length more
  pub appends : Appends before after written

-- how it ends with a fault: before its report nothing is written
abbrev pub ExplainStops : Asks → List ℕ → Option (List ℕ) → RunFault → Option (List ℕ) → Option (List ℕ) → Type 0
ExplainStops asks input unread (faults.Line n) before after = StopsBy language.Transcript Silent input unread (faults.Line n) before after
ExplainStops asks input unread faults.ReadFault before after = StopsBy language.Transcript Silent input unread faults.ReadFault before after
ExplainStops asks input unread faults.WriteFault before after = ExplainsUnwritten asks input before after
ExplainStops asks input unread faults.NoMemory before after = StopsBy language.Transcript Silent input unread faults.NoMemory before after
