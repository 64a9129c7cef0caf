-- What is listed of a script or a transcript: one line for each of its lines that is wrong.
use Rattle.std.specs.Prelude.{◌≡◌, ℕ, ◌+◌, ◌<◌, ◌⊎◌, ◌↔◌, Bool, IsTrue, List, [], ◌∷◌, ◌++◌, length, codes, Option, IfSome}
use Rattle.std.specs.List.{concat}
use Rattle.std.specs.Fmt.{decimal}
use Rattle.std.specs.Io.KnownBytes.{Appends}
use Rattle.grammar.specs.declared.line.Language.{Language}
use Rattle.grammar.specs.declared.line.Line.{Line}
use Rattle.grammar.specs.Lines.{HasNoFeed, ReadsLine, BeginsWrong}
use Rattle.engine.specs.declared.fault.RunFault.{RunFault}
use Rattle.engine.specs.declared.fault.RunFault.TheVariants as faults

-- the first line of the bytes ends where rest begins: after its line feed, or at their end
abbrev pub Cuts : List ℕ → List ℕ → Type 0
Cuts bytes rest = ((raw : List ℕ) × HasNoFeed raw × (bytes ≡ raw ++ 10 ∷ rest)) ⊎ (HasNoFeed bytes × (rest ≡ []))

-- one line of a listing: a name, the number of a line, a column, and a reason without a line feed
pub record IsListed (name : List ℕ) (number : ℕ) (text : List ℕ) : Type 0 where
  pub column : ℕ
  pub reason : List ℕ
  pub one : HasNoFeed reason
  pub parts : text ≡ name ++ codes ":" ++ decimal number ++ codes ":" ++ decimal column ++ codes ": " ++ reason ++ 10 ∷ []

-- what is listed of the first line of the bytes: nothing if it is a line of the language, else one line with its number
abbrev pub ListsLine : Language → List ℕ → ℕ → List ℕ → List ℕ → List ℕ → Type 0
ListsLine language name number bytes text rest =
    ((line : Line) × ReadsLine language bytes line rest × (text ≡ [])) ⊎ (BeginsWrong language bytes × Cuts bytes rest × IsListed name number text)

-- what is listed of the first lines of the bytes, one text for each; rest comes after them
abbrev pub Lists : Language → List ℕ → ℕ → List ℕ → List (List ℕ) → List ℕ → Type 0
Lists language name number bytes [] rest = bytes ≡ rest
Lists language name number bytes (text ∷ texts) rest = (mid : List ℕ) × ListsLine language name number bytes text mid × Lists language name (number + 1) mid texts rest

-- all lines of the input were listed; the answer is whether nothing was written
pub record ListsAll (language : Language) (name input : List ℕ) (answer : Bool) (before after : Option (List ℕ)) : Type 0 where
  pub texts : List (List ℕ)
  pub lists : Lists language name 1 input texts []
  pub clean : IsTrue answer ↔ (concat texts ≡ [])
  pub appends : Appends before after (concat texts)

-- of what was read, these lines were listed and held is left; of the listing more is missing
pub record ListsWithin (language : Language) (name input : List ℕ) (unread : Option (List ℕ)) (held more : List ℕ) (before after : Option (List ℕ)) : Type 0 where
  pub texts : List (List ℕ)
  pub rest : List ℕ
  pub written : List ℕ
  pub lists : Lists language name 1 input texts rest
  pub read : IfSome unread (λ bytes. rest ≡ held ++ bytes)
  pub parts : concat texts ≡ written ++ more
  pub appends : Appends before after written

-- how a listing ends with a fault
abbrev pub ListingStops : Language → List ℕ → List ℕ → Option (List ℕ) → RunFault → Option (List ℕ) → Option (List ℕ) → Type 0
-- a wrong line ends none
ListingStops language name input unread (faults.Line n) before after = ⊥
-- each line that was read to its line feed was listed
ListingStops language name input unread faults.ReadFault before after = (held : List ℕ) × HasNoFeed held × ListsWithin language name input unread held [] before after
-- a part of the listing is missing
ListingStops language name input unread faults.WriteFault before after = (held : List ℕ) × (more : List ℕ) × (0 < length more) × ListsWithin language name input unread held more before after
-- the listing of some lines from the first on was written
ListingStops language name input unread faults.NoMemory before after = (held : List ℕ) × ListsWithin language name input unread held [] before after
