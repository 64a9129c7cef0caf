-- The facts of owed pages.
use Rattle.std.specs.Prelude.{◌≡◌, ℕ, ◌*◌, ◌⊎◌, ◌==◌, Bool, true, false, List, [], ◌∷◌, ◌++◌, length, codes, MatchOption}
use Rattle.std.specs.List.{list_any}
use Rattle.std.specs.Fmt.{decimal}
use Rattle.std.specs.Ordering.{nat_cmp}
use Rattle.std.specs.FinSet.{FinSet, empty, len, remove}
use Rattle.mig_base.specs.Texts.{hexadecimal}
use Rattle.mig_base.specs.PageSets.{IsFirstPage}
use Rattle.foundation.specs.declared.TheConstants.{PAGE_SIZE}
use Rattle.mig_model.specs.Migration.{World}
use Rattle.mig_model.specs.Owed.{home, origins}
use Rattle.mig_model.specs.Views.{owed_left}

-- the list has the pages of a set, ascending: each is the first of those that are left
abbrev pub AreAscending : FinSet nat_cmp → List ℕ → Type 0
AreAscending set [] = set ≡ empty
AreAscending set (page ∷ pages) = IsFirstPage set page × AreAscending (remove set page) pages

-- the address of a page, as it is written
abbrev pub address_text : ℕ → List ℕ
address_text page = hexadecimal (PAGE_SIZE * page)

-- how many pages are left, how many the source has still to push, and how many are requested
unfoldable pub owed_head : World → List ℕ
owed_head world =
    codes "owed left " ++ decimal (owed_left world) ++ codes " push " ++ decimal (len world.source.remaining)
    ++ codes " requests " ++ decimal (length world.destination.requests) ++ 10 ∷ []

-- the line of a page that the source has still to push
unfoldable pub push_line : ℕ → List ℕ
push_line page = codes "push " ++ address_text page ++ 10 ∷ []

-- the lines of these pages
abbrev pub push_lines : List ℕ → List ℕ
push_lines [] = []
push_lines (page ∷ pages) = push_line page ++ push_lines pages

-- a copy waits to be installed, is on a wire, is still to be pushed, or is lost
abbrev pub IsPlace : List ℕ → Type 0
IsPlace place = (place ≡ codes "arrived") ⊎ (place ≡ codes "on wire") ⊎ (place ≡ codes "on urgent") ⊎ (place ≡ codes "to push") ⊎ (place ≡ codes "lost")

-- whether the destination has requested a page of the source, and has not received it
abbrev pub is_requested : World → ℕ → Bool
is_requested world origin = list_any (λ page. page == origin) world.destination.requests

-- what follows then
abbrev pub requested_text : Bool → List ℕ
requested_text true = codes ", requested"
requested_text false = []

-- the line of the source's page `origin`, which the destination is owed at `page`
unfoldable pub owed_line : World → ℕ → ℕ → List ℕ → List ℕ
owed_line world origin page place =
    codes "owed " ++ address_text page ++ codes " from " ++ address_text origin ++ codes ": " ++ place
    ++ requested_text (is_requested world origin) ++ 10 ∷ []

-- the text is that line; there is none if the page is owed nowhere
abbrev pub IsOwedLine : World → ℕ → List ℕ → Type 0
IsOwedLine world origin text =
    MatchOption (home world.destination.owed origin) (text ≡ []) (λ page. (place : List ℕ) × IsPlace place × (text ≡ owed_line world origin page place))

-- the text is the lines of these pages of the source
abbrev pub AreOwedLines : World → List ℕ → List ℕ → Type 0
AreOwedLines world [] text = text ≡ []
AreOwedLines world (origin ∷ origins) text = (line : List ℕ) × (more : List ℕ) × IsOwedLine world origin line × (text ≡ line ++ more) × AreOwedLines world origins more

-- the text is the counts, a line for each page that the source has still to push, and one for each that the destination is owed
pub record IsOwedText (world : World) (text : List ℕ) : Type 0 where
  pub pushes : List ℕ
  pub owed : List ℕ
  pub lines : List ℕ
  pub all_pushes : AreAscending world.source.remaining pushes
  pub all_owed : AreAscending (origins world.destination.owed) owed
  pub each : AreOwedLines world owed lines
  pub whole : text ≡ owed_head world ++ push_lines pushes ++ lines

-- What is appended to a text

-- the lines of the pages of a set that the source has still to push
abbrev pub AddsPushes : FinSet nat_cmp → List ℕ → List ℕ → Type 0
AddsPushes set before after = (pages : List ℕ) × AreAscending set pages × (after ≡ before ++ push_lines pages)

-- the line of a page of the source that is owed
abbrev pub AddsOwed : World → ℕ → List ℕ → List ℕ → Type 0
AddsOwed world origin before after = (line : List ℕ) × IsOwedLine world origin line × (after ≡ before ++ line)

-- the lines of the pages of a set
abbrev pub AddsAllOwed : World → FinSet nat_cmp → List ℕ → List ℕ → Type 0
AddsAllOwed world set before after = (pages : List ℕ) × (lines : List ℕ) × AreAscending set pages × AreOwedLines world pages lines × (after ≡ before ++ lines)
