-- Where the lines of an input end.
use Rattle.std.specs.Prelude.{◌≡◌, ◌≢◌, ℕ, ◌+◌, ◌<◌, Bool, true, false, List, [], ◌∷◌, ◌++◌, length, Option, MatchOption, refl}
use Rattle.std.specs.Coded.{Coded, code_by, coded×, coded_list, coded_ℕ}
use Rattle.std.specs.List.{AllByRecursion}
use Rattle.std.specs.Str.Lines.{strip_carriage_return}
use Rattle.lines.specs.declared.lines.Line.{Line}

-- no byte is a line feed
abbrev pub HasNoFeed : List ℕ → Type 0
HasNoFeed bytes = AllByRecursion (λ b. b ≢ 10) bytes

-- the text of a line: a carriage return before its line feed is no part of it
abbrev pub line_text : Bool → List ℕ → List ℕ
line_text true bytes = strip_carriage_return bytes
line_text false bytes = bytes

-- the bytes of lines with their line feeds
abbrev pub joined : List (List ℕ) → List ℕ
joined [] = []
joined (raw ∷ raws) = raw ++ 10 ∷ joined raws

-- what is left of an input: the number of the lines before it, and its bytes
pub record Left : Type 0 where
  pub number : ℕ
  pub bytes : List ℕ

-- the code of what is left
abbrev pub coded_left : Coded Left
coded_left = code_by (ℕ × List ℕ) (coded× coded_ℕ (coded_list coded_ℕ)) (λ a. (a.number, a.bytes)) (λ p. record { number = p.0; bytes = p.1 }) (λ _. refl)

-- a line with its line feed, if one ends it
abbrev pub with_feed : Bool → List ℕ → List ℕ
with_feed true raw = raw ++ 10 ∷ []
with_feed false raw = raw

-- this line comes first; only the last may lack its line feed
pub record IsNext (old : Left) (line : Line) (new : Left) : Type 0 where
  pub one : HasNoFeed line.raw.now
  pub whole : line.whole.now ≡ with_feed line.ended line.raw.now
  pub cut : old.bytes ≡ line.whole.now ++ new.bytes
  pub some : 0 < length line.whole.now
  pub last : line.ended ≡ false → new.bytes ≡ []
  pub counted : line.number ≡ old.number + 1
  pub number : new.number ≡ line.number

-- the next line is taken, if one is left
abbrev pub TakesLine : Left → Option Line → Left → Type 0
TakesLine old result new = MatchOption result ((old.bytes ≡ []) × (new ≡ old)) (λ line. IsNext old line new)
