-- What an audit says of the log that a trace was converted to: its text, with the lines of the trace in place of the log's.
use Rattle.std.specs.Prelude.{◌≡◌, ℕ, ◌-◌, ◌||◌, ◌&&◌, ◌==◌, nat_lt, nat_le, if◌then◌else◌, Bool, true, false, List, [], ◌∷◌, ◌++◌, length, drop, map, codes, slice_index}
use Rattle.std.specs.List.{All, before_first, join_with_byte, position_or_len, slice_split}
use Rattle.std.specs.Str.{bytes_eq}
use Rattle.std.specs.Str.Parse.{digits_value}
use Rattle.std.specs.Fmt.{decimal}

-- no byte is this one
abbrev pub HasNo : ℕ → List ℕ → Type 0
HasNo byte text = All (λ b. (b == byte) ≡ false) text

-- a byte other than a decimal digit
abbrev pub is_no_digit : ℕ → Bool
is_no_digit byte = nat_lt byte 48 || nat_lt 57 byte

-- the log has a line with this number, where it has as many lines as this list
abbrev pub is_of_log : List ℕ → ℕ → Bool
is_of_log lines number = nat_lt 0 number && nat_le number (length lines)

-- the number of a line of the log, as that of the line of the trace that it comes from; another number as it is
abbrev pub shown_number : List ℕ → List ℕ → List ℕ
shown_number lines digits = if is_of_log lines (digits_value 10 digits) then decimal (slice_index lines (digits_value 10 digits - 1)) else digits

-- a word with such a number at its front
abbrev pub shown_word : List ℕ → List ℕ → List ℕ
shown_word lines word = shown_number lines (before_first is_no_digit word) ++ drop (position_or_len is_no_digit word) word

-- a word that may have one
abbrev pub shown_one : List ℕ → Bool → List ℕ → List ℕ
shown_one lines is_number word = if is_number then shown_word lines word else word

-- what comes before the number of a line: the word of a text, or the name of a field of JSON
abbrev pub names_line : List ℕ → Bool
names_line word = bytes_eq word (codes "line") || bytes_eq word (codes "\"line\":")

-- words: one that comes after such a word has one
abbrev pub shown_words : List ℕ → Bool → List (List ℕ) → List (List ℕ)
shown_words lines is_number [] = []
shown_words lines is_number (word ∷ words) = shown_one lines is_number word ∷ shown_words lines (names_line word) words

-- a text of such words, with blanks between them
abbrev pub shown_said : List ℕ → Bool → List ℕ → List ℕ
shown_said lines is_number said = join_with_byte 32 (shown_words lines is_number (slice_split (λ b. b == 32) said))

-- a line of what was said under the empty name: a finding begins with a colon and the number of its line
abbrev pub shown_line : List ℕ → List ℕ → List ℕ → List ℕ
shown_line name lines [] = []
shown_line name lines (byte ∷ said) = if byte == 58 then name ++ 58 ∷ shown_said lines true said else shown_said lines false (byte ∷ said)

-- the whole text
abbrev pub shown_text : List ℕ → List ℕ → List ℕ → List ℕ
shown_text name lines said = join_with_byte 10 (map (λ line. shown_line name lines line) (slice_split (λ b. b == 10) said))
