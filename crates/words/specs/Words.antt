-- The words of a line: numbers, and the tokens that words are.
use Rattle.std.specs.Prelude.{◌≡◌, ◌≢◌, ℕ, ◌<◌, ◌≤◌, ◌^◌, ◌⊎◌, List, [], ◌∷◌, length}
use Rattle.std.specs.List.{AllByRecursion}
use Rattle.std.specs.Str.Parse.{AllDigits, digits_value}

-- no byte of the text is this one
abbrev pub HasNone : ℕ → List ℕ → Type 0
HasNone byte text = AllByRecursion (λ b. b ≢ byte) text

-- 1 to `most` digits in the radix, of this value
pub record Digits (radix most : ℕ) (text : List ℕ) (n : ℕ) : Type 0 where
  pub some : 0 < length text
  pub few : length text ≤ most
  pub each : AllDigits radix text
  pub value : digits_value radix text ≡ n

-- a number below 2^64: 1 to 20 decimal digits, or 0x and 1 to 16 hexadecimal digits
abbrev pub IsNumber : List ℕ → ℕ → Type 0
IsNumber word n = (n < 2 ^ 64) × (Digits 10 20 word n ⊎ ((text : List ℕ) × (word ≡ 48 ∷ 120 ∷ text) × Digits 16 16 text n))

-- each word is one for the token in its place, where `Is` says which words are for a token
abbrev pub AreEach : {T : Type 0} → (T → List ℕ → Type 0) → List T → List (List ℕ) → Type 0
AreEach Is [] [] = Unit {0}
AreEach Is [] (word ∷ words) = ⊥
AreEach Is (token ∷ tokens) [] = ⊥
AreEach Is (token ∷ tokens) (word ∷ words) = Is token word × AreEach Is tokens words
