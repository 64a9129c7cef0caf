-- The digits of a number.
use Rattle.std.proofs.Common.{◌≡◌, ◌≢◌, ℕ, ◌+◌, ◌*◌, ◌<◌, ◌≤◌, List, [], ◌∷◌, length, get_or, take, drop, arith, refl, ap, ◌∙◌, sym, subst, inl, inr, lit≤}
use Rattle.std.proofs.lemmas.Bool.Decides.{nat_tests}
use Rattle.std.specs.Char.{digit_value}
use Rattle.std.specs.Str.Parse.{AllDigits, digits_value}
use Rattle.std.proofs.lemmas.Int.Digits.{digits_value_more}
use Rattle.std.proofs.lemmas.Str.Parse.{digits_value-take-le}
use Rattle.words.specs.Words.{HasNone, Digits, IsNumber}

-- the first digits, of this value, and one more give no more than all of them
pub value_so_far : (radix value : ℕ) (ds : List ℕ) (i : ℕ) → 1 ≤ radix → i < length ds → digits_value radix (take i ds) ≡ value → value * radix + digit_value (get_or ds i 0) ≤ digits_value radix ds
value_so_far radix value ds i some lt e =
    let more = digits_value_more radix ds i lt in
    omega (arith, rw e at more, digits_value-take-le radix ds (i + 1) some)

-- no decimal number begins with 0x
no_mark : (text : List ℕ) (n : ℕ) → Digits 10 20 (48 ∷ 120 ∷ text) n → ⊥
no_mark text n d = absurd (omega (arith, d.each.1.0))

pub one_number : (w : List ℕ) (m n : ℕ) → IsNumber w m → IsNumber w n → m ≡ n
one_number w m n p q = elim p.1 [
  | inl a ↦ elim q.1 [
    | inl b ↦ sym a.value ∙ b.value
    | inr b ↦ absurd (no_mark b.0 m (subst (λ (t : List ℕ). Digits 10 20 t m) b.1 a))
  ]
  | inr a ↦ elim q.1 [
    | inl b ↦ absurd (no_mark a.0 n (subst (λ (t : List ℕ). Digits 10 20 t n) a.1 b))
    | inr b ↦ sym a.2.value ∙ ap (λ (t : List ℕ). digits_value 16 (drop 2 t)) (sym a.1 ∙ b.1) ∙ b.2.value
  ]
]

-- the first byte of a number is a digit
digit_first : (b : ℕ) → digit_value b < 10 → (48 ≤ b) × (b < 58)
digit_first b lt = (grind (arith, nat_tests), grind (arith, nat_tests))

-- the word is not empty, and its first byte is a digit
unfoldable pub BeginsWithDigit : List ℕ → Type 0
BeginsWithDigit word = (b : ℕ) × (bs : List ℕ) × (word ≡ b ∷ bs) × (48 ≤ b) × (b < 58)

decimal_first : (w : List ℕ) (n : ℕ) → Digits 10 20 w n → BeginsWithDigit w
unfolding BeginsWithDigit
decimal_first [] n d = absurd (omega (arith, d.some))
decimal_first (b ∷ bs) n d = (b, bs, refl, (digit_first b d.each.0).0, (digit_first b d.each.0).1)

pub number_first : (w : List ℕ) (n : ℕ) → IsNumber w n → BeginsWithDigit w
unfolding BeginsWithDigit
number_first w n h = elim h.1 [
  | inl d ↦ decimal_first w n d
  | inr d ↦ (48, 120 ∷ d.0, d.1, lit≤ tt, lit≤ tt)
]

-- the first byte of a number is no other
pub not_first : (b : ℕ) (bs : List ℕ) (n : ℕ) → (48 ≤ b → b < 58 → ⊥) → IsNumber (b ∷ bs) n → ⊥
unfolding BeginsWithDigit
not_first b bs n other h =
    let first = number_first (b ∷ bs) n h in
    apart b bs first.0 first.1 other first.2 first.3 first.4 where
      apart : (b : ℕ) (bs : List ℕ) (c : ℕ) (cs : List ℕ) → (48 ≤ b → b < 58 → ⊥) → b ∷ bs ≡ c ∷ cs → 48 ≤ c → c < 58 → ⊥
      apart b bs c cs other e low high = let same : b ≡ c = cc in other (omega (arith, same, low)) (omega (arith, same, high))
