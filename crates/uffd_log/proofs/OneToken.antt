-- A word has one token, and so the words of a line one list of tokens.
use Rattle.std.proofs.Common.{◌≡◌, ◌≢◌, ℕ, ◌<◌, ◌≤◌, ◌^◌, true, List, [], ◌∷◌, ◌++◌, arith, refl, ap, ◌∙◌, sym, subst, inl, inr, lit≤, Some, None, Option, ◌+◌, take, drop, IfNone}
use Rattle.std.proofs.lemmas.Bool.Decides.{nat_tests}
use Rattle.std.specs.Char.{digit_value}
use Rattle.std.specs.Str.Parse.{AllDigits, digits_value}
use Rattle.uffd_log.specs.declared.call.Descriptor.{Descriptor}
use Rattle.uffd_log.specs.declared.keyword.Keyword.{Keyword}
use Rattle.uffd_log.specs.declared.token.Token.{Token}
use Rattle.uffd_log.specs.declared.token.Token.TheVariants.{Key, Number, Minus, On, Error, Text}
use Rattle.memchr.specs.Find.{IsFirstByte, is_byte}
use Rattle.uffd_log.specs.declared.line.Line.{Line}
use Rattle.uffd_log.specs.Lines.{line_from, Spells}
use Rattle.uffd_log.specs.Words.{words_of, IsMinus, IsDescriptor, keyword_text, IsToken, AreTokens}
use Rattle.words.specs.Words.{HasNone, IsNumber}
use Rattle.words.proofs.Bytes.{cut_at, none_of, others_before}
use Rattle.words.proofs.Numbers.{BeginsWithDigit, number_first, one_number}
use Rattle.words.proofs.Tokens.{one_list}
use Rattle.uffd_log.proofs.Keywords.{is_fine, keyword_fine, one_keyword}

descriptor_first : (w : List ℕ) (on : Descriptor) → IsDescriptor w on → BeginsWithDigit w
unfolding BeginsWithDigit
descriptor_first w on d =
    let first = number_first d.object on.object d.names in
    (first.0, first.1 ++ 58 ∷ d.fd, d.whole ∙ ap (λ (t : List ℕ). t ++ 58 ∷ d.fd) first.2, first.3, first.4)

digit_not_fine : (b : ℕ) (bs : List ℕ) → 48 ≤ b → b < 58 → is_fine (b ∷ bs) ≡ true → ⊥
digit_not_fine b bs low high fine = grind (arith, nat_tests)

keyword_no_digit : (k : Keyword) (w : List ℕ) → w ≡ keyword_text k → BeginsWithDigit w → ⊥
unfolding BeginsWithDigit
keyword_no_digit k w e first = digit_not_fine first.0 first.1 first.3 first.4 (ap is_fine (sym first.2 ∙ e) ∙ keyword_fine k)

minus_no_digit : (w : List ℕ) (n : ℕ) → IsMinus w n → BeginsWithDigit w → ⊥
unfolding BeginsWithDigit
minus_no_digit w n m first = apart first.0 first.1 m.0 (sym first.2 ∙ m.1) first.3 where
  apart : (b : ℕ) (bs text : List ℕ) → b ∷ bs ≡ 45 ∷ text → 48 ≤ b → ⊥
  apart b bs text e low = let same : b ≡ 45 = cc in absurd (omega (arith, low, same))

keyword_no_minus : (k : Keyword) (w : List ℕ) (n : ℕ) → w ≡ keyword_text k → IsMinus w n → ⊥
unfolding BeginsWithDigit
keyword_no_minus k w n e m =
    let first = number_first m.0 n m.2 in
    let fine : is_fine (45 ∷ first.0 ∷ first.1) ≡ true = ap is_fine (ap (λ (t : List ℕ). 45 ∷ t) (sym first.2) ∙ sym m.1 ∙ e) ∙ keyword_fine k in
    absurd cc

one_minus : (w : List ℕ) (m n : ℕ) → IsMinus w m → IsMinus w n → m ≡ n
one_minus w m n p q =
    let same : p.0 ≡ q.0 = ap (λ (t : List ℕ). drop 1 t) (sym p.1 ∙ q.1) in
    one_number q.0 m n (subst (λ (t : List ℕ). IsNumber t m) same p.2) q.2

-- Colons

not_colon : (radix b : ℕ) → radix ≤ 16 → digit_value b < radix → b ≢ 58
not_colon radix b few lt e = grind (arith, nat_tests)

digits_no_colon : (radix : ℕ) (w : List ℕ) → radix ≤ 16 → AllDigits radix w → HasNone 58 w
digits_no_colon radix [] few h = tt
digits_no_colon radix (b ∷ bs) few h = (not_colon radix b few h.0, digits_no_colon radix bs few h.1)

pub number_no_colon : (w : List ℕ) (n : ℕ) → IsNumber w n → HasNone 58 w
number_no_colon w n h = elim h.1 [
  | inl d ↦ digits_no_colon 10 w (lit≤ tt) d.each
  | inr d ↦ subst (λ (t : List ℕ). HasNone 58 t) (sym d.1) (λ e. absurd (omega (arith, e)), (λ e. absurd (omega (arith, e)), digits_no_colon 16 d.0 (lit≤ tt) d.2.each))
]

-- a text has a colon where one is
pub some_colon : (front rest : List ℕ) → HasNone 58 (front ++ 58 ∷ rest) → ⊥
some_colon [] rest h = h.0 refl
some_colon (b ∷ front) rest h = some_colon front rest h.1

-- where the first colon is
pub colon_split : (a b x y : List ℕ) → HasNone 58 a → HasNone 58 b → a ++ 58 ∷ x ≡ b ++ 58 ∷ y → (a ≡ b) × (x ≡ y)
colon_split [] [] x y p q e = (refl, cc)
colon_split [] (c ∷ b) x y p q e = absurd (q.0 (let same : c ≡ 58 = cc in same))
colon_split (c ∷ a) [] x y p q e = absurd (p.0 (let same : c ≡ 58 = cc in same))
colon_split (c ∷ a) (d ∷ b) x y p q e =
    let rest : a ++ 58 ∷ x ≡ b ++ 58 ∷ y = cc in
    let same : c ≡ d = cc in
    let inner = colon_split a b x y p.1 q.1 rest in
    (rw (same, inner.0) refl, inner.1)

pub no_descriptor : (w : List ℕ) (on : Descriptor) → HasNone 58 w → IsDescriptor w on → ⊥
no_descriptor w on none d = some_colon d.object d.fd (subst (λ (t : List ℕ). HasNone 58 t) d.whole none)

-- the parts of a descriptor
pub parts_of : (w : List ℕ) (on : Descriptor) (object fd : List ℕ) → HasNone 58 object → w ≡ object ++ 58 ∷ fd → IsDescriptor w on → (d : (IsNumber object on.object) × (IsNumber fd on.fd)) × (on.fd < 2 ^ 31)
parts_of w on object fd none whole d =
    let split = colon_split d.object object d.fd fd (number_no_colon d.object on.object d.names) none (sym d.whole ∙ whole) in
    ((subst (λ (t : List ℕ). IsNumber t on.object) split.0 d.names, subst (λ (t : List ℕ). IsNumber t on.fd) split.1 d.is), d.small)

same_descriptor : (a b : Descriptor) → a.object ≡ b.object → a.fd ≡ b.fd → a ≡ b
same_descriptor a b p q = λ i. record { object = p i; fd = q i }

one_descriptor : (w : List ℕ) (a b : Descriptor) → IsDescriptor w a → IsDescriptor w b → a ≡ b
one_descriptor w a b p q =
    let parts = parts_of w a q.object q.fd (number_no_colon q.object b.object q.names) q.whole p in
    same_descriptor a b (one_number q.object a.object b.object parts.0.0 q.names) (one_number q.fd a.fd b.fd parts.0.1 q.is)

number_no_descriptor : (w : List ℕ) (n : ℕ) (on : Descriptor) → IsNumber w n → IsDescriptor w on → ⊥
number_no_descriptor w n on h d = no_descriptor w on (number_no_colon w n h) d

one_token : (s t : Token) (w : List ℕ) → IsToken s w → IsToken t w → s ≡ t
one_token (Key j) (Key k) w p q = ap (λ (x : Keyword). Key x) (one_keyword j k (sym p ∙ q))
one_token (Key j) (Number n) w p q = absurd (keyword_no_digit j w p (number_first w n q))
one_token (Key j) (Minus n) w p q = absurd (keyword_no_minus j w n p q)
one_token (Key j) (On on) w p q = absurd (keyword_no_digit j w p (descriptor_first w on q))
one_token (Key j) Error w p q = absurd (q.0.keyword j p)
one_token (Key j) Text w p q = absurd (q.0.keyword j p)
one_token (Number m) (Key k) w p q = absurd (keyword_no_digit k w q (number_first w m p))
one_token (Number m) (Number n) w p q = ap (λ (x : ℕ). Number x) (one_number w m n p q)
one_token (Number m) (Minus n) w p q = absurd (minus_no_digit w n q (number_first w m p))
one_token (Number m) (On on) w p q = absurd (number_no_descriptor w m on p q)
one_token (Number m) Error w p q = absurd (q.0.number m p)
one_token (Number m) Text w p q = absurd (q.0.number m p)
one_token (Minus m) (Key k) w p q = absurd (keyword_no_minus k w m q p)
one_token (Minus m) (Number n) w p q = absurd (minus_no_digit w m p (number_first w n q))
one_token (Minus m) (Minus n) w p q = ap (λ (x : ℕ). Minus x) (one_minus w m n p q)
one_token (Minus m) (On on) w p q = absurd (minus_no_digit w m p (descriptor_first w on q))
one_token (Minus m) Error w p q = absurd (q.0.minus m p)
one_token (Minus m) Text w p q = absurd (q.0.minus m p)
one_token (On a) (Key k) w p q = absurd (keyword_no_digit k w q (descriptor_first w a p))
one_token (On a) (Number n) w p q = absurd (number_no_descriptor w n a q p)
one_token (On a) (Minus n) w p q = absurd (minus_no_digit w n q (descriptor_first w a p))
one_token (On a) (On b) w p q = ap (λ (x : Descriptor). On x) (one_descriptor w a b p q)
one_token (On a) Error w p q = absurd (q.0.descriptor a p)
one_token (On a) Text w p q = absurd (q.0.descriptor a p)
one_token Error (Key k) w p q = absurd (p.0.keyword k q)
one_token Error (Number n) w p q = absurd (p.0.number n q)
one_token Error (Minus n) w p q = absurd (p.0.minus n q)
one_token Error (On b) w p q = absurd (p.0.descriptor b q)
one_token Error Error w p q = refl
one_token Error Text w p q = absurd (q.1 p.1)
one_token Text (Key k) w p q = absurd (p.0.keyword k q)
one_token Text (Number n) w p q = absurd (p.0.number n q)
one_token Text (Minus n) w p q = absurd (p.0.minus n q)
one_token Text (On b) w p q = absurd (p.0.descriptor b q)
one_token Text Error w p q = absurd (p.1 q.1)
one_token Text Text w p q = refl

-- the parts of a descriptor, by the place of the first colon
pub parts_at : (w : List ℕ) (n : ℕ) (object fd : List ℕ) → IsFirstByte (is_byte 58) w (Some n) → object ≡ take n w → fd ≡ drop (n + 1) w
    → (on : Descriptor) → IsDescriptor w on → (d : (IsNumber object on.object) × (IsNumber fd on.fd)) × (on.fd < 2 ^ 31)
parts_at w n object fd found front back on d =
    let whole : w ≡ object ++ 58 ∷ fd = rw (front, back) (cut_at 58 w n found) in
    let none : HasNone 58 object = rw front (none_of 58 (take n w) (others_before 58 w n found)) in
    parts_of w on object fd none whole d

-- a fact that follows where there is no value
pub if_none : {A : Type 0} {P Q : Type 0} → (o : Option A) → (P → Q) → IfNone o P → IfNone o Q
if_none None f p = f p
if_none (Some x) f p = tt

-- the number after a minus sign
pub after_minus : (w text : List ℕ) (n : ℕ) → text ≡ drop (0 + 1) w → IsMinus w n → IsNumber text n
after_minus w text n back m = rw (back, m.1) m.2

-- the tokens of a text that stand for no line
pub no_line : (text : List ℕ) (tokens : List Token) (found : Option Line) → AreTokens tokens (words_of text) → found ≡ line_from tokens → IfNone found ((line : Line) → Spells text line → ⊥)
no_line text tokens None are e = λ line s.
    let same : s.0 ≡ tokens = one_list IsToken one_token s.0 tokens (words_of text) s.1 are in
    let some : line_from tokens ≡ Some line = ap line_from (sym same) ∙ s.2 in
    absurd cc
no_line text tokens (Some line) are e = tt
