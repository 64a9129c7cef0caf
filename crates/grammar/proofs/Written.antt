-- Words as they are printed, and the line of several with a space between them.
use Rattle.std.proofs.Common.{◌≡◌, ℕ, zero, suc, ◌+◌, ◌-◌, ◌*◌, ◌/◌, ◌%◌, ◌^◌, ◌<◌, ◌≤◌, ◌&&◌, Bool, true, false, cond, eqb, ltb, List, [], ◌∷◌, ◌++◌, length, take, get_or, refl, sym, ap, subst, ◌∙◌, append_assoc, append-nil, length-append, arith, inl, inr, lit<, lit≤}
use Rattle.std.specs.Fmt.{decimal, digits, digits_onto, digit_glyph}
use Rattle.std.specs.Char.{digit_value}
use Rattle.std.specs.List.{AllByRecursion}
use Rattle.std.specs.Str.Lines.{strip_carriage_return}
use Rattle.std.specs.Str.Parse.{AllDigits}
use Rattle.std.proofs.lemmas.Bool.Decides.{nat_tests}
use Rattle.std.proofs.lemmas.Fmt.{decimal_is_IsNumeral, digits_is_IsNumeral, length-decimal-le}
use borrow.Author.Tests.{ltb-true}
use Rattle.mig_base.specs.Texts.{hexadecimal}
use Rattle.foundation.proofs.TestLemmas.{and_first, and_second}
use Rattle.grammar.specs.declared.keyword.Keyword.{Keyword}
use Rattle.grammar.specs.declared.keyword.Keyword.TheVariants as key
use Rattle.grammar.specs.declared.line.Language.{Language}
use Rattle.grammar.specs.declared.line.Language.TheVariants.{Script}
use Rattle.grammar.specs.declared.line.Line.{Line}
use Rattle.grammar.specs.declared.line.Line.TheVariants.{Skipped}
use Rattle.grammar.specs.declared.token.Token.{Token}
use Rattle.grammar.specs.declared.token.Token.TheVariants.{Key, Number}
use Rattle.grammar.specs.Words.{words_of, keyword_text, IsToken, AreTokens}
use Rattle.words.specs.Words.{HasNone, IsNumber}
use Rattle.grammar.specs.Spelling.{IsNothing, Spells}
use Rattle.grammar.specs.Lines.{IsLine}
use Rattle.grammar.proofs.Spaces.{words_one, words_more}

-- ---- the bytes of words

-- each byte comes after the space
abbrev IsVisible : List ℕ → Type 0
IsVisible text = AllByRecursion (λ b. 32 < b) text

-- each byte is a space, or comes after it
abbrev pub IsPrinted : List ℕ → Type 0
IsPrinted text = AllByRecursion (λ b. 32 ≤ b) text

-- 1 to 20 bytes that come after the space
record IsWord (word : List ℕ) : Type 0 where
  some : 0 < length word
  few : length word ≤ 20
  visible : IsVisible word

none_of : (byte : ℕ) (text : List ℕ) → byte ≤ 32 → IsVisible text → HasNone byte text
none_of byte [] low v = tt
none_of byte (b ∷ bs) low v = (λ e. omega (arith, low, v.0, e), none_of byte bs low v.1)

no_feed : (text : List ℕ) → IsPrinted text → HasNone 10 text
no_feed [] p = tt
no_feed (b ∷ bs) p = (λ e. omega (arith, p.0, e), no_feed bs p.1)

printed_visible : (text : List ℕ) → IsVisible text → IsPrinted text
printed_visible [] v = tt
printed_visible (b ∷ bs) v = (omega (arith, v.0), printed_visible bs v.1)

pub printed-append : (xs ys : List ℕ) → IsPrinted xs → IsPrinted ys → IsPrinted (xs ++ ys)
printed-append [] ys p q = q
printed-append (x ∷ xs) ys p q = (p.0, printed-append xs ys p.1 q)

no_return : (text : List ℕ) (k : ℕ) → IsPrinted text → eqb (get_or text k 0) 13 ≡ false
no_return [] k p = refl
no_return (b ∷ bs) zero p = let low : 32 ≤ b = p.0 in grind (arith, nat_tests)
no_return (b ∷ bs) (suc k) p = no_return bs k p.1

stripped : (text : List ℕ) → IsPrinted text → strip_carriage_return text ≡ text
stripped text p = ap (λ (t : Bool). cond t (take (length text - 1) text) text) (no_return text (length text - 1) p)

-- ---- keywords

abbrev is_visible : List ℕ → Bool
is_visible [] = true
is_visible (b ∷ bs) = ltb 32 b && is_visible bs

visible_from : (text : List ℕ) → is_visible text ≡ true → IsVisible text
visible_from [] e = tt
visible_from (b ∷ bs) e = (ltb-true 32 b (and_first (ltb 32 b) (is_visible bs) e), visible_from bs (and_second (ltb 32 b) (is_visible bs) e))

abbrev is_word : List ℕ → Bool
is_word text = ltb 0 (length text) && (ltb (length text) 21 && is_visible text)

word_from : (text : List ℕ) → is_word text ≡ true → IsWord text
word_from text e =
    let rest = and_second (ltb 0 (length text)) (ltb (length text) 21 && is_visible text) e in
    let few = ltb-true (length text) 21 (and_first (ltb (length text) 21) (is_visible text) rest) in
    record {
      some = ltb-true 0 (length text) (and_first (ltb 0 (length text)) (ltb (length text) 21 && is_visible text) e);
      few = omega (arith, few);
      visible = visible_from text (and_second (ltb (length text) 21) (is_visible text) rest);
    }

keyword_is : (k : Keyword) → is_word (keyword_text k) ≡ true
keyword_is key.Cpu = refl
keyword_is _ = refl

-- ---- numbers

digit_visible : (b : ℕ) → digit_value b < 16 → 32 < b
digit_visible b lt = grind (arith, nat_tests)

digits_visible : (radix : ℕ) (text : List ℕ) → radix ≤ 16 → AllDigits radix text → IsVisible text
digits_visible radix [] low each = tt
digits_visible radix (b ∷ bs) low each = (digit_visible b (omega (arith, low, each.0)), digits_visible radix bs low each.1)

-- a number below 16 ^ (m + 1) has m + 1 hexadecimal digits at most
either_few : (t : Bool) (a b : List ℕ) (most : ℕ) → length a ≤ most → (t ≡ false → length b ≤ most) → length (cond t a b) ≤ most
either_few true a b most p q = p
either_few false a b most p q = q refl

more_left : (n : ℕ) → n < 16 → eqb (n / 16) 0 ≡ false → ⊥
more_left n lt e = grind (arith, nat_tests)

onto_few : (k m n : ℕ) (acc : List ℕ) → n < 16 ^ suc m → length (digits_onto k 16 false n acc) ≤ suc m + length acc
onto_few zero m n acc lt = omega arith
onto_few (suc k) zero n acc lt = either_few (eqb (n / 16) 0) _ _ (1 + length acc) (omega arith) (λ more. absurd (more_left n (omega arith) more))
onto_few (suc k) (suc m) n acc lt =
    let rest = onto_few k m (n / 16) (digit_glyph false (n % 16) ∷ acc) (omega arith) in
    either_few (eqb (n / 16) 0) _ _ (suc (suc m) + length acc) (omega arith) (λ more. omega (arith, rest))

digits_few : (n : ℕ) → n < 2 ^ 64 → length (digits 16 false n) ≤ 16
unfolding digits
digits_few n lt = let few = onto_few 64 15 n [] (omega arith) in omega (arith, few)

decimal_is : (n : ℕ) → n < 2 ^ 64 → IsNumber (decimal n) n × IsWord (decimal n)
decimal_is n lt =
    let d = decimal_is_IsNumeral n lt in
    let few : length (decimal n) ≤ 20 = length-decimal-le 20 n (omega arith) (omega arith) lt in (
      (lt, inl (record { some = d.0.0; few = few; each = d.0.1; value = d.1 })),
      record { some = d.0.0; few = few; visible = digits_visible 10 (decimal n) (omega arith) d.0.1 },
    )

hexadecimal_is : (n : ℕ) → n < 2 ^ 64 → IsNumber (hexadecimal n) n × IsWord (hexadecimal n)
hexadecimal_is n lt =
    let text = digits 16 false n in
    let d = digits_is_IsNumeral 16 false (omega arith) (omega arith) n (omega arith) in
    let few : length text ≤ 16 = digits_few n lt in (
      (lt, inr (text, refl, record { some = d.0.0; few = few; each = d.0.1; value = d.1 })),
      record { some = omega arith; few = omega (arith, few); visible = (lit< tt, (lit< tt, digits_visible 16 text (omega arith) d.0.1)) },
    )

-- ---- comments

abbrev pub is_printed : List ℕ → Bool
is_printed [] = true
is_printed (b ∷ bs) = ltb 31 b && is_printed bs

pub printed_from : (text : List ℕ) → is_printed text ≡ true → IsPrinted text
printed_from [] e = tt
printed_from (b ∷ bs) e =
    let low = ltb-true 31 b (and_first (ltb 31 b) (is_printed bs) e) in
    (omega (arith, low), printed_from bs (and_second (ltb 31 b) (is_printed bs) e))

pub decimal_printed : (n : ℕ) → n < 2 ^ 64 → IsPrinted (decimal n) × (length (decimal n) ≤ 20)
decimal_printed n lt = let d = (decimal_is n lt).1 in (printed_visible (decimal n) d.visible, d.few)

no_space : (b : ℕ) → b ≡ 35 → b ≡ 32 → ⊥
no_space b e f = omega (arith, e, f)

-- # and a space begin a comment
pub comment_line : (rest : List ℕ) → IsPrinted rest → length rest ≤ 254 → IsLine Script (35 ∷ 32 ∷ rest) Skipped
comment_line rest printed few =
    let all : IsPrinted (35 ∷ 32 ∷ rest) = (lit≤ tt, (lit≤ tt, printed)) in
    let same = words_more (35 ∷ []) rest (omega arith) (no_space 35 refl, tt) in
    record {
      one = no_feed (35 ∷ 32 ∷ rest) all;
      short = omega (arith, few);
      spells = subst (λ (t : List ℕ). Spells Script t Skipped) (sym (stripped (35 ∷ 32 ∷ rest) all)) (subst IsNothing (sym same) refl);
    }

-- ---- words

-- a word as it is printed: a keyword, or a number in decimal or hexadecimal digits
pub data Word : Type 0 where
  Plain : (keyword : Keyword) → Word
  Dec : (n : ℕ) → Word
  Hex : (n : ℕ) → Word

abbrev pub text_of : Word → List ℕ
text_of (Plain keyword) = keyword_text keyword
text_of (Dec n) = decimal n
text_of (Hex n) = hexadecimal n

abbrev pub token_of : Word → Token
token_of (Plain keyword) = Key keyword
token_of (Dec n) = Number n
token_of (Hex n) = Number n

-- its number has 64 bits
abbrev pub IsSmall : Word → Type 0
IsSmall (Plain keyword) = Unit {0}
IsSmall (Dec n) = n < 2 ^ 64
IsSmall (Hex n) = n < 2 ^ 64

word_is : (w : Word) → IsSmall w → IsToken (token_of w) (text_of w) × IsWord (text_of w)
word_is (Plain k) small = (refl, word_from (keyword_text k) (keyword_is k))
word_is (Dec n) small = decimal_is n small
word_is (Hex n) small = hexadecimal_is n small

-- ---- several words

abbrev pub texts_of : List Word → List (List ℕ)
texts_of [] = []
texts_of (w ∷ ws) = text_of w ∷ texts_of ws

abbrev pub tokens_of : List Word → List Token
tokens_of [] = []
tokens_of (w ∷ ws) = token_of w ∷ tokens_of ws

abbrev pub AreSmall : List Word → Type 0
AreSmall [] = Unit {0}
AreSmall (w ∷ ws) = IsSmall w × AreSmall ws

-- their text, with a space before each
abbrev pub spaced : List Word → List ℕ
spaced [] = []
spaced (w ∷ ws) = 32 ∷ (text_of w ++ spaced ws)

pub tokens-append : (xs ys : List Word) → tokens_of (xs ++ ys) ≡ tokens_of xs ++ tokens_of ys
tokens-append [] ys = refl
tokens-append (x ∷ xs) ys = ap (λ (ts : List Token). token_of x ∷ ts) (tokens-append xs ys)

pub small-append : (xs ys : List Word) → AreSmall xs → AreSmall ys → AreSmall (xs ++ ys)
small-append [] ys p q = q
small-append (x ∷ xs) ys p q = (p.0, small-append xs ys p.1 q)

pub spaced-append : (xs ys : List Word) → spaced (xs ++ ys) ≡ spaced xs ++ spaced ys
spaced-append [] ys = refl
spaced-append (x ∷ xs) ys = ap (λ (t : List ℕ). 32 ∷ (text_of x ++ t)) (spaced-append xs ys) ∙ ap (λ (t : List ℕ). 32 ∷ t) (sym (append_assoc (text_of x) (spaced xs) (spaced ys)))

spaced_words : (ws : List Word) → AreSmall ws → words_of (spaced ws) ≡ texts_of ws
spaced_words [] small = refl
spaced_words (w ∷ []) small =
    let is = (word_is w small.0).1 in
    ap words_of (append-nil (text_of w)) ∙ words_one (text_of w) is.some (none_of 32 (text_of w) (omega arith) is.visible)
spaced_words (w ∷ v ∷ ws) small =
    let is = (word_is w small.0).1 in
    words_more (text_of w) (text_of v ++ spaced ws) is.some (none_of 32 (text_of w) (omega arith) is.visible)
    ∙ ap (λ (xs : List (List ℕ)). text_of w ∷ xs) (spaced_words (v ∷ ws) small.1)

spaced_tokens : (ws : List Word) → AreSmall ws → AreTokens (tokens_of ws) (texts_of ws)
spaced_tokens [] small = tt
spaced_tokens (w ∷ ws) small = ((word_is w small.0).0, spaced_tokens ws small.1)

spaced_printed : (ws : List Word) → AreSmall ws → IsPrinted (spaced ws)
spaced_printed [] small = tt
spaced_printed (w ∷ ws) small = (omega arith, printed-append (text_of w) (spaced ws) (printed_visible (text_of w) (word_is w small.0).1.visible) (spaced_printed ws small.1))

spaced_few : (ws : List Word) → AreSmall ws → length (spaced ws) ≤ 21 * length ws
spaced_few [] small = omega arith
spaced_few (w ∷ ws) small =
    let is = (word_is w small.0).1 in
    omega (arith, length-append (text_of w) (spaced ws), is.few, spaced_few ws small.1)

-- ---- a line

-- the words of a form: their numbers are small, there are few, and their tokens have the form
pub record AreWords (Form : List Token → Type 0) (most : ℕ) (ws : List Word) : Type 0 where
  pub form : Form (tokens_of ws)
  pub small : AreSmall ws
  pub few : length ws ≤ most

-- the text of twelve words or fewer is a line
pub written_line : (language : Language) (line : Line) (text : List ℕ) (ws : List Word) → 32 ∷ text ≡ spaced ws → AreSmall ws → length ws ≤ 12
    → (AreTokens (tokens_of ws) (words_of text) → Spells language text line) → IsLine language text line
written_line language line text ws is small few spells =
    let printed : IsPrinted (32 ∷ text) = subst IsPrinted (sym is) (spaced_printed ws small) in
    let short : length (32 ∷ text) ≤ 21 * length ws = subst (λ (t : List ℕ). length t ≤ 21 * length ws) (sym is) (spaced_few ws small) in
    let same : words_of text ≡ texts_of ws = ap words_of is ∙ spaced_words ws small in
    let are : AreTokens (tokens_of ws) (words_of text) = subst (λ (xs : List (List ℕ)). AreTokens (tokens_of ws) xs) (sym same) (spaced_tokens ws small) in
    record {
      one = no_feed text printed.1;
      short = omega (arith, short, few);
      spells = subst (λ (t : List ℕ). Spells language t line) (sym (stripped text printed.1)) (spells are);
    }
