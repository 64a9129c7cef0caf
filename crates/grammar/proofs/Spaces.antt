-- What the words of a text are, space by space.
use Rattle.std.proofs.Common.{◌≡◌, ◌≢◌, ℕ, ◌<◌, ◌≤◌, false, List, [], ◌∷◌, ◌++◌, length, filter, eqb, ltb, refl, sym, ap, ◌∙◌, arith, Some, None, ◌+◌, take, drop, length-append}
use Rattle.std.specs.Prelude.{slice_get}
use Rattle.std.specs.List.{slice_split, AllByRecursion}
use Rattle.std.proofs.lemmas.Bool.{lt-ltb}
use Rattle.std.proofs.lemmas.List.Elements.{All-from_recursion}
use Rattle.std.proofs.lemmas.List.Splits.{slice_split_at, slice_split_none}
use Rattle.std.proofs.lemmas.Bool.Decides.{nat_tests}
use Rattle.std.proofs.lemmas.List.{take-append-drop}
use Rattle.memchr.specs.Find.{IsFirstByte, is_byte}
use Rattle.words.proofs.Bytes.{all_others, others_before, none_of, found_at}
use Rattle.grammar.specs.Words.{words_of, FirstWord}
use Rattle.words.specs.Words.{HasNone}

not_space : (b : ℕ) → b ≢ 32 → eqb b 32 ≡ false
not_space b ne = grind (arith, nat_tests)

no_space : (w : List ℕ) → HasNone 32 w → AllByRecursion (λ b. eqb b 32 ≡ false) w
no_space [] h = tt
no_space (b ∷ w) h = (not_space b h.0, no_space w h.1)

kept : (w : List ℕ) (ws : List (List ℕ)) → 0 < length w → filter (λ word. ltb 0 (length word)) (w ∷ ws) ≡ w ∷ filter (λ word. ltb 0 (length word)) ws
kept w ws some = rw (lt-ltb 0 (length w) some) refl

pub words_space : (text : List ℕ) → words_of (32 ∷ text) ≡ words_of text
words_space text = refl

pub words_one : (w : List ℕ) → 0 < length w → HasNone 32 w → words_of w ≡ w ∷ []
words_one w some none =
    ap (filter (λ word. ltb 0 (length word))) (slice_split_none (λ b. eqb b 32) w (All-from_recursion (λ b. eqb b 32 ≡ false) w (no_space w none))) ∙ kept w [] some

pub words_more : (w text : List ℕ) → 0 < length w → HasNone 32 w → words_of (w ++ 32 ∷ text) ≡ w ∷ words_of text
words_more w text some none =
    ap (filter (λ word. ltb 0 (length word))) (slice_split_at (λ b. eqb b 32) w 32 text (All-from_recursion (λ b. eqb b 32 ≡ false) w (no_space w none)) refl)
    ∙ kept w (slice_split (λ b. eqb b 32) text) some

one_word : (text rest word behind after : List ℕ) → words_of rest ≡ words_of text → length rest ≤ length text → rest ≡ word ++ behind → behind ≡ 32 ∷ after → HasNone 32 word → slice_get rest 0 ≢ Some 32
    → FirstWord text word behind
one_word text rest [] behind after same shorter whole space none front = absurd (front (rw (whole, space) refl))
one_word text rest (b ∷ bs) behind after same shorter whole space none front = record {
  words = sym same ∙ ap words_of (whole ∙ ap (λ (t : List ℕ). (b ∷ bs) ++ t) space) ∙ words_more (b ∷ bs) after (omega arith) none ∙ ap (λ (t : List ℕ). (b ∷ bs) ∷ words_of t) (sym space);
  shorter = omega (arith, shorter, ap length whole, length-append (b ∷ bs) behind);
}

-- the first word of a text that does not begin with a space
pub first_word : (text rest : List ℕ) (n : ℕ) → words_of rest ≡ words_of text → length rest ≤ length text → IsFirstByte (is_byte 32) rest (Some n) → slice_get rest 0 ≢ Some 32
    → FirstWord text (take n rest) (drop n rest)
first_word text rest n same shorter found front =
    one_word text rest (take n rest) (drop n rest) (drop (n + 1) rest) same shorter (sym (take-append-drop n rest)) (found_at 32 rest n found) (none_of 32 (take n rest) (others_before 32 rest n found)) front

-- the last word of a text
pub last_word : (text rest : List ℕ) → words_of rest ≡ words_of text → length rest ≤ length text → 0 < length rest → IsFirstByte (is_byte 32) rest None → FirstWord text rest []
last_word text rest same shorter some none = record {
  words = sym same ∙ words_one rest some (none_of 32 rest (all_others 32 rest none));
  shorter = omega (arith, shorter, some);
}
