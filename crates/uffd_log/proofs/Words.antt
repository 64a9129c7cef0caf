-- The words around a blank.
use Rattle.std.proofs.Common.{◌≡◌, ℕ, ◌+◌, eqb, List, [], ◌∷◌, take, drop, Some, None, refl, ap, ◌∙◌}
use Rattle.std.proofs.lemmas.List.Splits.{slice_split_at, slice_split_none}
use Rattle.memchr.specs.Find.{IsFirstByte, is_byte}
use Rattle.uffd_log.specs.Words.{words_of}
use Rattle.words.proofs.Bytes.{all_others, others_before, cut_at}

-- a text without a blank is one word
pub words_last : (text : List ℕ) → IsFirstByte (is_byte 32) text None → words_of text ≡ text ∷ []
words_last text none = slice_split_none (λ b. eqb b 32) text (all_others 32 text none)

-- the first word of a text ends at its first blank
pub words_first : (text : List ℕ) (n : ℕ) (word behind : List ℕ) → IsFirstByte (is_byte 32) text (Some n) → word ≡ take n text → behind ≡ drop (n + 1) text → words_of text ≡ word ∷ words_of behind
words_first text n word behind found front back =
    rw (front, back) (ap words_of (cut_at 32 text n found) ∙ slice_split_at (λ b. eqb b 32) (take n text) 32 (drop (n + 1) text) (others_before 32 text n found) refl)
