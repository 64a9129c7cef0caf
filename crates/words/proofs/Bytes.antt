-- Where a byte is first found.
use Rattle.std.proofs.Common.{◌≡◌, ◌≢◌, ℕ, ◌+◌, ◌<◌, true, false, eqb, List, [], ◌∷◌, ◌++◌, get_or, take, drop, All, Some, None, sym, ap, ◌∙◌, arith}
use Rattle.std.proofs.lemmas.Bool.{eq-eqb, eqb-true, false_from_ne_true}
use Rattle.std.proofs.lemmas.List.{take-append-drop, drop_more, get_or-take, length-take-le}
use Rattle.std.proofs.lemmas.List.Elements.{All-from_get_or, recursion_from_All}
use Rattle.memchr.specs.Find.{IsFirstByte, is_byte}
use Rattle.words.specs.Words.{HasNone}

-- where the byte is not found
pub all_others : (byte : ℕ) (text : List ℕ) → IsFirstByte (is_byte byte) text None → All (λ b. eqb b byte ≡ false) text
all_others byte text none =
    All-from_get_or (λ b. eqb b byte ≡ false) text 0 (λ i lt. false_from_ne_true (eqb (get_or text i 0) byte) (none i (omega arith) lt))

-- the bytes before the place where it is found first
pub others_before : (byte : ℕ) (text : List ℕ) (n : ℕ) → IsFirstByte (is_byte byte) text (Some n) → All (λ b. eqb b byte ≡ false) (take n text)
others_before byte text n found = All-from_get_or (λ b. eqb b byte ≡ false) (take n text) 0 (λ i lt.
    let fits = length-take-le n text (omega (arith, found.0.high)) in
    let low : i < n = omega (arith, lt, fits) in
    rw (get_or-take n text i 0 low) (false_from_ne_true (eqb (get_or text i 0) byte) (found.0.before i (omega arith) low)))

-- bytes that differ from one have none of it
pub none_of : (byte : ℕ) (text : List ℕ) → All (λ b. eqb b byte ≡ false) text → HasNone byte text
none_of byte text others = recursion_from_All (λ b. b ≢ byte) text (All-from_get_or (λ b. b ≢ byte) text 0 (λ i lt e.
    let is : eqb (get_or text i 0) byte ≡ true = eq-eqb (get_or text i 0) byte e in
    let no : eqb (get_or text i 0) byte ≡ false = others i 0 lt in
    absurd cc))

-- the byte at the place where it is found first, and those after it
pub found_at : (byte : ℕ) (text : List ℕ) (n : ℕ) → IsFirstByte (is_byte byte) text (Some n) → drop n text ≡ byte ∷ drop (n + 1) text
found_at byte text n found = drop_more text n 0 found.0.high ∙ ap (λ (b : ℕ). b ∷ drop (n + 1) text) (eqb-true (get_or text n 0) byte found.1)

-- the bytes around that place
pub cut_at : (byte : ℕ) (text : List ℕ) (n : ℕ) → IsFirstByte (is_byte byte) text (Some n) → text ≡ take n text ++ byte ∷ drop (n + 1) text
cut_at byte text n found = sym (take-append-drop n text) ∙ ap (λ (t : List ℕ). take n text ++ t) (found_at byte text n found)
