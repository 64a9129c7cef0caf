-- The text of an audit, word by word and line by line.
use Rattle.std.proofs.Common.{◌≡◌, ℕ, suc, ◌+◌, ◌*◌, ◌-◌, ◌<◌, ◌≤◌, ◌^◌, ◌==◌, Bool, true, false, min, List, [], ◌∷◌, ◌++◌, length, map, take, codes, get_or, refl, sym, ap, subst, ◌∙◌, append_assoc, arith}
use Rattle.std.specs.List.{before_first, join_with_byte, position_or_len, slice_split}
use Rattle.std.specs.Char.{digit_value}
use Rattle.std.specs.Str.Parse.{digits_value}
use Rattle.std.proofs.lemmas.List.Splits.{length-slice_split, slice_split_at, slice_split_none}
use Rattle.std.proofs.lemmas.Int.Digits.{digits_value_more}
use Rattle.std.proofs.lemmas.List.Sums.{position_or_len_is}
use Rattle.trace_audit.specs.ShownText.{names_line, HasNo, is_no_digit, shown_line, shown_one, shown_said, shown_text, shown_words}

-- Numbers

pub found_len : (word : List ℕ) (i : ℕ) → i ≤ length word → ((k : ℕ) → k < i → is_no_digit (get_or word k 0) ≡ false) → (i < length word → is_no_digit (get_or word i 0) ≡ true) → i ≡ position_or_len is_no_digit word
found_len word i le below at = sym (position_or_len_is is_no_digit word i 0 le below at)

pub found_number : (word : List ℕ) (i n : ℕ) → i ≡ position_or_len is_no_digit word → n ≡ min (digits_value 10 (take i word)) (2 ^ 64 - 1) → n ≡ min (digits_value 10 (before_first is_no_digit word)) (2 ^ 64 - 1)
found_number word i n e is = subst (λ (k : ℕ). n ≡ min (digits_value 10 (take k word)) (2 ^ 64 - 1)) e is

-- Words and lines

join_cons : (c : ℕ) (x : List ℕ) (xs : List (List ℕ)) → 0 < length xs → join_with_byte c (x ∷ xs) ≡ x ++ (c ∷ join_with_byte c xs)
join_cons c x [] some = absurd (omega (arith, some))
join_cons c x (y ∷ xs) some = refl

length-shown_words : (lines : List ℕ) (is_number : Bool) (words : List (List ℕ)) → length (shown_words lines is_number words) ≡ length words
length-shown_words lines is_number [] = refl
length-shown_words lines is_number (word ∷ words) = ap suc (length-shown_words lines (names_line word) words)

some_parts : (c : ℕ) (text : List ℕ) → 0 < length (slice_split (λ b. b == c) text)
some_parts c text = omega (arith, length-slice_split (λ b. b == c) text)

pub said_step : (lines : List ℕ) (is_number : Bool) (word behind : List ℕ) → HasNo 32 word → shown_said lines is_number (word ++ 32 ∷ behind) ≡ shown_one lines is_number word ++ 32 ∷ shown_said lines (names_line word) behind
said_step lines is_number word behind none =
    ap (λ (parts : List (List ℕ)). join_with_byte 32 (shown_words lines is_number parts)) (slice_split_at (λ b. b == 32) word 32 behind none refl)
    ∙ join_cons 32 (shown_one lines is_number word) (shown_words lines (names_line word) (slice_split (λ b. b == 32) behind))
    (omega (arith, length-shown_words lines (names_line word) (slice_split (λ b. b == 32) behind), some_parts 32 behind))

pub said_end : (lines : List ℕ) (is_number : Bool) (word : List ℕ) → HasNo 32 word → shown_said lines is_number word ≡ shown_one lines is_number word
said_end lines is_number word none = ap (λ (parts : List (List ℕ)). join_with_byte 32 (shown_words lines is_number parts)) (slice_split_none (λ b. b == 32) word none)

length-map_any : {X Y : Type 0} (f : X → Y) (xs : List X) → length (map f xs) ≡ length xs
length-map_any f [] = refl
length-map_any f (x ∷ xs) = ap suc (length-map_any f xs)

pub text_step : (name lines line behind : List ℕ) → HasNo 10 line → shown_text name lines (line ++ 10 ∷ behind) ≡ shown_line name lines line ++ 10 ∷ shown_text name lines behind
text_step name lines line behind none =
    ap (λ (parts : List (List ℕ)). join_with_byte 10 (map (λ l. shown_line name lines l) parts)) (slice_split_at (λ b. b == 10) line 10 behind none refl)
    ∙ join_cons 10 (shown_line name lines line) (map (λ l. shown_line name lines l) (slice_split (λ b. b == 10) behind))
    (omega (arith, length-map_any (λ l. shown_line name lines l) (slice_split (λ b. b == 10) behind), some_parts 10 behind))

pub text_end : (name lines line : List ℕ) → HasNo 10 line → shown_text name lines line ≡ shown_line name lines line
text_end name lines line none = ap (λ (parts : List (List ℕ)). join_with_byte 10 (map (λ l. shown_line name lines l) parts)) (slice_split_none (λ b. b == 10) line none)

-- what is added next brings the text that is left one part nearer
pub added_step : (output more : List ℕ) (c : ℕ) (part rest all next : List ℕ) → output ++ rest ≡ all → rest ≡ part ++ c ∷ next → more ≡ (output ++ part) ++ c ∷ [] → more ++ next ≡ all
added_step output more c part rest all next so_far is added =
    ap (λ (l : List ℕ). l ++ next) added ∙ append_assoc (output ++ part) (c ∷ []) next ∙ append_assoc output part (c ∷ next) ∙ ap (λ (l : List ℕ). output ++ l) (sym is) ∙ so_far

pub added_end : (output more part rest all : List ℕ) → output ++ rest ≡ all → rest ≡ part → more ≡ output ++ part → more ≡ all
added_end output more part rest all so_far is added = added ∙ ap (λ (l : List ℕ). output ++ l) (sym is) ∙ so_far

-- Digits

pub below_digits : (byte : ℕ) → byte < 48 → is_no_digit byte ≡ true
below_digits byte lt = grind (arith, lt)

pub above_digits : (byte : ℕ) → 57 < byte → is_no_digit byte ≡ true
above_digits byte lt = grind (arith, lt)

pub in_digits : (byte : ℕ) → 48 ≤ byte → byte ≤ 57 → is_no_digit byte ≡ false
in_digits byte low high = grind (arith, low, high)

pub value_of_digit : (byte : ℕ) → 48 ≤ byte → byte ≤ 57 → digit_value byte ≡ byte - 48
value_of_digit byte low high = grind (arith, low, high)

pub number_step : (word : List ℕ) (i n m : ℕ) → i < length word → 48 ≤ get_or word i 0 → get_or word i 0 ≤ 57 → n ≡ min (digits_value 10 (take i word)) (2 ^ 64 - 1) → m ≡ min (min (n * 10) (2 ^ 64 - 1) + (get_or word i 0 - 48)) (2 ^ 64 - 1)
    → m ≡ min (digits_value 10 (take (i + 1) word)) (2 ^ 64 - 1)
number_step word i n m lt low high is next =
    omega (arith, is, next, digits_value_more 10 word i lt, value_of_digit (get_or word i 0) low high)

-- What is left after a part

pub said_step_in : (lines : List ℕ) (is_number is_next : Bool) (rest word behind : List ℕ) → rest ≡ word ++ 32 ∷ behind → HasNo 32 word → is_next ≡ names_line word
    → shown_said lines is_number rest ≡ shown_one lines is_number word ++ 32 ∷ shown_said lines is_next behind
said_step_in lines is_number is_next rest word behind whole none next =
    ap (shown_said lines is_number) whole ∙ said_step lines is_number word behind none ∙ ap (λ (b : Bool). shown_one lines is_number word ++ 32 ∷ shown_said lines b behind) (sym next)

pub text_step_in : (name lines rest line behind : List ℕ) → rest ≡ line ++ 10 ∷ behind → HasNo 10 line → shown_text name lines rest ≡ shown_line name lines line ++ 10 ∷ shown_text name lines behind
text_step_in name lines rest line behind whole none = ap (shown_text name lines) whole ∙ text_step name lines line behind none

pub step_added : (output mid more part : List ℕ) (c : ℕ) → mid ≡ output ++ part → more ≡ mid ++ c ∷ [] → more ≡ (output ++ part) ++ c ∷ []
step_added output mid more part c first second = second ∙ ap (λ (l : List ℕ). l ++ c ∷ []) first
