-- The bytes in flight on a wire, piece by piece.
use Rattle.std.proofs.Common.{min, ◌≡◌, ℕ, zero, suc, ◌+◌, ◌-◌, ◌<◌, List, [], ◌∷◌, ◌++◌, length, take, drop, get_or, length-append, append-nil, refl, sym, ap, subst, ◌∙◌, arith, Option}
use Rattle.std.specs.Io.KnownBytes.{Appends}
use Rattle.std.proofs.KnownBytes.{Appends-trans}
use Rattle.std.specs.List.{concat, AllByRecursion}
use Rattle.std.proofs.lemmas.Bool.Decides.{nat_tests}
use Rattle.std.proofs.lemmas.List.{drop_min, take_more}
use Rattle.std.proofs.lemmas.List.Folds.{concat-append}
use Rattle.mig_model.specs.Guest.{counted}
use Rattle.mig_model.specs.Wire.{Sent}
use Rattle.frame_decoder.specs.Streams.{IsSent, texts}
use Rattle.frame_decoder.specs.declared.version.Version.TheVariants.{Two}
use Rattle.wires.proofs.ChunkLemmas.{length-texts-cons}
use Rattle.world.specs.Answers.{in_flight_len}
use Rattle.world.proofs.PieceLemmas.{in_flight}

-- The count

-- a count that has not stopped
counted_whole : (n count : ℕ) → count ≡ counted 0 n → count < 18446744073709551615 → count ≡ n
counted_whole n count is below = grind (arith, nat_tests)

pub counted_bytes : (frames : List Sent) (count : ℕ) → AllByRecursion (IsSent Two) frames → count ≡ counted 0 (in_flight_len frames) → count < 18446744073709551615 → count ≡ length (texts Two frames)
counted_bytes frames count each is below = counted_whole (in_flight_len frames) count is below ∙ sym (in_flight frames each)

-- What comes after the first bytes

drop_append : (n : ℕ) (xs ys : List ℕ) → drop n (xs ++ ys) ≡ drop n xs ++ drop (n - length xs) ys
drop_append zero xs ys = let none : zero - length xs ≡ zero = omega arith in ap (λ (k : ℕ). xs ++ drop k ys) (sym none)
drop_append (suc n) [] ys = let all : suc n - length {A = ℕ} [] ≡ suc n = omega arith in ap (λ (k : ℕ). drop k ys) (sym all)
drop_append (suc n) (x ∷ xs) ys =
    let less : suc n - length (x ∷ xs) ≡ n - length xs = omega arith in
    drop_append n xs ys ∙ ap (λ (k : ℕ). drop n xs ++ drop k ys) (sym less)

-- the bytes after the first `known` of these pieces were written, and `left` of them are still to come
pub record Behind (known : ℕ) (pieces : List (List ℕ)) (left : ℕ) (before after : Option (List ℕ)) : Type 0 where
  pub rest : left ≡ known - length (concat pieces)
  pub appends : Appends before after (drop known (concat pieces))

pub behind_more : (known : ℕ) (pieces : List (List ℕ)) (i left skipped more : ℕ) (w0 w1 w2 : Option (List ℕ)) → i < length pieces → Behind known (take i pieces) left w0 w1
    → skipped ≡ min left (length (get_or pieces i [])) → more + skipped ≡ left → Appends w1 w2 (drop skipped (get_or pieces i [])) → Behind known (take (i + 1) pieces) more w0 w2
behind_more known pieces i left skipped more w0 w1 w2 below so_far is taken appends =
    let front = concat (take i pieces) in
    let piece = get_or pieces i [] in
    let joined : concat (take (i + 1) pieces) ≡ front ++ piece =
    ap concat (take_more pieces i [] below) ∙ concat-append (take i pieces) (piece ∷ []) ∙ ap (λ (last : List ℕ). front ++ last) (append-nil piece) in
    let long = ap length joined ∙ length-append front piece in
    let first = so_far.rest in
    let fresh : drop skipped piece ≡ drop (known - length front) piece = ap (λ (n : ℕ). drop n piece) is ∙ drop_min left piece ∙ ap (λ (n : ℕ). drop n piece) first in
    let whole : drop known front ++ drop skipped piece ≡ drop known (concat (take (i + 1) pieces)) =
    ap (λ (last : List ℕ). drop known front ++ last) fresh ∙ sym (drop_append known front piece) ∙ ap (drop known) (sym joined) in
    record {
      rest = omega (arith, long, first, is, taken);
      appends = subst (λ (bytes : List ℕ). Appends w0 w2 bytes) whole (Appends-trans w0 w1 w2 (drop known front) (drop skipped piece) so_far.appends appends);
    }
