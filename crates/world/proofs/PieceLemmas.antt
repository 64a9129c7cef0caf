-- The bytes in flight on a wire, piece by piece.
use Rattle.std.proofs.Common.{min, ◌≡◌, ℕ, ◌+◌, ◌-◌, ◌<◌, ◌≤◌, List, [], ◌∷◌, ◌++◌, length, take, get_or, length-append, append-nil, refl, sym, ap, ◌∙◌, arith}
use Rattle.std.specs.Prelude.{drop}
use Rattle.std.specs.List.{concat, AllByRecursion}
use Rattle.std.proofs.lemmas.Bool.Decides.{nat_tests}
use Rattle.std.proofs.lemmas.List.{drop_more, get_or-append_right, get_or_append_left, take_more}
use Rattle.std.proofs.lemmas.List.Folds.{concat-append}
use Rattle.mig_model.specs.Guest.{counted}
use Rattle.mig_model.specs.Wire.{Sent}
use Rattle.frame_decoder.specs.Streams.{IsSent, texts}
use Rattle.frame_decoder.specs.declared.version.Version.TheVariants.{Two}
use Rattle.wires.proofs.ChunkLemmas.{length-texts-cons}
use Rattle.world.specs.Answers.{in_flight_len}

-- the frames have as many bytes as their texts
pub in_flight : (frames : List Sent) → AllByRecursion (IsSent Two) frames → length (texts Two frames) ≡ in_flight_len frames
in_flight [] each = refl
in_flight (sent ∷ rest) each = let long = length-texts-cons sent rest each.0 in let more = in_flight rest each.1 in omega (arith, long, more)

joined_more : (pieces : List (List ℕ)) (i : ℕ) → i < length pieces → length (concat (take (i + 1) pieces)) ≡ length (concat (take i pieces)) + length (get_or pieces i [])
joined_more pieces i below =
    ap (λ (some : List (List ℕ)). length (concat some)) (take_more pieces i [] below) ∙ ap length (concat-append (take i pieces) (get_or pieces i [] ∷ [])) ∙ length-append (concat (take i pieces)) (get_or pieces i [] ++ [])
    ∙ ap (λ (last : List ℕ). length (concat (take i pieces)) + length last) (append-nil (get_or pieces i []))

-- a place in the bytes from a piece on: it lies in that piece, or in those after it
pub in_piece : (pieces : List (List ℕ)) (i place : ℕ) → i < length pieces → place < length (get_or pieces i []) → get_or (concat (drop i pieces)) place 0 ≡ get_or (get_or pieces i []) place 0
in_piece pieces i place below inside =
    ap (λ (some : List (List ℕ)). get_or (concat some) place 0) (drop_more pieces i [] below) ∙ get_or_append_left (get_or pieces i []) (concat (drop (i + 1) pieces)) 0 place inside

pub past_piece : (pieces : List (List ℕ)) (i place len : ℕ) → i < length pieces → length (get_or pieces i []) ≡ len → len ≤ place → get_or (concat (drop (i + 1) pieces)) (place - len) 0 ≡ get_or (concat (drop i pieces)) place 0
past_piece pieces i place len below is past =
    sym (ap (λ (some : List (List ℕ)). get_or (concat some) place 0) (drop_more pieces i [] below) ∙ get_or-append_right (get_or pieces i []) (concat (drop (i + 1) pieces)) len place 0 is past)

more_counted : (joined len : ℕ) → min (counted 0 joined + len) 18446744073709551615 ≡ counted 0 (joined + len)
more_counted joined len = grind (arith, nat_tests)

-- one piece more is counted
pub summed : (pieces : List (List ℕ)) (i bytes len : ℕ) → i < length pieces → len ≡ length (get_or pieces i []) → bytes ≡ counted 0 (length (concat (take i pieces))) → min (bytes + len) 18446744073709551615 ≡ counted 0 (length (concat (take (i + 1) pieces)))
summed pieces i bytes len below is sum =
    ap (λ (n : ℕ). min (n + len) 18446744073709551615) sum ∙ ap (λ (n : ℕ). min (counted 0 (length (concat (take i pieces))) + n) 18446744073709551615) is
    ∙ more_counted (length (concat (take i pieces))) (length (get_or pieces i [])) ∙ ap (counted 0) (sym (joined_more pieces i below))

pub summed_all : (pieces : List (List ℕ)) (frames : List Sent) (bytes : ℕ) → AllByRecursion (IsSent Two) frames → concat pieces ≡ texts Two frames → bytes ≡ counted 0 (length (concat pieces)) → bytes ≡ counted 0 (in_flight_len frames)
summed_all pieces frames bytes each whole sum = sum ∙ ap (counted 0) (ap length whole ∙ in_flight frames each)
