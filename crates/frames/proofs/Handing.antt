-- Frames that are handed to a destination in turn.
use Rattle.std.proofs.Common.{◌≡◌, ℕ, zero, suc, ◌+◌, ◌<◌, List, [], ◌∷◌, ◌++◌, length, get_or, take, drop, map, map-id, refl, ap, sym, subst, ◌∙◌, append_assoc, append-nil, arith}
use Rattle.std.proofs.lemmas.List.{map-append, take-append-drop}
use Rattle.mig_model.specs.Bounds.{IsFrame}
use Rattle.mig_model.specs.Destination.{Destination}
use Rattle.page_stream.specs.declared.frame.Frame.{Frame}
use Rattle.page_stream.specs.Frames.{frame_of}
use Rattle.frame_decoder.specs.Streams.{decoded_sent, sents}
use Rattle.frames.specs.Answers.{after_frame, answer_line, answer_lines, after_frames, refusals, refusals_of, Adds}
use Rattle.frames.specs.Parts.{AreWellFormed, TakesSome}
use Rattle.frames.proofs.Answering.{behind-append, answer_lines-append, refusals-append, adds_then}

-- these frames were handed over, their lines gathered, and those that were refused counted
pub record Handed (start : Destination) (old : List ℕ) (before : ℕ) (frames : List (ℕ × Frame)) (now : Destination) (new : List ℕ) (count : ℕ) : Type 0 where
  pub is_behind : now ≡ after_frames start (sents frames)
  pub gathers : new ≡ old ++ answer_lines start (sents frames)
  pub counts : Adds before (refusals start (sents frames)) count

pub handed_none : (start : Destination) (old : List ℕ) (before : ℕ) → Handed start old before [] start old before
handed_none start old before = record { is_behind = refl; gathers = sym (append-nil old); counts = λ few. omega arith }

pub handed_one : (start : Destination) (old : List ℕ) (before : ℕ) (frames : List (ℕ × Frame)) (a b : Destination) (x y : List ℕ) (m n : ℕ) (one : ℕ × Frame) → Handed start old before frames a x m → b ≡ after_frame a (decoded_sent one)
    → y ≡ x ++ answer_line a (decoded_sent one) → Adds m (refusals_of a (decoded_sent one)) n → Handed start old before (frames ++ one ∷ []) b y n
handed_one start old before frames a b x y m n one so_far node line count =
    let more : sents (frames ++ one ∷ []) ≡ sents frames ++ decoded_sent one ∷ [] = map-append decoded_sent frames (one ∷ []) in
    let last = answer_line (after_frames start (sents frames)) (decoded_sent one) in
    let lines : answer_lines start (sents (frames ++ one ∷ [])) ≡ answer_lines start (sents frames) ++ last =
    ap (answer_lines start) more ∙ answer_lines-append start (sents frames) (decoded_sent one ∷ []) ∙ ap (λ (l : List ℕ). answer_lines start (sents frames) ++ l) (append-nil last) in
    record {
      is_behind = node ∙ ap (λ (d : Destination). after_frame d (decoded_sent one)) so_far.is_behind ∙ sym (ap (after_frames start) more ∙ behind-append start (sents frames) (decoded_sent one ∷ []));
      gathers =
          line ∙ ap (λ (l : List ℕ). l ++ answer_line a (decoded_sent one)) so_far.gathers ∙ ap (λ (d : Destination). (old ++ answer_lines start (sents frames)) ++ answer_line d (decoded_sent one)) so_far.is_behind
          ∙ append_assoc old (answer_lines start (sents frames)) last ∙ ap (λ (l : List ℕ). old ++ l) (sym lines);
      counts =
          let here : refusals_of a (decoded_sent one) ≡ refusals_of (after_frames start (sents frames)) (decoded_sent one) = ap (λ (d : Destination). refusals_of d (decoded_sent one)) so_far.is_behind in
          let total : refusals start (sents (frames ++ one ∷ [])) ≡ refusals start (sents frames) + (refusals_of (after_frames start (sents frames)) (decoded_sent one) + 0) =
          ap (refusals start) more ∙ refusals-append start (sents frames) (decoded_sent one ∷ []) in
          let sum : refusals start (sents frames) + refusals_of a (decoded_sent one) ≡ refusals start (sents (frames ++ one ∷ [])) = omega (arith, here, total) in
          subst (λ (k : ℕ). Adds before k n) sum (adds_then before (refusals start (sents frames)) m (refusals_of a (decoded_sent one)) n so_far.counts count);
    }

-- the frame at a place
pub frame_at : (frames : List (ℕ × Frame)) (i : ℕ) (one : ℕ × Frame) → AreWellFormed (sents frames) → (i < length frames) × (one ≡ get_or frames i one) → IsFrame (frame_of one.1)
frame_at [] i one each at = absurd (omega (arith, at.0))
frame_at (x ∷ frames) zero one each at = subst (λ (f : ℕ × Frame). IsFrame (frame_of f.1)) (sym at.1) each.0
frame_at (x ∷ frames) (suc i) one each at = frame_at frames i one each.1 (omega (arith, at.0), at.1)

-- the first of these frames
pub handed_some : (start : Destination) (old : List ℕ) (before : ℕ) (frames taken : List (ℕ × Frame)) (now : Destination) (x y : List ℕ) (count : ℕ) → map (λ (f : ℕ × Frame). f) taken ≡ take (length taken) frames
    → Handed start old before taken now x count → y ≡ x → TakesSome start (sents frames) old y
handed_some start old before frames taken now x y count front so_far same =
    let first : taken ≡ take (length taken) frames = sym (map-id taken) ∙ front in
    record {
      taken = sents taken;
      others = sents (drop (length taken) frames);
      parts =
          ap sents (sym (take-append-drop (length taken) frames)) ∙ map-append decoded_sent (take (length taken) frames) (drop (length taken) frames)
          ∙ ap (λ (l : List (ℕ × Frame)). sents l ++ sents (drop (length taken) frames)) (sym first);
      gathers = same ∙ so_far.gathers;
    }
