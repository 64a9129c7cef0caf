-- The frames after those that were handed out.
use Rattle.std.proofs.Common.{◌≡◌, ℕ, zero, suc, ◌+◌, ◌<◌, ◌≤◌, List, [], ◌∷◌, length, drop, get_or, refl, sym, ap, subst, arith}
use Rattle.std.proofs.lemmas.List.{drop_more, length-drop, length-map}
use Rattle.mig_model.specs.Bounds.{IsFrame}
use Rattle.mig_model.specs.Wire.{Sent}
use Rattle.page_stream.specs.declared.frame.Frame.{Frame}
use Rattle.page_stream.specs.Frames.{frame_of}
use Rattle.frame_decoder.specs.Streams.{decoded_sent, sents}
use Rattle.std.specs.Prelude.{Bool, true, false, T, not, IsTrue}
use Rattle.postmig_c.specs.Queues.{AreWellFormed}

-- as many wait as were not handed out
pub waiting_len : (n : ℕ) (frames : List (ℕ × Frame)) → n ≤ length frames → length (sents (drop n frames)) + n ≡ length frames
waiting_len n frames within = omega (arith, length-map (drop n frames) decoded_sent, length-drop n frames, within)

-- one that waits was not handed out
pub is_behind : (n : ℕ) (frames : List (ℕ × Frame)) (waiting : List Sent) → sents (drop n frames) ≡ waiting → n ≤ length frames → 0 < length waiting → n < length frames
is_behind n frames waiting is within some = omega (arith, waiting_len n frames within, ap length is, some)

not_true : false ≡ true → ⊥
not_true wrong = subst (λ (b : Bool). T (not b)) wrong tt

-- none waits
pub none_waits : (waiting : List Sent) → (0 < length waiting → IsTrue false) → waiting ≡ []
none_waits [] none = refl
none_waits (sent ∷ waiting) none = absurd (not_true (none (omega arith)))

-- the first that waits is gone
pub one_less : (n : ℕ) (frames : List (ℕ × Frame)) (d : ℕ × Frame) → n < length frames → sents (drop (n + 1) frames) ≡ drop 1 (sents (drop n frames))
one_less n frames d within = sym (ap (λ (waiting : List (ℕ × Frame)). drop 1 (sents waiting)) (drop_more frames n d within))

-- each frame is well formed
pub frame_at : (n : ℕ) (frames : List (ℕ × Frame)) (d : ℕ × Frame) → AreWellFormed (sents frames) → n < length frames → IsFrame (frame_of (get_or frames n d).1)
frame_at n [] d are within = absurd (omega (arith, within))
frame_at zero (frame ∷ frames) d are within = are.0
frame_at (suc n) (frame ∷ frames) d are within = frame_at n frames d are.1 (omega (arith, within))
