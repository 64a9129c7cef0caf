-- How many bytes frames take, and how many are held after them.
use Rattle.std.proofs.Common.{◌≡◌, ℕ, ◌+◌, ◌-◌, ◌≤◌, ◌<◌, ◌^◌, List, [], ◌∷◌, ◌++◌, length, Option, Some, None, Ok, refl, ap, arith}
use Rattle.std.specs.Prelude.{sum_by}
use Rattle.std.specs.List.{AllByRecursion}
use Rattle.std.proofs.lemmas.List.{length-append}
use Rattle.std.proofs.lemmas.List.Concat.{flat_map-cons}
use Rattle.std.proofs.lemmas.List.Sums.{sum_by-cons}
use Rattle.mig_model.specs.Lengths.{text_len}
use Rattle.mig_model.specs.Wire.{Sent}
use Rattle.page_stream.specs.Texts.{text}
use Rattle.page_stream.proofs.TextLemmas.{length-text}
use Rattle.frame_decoder.specs.declared.fault.StreamFault.{StreamFault}
use Rattle.frame_decoder.specs.declared.version.Version.{Version}
use Rattle.frame_decoder.specs.Feeding.{Fed}
use Rattle.page_stream.specs.declared.frame.Frame.{Frame}
use Rattle.page_stream.specs.Frames.{frame_of}
use Rattle.frame_decoder.specs.Streams.{decoded_sent, sents, Held, IsSent, Splits, texts}
use Rattle.frame_decoder.specs.Versions.{version_of}
use Rattle.frame_decoder.proofs.Unique.{read_back}
use Rattle.frames.specs.Parts.{AreWellFormed, IsCounted, texts_len}

length-texts : (v : Version) (frames : List Sent) → AllByRecursion (IsSent v) frames → length (texts v frames) ≡ texts_len frames
length-texts v [] h = refl
length-texts v (sent ∷ frames) h =
    let text_of = λ (sent : Sent). text (version_of v) sent.epoch sent.frame in
    let is = read_back v sent h.0 in
    omega (
      arith,
      ap length (flat_map-cons text_of sent frames),
      length-append (text_of sent) (texts v frames),
      length-text (version_of v) sent.epoch sent.frame is.has is.whole,
      length-texts v frames h.1,
      sum_by-cons (λ (sent : Sent). text_len sent.frame) sent frames,
    )

-- each frame of a stream may be handed to a destination
each_frame : (v : Version) (frames : List Sent) → AllByRecursion (IsSent v) frames → AreWellFormed frames
each_frame v [] h = tt
each_frame v (sent ∷ frames) h = (h.0.frame.right, each_frame v frames h.1)

pub splits_frames : (a b : Option Version) (stream : List ℕ) (frames : List Sent) (held : List ℕ) (fault : Option StreamFault) → Splits a stream frames held fault b → AreWellFormed frames
splits_frames a b stream frames held fault s = each_frame s.spells.version frames s.spells.each

-- their texts are in the stream
splits_len : (a b : Option Version) (stream : List ℕ) (frames : List Sent) (held : List ℕ) (fault : Option StreamFault) (s : Splits a stream frames held fault b) → length stream ≡ texts_len frames + length s.unread
splits_len a b stream frames held fault s =
    omega (arith, ap length s.whole, length-append s.read s.unread, ap length s.spells.whole, length-texts s.spells.version frames s.spells.each)

pub fed_frames : (old : Held) (piece : List ℕ) (frames : List Sent) (new : Held) → Fed old piece (Ok frames) new → AreWellFormed frames
fed_frames old piece frames new fed = splits_frames old.version new.version (old.bytes ++ piece) frames new.bytes new.fault fed.1

pub fed_len : (old : Held) (piece : List ℕ) (frames : List Sent) (new : Held) (held : ℕ) → Fed old piece (Ok frames) new → IsCounted old held → texts_len frames ≤ held + length piece
fed_len old piece frames new held fed counted =
    omega (arith, (counted fed.0).0, length-append old.bytes piece, splits_len old.version new.version (old.bytes ++ piece) frames new.bytes new.fault fed.1)

pub fed_fits : (old : Held) (piece : List ℕ) (frames : List Sent) (new : Held) (held : ℕ) → Fed old piece (Ok frames) new → IsCounted old held → length piece < 2 ^ 32 → texts_len frames < 2 ^ 64
fed_fits old piece frames new held fed counted short = omega (arith, (counted fed.0).0, (counted fed.0).1, fed_len old piece frames new held fed counted, short)

held_len : (a b : Option Version) (stream : List ℕ) (frames : List Sent) (held : List ℕ) (fault : Option StreamFault) → fault ≡ None → Splits a stream frames held fault b → length stream ≡ texts_len frames + length held
held_len a b stream frames held None none s = omega (arith, ap length s.ends.1, splits_len a b stream frames held None s)
held_len a b stream frames held (Some fault) none s = absurd cc

pub fed_counted : (old : Held) (piece : List ℕ) (frames : List Sent) (new : Held) (held : ℕ) → Fed old piece (Ok frames) new → IsCounted old held → length new.bytes < 2 ^ 32 → IsCounted new (held + length piece - texts_len frames)
fed_counted old piece frames new held fed counted few none =
    (omega (arith, (counted fed.0).0, length-append old.bytes piece, held_len old.version new.version (old.bytes ++ piece) frames new.bytes new.fault none fed.1), few)

-- The frames of the code

abbrev pub frame_len : ℕ × Frame → ℕ
frame_len numbered = text_len (frame_of numbered.1)

pub sum_by-frames : (frames : List (ℕ × Frame)) → sum_by frame_len frames ≡ texts_len (sents frames)
sum_by-frames [] = refl
sum_by-frames (one ∷ frames) =
    omega (arith, sum_by-cons frame_len one frames, sum_by-cons (λ (sent : Sent). text_len sent.frame) (decoded_sent one) (sents frames), sum_by-frames frames)
