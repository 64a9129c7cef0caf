-- The parts of the reader, and their effect for the bytes of one piece.
use Rattle.std.specs.Prelude.{◌≡◌, ℕ, ◌<◌, ◌^◌, List, [], ◌++◌, length, sum_by, Option, None, Ok}
use Rattle.std.specs.List.{AllByRecursion}
use Rattle.std.specs.Io.KnownBytes.{Appends}
use Rattle.mig_model.specs.Bounds.{IsFrame}
use Rattle.mig_model.specs.Destination.{Destination}
use Rattle.mig_model.specs.Lengths.{text_len}
use Rattle.mig_model.specs.Wire.{Sent}
use Rattle.frame_decoder.specs.declared.fault.StreamFault.{StreamFault}
use Rattle.frame_decoder.specs.declared.version.Version.{Version}
use Rattle.frame_decoder.specs.Feeding.{Fed, FedFault}
use Rattle.frame_decoder.specs.Streams.{Held, Spells}
use Rattle.frames.specs.declared.fault.FramesFault.{FramesFault}
use Rattle.frames.specs.declared.fault.FramesFault.TheVariants as faults
use Rattle.frames.specs.declared.reader.FrameReader.{FrameReader}
use Rattle.frames.specs.Answers.{answer_lines, after_frames, refusals, Adds}

-- each frame is well formed, so it may be handed to a destination
abbrev pub AreWellFormed : List Sent → Type 0
AreWellFormed frames = AllByRecursion (λ sent. IsFrame sent.frame) frames

-- the length of the frames' texts in bytes
abbrev pub texts_len : List Sent → ℕ
texts_len frames = sum_by (λ sent. text_len sent.frame) frames

-- the lines of some of these frames, from the first on, were gathered
pub record TakesSome (node : Destination) (frames : List Sent) (old new : List ℕ) : Type 0 where
  pub taken : List Sent
  pub others : List Sent
  pub parts : frames ≡ taken ++ others
  pub gathers : new ≡ old ++ answer_lines node taken

-- the count is that of the bytes that the decoder holds, fewer than 2^32, unless there is a fault
abbrev pub IsCounted : Held → ℕ → Type 0
IsCounted decoder held = decoder.fault ≡ None → (held ≡ length decoder.bytes) × (length decoder.bytes < 2 ^ 32)

-- the decoder returned these frames for the piece, they were handed to the destination, and those that it refused were counted
pub record Passed (old : FrameReader) (piece : List ℕ) (frames : List Sent) (new : FrameReader) : Type 0 where
  pub fed : Fed old.decoder piece (Ok frames) new.decoder
  pub node : new.taker.destination ≡ after_frames old.taker.destination frames
  pub count : Adds old.taker.refused (refusals old.taker.destination frames) new.taker.refused

-- the same, and the lines were gathered
pub record Gathers (old : FrameReader) (piece : List ℕ) (new : FrameReader) : Type 0 where
  pub frames : List Sent
  pub passed : Passed old piece frames new
  pub gathers : new.taker.output.items ≡ old.taker.output.items ++ answer_lines old.taker.destination frames

-- the same, and the lines were written
pub record Passes (old : FrameReader) (piece : List ℕ) (new : FrameReader) (before after : Option (List ℕ)) : Type 0 where
  pub frames : List Sent
  pub passed : Passed old piece frames new
  pub appends : Appends before after (answer_lines old.taker.destination frames)

-- the held bytes and the piece after them begin with these frames
pub record BeginsWith (old : Held) (piece : List ℕ) (frames : List Sent) : Type 0 where
  pub front : List ℕ
  pub rest : List ℕ
  pub version : Option Version
  pub whole : old.bytes ++ piece ≡ front ++ rest
  pub spells : Spells old.version front frames version
  pub faultless : old.fault ≡ None

-- the decoder returned the fault
abbrev pub AnswersFault : Held → List ℕ → StreamFault → Type 0
AnswersFault old piece fault = (new : Held) × FedFault old piece fault new

-- the lines of some frames were gathered when memory was refused
pub record GathersSome (old : FrameReader) (piece output : List ℕ) : Type 0 where
  pub frames : List Sent
  pub begins : BeginsWith old.decoder piece frames
  pub gathers : output ≡ old.taker.output.items ++ answer_lines old.taker.destination frames

-- a fault, and the lines that were gathered before it
abbrev pub FedUntil : FrameReader → (piece : List ℕ) → FramesFault → (output : List ℕ) → Type 0
FedUntil old piece (faults.Stream fault) output = AnswersFault old.decoder piece fault × (output ≡ old.taker.output.items)
FedUntil old piece faults.Truncated output = ⊥
FedUntil old piece faults.ReadFault output = ⊥
FedUntil old piece faults.WriteFault output = ⊥
FedUntil old piece faults.NoMemory output = GathersSome old piece output

-- the lines of some frames were written but for `more`
pub record WritesSome (old : FrameReader) (piece more : List ℕ) (before after : Option (List ℕ)) : Type 0 where
  pub frames : List Sent
  pub written : List ℕ
  pub begins : BeginsWith old.decoder piece frames
  pub lines : answer_lines old.taker.destination frames ≡ written ++ more
  pub appends : Appends before after written

-- a fault, and the lines that were written before it
abbrev pub HaltsInPiece : FrameReader → (piece : List ℕ) → FramesFault → (before after : Option (List ℕ)) → Type 0
HaltsInPiece old piece (faults.Stream fault) before after = AnswersFault old.decoder piece fault × Appends before after []
HaltsInPiece old piece faults.Truncated before after = ⊥
HaltsInPiece old piece faults.ReadFault before after = ⊥
HaltsInPiece old piece faults.WriteFault before after = (more : List ℕ) × (0 < length more) × WritesSome old piece more before after
HaltsInPiece old piece faults.NoMemory before after = WritesSome old piece [] before after

-- The end of the stream

-- the last piece, which is empty, was taken and its lines written; then nothing is held
abbrev pub EndsWhole : FrameReader → FrameReader → (before after : Option (List ℕ)) → Type 0
EndsWhole old new before after = Passes old [] new before after × (new.decoder.fault ≡ None → new.decoder.bytes ≡ [])

-- the stream ends with a fault: the decoder's, or that less than a frame is held
abbrev pub EndsBy : FrameReader → FramesFault → FrameReader → (before after : Option (List ℕ)) → Type 0
EndsBy old (faults.Stream fault) new before after = HaltsInPiece old [] (faults.Stream fault) before after
EndsBy old faults.Truncated new before after = Passes old [] new before after × (new.decoder.fault ≡ None → 0 < length new.decoder.bytes)
EndsBy old faults.ReadFault new before after = ⊥
EndsBy old faults.WriteFault new before after = HaltsInPiece old [] faults.WriteFault before after
EndsBy old faults.NoMemory new before after = HaltsInPiece old [] faults.NoMemory before after
