-- The bytes in flight, as frames.
use Rattle.std.specs.Prelude.{◌≡◌, ℕ, zero, suc, ◌-◌, ◌/◌, ◌≤◌, List, [], ◌∷◌, ◌++◌, length, map, drop, Some}
use Rattle.std.specs.Global.{Vec}
use Rattle.std.specs.List.{concat, flat_map, AllByRecursion}
use Rattle.std.specs.Vec.{vec_capacity, vec_len}
use Rattle.mig_model.specs.Wire.{Sent}
use Rattle.frame_decoder.specs.Reading.{Front, next_at}
use Rattle.frame_decoder.specs.Streams.{IsSent, texts}
use Rattle.frame_decoder.specs.Versions.{version_of}
use Rattle.frame_decoder.specs.declared.version.Version.{Version}
use Rattle.frame_decoder.specs.declared.version.Version.TheVariants as versions
use Rattle.page_stream.specs.Texts.{text}
use Rattle.mig_model.specs.Lengths.{text_len}
use Rattle.wires.specs.declared.chunks.Chunks.{Chunks}
use Rattle.wires.specs.declared.chunks.TheConstants.{LONGEST_TEXT}

-- the frames whose texts of version 2 stand at the front of the bytes, one after the other, `most` of them at most
unfoldable pub frames_from : (most : ℕ) → List ℕ → List Sent
frames_from zero bytes = []
frames_from (suc most) bytes = elim (next_at (Some versions.Two) bytes) [ Front.Whole version epoch frame len ↦ record { epoch = epoch; frame = frame } ∷ frames_from most (drop len bytes) | Front.Part ↦ [] | Front.Fault fault ↦ [] ]

-- all frames at the front of the bytes: a text has at least one byte, so their number bounds that of the frames
abbrev pub frames_in : List ℕ → List Sent
frames_in bytes = frames_from (length bytes) bytes

-- the bytes are the texts of frames, and nothing more
pub record AreTexts (bytes : List ℕ) : Type 0 where
  pub whole : bytes ≡ texts versions.Two (frames_in bytes)
  pub each : AllByRecursion (IsSent versions.Two) (frames_in bytes)

-- a full chunk has whole texts, at least one
pub record IsFull (chunk : Vec ℕ) : Type 0 where
  pub texts : AreTexts chunk.items
  pub some : chunk.items ≡ [] → ⊥

-- the bytes of the first chunk that were not taken yet
abbrev pub left : Chunks → List ℕ
left chunks = drop chunks.taken chunks.reading.items

-- the frames of the full chunks, in order
abbrev pub in_full : List (Vec ℕ) → List Sent
in_full chunks = flat_map (λ (chunk : Vec ℕ). frames_in chunk.items) chunks

-- the frames in flight, in the order in which they were sent: of the chunk that is read, the full ones, and the one that is written
abbrev pub in_flight : Chunks → List Sent
in_flight chunks = frames_in (left chunks) ++ (in_full chunks.full.items ++ frames_in chunks.writing.items)

-- the bytes of the frames in flight, a piece for each chunk
abbrev pub pieces : Chunks → List (List ℕ)
pieces chunks = left chunks ∷ (map (λ (chunk : Vec ℕ). chunk.items) chunks.full.items ++ chunks.writing.items ∷ [])

-- what is left of a piece, and the bytes of the pieces from `next` on
abbrev pub bytes_from : List (List ℕ) → List ℕ → ℕ → List ℕ
bytes_from pieces rest next = rest ++ concat (drop next pieces)

-- the number of frames for which there is room, however long they are
abbrev pub room : Chunks → ℕ
room chunks = (vec_capacity chunks.writing - vec_len chunks.writing) / LONGEST_TEXT

-- every chunk has whole texts, and no more bytes of the first were taken than it has
pub record AreChunks (chunks : Chunks) : Type 0 where
  pub inside : chunks.taken ≤ length chunks.reading.items
  pub reading : AreTexts (left chunks)
  pub full : AllByRecursion IsFull chunks.full.items
  pub writing : AreTexts chunks.writing.items

-- whatever text stands at the front of the bytes, this is its length
abbrev pub IsFrontLen : List ℕ → ℕ → Type 0
IsFrontLen bytes len = (version : Version) (sent : Sent) (rest : List ℕ) → IsSent version sent → bytes ≡ text (version_of version) sent.epoch sent.frame ++ rest → len ≡ text_len sent.frame
