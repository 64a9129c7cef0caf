-- What the decoder's private functions find at the front of some bytes.
use Rattle.std.specs.Prelude.{◌≡◌, ℕ, ◌+◌, ◌<◌, ◌≤◌, ◌⊎◌, List, [], ◌++◌, length, take, drop, Option, Some, None, Ok}
use Rattle.mig_model.specs.Wire.{Frame, Sent}
use Rattle.page_stream.specs.Texts.{text}
use Rattle.frame_decoder.specs.declared.fault.StreamFault.{StreamFault}
use Rattle.frame_decoder.specs.declared.version.Version.{Version}
use Rattle.frame_decoder.specs.Reading.{Front}
use Rattle.frame_decoder.specs.Headers.{Header, header_at}
use Rattle.frame_decoder.specs.Streams.{May, IsSent, IsPart, Breach, Spells, lacks}
use Rattle.frame_decoder.specs.Versions.{version_of}

-- the first `len` bytes are the text of this frame, which may come
pub record FrontIs (fixed : Option Version) (bytes : List ℕ) (version : Version) (epoch : ℕ) (frame : Frame) (len : ℕ) : Type 0 where
  pub whole : bytes ≡ text (version_of version) epoch frame ++ drop len bytes
  pub may : May fixed version
  pub fits : IsSent version (record { epoch = epoch; frame = frame })
  pub inside : len ≤ length bytes
  pub some : 12 ≤ len

-- what stands at the front: less than a frame, this frame, or this fault
abbrev pub Stands : (fixed : Option Version) → List ℕ → Front → Type 0
Stands fixed bytes Front.Part = IsPart fixed bytes
Stands fixed bytes (Front.Whole version epoch frame len) = FrontIs fixed bytes version epoch frame len
Stands fixed bytes (Front.Fault fault) = Breach fixed bytes fault

-- reading stops at less than a frame, or at this fault
abbrev pub StopsAt : (fixed : Option Version) → List ℕ → Option StreamFault → Type 0
StopsAt fixed unread None = IsPart fixed unread
StopsAt fixed unread (Some fault) = Breach fixed unread fault

-- these frames take the first `read` bytes, and after them stands less than a frame or a fault
pub record IsTaken (fixed : Option Version) (bytes : List ℕ) (frames : List Sent) (read : ℕ) (fault : Option StreamFault) (new : Option Version) : Type 0 where
  pub inside : read ≤ length bytes
  pub spells : Spells fixed (take read bytes) frames new
  pub stops : StopsAt new (drop read bytes) fault

-- what is held of such bytes: those after the frames, and none if a fault stands there
abbrev pub left_of : (read : ℕ) → Option StreamFault → List ℕ → List ℕ
left_of read None bytes = drop read bytes
left_of read (Some fault) bytes = []

-- Filling the held bytes up from a piece

-- the missing bytes were taken from the front of the piece, or all of it if it has fewer
abbrev pub IsFilled : (fixed : Option Version) → (old piece new rest : List ℕ) → Type 0
IsFilled fixed old piece new rest = ((length piece < lacks fixed old) × (new ≡ old ++ piece) × (rest ≡ []))
    ⊎ ((lacks fixed old ≤ length piece) × (new ≡ old ++ take (lacks fixed old) piece) × (rest ≡ drop (lacks fixed old) piece))

-- 12 bytes or more; if they begin with a header, its body follows and no more
pub record IsOneFrame (fixed : Option Version) (bytes : List ℕ) : Type 0 where
  pub long : 12 ≤ length bytes
  pub is : (header : Header) → header_at fixed bytes ≡ Ok header → length bytes ≡ 12 + header.len

-- the held bytes are less than a frame, and the piece is used up; or they are a header with its body, or begin with a header at fault
abbrev pub FillEnds : (fixed : Option Version) → (new rest : List ℕ) → Type 0
FillEnds fixed new rest = ((rest ≡ []) × IsPart fixed new) ⊎ IsOneFrame fixed new

-- filling ends so, and no byte is lost: the held bytes and the rest of the piece are what was held, and the piece after it
pub record IsFilledUp (fixed : Option Version) (old piece new rest : List ℕ) : Type 0 where
  pub joined : new ++ rest ≡ old ++ piece
  pub ends : FillEnds fixed new rest
