-- Streams: frames one after the other, and then less than a frame, or a fault.
use Rattle.std.specs.Prelude.{◌≡◌, ℕ, ◌+◌, ◌-◌, ◌^◌, ◌<◌, ◌≤◌, ◌⊎◌, List, [], ◌∷◌, ◌++◌, length, map, take, drop, Option, Some, None, Ok, Err, nat_lt, if◌then◌else◌}
use Rattle.std.specs.List.{flat_map, AllByRecursion}
use Rattle.mig_model.specs.Lengths.{header_len}
use Rattle.mig_model.specs.Wire.{Frame as MachineFrame, Sent}
use Rattle.page_stream.specs.Texts.{text, body_text}
use Rattle.page_stream.specs.declared.frame.Frame.{Frame}
use Rattle.page_stream.specs.Frames.{frame_of}
use Rattle.frame_decoder.specs.declared.fault.StreamFault.{StreamFault}
use Rattle.frame_decoder.specs.declared.fault.StreamFault.TheVariants as faults
use Rattle.frame_decoder.specs.declared.version.Version.{Version}
use Rattle.frame_decoder.specs.Headers.{Header, header_at}
use Rattle.frame_decoder.specs.Versions.{version_of, tag_of, IsFrameIn}

-- Frames with their epochs

-- bridges a frame of the code with its epoch to the machine's
abbrev pub decoded_sent : ℕ × Frame → Sent
decoded_sent numbered = record { epoch = numbered.0; frame = frame_of numbered.1 }

-- the same for a list of frames
abbrev pub sents : List (ℕ × Frame) → List Sent
sents frames = map decoded_sent frames

-- a frame that a stream of the version may have, with an epoch of 32 bits
pub record IsSent (version : Version) (sent : Sent) : Type 0 where
  pub epoch : sent.epoch < 2 ^ 32
  pub frame : IsFrameIn version sent.frame

-- the bytes of frames: their texts in one version, with nothing between them
abbrev pub texts : Version → List Sent → List ℕ
texts version frames = flat_map (λ sent. text (version_of version) sent.epoch sent.frame) frames

-- the bytes are exactly the text of the frame in that version
pub record IsTextOf (version : Version) (bytes : List ℕ) (sent : Sent) : Type 0 where
  pub whole : bytes ≡ text (version_of version) sent.epoch sent.frame
  pub fits : IsSent version sent

-- the bytes are a front of the text of a frame in that version, and not the whole of it
pub record IsFrontOfText (version : Version) (front : List ℕ) : Type 0 where
  pub sent : Sent
  pub rest : List ℕ
  pub fits : IsSent version sent
  pub whole : text (version_of version) sent.epoch sent.frame ≡ front ++ rest
  pub short : rest ≡ [] → ⊥

-- The version that is fixed

-- a frame of this version may come: any version if none is fixed, and otherwise the fixed one alone
abbrev pub May : (fixed : Option Version) → Version → Type 0
May None version = Unit {0}
May (Some fixed) version = fixed ≡ version

-- the first frame fixes the version; without a frame it stays as it was
abbrev pub Fixes : (old : Option Version) → Version → List Sent → (new : Option Version) → Type 0
Fixes old version [] new = new ≡ old
Fixes old version (sent ∷ frames) new = May old version × (new ≡ Some version)

-- the bytes are exactly the texts of the frames, all of one version, which may come; `new` is the version that is fixed then
pub record Spells (old : Option Version) (bytes : List ℕ) (frames : List Sent) (new : Option Version) : Type 0 where
  pub version : Version
  pub whole : bytes ≡ texts version frames
  pub each : AllByRecursion (IsSent version) frames
  pub fixes : Fixes old version frames new

-- Less than a frame, without a fault so far

-- fewer bytes than the 12 of a header
pub record PartOfHeader (bytes : List ℕ) : Type 0 where
  pub short : length bytes < header_len

-- a header without a fault, and after it fewer bytes than its body has
pub record PartOfBody (fixed : Option Version) (bytes : List ℕ) : Type 0 where
  pub header : Header
  pub long : header_len ≤ length bytes
  pub reads : header_at fixed bytes ≡ Ok header
  pub short : length bytes < header_len + header.len

-- less than a frame: more bytes may complete one
abbrev pub IsPart : (fixed : Option Version) → List ℕ → Type 0
IsPart fixed bytes = PartOfHeader bytes ⊎ PartOfBody fixed bytes

-- The first fault where a frame begins: of the header as soon as its 12 bytes are there, of the body once it is whole

-- the first 12 bytes are not a header, and this is the first fault of them
pub record HeaderBreach (fixed : Option Version) (bytes : List ℕ) (fault : StreamFault) : Type 0 where
  pub long : header_len ≤ length bytes
  pub reads : header_at fixed bytes ≡ Err fault

-- the header has no fault and the body is whole, but no frame of that tag and version has this body: the fault is BadField
pub record BodyBreach (fixed : Option Version) (bytes : List ℕ) (fault : StreamFault) : Type 0 where
  pub header : Header
  pub long : header_len ≤ length bytes
  pub reads : header_at fixed bytes ≡ Ok header
  pub whole : header_len + header.len ≤ length bytes
  pub none : (frame : MachineFrame) → IsFrameIn header.version frame → tag_of frame ≡ header.tag → body_text frame ≡ take header.len (drop header_len bytes) → ⊥
  pub is : fault ≡ faults.BadField

-- this fault stands at the front of the bytes: in the header, or in the body
abbrev pub Breach : (fixed : Option Version) → List ℕ → StreamFault → Type 0
Breach fixed bytes fault = HeaderBreach fixed bytes fault ⊎ BodyBreach fixed bytes fault

-- What a decoder holds

-- the bytes of a frame that is not whole yet, or a fault, and the version that the first frame fixed
pub record Held : Type 0 where
  pub bytes : List ℕ
  pub fault : Option StreamFault
  pub version : Option Version

-- no fault, or one of the stream: lack of memory is not held
abbrev pub IsStreamFault : Option StreamFault → Type 0
IsStreamFault None = Unit {0}
IsStreamFault (Some faults.NoMemory) = ⊥
IsStreamFault (Some faults.BadTag) = Unit {0}
IsStreamFault (Some faults.BadLength) = Unit {0}
IsStreamFault (Some faults.BadField) = Unit {0}

-- what is held where the whole frames end: the unread bytes if they are less than a frame, or the fault that stands there and no bytes
abbrev pub LeavesHeld : (fixed : Option Version) → (unread held : List ℕ) → Option StreamFault → Type 0
LeavesHeld fixed unread held None = IsPart fixed unread × (held ≡ unread)
LeavesHeld fixed unread held (Some fault) = Breach fixed unread fault × (held ≡ [])

-- the stream is exactly these frames, all of one version, and after them less than a frame, which is held, or a fault; `new` is the
-- version that is fixed then
pub record Splits (old : Option Version) (stream : List ℕ) (frames : List Sent) (held : List ℕ) (fault : Option StreamFault) (new : Option Version) : Type 0 where
  pub read : List ℕ
  pub unread : List ℕ
  pub whole : stream ≡ read ++ unread
  pub spells : Spells old read frames new
  pub ends : LeavesHeld new unread held fault

-- a stream as it is split: its frames, and what is held after them
pub record Split : Type 0 where
  pub frames : List Sent
  pub held : Held

-- the stream splits so
abbrev pub SplitsAs : (old : Option Version) → (stream : List ℕ) → Split → Type 0
SplitsAs old stream split = Splits old stream split.frames split.held.bytes split.held.fault split.held.version

-- the number of bytes that a header still lacks, or once it is there its frame; 0 where a fault stands
unfoldable pub lacks : (fixed : Option Version) → List ℕ → ℕ
lacks fixed bytes =
    if nat_lt (length bytes) header_len then header_len - length bytes else elim (header_at fixed bytes) [ Ok header ↦ header_len + header.len - length bytes | Err fault ↦ 0 ]

-- the number of bytes that a decoder still lacks of a header, or once it is there of its frame; 0 after a fault
abbrev pub missing : Held → ℕ
missing held = elim held.fault [ None ↦ lacks held.version held.bytes | Some fault ↦ 0 ]
