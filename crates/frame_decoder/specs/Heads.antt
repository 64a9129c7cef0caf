-- A frame at the front of some bytes, with the bytes of its pages left where they lie.
use Rattle.std.specs.Prelude.{◌≡◌, ℕ, zero, suc, ◌+◌, ◌*◌, ◌≤◌, ◌⊎◌, Bool, true, false, List, [], ◌∷◌, length, take, drop, Option, Some, None, Result, Ok, Err}
use Rattle.foundation.specs.declared.TheConstants.{PAGE_SIZE}
use Rattle.mig_model.specs.Wire.{Frame}
use Rattle.page_stream.specs.Frames.{frame_of}
use Rattle.frame_decoder.specs.declared.fault.StreamFault.{StreamFault}
use Rattle.frame_decoder.specs.declared.fault.StreamFault.TheVariants as faults
use Rattle.frame_decoder.specs.declared.head.FrameHead.{FrameHead}
use Rattle.frame_decoder.specs.declared.head.Head.{Head}
use Rattle.frame_decoder.specs.declared.head.Head.TheVariants as heads
use Rattle.frame_decoder.specs.declared.header.Header as code
use Rattle.frame_decoder.specs.declared.tag.Tag.{Tag}
use Rattle.frame_decoder.specs.declared.tag.Tag.TheVariants as tag
use Rattle.frame_decoder.specs.declared.version.Version.{Version}
use Rattle.frame_decoder.specs.Headers.{Header, header_at}
use Rattle.frame_decoder.specs.Reading.{Front, IsRead, body_next, body_at}
use Rattle.frame_decoder.specs.Streams.{Breach}

-- the first `count` pages of some bytes
unfoldable pub pages_of : (count : ℕ) → List ℕ → List (List ℕ)
pages_of zero bytes = []
pages_of (suc n) bytes = take PAGE_SIZE bytes ∷ pages_of n (drop PAGE_SIZE bytes)

-- the frame with this head, where the bytes are those of its pages
abbrev pub frame_with : Head → List ℕ → Frame
frame_with (heads.Page page) bytes = Frame.Page page bytes
frame_with (heads.Run first count) bytes = Frame.Run first (pages_of count bytes)
frame_with (heads.Other frame) bytes = frame_of frame

-- how many bytes of pages a frame with this head has
abbrev pub content_len : Head → ℕ
content_len (heads.Page page) = PAGE_SIZE
content_len (heads.Run first count) = PAGE_SIZE * count
content_len (heads.Other frame) = 0

-- the frame that a body spells with this head, where the bytes of its pages begin at this place in the body
abbrev pub frame_in : List ℕ → Head × ℕ → Frame
frame_in body found = frame_with found.0 (drop found.1 body)

-- a head that was read of a body is that of the frame that it spells, or the fault is the body's
abbrev pub IsHeadOf : (at : ℕ) → (body : List ℕ) → Result Head StreamFault → Result Frame StreamFault → Type 0
IsHeadOf at body = IsRead (λ head. frame_in body (head, at))

-- the bytes of its pages end where the text ends
abbrev pub IsWhole : FrameHead → Type 0
IsWhole found = found.at + content_len found.head ≡ found.len

-- the fault stands at the front of the bytes, or memory ran out
abbrev pub StandsAt : (fixed : Option Version) → List ℕ → StreamFault → Type 0
StandsAt fixed bytes fault = (fault ≡ faults.NoMemory) ⊎ Breach fixed bytes fault

-- what `read_head` found at the front of the bytes: less than a frame, or a frame, whose pages have the bytes from `at` to the end of its
-- text
abbrev pub front_of : List ℕ → Option FrameHead → Front
front_of bytes None = Front.Part
front_of bytes (Some found) = Front.Whole found.version found.epoch (frame_with found.head (drop found.at (take found.len bytes))) found.len

-- whether a frame with this tag has bytes of pages
abbrev pub has_pages : Tag → Bool
has_pages tag.Page = true
has_pages tag.Run = true
has_pages t = false

-- the fault of a stream whose body has this one: BadField for each but lack of memory
abbrev pub body_fault : StreamFault → StreamFault
body_fault faults.NoMemory = faults.NoMemory
body_fault fault = faults.BadField

-- bridges a header of the code to one of a text
abbrev pub header_of : code.Header → Header
header_of header = record { version = header.version; tag = header.tag; epoch = header.epoch; len = header.len }

-- this header is at the front, and its body is whole
pub record IsAtFront (fixed : Option Version) (bytes : List ℕ) (header : code.Header) : Type 0 where
  pub reads : header_at fixed bytes ≡ Ok (header_of header)
  pub whole : 12 + header.len ≤ length bytes

-- no Page and no Run is at the front
abbrev pub HasNoPages : (fixed : Option Version) → List ℕ → Type 0
HasNoPages fixed bytes = (header : Header) → header_at fixed bytes ≡ Ok header → has_pages header.tag ≡ false

-- what stands at the front, by its header once the body is whole: less than a frame, the frame that the body spells, or a fault
abbrev pub front_by : List ℕ → Result (Option code.Header) StreamFault → Front
front_by bytes (Err fault) = Front.Fault fault
front_by bytes (Ok None) = Front.Part
front_by bytes (Ok (Some header)) = body_next (header_of header) (body_at header.version header.tag (take header.len (drop 12 bytes)))
