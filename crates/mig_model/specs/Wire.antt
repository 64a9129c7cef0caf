-- The frames that the two nodes of a migration send each other, after the messages of QEMU's postcopy document
-- (docs/devel/migration/postcopy.rst), the copies of pages that they carry, and the wires that carry them.
use Rattle.std.specs.Prelude.{ℕ, ◌+◌, ◌==◌, not, Bool, true, false, Option, if◌then◌else◌, List, [], ◌∷◌, ◌++◌}
use Rattle.std.specs.List.{list_all}
use Rattle.std.specs.Ordering.{nat_cmp}
use Rattle.std.specs.FinMap.{FinMap, insert, retain_keys}
use Rattle.std.specs.FinSet.{FinSet, contains}
use Rattle.mig_base.specs.declared.phase.Received.{Received}
use Rattle.mig_base.specs.declared.Prot.{Prot}
use Rattle.mig_base.specs.declared.command.Command.{Command}
use Rattle.mig_base.specs.Bytes.{zero_page}

-- a message of one node to the other
pub data Frame : Type 0 where
  -- a migration begins: MIG_CMD_POSTCOPY_ADVISE
  Advise : Frame
  -- the bytes of a page
  Page : (page : ℕ) → (bytes : List ℕ) → Frame
  -- a page of zeros
  Zero : (page : ℕ) → Frame
  -- the bytes of neighbouring pages, from the first on
  Run : (first : ℕ) → (pages : List (List ℕ)) → Frame
  -- pages whose copies are out of date: MIG_CMD_POSTCOPY_RAM_DISCARD
  Discard : (pages : FinSet nat_cmp) → Frame
  -- the mapped pages, which of the present ones are still to come, and each processor's outstanding command: the destination runs.
  -- MIG_CMD_PACKAGED with POSTCOPY_LISTEN and POSTCOPY_RUN in it
  Package : (areas : FinMap nat_cmp Prot) → (owed : FinSet nat_cmp) → (commands : List (Option Command)) → Frame
  -- nothing more is sent, and how many frames were put on the urgent wire in this epoch
  End : (urgent : ℕ) → Frame
  -- the channel is up again: MIG_CMD_POSTCOPY_RESUME
  Resume : Frame
  -- back to the source: a page is requested, MIG_RP_MSG_REQ_PAGES
  Request : (page : ℕ) → Frame
  -- back to the source, once the channel is up again: how far the destination has come, and the source pages that it still needs,
  -- MIG_RP_MSG_RECV_BITMAP
  Recv : (state : Received) → (owed : FinSet nat_cmp) → Frame
  -- back to the source: nothing more is needed, MIG_RP_MSG_SHUT
  Done : Frame

-- a frame on a wire, with the epoch in which it was sent
pub record Sent : Type 0 where
  pub epoch : ℕ
  pub frame : Frame

-- whether the bytes of a page are all zeros, so that they are not sent one by one
abbrev pub is_zeros : List ℕ → Bool
is_zeros bytes = list_all (λ byte. byte == 0) bytes

-- the frame that carries a page: Zero if its bytes are all zeros, else Page
abbrev pub page_frame : ℕ → List ℕ → Frame
page_frame page bytes = if is_zeros bytes then Zero page else Page page bytes

-- a copy of a page of the source, which goes by its number there
pub record Copy : Type 0 where
  pub page : ℕ
  pub bytes : List ℕ

-- the copies of neighbouring pages, from the first on
abbrev pub run_copies : ℕ → List (List ℕ) → List Copy
run_copies first [] = []
run_copies first (bytes ∷ pages) = record { page = first; bytes = bytes } ∷ run_copies (1 + first) pages

-- the copies that a frame carries
abbrev pub copies_in : Frame → List Copy
copies_in (Page page bytes) = record { page = page; bytes = bytes } ∷ []
copies_in (Zero page) = record { page = page; bytes = zero_page } ∷ []
copies_in (Run first pages) = run_copies first pages
copies_in _ = []

-- whether a frame carries the copy of one page: Page or Zero, but not Run
abbrev pub is_copy : Frame → Bool
is_copy (Page page bytes) = true
is_copy (Zero page) = true
is_copy _ = false

-- the copies that a destination keeps once more have come: the newest of a page replaces an older one
abbrev pub kept_with : FinMap nat_cmp (List ℕ) → List Copy → FinMap nat_cmp (List ℕ)
kept_with kept [] = kept
kept_with kept (copy ∷ copies) = kept_with (insert kept copy.page copy.bytes) copies

-- the copies that it keeps once it has taken a frame: those of the frame are added, and those of a Discard dropped
abbrev pub kept_after : FinMap nat_cmp (List ℕ) → Frame → FinMap nat_cmp (List ℕ)
kept_after kept (Page page bytes) = insert kept page bytes
kept_after kept (Zero page) = insert kept page zero_page
kept_after kept (Run first pages) = kept_with kept (run_copies first pages)
kept_after kept (Discard pages) = retain_keys kept (λ page. not (contains pages page))
kept_after kept _ = kept

-- a wire: the frames in flight, in order, and how many bytes of the first have reached its end
pub record Wire : Type 0 where
  pub frames : List Sent
  pub held : ℕ

-- a wire on which nothing is in flight
abbrev pub empty_wire : Wire
empty_wire = record { frames = []; held = 0 }

-- the frames in flight once a node has sent more in its epoch
abbrev pub sending : List Sent → ℕ → List Frame → List Sent
sending wire epoch [] = wire
sending wire epoch (frame ∷ frames) = sending (wire ++ record { epoch = epoch; frame = frame } ∷ []) epoch frames

-- the same, unless the link is down
abbrev pub sending_if : (up : Bool) → List Sent → ℕ → List Frame → List Sent
sending_if true wire epoch frames = sending wire epoch frames
sending_if false wire epoch frames = wire

-- the wire once a node has sent more in its epoch
abbrev pub wire_with : Wire → ℕ → List Frame → Wire
wire_with wire epoch frames = record wire { frames = sending wire.frames epoch frames }

-- the same, unless the link is down
abbrev pub wire_if : (up : Bool) → Wire → ℕ → List Frame → Wire
wire_if up wire epoch frames = record wire { frames = sending_if up wire.frames epoch frames }

-- the wire once its first frame is taken, of which all bytes had come: none of the next has
abbrev pub wire_behind : List Sent → Wire
wire_behind rest = record { frames = rest; held = 0 }

-- the wire once `n` more bytes of its first frame have reached its end
abbrev pub wire_moved : Wire → ℕ → Wire
wire_moved wire n = record wire { held = wire.held + n }
