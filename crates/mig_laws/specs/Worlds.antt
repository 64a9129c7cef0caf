-- How a map of bytes acts on the nodes of a migration, on the frames between them, on worlds, steps and answers.
use Rattle.std.specs.Prelude.{◌≡◌, ℕ, ◌/◌, ◌&&◌, Bool, true, false, if◌then◌else◌, List, [], ◌∷◌, map, Some, None, Result, Ok, Err}
use Rattle.std.specs.Option.{option_map}
use Rattle.foundation.specs.declared.TheConstants.{PAGE_SIZE}
use Rattle.mig_base.specs.declared.effect.Effect.{Effect}
use Rattle.mig_base.specs.declared.refusal.Refusal.{Refusal}
use Rattle.mig_base.specs.declared.schedule.Step.{Step}
use Rattle.mig_model.specs.Bounds.{IsPageBytes, ArePageBytes}
use Rattle.mig_model.specs.Destination.{Destination}
use Rattle.mig_model.specs.Migration.{World, Answer, is_short}
use Rattle.mig_model.specs.NodeSteps.{first_of}
use Rattle.mig_model.specs.Source.{Source, bytes_of, space_of}
use Rattle.mig_model.specs.Wire.{Copy, Frame, Sent, Wire, is_zeros, page_frame}
use Rattle.mig_model.specs.Wire.Frame.{Page, Run, Package}
use Rattle.mig_laws.specs.Contents.{AreWholePages, command_under, entry_under, guest_under, pages_under, reply_under}

-- Frames

-- a copy of a page
abbrev pub copy_under : (ℕ → ℕ) → Copy → Copy
copy_under f copy = record copy { bytes = map f copy.bytes }

-- a frame: the bytes of its pages, and the values of the commands in a Package. A Page whose bytes all become 0 becomes a Zero
abbrev pub frame_under : (ℕ → ℕ) → Frame → Frame
frame_under f (Page page bytes) = page_frame page (map f bytes)
frame_under f (Run first pages) = Run first (map (map f) pages)
frame_under f (Package areas owed commands) = Package areas owed (map (option_map (command_under f)) commands)
frame_under f frame = frame

-- a frame on a wire
abbrev pub sent_under : (ℕ → ℕ) → Sent → Sent
sent_under f sent = record sent { frame = frame_under f sent.frame }

-- a wire: as many bytes of its first frame have come as before
abbrev pub wire_under : (ℕ → ℕ) → Wire → Wire
wire_under f wire = record wire { frames = map (sent_under f) wire.frames }

-- Nodes and worlds

-- a source
abbrev pub source_under : (ℕ → ℕ) → Source → Source
source_under f node = record node { guest = guest_under f node.guest }

-- a destination: its memory, the copies that it keeps, and those that have arrived
abbrev pub destination_under : (ℕ → ℕ) → Destination → Destination
destination_under f node =
    record node { kept = pages_under f node.kept; guest = guest_under f node.guest; arrivals = map (copy_under f) node.arrivals }

-- a world
abbrev pub world_under : (ℕ → ℕ) → World → World
world_under f world =
    record world {
      source = source_under f world.source;
      destination = destination_under f world.destination;
      forward = wire_under f world.forward;
      back = wire_under f world.back;
      urgent = wire_under f world.urgent;
      transcript = map (entry_under f) world.transcript;
    }

-- Steps and answers

-- a step: the value of a store that is issued
abbrev pub step_under : (ℕ → ℕ) → Step → Step
step_under f (Step.Issue cpu command) = Step.Issue cpu (command_under f command)
step_under f step = step

-- an effect: the value of a load, and the word page or zero, which the changed bytes of the page decide. `bytes` are those of the page
-- at an address
abbrev pub effect_under : (ℕ → ℕ) → (bytes : ℕ → List ℕ) → Effect → Effect
effect_under f bytes (Effect.Answered cpu reply) = Effect.Answered cpu (reply_under f reply)
effect_under f bytes (Effect.ReadLast event cpu reply) = Effect.ReadLast event cpu (reply_under f reply)
effect_under f bytes (Effect.SentPage addr) = if is_zeros (map f (bytes addr)) then Effect.SentZero addr else Effect.SentPage addr
effect_under f bytes (Effect.TookPage addr) = if is_zeros (map f (bytes addr)) then Effect.TookZero addr else Effect.TookPage addr
effect_under f bytes effect = effect

-- the bytes of a Page, and none of any other frame
abbrev pub bytes_in : Frame → List ℕ
bytes_in (Page page bytes) = bytes
bytes_in frame = []

-- the bytes of the first frame in flight, if it is a Page
abbrev pub first_bytes : List Sent → List ℕ
first_bytes [] = []
first_bytes (sent ∷ rest) = bytes_in sent.frame

-- the bytes of the page at an address that a step moves: a delivery takes those of its first frame, any other step sends the source's
abbrev pub moved_bytes : World → Step → ℕ → List ℕ
moved_bytes world (Step.Deliver n) = λ addr. first_bytes world.forward.frames
moved_bytes world (Step.DeliverBack n) = λ addr. first_bytes world.back.frames
moved_bytes world (Step.DeliverUrgent n) = λ addr. first_bytes world.urgent.frames
moved_bytes world step = λ addr. bytes_of world.source (addr / PAGE_SIZE)

-- what a step of a world answers, without the world after it
abbrev pub outcome_under : (ℕ → ℕ) → World → Step → Result Effect Refusal → Result Effect Refusal
outcome_under f world step (Ok effect) = Ok (effect_under f (moved_bytes world step) effect)
outcome_under f world step (Err refusal) = Err refusal

-- what a step of a world answers
abbrev pub answer_under : (ℕ → ℕ) → World → Step → Answer → Answer
answer_under f world step (Ok made) = Ok (record { effect = effect_under f (moved_bytes world step) made.effect; world = world_under f made.world })
answer_under f world step (Err refusal) = Err refusal

-- Deliveries

-- whether a frame is a Page
abbrev pub is_page : Frame → Bool
is_page (Page page bytes) = true
is_page frame = false

-- whether a delivery of `n` bytes ends inside a Page
abbrev pub ends_inside : Wire → ℕ → Bool
ends_inside wire n = elim (first_of wire.frames) [ None ↦ false | Some sent ↦ is_page sent.frame && is_short wire sent.frame n ]

-- whether a step is a delivery that ends inside a Page
abbrev pub is_partial : World → Step → Bool
is_partial world (Step.Deliver n) = ends_inside world.forward n
is_partial world (Step.DeliverBack n) = ends_inside world.back n
is_partial world (Step.DeliverUrgent n) = ends_inside world.urgent n
is_partial world step = false

-- What every world keeps

-- the contents of a frame are whole pages, and a Page is not all zeros
abbrev pub IsWholeFrame : Frame → Type 0
IsWholeFrame (Page page bytes) = IsPageBytes bytes × (is_zeros bytes ≡ false)
IsWholeFrame (Run first pages) = ArePageBytes pages
IsWholeFrame frame = Unit {0}

-- each frame in flight is such a frame
abbrev pub AreWholeFrames : List Sent → Type 0
AreWholeFrames [] = Unit {0}
AreWholeFrames (sent ∷ rest) = IsWholeFrame sent.frame × AreWholeFrames rest

-- each copy is a whole page
abbrev pub AreWholeCopies : List Copy → Type 0
AreWholeCopies [] = Unit {0}
AreWholeCopies (copy ∷ copies) = IsPageBytes copy.bytes × AreWholeCopies copies

-- all contents of a world are whole pages: those of both nodes, the copies that are kept or have arrived, and the frames in flight
pub record HasWholePages (world : World) : Type 0 where
  pub source : AreWholePages (space_of world.source).host.bytes
  pub destination : AreWholePages world.destination.guest.space.host.bytes
  pub kept : AreWholePages world.destination.kept
  pub arrivals : AreWholeCopies world.destination.arrivals
  pub forward : AreWholeFrames world.forward.frames
  pub back : AreWholeFrames world.back.frames
  pub urgent : AreWholeFrames world.urgent.frames
