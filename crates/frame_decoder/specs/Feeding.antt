-- The effect of one piece on a decoder, and of pieces one after the other.
use Rattle.std.specs.Prelude.{◌≡◌, ℕ, ◌⊎◌, List, [], ◌∷◌, ◌++◌, Option, Some, None, Result, Ok, Err}
use Rattle.std.specs.Global.{Vec}
use Rattle.std.specs.List.{AllByRecursion}
use Rattle.mig_model.specs.Wire.{Sent}
use Rattle.page_stream.specs.declared.frame.Frame.{Frame}
use Rattle.frame_decoder.specs.declared.fault.StreamFault.{StreamFault}
use Rattle.frame_decoder.specs.declared.fault.StreamFault.TheVariants as faults
use Rattle.frame_decoder.specs.Streams.{sents, Held, Splits}

-- a new decoder: it holds no bytes and no fault, and no version is fixed
abbrev pub fresh : Held
fresh = record { bytes = []; fault = None; version = None }

-- what `feed` returns, with the frames as those of the machine
abbrev pub FeedAnswer : Type 0
FeedAnswer = Result (List Sent) StreamFault

-- bridges what `feed` returns in the code to `FeedAnswer`
abbrev pub feed_answer_of : Result (Vec (ℕ × Frame)) StreamFault → FeedAnswer
feed_answer_of (Ok frames) = Ok (sents frames.items)
feed_answer_of (Err fault) = Err fault

-- One piece

-- a call returns the frames if there are any, and otherwise the fault; without a fault it returns an empty list
abbrev pub answered : List Sent → Option StreamFault → FeedAnswer → Type 0
answered frames fault (Ok others) = (others ≡ frames) × (frames ≡ [] → fault ≡ None)
answered frames fault (Err other) = (frames ≡ []) × (fault ≡ Some other)

-- a fault is returned: the one that is held, and then nothing changes, or one that stands before any frame is whole, and then it is held
abbrev pub FedFault : Held → List ℕ → StreamFault → Held → Type 0
FedFault old piece fault new = ((old.fault ≡ Some fault) × (new ≡ old))
    ⊎ ((old.fault ≡ None) × (new.fault ≡ Some fault) × Splits old.version (old.bytes ++ piece) [] new.bytes new.fault new.version)

-- what `feed` returns and how it changes a decoder: the held bytes and the piece after them split into whole frames, which are returned,
-- and a rest or a fault, which is held. `NoMemory` changes nothing
abbrev pub Fed : Held → List ℕ → FeedAnswer → Held → Type 0
Fed old piece (Ok frames) new = (old.fault ≡ None) × Splits old.version (old.bytes ++ piece) frames new.bytes new.fault new.version × (frames ≡ [] → new.fault ≡ None)
Fed old piece (Err faults.NoMemory) new = (old.fault ≡ None) × (new ≡ old)
Fed old piece (Err faults.BadTag) new = FedFault old piece faults.BadTag new
Fed old piece (Err faults.BadLength) new = FedFault old piece faults.BadLength new
Fed old piece (Err faults.BadField) new = FedFault old piece faults.BadField new

-- Pieces one after the other

-- one call of `feed`: its piece and what it returned
pub record Feed : Type 0 where
  pub piece : List ℕ
  pub answer : FeedAnswer

-- a decoder, fed the pieces in turn, returned these answers and ended as `new`
abbrev pub IsFeedRun : Held → List Feed → Held → Type 0
IsFeedRun old [] new = new ≡ old
IsFeedRun old (feed ∷ feeds) new = (middle : Held) × Fed old feed.piece feed.answer middle × IsFeedRun middle feeds new

-- the bytes of a piece that were taken: all of them, or none if memory ran out
abbrev pub taken_of : Feed → List ℕ
taken_of feed = elim feed.answer [ Ok frames ↦ feed.piece | Err faults.NoMemory ↦ [] | Err other ↦ feed.piece ]

-- the frames that a call returned; a fault comes with none
abbrev pub frames_of : Feed → List Sent
frames_of feed = elim feed.answer [ Ok frames ↦ frames | Err other ↦ [] ]

-- the stream that was fed: the bytes that were taken of the pieces, in order
abbrev pub bytes_fed : List Feed → List ℕ
bytes_fed [] = []
bytes_fed (feed ∷ feeds) = taken_of feed ++ bytes_fed feeds

-- the frames that the calls returned, in order
abbrev pub all_frames : List Feed → List Sent
all_frames [] = []
all_frames (feed ∷ feeds) = frames_of feed ++ all_frames feeds

-- A whole stream, and what all calls return

-- the call returned no fault of the stream; it may have run out of memory
abbrev pub IsFaultless : Feed → Type 0
IsFaultless feed = (fault : StreamFault) → feed.answer ≡ Err fault → fault ≡ faults.NoMemory

-- the calls returned these frames, in order, and no fault; afterwards the decoder holds these bytes and no fault
pub record IsDecoded (feeds : List Feed) (new : Held) (frames : List Sent) (bytes : List ℕ) : Type 0 where
  pub answered : all_frames feeds ≡ frames
  pub faultless : AllByRecursion IsFaultless feeds
  pub held : new.bytes ≡ bytes
  pub fault : new.fault ≡ None

-- a new decoder that is fed the stream, cut anywhere, returns these frames, and then holds these bytes
abbrev pub Decodes : (stream : List ℕ) (frames : List Sent) (bytes : List ℕ) → Type 0
Decodes stream frames bytes = (feeds : List Feed) (new : Held) → IsFeedRun fresh feeds new → bytes_fed feeds ≡ stream → IsDecoded feeds new frames bytes
