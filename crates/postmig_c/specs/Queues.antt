-- The frames that wait to be handed out, and the effect of the calls on them.
use Rattle.std.specs.Prelude.{◌≡◌, ◌≢◌, ℕ, ◌<◌, ◌⊎◌, List, [], ◌∷◌, length, drop, Ok, Err, refl}
use Rattle.std.specs.Coded.{Coded, code_by, coded×, coded_ℕ, coded_list}
use Rattle.std.specs.List.{AllByRecursion}
use Rattle.mig_model.specs.Bounds.{IsFrame}
use Rattle.mig_model.specs.Wire.{Sent}
use Rattle.wires.specs.Codes.{coded_sent}
use Rattle.page_stream.specs.Texts.{text}
use Rattle.page_stream.specs.Texts.Version.{Two}
use Rattle.frame_decoder.specs.contracts.decoder.Decoder as decoder
use Rattle.frame_decoder.specs.declared.fault.StreamFault.{StreamFault}
use Rattle.frame_decoder.specs.declared.fault.StreamFault.TheVariants as faults
use Rattle.frame_decoder.specs.Feeding.{FeedAnswer, Fed, fresh}
use Rattle.frame_decoder.specs.Streams.{Held}
use Rattle.postmig_c.specs.declared.numbers.FrameNumbers.{FrameNumbers}
use Rattle.postmig_c.specs.Numbers.{numbers_of}

-- a decoder, the frames that it returned and that wait, and the text of the frame that was shown last
pub record Queue : Type 0 where
  pub decoder : Held
  pub waiting : List Sent
  pub text : List ℕ

-- the code of these
abbrev pub coded_queue : Coded Queue
coded_queue =
    code_by (Held × (List Sent × List ℕ)) (coded× decoder.the_row.coded (coded× (coded_list coded_sent) (coded_list coded_ℕ)))
    (λ q. (q.decoder, (q.waiting, q.text))) (λ p. record { decoder = p.0; waiting = p.1.0; text = p.1.1 }) (λ _. refl)

-- nothing has come
abbrev pub empty_queue : Queue
empty_queue = record { decoder = fresh; waiting = []; text = [] }

-- each frame is well formed
abbrev pub AreWellFormed : List Sent → Type 0
AreWellFormed frames = AllByRecursion (λ sent. IsFrame sent.frame) frames

-- the frames of an answer; a fault comes with none
abbrev pub frames_answered : FeedAnswer → List Sent
frames_answered (Ok frames) = frames
frames_answered (Err fault) = []

-- no frame waited, and the decoder was fed the piece, with this answer; its frames wait now
pub record Decodes (old : Queue) (piece : List ℕ) (answer : FeedAnswer) (new : Queue) : Type 0 where
  pub none : old.waiting ≡ []
  pub fed : Fed old.decoder piece answer new.decoder
  pub waiting : new.waiting ≡ frames_answered answer

-- the piece was taken; if it completes no frame, a fault may stand there now
abbrev pub Feeds : Queue → List ℕ → Queue → Type 0
Feeds old piece new = (answer : FeedAnswer) × (answer ≢ Err faults.NoMemory) × Decodes old piece answer new

-- the same frames wait; if there are none, the decoder was fed nothing
abbrev pub Refills : Queue → Queue → Type 0
Refills old new = ((0 < length old.waiting) × (new.decoder ≡ old.decoder) × (new.waiting ≡ old.waiting)) ⊎ Decodes old [] (Ok new.waiting) new

-- the numbers and the text are those of the first frame that waits
pub record Shows (old : Queue) (numbers : FrameNumbers) (new : Queue) : Type 0 where
  pub sent : Sent
  pub rest : List Sent
  pub refills : Refills old new
  pub waits : new.waiting ≡ sent ∷ rest
  pub numbers_are : numbers ≡ numbers_of sent
  pub text_is : new.text ≡ text Two sent.epoch sent.frame

-- no frame waits, and no fault stands there
abbrev pub IsFedUp : Queue → Queue → Type 0
IsFedUp old new = Decodes old [] (Ok []) new

-- no frame waits, and this fault stands there; or memory ran out, and the same frames wait
abbrev pub QueueStops : Queue → StreamFault → Queue → Type 0
QueueStops old faults.NoMemory new = Refills old new ⊎ Decodes old [] (Err faults.NoMemory) new
QueueStops old faults.BadTag new = Decodes old [] (Err faults.BadTag) new
QueueStops old faults.BadLength new = Decodes old [] (Err faults.BadLength) new
QueueStops old faults.BadField new = Decodes old [] (Err faults.BadField) new

-- the first frame that waited is gone, and nothing else changed
pub record DropsFirst (old new : Queue) : Type 0 where
  pub decoder : new.decoder ≡ old.decoder
  pub text : new.text ≡ old.text
  pub waiting : new.waiting ≡ drop 1 old.waiting
