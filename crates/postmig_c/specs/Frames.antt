-- The effect of the calls on a decoder.
use Rattle.std.specs.Prelude.{◌≡◌, ℕ, List, ◌∷◌}
use Rattle.std.specs.declared.option.Option.{Option}
use Rattle.std.specs.declared.option.Option.TheVariants.{Some}
use Rattle.mig_model.specs.Wire.{Sent}
use Rattle.page_stream.specs.Texts.{text}
use Rattle.page_stream.specs.Texts.Version.{Two}
use Rattle.frame_decoder.specs.declared.fault.StreamFault.{StreamFault}
use Rattle.frame_decoder.specs.declared.fault.StreamFault.TheVariants as faults
use Rattle.postmig_c.specs.declared.numbers.FrameNumbers.{FrameNumbers}
use Rattle.postmig_c.specs.Numbers.{numbers_of}
use Rattle.postmig_c.specs.Queues.{Queue, Refills, IsFedUp, QueueStops}
use Rattle.postmig_c.specs.declared.handle.Content.{Content}
use Rattle.postmig_c.specs.declared.handle.Content.TheVariants.{Frames}
use Rattle.postmig_c.specs.Room.{Fills, IsTooLong}

-- the handle has no decoder
abbrev pub HasNoDecoder : Option Content → Type 0
HasNoDecoder (Some (Frames queue)) = ⊥
HasNoDecoder content = Unit {0}

-- the handle has a decoder, and this holds of it
abbrev pub TellsQueue : Option Content → (Queue → Type 0) → Type 0
TellsQueue (Some (Frames queue)) P = P queue
TellsQueue content P = ⊥

-- the handle had a decoder and has one, and this holds of the two
abbrev pub HasQueues : Option Content → Option Content → (Queue → Queue → Type 0) → Type 0
HasQueues old new P = TellsQueue old (λ before. TellsQueue new (P before))

-- the first frame that waited was taken: these are its numbers, and its text was written
pub record Takes (old : Queue) (numbers : FrameNumbers) (count : ℕ) (out : List ℕ) (new : Queue) : Type 0 where
  pub mid : Queue
  pub sent : Sent
  pub refills : Refills old mid
  pub waits : mid.waiting ≡ sent ∷ new.waiting
  pub decoder : new.decoder ≡ mid.decoder
  pub numbers_are : numbers ≡ numbers_of sent
  pub fills : Fills (text Two sent.epoch sent.frame) count out

-- the text of the first frame does not fit, and it waits
pub record Waits (old : Queue) (numbers : FrameNumbers) (count : ℕ) (out : List ℕ) (new : Queue) : Type 0 where
  pub sent : Sent
  pub rest : List Sent
  pub refills : Refills old new
  pub waits : new.waiting ≡ sent ∷ rest
  pub numbers_are : numbers ≡ numbers_of sent
  pub long : IsTooLong (text Two sent.epoch sent.frame) count out

-- no frame waits, and the stream has no fault there
abbrev pub IsUp : Queue → Queue → Type 0
IsUp old new = IsFedUp old new

-- the number of a fault
abbrev pub fault_number : StreamFault → ℕ
fault_number faults.NoMemory = 4
fault_number faults.BadTag = 8
fault_number faults.BadLength = 9
fault_number faults.BadField = 10

-- no frame waits, and the fault of this number stands there
abbrev pub IsFaulty : Queue → ℕ → Queue → Type 0
IsFaulty old number new = (fault : StreamFault) × (number ≡ fault_number fault) × QueueStops old fault new
