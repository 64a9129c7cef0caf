-- A wire of the code: the machine's wire, its bytes, and the room for more frames.
use Rattle.std.specs.Prelude.{◌≡◌, ℕ, ◌⊎◌, true, false, List, [], ◌∷◌, Option, Some, None, Result, Ok, Err}
use Rattle.std.specs.List.{concat}
use Rattle.foundation.specs.declared.NoMemory.{NoMemory}
use Rattle.mig_model.specs.Lengths.{text_len}
use Rattle.mig_model.specs.Migration.{is_short}
use Rattle.mig_model.specs.Wire as machine
use Rattle.page_stream.specs.Frames.{frame_of}
use Rattle.wires.specs.declared.sent.Sent.{Sent}

-- bridges a frame of the code with its epoch to the machine's
abbrev pub sent_of : Sent → machine.Sent
sent_of sent = record { epoch = sent.epoch; frame = frame_of sent.frame }

-- a wire as callers see it
pub record Lane : Type 0 where
  -- the frames in flight, and the number of bytes of the first that have come
  pub wire : machine.Wire
  -- the bytes in flight, in the pieces in which they are lent
  pub pieces : List (List ℕ)
  -- the number of frames for which there is room, however long they are
  pub room : ℕ

-- the bytes in flight
abbrev pub lane_bytes : Lane → List ℕ
lane_bytes lane = concat lane.pieces

-- the length of the first frame's text is known, or it is 0; and it is 0 if no frame is in flight
abbrev pub IsFirstLen : List machine.Sent → ℕ → Type 0
IsFirstLen [] len = len ≡ 0
IsFirstLen (sent ∷ rest) len = (len ≡ 0) ⊎ (len ≡ text_len sent.frame)

-- `n` more bytes come and do not complete the first frame: they are counted
pub record IsMoved (old : machine.Wire) (n : ℕ) (new : machine.Wire) : Type 0 where
  pub sent : machine.Sent
  pub rest : List machine.Sent
  pub first : old.frames ≡ sent ∷ rest
  pub short : is_short old sent.frame n ≡ true
  pub moved : new ≡ machine.wire_moved old n

-- `n` more bytes complete the first frame, and it is `sent`
pub record IsWhole (old : machine.Wire) (n : ℕ) (sent : Sent) : Type 0 where
  pub rest : List machine.Sent
  pub first : old.frames ≡ sent_of sent ∷ rest
  pub whole : is_short old (frame_of sent.frame) n ≡ false

-- `n` more bytes complete the first frame
pub record Completes (old : machine.Wire) (n : ℕ) : Type 0 where
  pub sent : machine.Sent
  pub rest : List machine.Sent
  pub first : old.frames ≡ sent ∷ rest
  pub whole : is_short old sent.frame n ≡ false

-- `n` more bytes of the first frame come: they are counted, or they complete it and the wire stays as it was, or memory runs out for the
-- frame that they complete; if nothing is in flight, nothing happens
abbrev pub Arrives : machine.Wire → ℕ → Result (Option Sent) NoMemory → machine.Wire → Type 0
Arrives old n (Ok None) new = ((old.frames ≡ []) × (new ≡ old)) ⊎ IsMoved old n new
Arrives old n (Ok (Some sent)) new = IsWhole old n sent × (new ≡ old)
Arrives old n (Err error) new = Completes old n × (new ≡ old)
