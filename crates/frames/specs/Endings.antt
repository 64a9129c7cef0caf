-- The output for a stream of frames, and how reading ends.
use Rattle.std.specs.Prelude.{◌≡◌, ℕ, ◌<◌, List, [], ◌++◌, length, Option, Some, None, IfSome}
use Rattle.std.specs.Io.KnownBytes.{Appends}
use Rattle.mig_model.specs.Destination.{Destination}
use Rattle.mig_model.specs.Wire.{Sent}
use Rattle.frame_decoder.specs.declared.fault.StreamFault.{StreamFault}
use Rattle.frame_decoder.specs.declared.version.Version.{Version}
use Rattle.frame_decoder.specs.Streams.{Spells, Splits}
use Rattle.frames.specs.declared.fault.FramesFault.{FramesFault}
use Rattle.frames.specs.declared.fault.FramesFault.TheVariants as faults
use Rattle.frames.specs.Answers.{answer_lines, refusals, Adds}

-- the stream is frames, and after them `held`, the bytes of one that is not whole, or a fault; the answers to all frames were written
pub record IsAnswered (start : Destination) (stream held : List ℕ) (fault : Option StreamFault) (before after : Option (List ℕ)) : Type 0 where
  pub frames : List Sent
  pub version : Option Version
  pub splits : Splits None stream frames held fault version
  pub appends : Appends before after (answer_lines start frames)

-- the stream is frames and nothing more, and the answers to all were written. `refused` is how many of them were refused
pub record IsWhole (start : Destination) (stream : List ℕ) (refused : ℕ) (before after : Option (List ℕ)) : Type 0 where
  pub answered : IsAnswered start stream [] None before after
  pub counts : Adds 0 (refusals start answered.frames) refused

-- the stream begins with frames, and the lines of the answers to them were written but for `more`
pub record IsAnsweredInPart (start : Destination) (stream more : List ℕ) (before after : Option (List ℕ)) : Type 0 where
  pub front : List ℕ
  pub rest : List ℕ
  pub frames : List Sent
  pub version : Option Version
  pub written : List ℕ
  pub whole : stream ≡ front ++ rest
  pub spells : Spells None front frames version
  pub lines : answer_lines start frames ≡ written ++ more
  pub appends : Appends before after written

-- reading ends with a fault
abbrev pub FramesStop : Destination → (input : List ℕ) → (unread : Option (List ℕ)) → FramesFault → (before after : Option (List ℕ)) → Type 0
-- the fault follows the frames
FramesStop start input unread (faults.Stream fault) before after = IsAnswered start input [] (Some fault) before after
-- less than a frame follows the frames
FramesStop start input unread faults.Truncated before after = (held : List ℕ) × (0 < length held) × IsAnswered start input held None before after
-- all frames that were read were answered
FramesStop start input unread faults.ReadFault before after = (read : List ℕ) × (held : List ℕ) × (fault : Option StreamFault)
    × IfSome unread (λ bytes. input ≡ read ++ bytes) × IsAnswered start read held fault before after
-- a part of the lines was not written
FramesStop start input unread faults.WriteFault before after = (more : List ℕ) × (0 < length more) × IsAnsweredInPart start input more before after
-- each line was written in full
FramesStop start input unread faults.NoMemory before after = IsAnsweredInPart start input [] before after
