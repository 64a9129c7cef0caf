-- Properties of the frames in flight, whose texts are the bytes on the wires.
use Rattle.std.specs.Prelude.{◌≡◌, ◌^◌, ◌<◌, List, [], ◌∷◌, length}
use Rattle.std.specs.List.{AllByRecursion}
use Rattle.mig_model.specs.Wire.{Sent}
use Rattle.mig_model.specs.Migration.{World}
use Rattle.mig_model.specs.Bounds.{IsFrame}
use Rattle.mig_model.specs.Lengths.{text_len}
use Rattle.page_stream.specs.Texts.{text}
use Rattle.page_stream.specs.Texts.Version.{Two}

-- the text of each frame has the length that the machine counts for it, `text_len` bytes
abbrev pub AreCounted : List Sent → Type 0
AreCounted frames = AllByRecursion (λ sent. length (text Two sent.epoch sent.frame) ≡ text_len sent.frame) frames

-- each frame on a wire is well formed (`IsFrame`), and its epoch fits 32 bits
abbrev pub AreFrames : List Sent → Type 0
AreFrames [] = Unit {0}
AreFrames (sent ∷ rest) = (sent.epoch < 2 ^ 32) × IsFrame sent.frame × AreFrames rest

-- the frames on each of the three wires are such frames
pub record HasGoodFrames (world : World) : Type 0 where
  pub forward : AreFrames world.forward.frames
  pub back : AreFrames world.back.frames
  pub urgent : AreFrames world.urgent.frames
