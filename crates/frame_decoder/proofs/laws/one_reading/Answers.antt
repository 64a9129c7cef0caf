use Rattle.frame_decoder.specs.Streams.{Split}
use Rattle.frame_decoder.proofs.Unique.{one_split, same_held}
use Rattle.frame_decoder.proofs.laws.one_reading.Goals as goal

pub returns : goal.returns
returns c = λ fixed stream a b s t.
    let same = one_split fixed stream a.frames b.frames a.held.bytes b.held.bytes a.held.fault b.held.fault a.held.version b.held.version s t in
    λ i. record { frames = same.frames i; held = same_held a.held b.held a.frames b.frames same i }
