use Rattle.frame_decoder.proofs.Cuts.{any_cut}
use Rattle.frame_decoder.proofs.laws.any_cut.Goals as goal

pub returns : goal.returns
returns c = any_cut
