use Rattle.frame_decoder.specs.Feeding.{all_frames}
use Rattle.frame_decoder.proofs.Unique.{same_cuts, same_held}
use Rattle.frame_decoder.proofs.laws.cuts_agree.Goals as goal

pub returns-clause-frames : goal.returns-clause-frames
returns-clause-frames c = λ feeds others new last run other same. (same_cuts feeds others new last run other same).frames

pub returns-clause-held : goal.returns-clause-held
returns-clause-held c = λ feeds others new last run other same. same_held new last (all_frames feeds) (all_frames others) (same_cuts feeds others new last run other same)
