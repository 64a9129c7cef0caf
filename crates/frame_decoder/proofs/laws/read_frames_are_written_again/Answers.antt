use Rattle.frame_decoder.proofs.Unique.{written_again}
use Rattle.frame_decoder.proofs.laws.read_frames_are_written_again.Goals as goal

pub returns-clause-encodable : goal.returns-clause-encodable
returns-clause-encodable c = written_again
