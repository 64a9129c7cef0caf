use Rattle.engine.proofs.Transcripts.{printed_transcript, flat_transcript}
use Rattle.engine.proofs.laws.transcript_of_a_run.Goals as goal

pub returns : goal.returns
returns c = record { text = printed_transcript; flat = flat_transcript }
