use Rattle.mig_model.proofs.transcript.Calls.{are_sound_calls}
use Rattle.mig_model.proofs.migration.calls_have_unread_events.Goals as goal

pub returns : goal.returns
returns c world reached = are_sound_calls world reached
