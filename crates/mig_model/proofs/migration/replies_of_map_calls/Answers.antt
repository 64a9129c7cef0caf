use Rattle.mig_model.proofs.transcript.CallReplies.{reply_entered, reply_handed_over, reply_kept}
use Rattle.mig_model.proofs.migration.replies_of_map_calls.Goals as goal

pub returns : goal.returns
returns c world step cpu reply reached =
    record {
      entered = λ h. reply_entered world cpu reply reached h;
      kept = λ h. reply_kept world step cpu reply reached h;
      handed_over = λ event is. reply_handed_over world step event cpu reply reached is;
    }
