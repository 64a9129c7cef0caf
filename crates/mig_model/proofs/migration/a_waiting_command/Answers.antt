use Rattle.mig_model.proofs.steps.EveryStep.{kept-reached}
use Rattle.mig_model.proofs.steps.StepPromises.{entered_issue, entered_retry}
use Rattle.mig_model.proofs.transcript.WaitingCommands.{issued_at, retried_at, waiting_command, waits_arise}
use Rattle.mig_model.proofs.migration.a_waiting_command.Goals as goal

pub returns-clause-waits : goal.returns-clause-waits
returns-clause-waits c world step cpu command reached =
    let kept = kept-reached world reached in
    record {
      arises = λ h. waits_arise world step cpu command kept h;
      kept = λ other waits. waiting_command world step cpu command kept other waits;
    }

pub returns-clause-issue : goal.returns-clause-issue
returns-clause-issue c world cpu command ok =
    record {
      processor = issued_at world cpu command ok;
      entered = entered_issue world cpu command ok;
    }

pub returns-clause-retry : goal.returns-clause-retry
returns-clause-retry c world cpu command ok waits =
    record {
      processor = retried_at world cpu command ok waits;
      entered = entered_retry world cpu command ok waits;
    }
