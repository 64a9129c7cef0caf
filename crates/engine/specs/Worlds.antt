-- What the runner of a script sees of a world. No other file of the crate's specs names what a world returns.
use Rattle.std.specs.Prelude.{◌≢◌, ℕ, Err}
use Rattle.mig_base.specs.declared.refusal.Refusal.TheVariants.{NoMemory}
use Rattle.mig_base.specs.declared.schedule.Step.{Step}
use Rattle.mig_model.specs.Migration.{World}
use Rattle.mig_model.specs.Runs.{Happens}
use Rattle.mig_model.specs.Views.{counts_of, owed_left, phase_of}
use Rattle.grammar.specs.Printed.{Outcome}
use Rattle.grammar.specs.declared.progress.Progress.{Progress}

-- the step was made, or refused for another reason than lack of memory
abbrev pub Answered : World → Step → Outcome → World → Type 0
Answered old step outcome new = (outcome ≢ Err NoMemory) × Happens old step outcome new

-- the epoch of a push that names none
abbrev pub epoch_in : World → ℕ
epoch_in state = state.source.epoch

-- how far the migration has come
abbrev pub progress_in : World → Progress
progress_in state =
    record {
      phase = phase_of state;
      rounds = (counts_of state).rounds;
      sent = (counts_of state).sent;
      left = owed_left state;
      installed = (counts_of state).installed;
      dropped = (counts_of state).dropped;
      faults = (counts_of state).faults;
    }
