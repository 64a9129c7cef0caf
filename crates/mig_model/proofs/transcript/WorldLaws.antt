-- What holds of a reached world and of its next step, which the headline has too.
use Rattle.mig_model.specs.Laws.{InstallsNothingOver, SettlesInstalls, SettlesRight, ZeroesMissing}
use Rattle.mig_model.specs.Migration.{World}
use Rattle.mig_model.specs.Promises.{IsReached}
use Rattle.mig_model.proofs.invariant.DestinationAct.{install_put_next}
use Rattle.mig_model.proofs.owed.SettledPromises.{settled_access, settled_call, settled_dropped, settled_else, settled_install}
use Rattle.mig_model.proofs.steps.EveryStep.{kept-reached}
use Rattle.mig_model.proofs.steps.StepPromises.{destination_zeroed, source_zeroed}
use Rattle.mig_model.proofs.transcript.WaitingAccesses.{are_accesses}

pub settles_installs : (world : World) → SettlesInstalls world
settles_installs world =
    record {
      install = λ addr source page answered. settled_install world addr source answered page;
      dropped = λ source page answered. settled_dropped world source page answered;
      access = λ cpu command page ran is. settled_access world cpu command ran is page;
    }

pub settles_right : (world : World) → IsReached world → SettlesRight world
settles_right world reached =
    let kept = kept-reached world reached in
    record {
      call = λ cpu command page ran is ok. settled_call world cpu command kept ran is page ok;
      installs = settles_installs world;
      others = λ step page ran leaves. settled_else world step kept (are_accesses world reached) ran leaves page;
    }

pub zeroes_missing : (world : World) → ZeroesMissing world
zeroes_missing world =
    record {
      source = λ addr h. source_zeroed world addr h;
      destination = λ addr h. destination_zeroed world addr h;
    }

pub installs_nothing_over : (world : World) → IsReached world → InstallsNothingOver world
installs_nothing_over world reached =
    record {
      copy = λ addr source h. install_put_next world addr source (kept-reached world reached) h;
      zeros = zeroes_missing world;
    }
