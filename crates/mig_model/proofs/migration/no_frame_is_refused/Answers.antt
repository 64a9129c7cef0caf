use Rattle.mig_model.specs.Source.{space_of}
use Rattle.mig_model.proofs.delivery.FrameFaults.{full_by, is_full, no_back_fault, no_frame_fault, no_rebuild_fault, no_urgent_fault, present_below}
use Rattle.mig_model.proofs.delivery.FramesTaken.{back_epoch, is_taken, is_taken_back}
use Rattle.mig_model.proofs.invariant.UrgentKept.{is_taken_urgent}
use Rattle.mig_model.proofs.steps.EveryStep.{kept-reached, urgent-reached}
use Rattle.mig_model.proofs.transcript.WaitingAccesses.{as_many}
use Rattle.mig_model.proofs.migration.no_frame_is_refused.Goals as goal

pub returns : goal.returns
returns c world reached =
    let kept = kept-reached world reached in
    let urgent = urgent-reached world reached in
    let many = as_many world reached in
    record {
      forward = λ sent rest up first. no_frame_fault world.destination sent (is_taken world sent rest kept urgent many up first);
      taken = λ n sent rest up first full. full_by world n sent rest _ (is_full world n sent rest kept up first full (is_taken world sent rest kept urgent many up first));
      install_first = λ n sent rest up first full. full_by world n sent rest _ (is_full world n sent rest kept up first full (is_taken world sent rest kept urgent many up first));
      urgent_first = λ n sent rest up first full. full_by world n sent rest _ (is_full world n sent rest kept up first full (is_taken world sent rest kept urgent many up first));
      back = λ sent rest up first. no_back_fault world.source sent (is_taken_back world sent rest kept up first) (back_epoch world sent rest kept first);
      recv = λ epoch state owed rest up first. no_rebuild_fault world.source state owed (present_below (space_of world.source) kept.spaces.source_space) (is_taken_back world _ rest kept up first);
      urgent = λ sent rest ran up first. no_urgent_fault world.destination sent (is_taken_urgent world sent rest kept urgent ran up first);
    }
