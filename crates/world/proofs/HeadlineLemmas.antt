-- What is promised of every world, law by law.
use Rattle.std.proofs.Common.{List}
use Rattle.mig_base.specs.declared.schedule.Step.{Step}
use Rattle.mig_model.specs.Migration.{World, after_steps}
use Rattle.mig_model.specs.Promises.{IsComplete, IsReached}
use Rattle.mig_model.proofs.steps.EveryStep.{complete-after_steps, kept-after_steps, kept-reached, urgent-reached}
use Rattle.mig_model.proofs.transcript.PromiseLemmas.{are_paired, are_under_way, is_alone, is_precopying, is_receiving, is_switching}
use Rattle.mig_model.proofs.completion.ViewPromises.{phase_complete}
use Rattle.mig_model.proofs.transcript.WorldLaws.{installs_nothing_over, settles_right}
use Rattle.world.specs.Headline.{Headline, IsMoved}
use Rattle.world.specs.Worlds.{IsWorld}
use Rattle.world.proofs.CoreLemmas.{core_reached}

moved : (world : World) → IsReached world → IsComplete world → IsMoved world
moved world reached done =
    let kept = kept-reached world reached in
    let urgent = urgent-reached world reached in
    record {
      alone = is_alone world kept done;
      stays = λ (steps : List Step).
          let still = complete-after_steps world steps kept urgent done in
          (still, is_alone (after_steps world steps) (kept-after_steps world steps kept urgent) still);
    }

pub headline_reached : (world : World) → IsReached world → Headline world
headline_reached world reached =
    let kept = kept-reached world reached in
    record {
      reached = reached;
      core = core_reached world reached;
      installs = installs_nothing_over world reached;
      complete = λ h. moved world reached ((phase_complete world).0 h);
      current = kept.memory.holds;
      settles = settles_right world reached;
      under_way = λ ran. are_under_way world kept (urgent-reached world reached) ran;
      urgent = (urgent-reached world reached).faithful;
      packaged = λ up stopped ran. is_switching world kept up stopped ran;
      received = λ up paused runs. is_receiving world kept up paused runs;
      clean = λ up precopy. is_precopying world kept up precopy;
      pairs = are_paired world kept;
    }

pub headline_of : (world : World) → IsWorld world → Headline world
headline_of world is = headline_reached world is.reached
