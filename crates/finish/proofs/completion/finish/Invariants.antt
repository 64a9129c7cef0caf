use Rattle.world.specs.Headline.{Headline}
use Rattle.std.specs.Prelude.{◌≤◌}
use Rattle.mig_base.specs.declared.TheConstants.{HIGH_PAGE}
use Rattle.finish.specs.Finishing.{HasPushed, steps_left}
use Rattle.finish.proofs.LeadLemmas.{HasCome}
use Rattle.finish.proofs.completion.finish.Given as goal

abbrev pub invariant-loop-step : goal.invariant-loop-step
invariant-loop-step l = record {
  come : HasCome l.fn.world l.steps.items l.world;
  headline : Headline l.world;
  range : l.from ≤ HIGH_PAGE;
  pushed : HasPushed l.world l.from;
}

abbrev pub decreases-loop-step : goal.decreases-loop-step
decreases-loop-step l = steps_left l.world
