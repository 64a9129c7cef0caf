use Rattle.std.proofs.Common.{length, subst}
use Rattle.kernel_laws.specs.Logs.{HasRun, arrived, destination, first_calls, space_after}
use Rattle.kernel_laws.proofs.ExampleLog.{all-followed, its}
use Rattle.kernel_laws.proofs.FirstCalls.{has-log}
use Rattle.kernel_laws.proofs.a_destination_fetches_a_page.Goals as goal

pub returns-clause-log : goal.returns-clause-log
returns-clause-log c = its

pub returns-clause-run : goal.returns-clause-run
returns-clause-run c =
    let space = space_after (destination its.it.on its.it.from 0) (arrived its.it) its.steps in
    (space, subst (λ log. HasRun log space) its.is (has-log its.it its.steps (all-followed its.it.on its.it.from 0 (length (first_calls its.it)) (arrived its.it) its.steps its.no_map_calls)))
