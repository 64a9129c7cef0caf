use Rattle.nodes.proofs.RunsAgain.{run-again}
use Rattle.nodes.proofs.laws.a_run_may_be_taken_again.Goals as goal

pub returns : goal.returns
returns c old epoch first few count off le = run-again old epoch first few count off le
