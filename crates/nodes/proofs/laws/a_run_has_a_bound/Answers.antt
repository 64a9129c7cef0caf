use Rattle.std.proofs.Common.{ℕ, ap}
use Rattle.mig_base.specs.Sets.{run_length}
use Rattle.mig_model.specs.NodeSteps.{and_then}
use Rattle.mig_model.specs.SourceSteps.{next_to_send, send_pages}
use Rattle.nodes.specs.SourceCalls.{hands_out}
use Rattle.nodes.proofs.Bounds.{bound_again, bound_few, bound_some}
use Rattle.nodes.proofs.laws.a_run_has_a_bound.Goals as goal

pub returns-clause-some : goal.returns-clause-some
returns-clause-some c = bound_some

pub returns-clause-few : goal.returns-clause-few
returns-clause-few c = bound_few

pub returns-clause-same : goal.returns-clause-same
returns-clause-same c most old =
    ap (λ (bound : ℕ). hands_out old (and_then (next_to_send old.node) (λ first. send_pages old.node first (run_length old.node.log.todo first bound)))) (bound_again most)
