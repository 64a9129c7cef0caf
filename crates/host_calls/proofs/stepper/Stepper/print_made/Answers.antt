use Rattle.std.proofs.Common.{◌∙◌}
use Rattle.host_calls.proofs.StepLines.{printed_step}
use Rattle.host_calls.proofs.stepper.Stepper.print_made.Goals as goal

pub returns-clause-ok : goal.returns-clause-ok
returns-clause-ok c =
    printed_step c.args.step c.args.effect c.args.self.now.world c.node_of.result c.deref.result.now _ _ _ c.requires.clear c.in_ok-print_line.ensures.ok c.node_of.ensures (c.deref.ensures.value ∙ c.in_ok-list_calls.ensures) c.in_ok-print_calls.ensures
