use Rattle.host_calls.proofs.StepLines.{lines_more}
use Rattle.host_calls.proofs.stepper.print_calls.Goals as goal

pub loop-call-preserved : goal.loop-call-preserved
loop-call-preserved c = lines_more c.args.node c.args.calls.now c.loop-call.call-index _ _ _ _ c.loop-call-test.true c.loop-call.invariant c.in_ok-print_call.ensures
