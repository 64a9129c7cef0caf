use Rattle.host_calls.proofs.Lines.{run_written}
use Rattle.host_calls.proofs.run.run_steps.Goals as goal

pub returns : goal.returns
returns g c = run_written c.read_lines.result c.args.cpus c.in_ok-stepper.stepper c.read_lines.new.sink _ _ _ c.in_ok-stepper.ensures.ok c.read_lines.ensures.ok
