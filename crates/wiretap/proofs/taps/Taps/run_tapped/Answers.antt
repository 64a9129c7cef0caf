use Rattle.std.proofs.Common.{ap, ◌∙◌}
use Rattle.engine.specs.Engine.{Place}
use Rattle.mig_model.specs.Migration.{first_world}
use Rattle.wiretap.proofs.Whole.{run_written, run_tapped}
use Rattle.wiretap.proofs.taps.Taps.run_tapped.Goals as goal

pub read_lines-requires-clause-runs : goal.read_lines-requires-clause-runs
read_lines-requires-clause-runs g c = record { mode = c.args.setup.mode; state = first_world c.args.setup.cpus; is = ap (λ (p : Place). p.work) c.new-script.ensures ∙ c.in_ok-runner.ensures.ok.0 }

pub returns-clause-output : goal.returns-clause-output
returns-clause-output g c =
    run_written c.read_lines.result g.T.Write.contents c.new-script.result.work c.args.setup.mode c.args.setup.cpus _ _ _ _ _ _ (ap (λ (p : Place). p.work) c.new-script.ensures ∙ c.in_ok-runner.ensures.ok.0) c.read_lines.ensures

pub returns-clause-wires : goal.returns-clause-wires
returns-clause-wires g c =
    run_tapped c.read_lines.result g.T.Write.contents c.new-script.result.work c.args.setup.mode c.args.setup.cpus _ _ _ _ _ _ (ap (λ (p : Place). p.work) c.new-script.ensures ∙ c.in_ok-runner.ensures.ok.0) c.read_lines.ensures
