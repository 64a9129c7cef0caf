use Rattle.std.proofs.Common.{ap, ◌∙◌}
use Rattle.std.proofs.lemmas.Result.{err_from_is_err_and}
use Rattle.engine.specs.Engine.{Place}
use Rattle.engine.proofs.Outcomes.{run_no_start, run_finished, run_stopped}
use Rattle.engine.proofs.run.run_script.Goals as goal

pub returns-in_err-runner-clause-fault : goal.returns-in_err-runner-clause-fault
returns-in_err-runner-clause-fault g c =
    let p = err_from_is_err_and c.from_residual.result c.from_residual.ensures.1 in
    rw (p.1, p.2, c.in_err-runner.ensures.err) (run_no_start c.args.setup.mode c.args.setup.cpus _ _)

pub returns-clause-ok : goal.returns-clause-ok
returns-clause-ok g c =
    run_finished c.read_lines.result c.new-script.result.work c.args.setup.mode c.args.setup.cpus _ _ _ _ _ (ap (λ (p : Place). p.work) c.new-script.ensures ∙ c.in_ok-runner.ensures.ok.0) c.read_lines.ensures.ok

pub returns-clause-fault : goal.returns-clause-fault
returns-clause-fault g c =
    run_stopped c.read_lines.result c.new-script.result.work c.args.setup.mode c.args.setup.cpus _ _ _ _ (ap (λ (p : Place). p.work) c.new-script.ensures ∙ c.in_ok-runner.ensures.ok.0) c.read_lines.ensures.fault
