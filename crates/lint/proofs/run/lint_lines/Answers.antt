use Rattle.std.proofs.lemmas.Result.{err_from_is_err_and}
use Rattle.lint.proofs.Lines.{lists_stopped, lists_finished}
use Rattle.lint.proofs.run.lint_lines.Goals as goal

pub returns-in_err-read_lines-clause-fault : goal.returns-in_err-read_lines-clause-fault
returns-in_err-read_lines-clause-fault g c =
    let p = err_from_is_err_and c.from_residual.result c.from_residual.ensures.1 in
    rw (p.1, p.2) (lists_stopped c.args.listed.language c.args.listed.name.now c.new-linter.result _ _ _ _ _ (record { language = c.new-linter.ensures.language; name = c.new-linter.ensures.name; clean = c.new-linter.ensures.clean }) c.in_err-read_lines.ensures.fault)

pub returns-clause-ok : goal.returns-clause-ok
returns-clause-ok g c =
    lists_finished c.args.listed.language c.args.listed.name.now c.new-linter.result c.read_lines.new.sink _ _ _ (record { language = c.new-linter.ensures.language; name = c.new-linter.ensures.name; clean = c.new-linter.ensures.clean }) c.in_ok-read_lines.ensures.ok
