use Rattle.std.proofs.lemmas.Result.{err_from_is_err_and}
use Rattle.expected.proofs.Whole.{not_started}
use Rattle.expected.proofs.run.test_script.Goals as goal

pub returns-in_err-tester-clause-fault : goal.returns-in_err-tester-clause-fault
returns-in_err-tester-clause-fault g c =
    let p = err_from_is_err_and c.from_residual.result c.from_residual.ensures.1 in
    rw (p.1, p.2, c.in_err-tester.ensures.err) (not_started c.args.test.name.now c.args.test.cpus _ _)
