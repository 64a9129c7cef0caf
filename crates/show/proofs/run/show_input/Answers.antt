use Rattle.std.proofs.lemmas.Result.{err_from_is_err_and}
use Rattle.show.proofs.Reached.{fails_shown}
use Rattle.show.proofs.run.show_input.Goals as goal

pub returns-in_err-write_facts-clause-fault : goal.returns-in_err-write_facts-clause-fault
returns-in_err-write_facts-clause-fault g c =
    let p = err_from_is_err_and c.from_residual-in_err-write_facts.result c.from_residual-in_err-write_facts.ensures.1 in
    rw (p.1, p.2) (fails_shown _ _ c.args.asked _ _ _ _ _ c.in-Some.ensures.some c.in_ok-world.ensures.ok c.in_err-write_facts.ensures.fault)
