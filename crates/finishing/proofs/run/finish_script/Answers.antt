use Rattle.std.proofs.Common.{ap, sym, ◌∙◌}
use Rattle.std.proofs.lemmas.Result.{err_from_is_err_and}
use Rattle.engine.specs.Engine.{Place}
use Rattle.finishing.proofs.Outcomes.{some_stops, some_finishes, some_fails}
use Rattle.finishing.proofs.run.finish_script.Goals as goal

pub returns-in_err-read_lines-clause-fault : goal.returns-in_err-read_lines-clause-fault
returns-in_err-read_lines-clause-fault g c =
    let p = err_from_is_err_and c.from_residual-in_err-read_lines.result c.from_residual-in_err-read_lines.ensures.1 in
    let is = ap (λ (place : Place). place.work) c.new-script.ensures ∙ c.in_ok-runner.ensures.ok.0 in
    rw (p.1, p.2) (some_stops _ _ _ _ _ _ _ _ _ is c.in_err-read_lines.ensures.fault)

pub returns-in-Some-clause-ok : goal.returns-in-Some-clause-ok
returns-in-Some-clause-ok g c =
    let is = ap (λ (place : Place). place.work) c.new-script.ensures ∙ c.in_ok-runner.ensures.ok.0 in
    some_finishes _ _ _ _ _ _ _ _ _ _ _ _ is c.in_ok-read_lines.ensures.ok (sym c.in-Some.is ∙ c.into_world.ensures) c.finish_world.ensures.ok

pub returns-in-Some-clause-fault : goal.returns-in-Some-clause-fault
returns-in-Some-clause-fault g c =
    let is = ap (λ (place : Place). place.work) c.new-script.ensures ∙ c.in_ok-runner.ensures.ok.0 in
    some_fails _ _ _ _ _ _ _ _ _ _ _ _ is c.in_ok-read_lines.ensures.ok (sym c.in-Some.is ∙ c.into_world.ensures) c.finish_world.ensures.fault
