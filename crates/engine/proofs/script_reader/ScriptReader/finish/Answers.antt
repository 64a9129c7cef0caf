use Rattle.std.proofs.Common.{◌≡◌, ◌≤◌, ◌<◌, ◌∙◌, ap, [], length, arith}
use Rattle.std.proofs.lemmas.Result.{err_from_is_err_and}
use Rattle.std.proofs.lemmas.List.{nil_from_length}
use Rattle.engine.specs.Engine.{Gathered, Place}
use Rattle.engine.proofs.Pieces.{IsOpen, closes_nothing, closes_made, closes_faulted, closes_unwritten}
use Rattle.engine.proofs.script_reader.ScriptReader.finish.Goals as goal

pub returns-then-is_empty-clause-ok : goal.returns-then-is_empty-clause-ok
returns-then-is_empty-clause-ok g c =
    let a : Place = record { work = c.self.inside.runner.work; output = c.self.inside.runner.output; line = c.self.inside.line.items; number = c.self.inside.number } in
    let none : length a.line ≡ 0 = grind arith in
    rw (← c.self.view_is) ([], closes_nothing a _ (nil_from_length a.line none))

pub returns-in_err-write_output-clause-fault : goal.returns-in_err-write_output-clause-fault
returns-in_err-write_output-clause-fault g c =
    let p = err_from_is_err_and c.from_residual.result c.from_residual.ensures.1 in
    let a : Place = record { work = c.self.inside.runner.work; output = c.self.inside.runner.output; line = c.self.inside.line.items; number = c.self.inside.number } in
    let clean : a.output ≡ [] = ap (λ (x : Place). x.output) c.self.view_is ∙ c.requires.clean in
    let some : 0 < length a.line = grind arith in
    let short : length a.line ≤ 256 = omega (arith, c.self.inside.line.ok.0, c.self.invariant.0) in
    let is_open : IsOpen a = record { some = some; one = c.self.invariant.1; short = short } in
    rw (p.1, p.2, c.in_err-write_output.ensures.fault, ← c.self.view_is)
    (closes_unwritten c.run_line-run.result a c.run_line-run.new.self _ _ is_open clean (rw c.deref.ensures.value at c.run_line-run.ensures.ok) c.run_line-run.ensures.kept c.in_err-write_output.ensures.front)

pub returns-clause-ok : goal.returns-clause-ok
returns-clause-ok g c =
    let a : Place = record { work = c.self.inside.runner.work; output = c.self.inside.runner.output; line = c.self.inside.line.items; number = c.self.inside.number } in
    let clean : a.output ≡ [] = ap (λ (x : Place). x.output) c.self.view_is ∙ c.requires.clean in
    let some : 0 < length a.line = grind arith in
    let short : length a.line ≤ 256 = omega (arith, c.self.inside.line.ok.0, c.self.invariant.0) in
    let is_open : IsOpen a = record { some = some; one = c.self.invariant.1; short = short } in
    rw (← c.self.view_is)
    (closes_made c.run_line-run.result a c.run_line-run.new.self _ _ _ is_open clean (rw c.deref.ensures.value at c.run_line-run.ensures.ok) (ap (λ (x : Gathered). x.work) c.in_ok-write_output.ensures.none) c.in_ok-write_output.ensures.ok)

pub returns-clause-fault : goal.returns-clause-fault
returns-clause-fault g c =
    let a : Place = record { work = c.self.inside.runner.work; output = c.self.inside.runner.output; line = c.self.inside.line.items; number = c.self.inside.number } in
    let clean : a.output ≡ [] = ap (λ (x : Place). x.output) c.self.view_is ∙ c.requires.clean in
    let some : 0 < length a.line = grind arith in
    let short : length a.line ≤ 256 = omega (arith, c.self.inside.line.ok.0, c.self.invariant.0) in
    let is_open : IsOpen a = record { some = some; one = c.self.invariant.1; short = short } in
    rw (← c.self.view_is)
    (closes_faulted c.run_line-run.result a c.run_line-run.new.self.output _ _ is_open clean (rw c.deref.ensures.value at c.run_line-run.ensures.fault) c.run_line-run.ensures.kept c.in_ok-write_output.ensures.ok)
