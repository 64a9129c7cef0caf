use Rattle.std.proofs.Common.{◌≡◌, ◌≤◌, ◌++◌, ◌∙◌, [], ◌∷◌, length, arith, ap}
use Rattle.std.specs.Str.Lines.{strip_carriage_return}
use Rattle.std.proofs.lemmas.Result.{err_from_is_err_and}
use Rattle.engine.specs.Engine.{Place}
use Rattle.engine.proofs.Runs.{fed_held, fed_line, fed_then, until_line, until_then, until_more}
use Rattle.engine.proofs.script_reader.ScriptReader.end_held.Goals as goal

pub returns-in_err-hold-clause-fault : goal.returns-in_err-hold-clause-fault
returns-in_err-hold-clause-fault c =
    let p = err_from_is_err_and c.from_residual.result c.from_residual.ensures.1 in
    rw (p.1, p.2) (until_more c.args.self.now c.args.bytes.now (10 ∷ []) _ _ c.in_err-hold.ensures.fault)

pub returns-in_err-run_line-clause-fault : goal.returns-in_err-run_line-clause-fault
returns-in_err-run_line-clause-fault c =
    let p = err_from_is_err_and c.from_residual-in_err-run_line.result c.from_residual-in_err-run_line.ensures.1 in
    let a = c.args.self.now in
    let b : Place = record { work = c.self.inside.runner.work; output = c.self.inside.runner.output; line = c.self.inside.line.items; number = c.self.inside.number } in
    let held : b ≡ record a { line = a.line ++ c.args.bytes.now } = c.self.view_is ∙ c.in_ok-hold.ensures.ok in
    let text = c.without_return.ensures ∙ ap strip_carriage_return c.deref.ensures.value in
    rw (p.1, p.2)
    (until_then a b c.args.bytes.now (10 ∷ []) _ _ (fed_held a b c.args.bytes.now held)
    (until_line b c.without_return.result.now _ _ c.self.invariant.1 text c.in_err-run_line.ensures.fault c.in_err-run_line.ensures.kept))

pub returns-clause-ok : goal.returns-clause-ok
returns-clause-ok c =
    let a = c.args.self.now in
    let b : Place = record { work = c.self.inside.runner.work; output = c.self.inside.runner.output; line = c.self.inside.line.items; number = c.self.inside.number } in
    let held : b ≡ record a { line = a.line ++ c.args.bytes.now } = c.self.view_is ∙ c.in_ok-hold.ensures.ok in
    let text = c.without_return.ensures ∙ ap strip_carriage_return c.deref.ensures.value in
    let short : length b.line ≤ 256 = omega (arith, c.self.inside.line.ok.0, c.self.invariant.0) in
    rw c.clear.ensures.items
    (fed_then a b _ c.args.bytes.now (10 ∷ []) (fed_held a b c.args.bytes.now held)
    (fed_line b c.without_return.result.now c.run_line.new.self c.self.invariant.1 short text c.in_ok-run_line.ensures.ok))
