use Rattle.std.proofs.Common.{◌≡◌, ◌+◌, ◌<◌, ◌++◌, ◌∙◌, List, ℕ, [], ◌∷◌, length, arith, ap, refl}
use Rattle.std.proofs.lemmas.Result.{err_from_is_err_and}
use Rattle.engine.specs.Engine.{Place}
use Rattle.engine.proofs.Runs.{fed_held, fed_line, fed_then, until_line, until_long, until_more, until_then}
use Rattle.engine.proofs.script_reader.ScriptReader.do_whole.Goals as goal

pub returns-then-bytes-gt-MAX_LINE-clause-fault : goal.returns-then-bytes-gt-MAX_LINE-clause-fault
returns-then-bytes-gt-MAX_LINE-clause-fault c =
    let a : Place = record { work = c.self.inside.runner.work; output = c.self.inside.runner.output; line = c.self.inside.line.items; number = c.self.inside.number } in
    let long : 256 < length a.line + length c.args.bytes.now = omega (arith, c.if-bytes-gt-MAX_LINE.true) in
    rw (← c.self.view_is) (until_more a c.args.bytes.now (10 ∷ []) _ _ (until_long a c.args.bytes.now c.self.invariant.1 c.requires.feed long))

pub returns-in_err-run_line-clause-fault : goal.returns-in_err-run_line-clause-fault
returns-in_err-run_line-clause-fault c =
    let p = err_from_is_err_and c.from_residual.result c.from_residual.ensures.1 in
    let a = c.args.self.now in
    let bytes = c.args.bytes.now in
    let b : Place = record { work = c.self.inside.runner.work; output = c.self.inside.runner.output; line = bytes; number = c.self.inside.number } in
    let none : c.self.inside.line.items ≡ [] = ap (λ (p : Place). p.line) c.self.view_is ∙ c.requires.none in
    let front : bytes ≡ c.self.inside.line.items ++ bytes = rw none refl in
    let held : b ≡ record a { line = a.line ++ bytes } = ap (λ (l : List ℕ). record b { line = l }) front ∙ ap (λ (p : Place). record p { line = p.line ++ bytes }) c.self.view_is in
    rw (p.1, p.2)
    (until_then a b bytes (10 ∷ []) _ _ (fed_held a b bytes held)
    (until_line b c.without_return.result.now _ _ c.requires.feed c.without_return.ensures c.in_err-run_line.ensures.fault c.in_err-run_line.ensures.kept))

pub returns-clause-ok : goal.returns-clause-ok
returns-clause-ok c =
    let a = c.args.self.now in
    let bytes = c.args.bytes.now in
    let b : Place = record { work = c.self.inside.runner.work; output = c.self.inside.runner.output; line = bytes; number = c.self.inside.number } in
    let none : c.self.inside.line.items ≡ [] = ap (λ (p : Place). p.line) c.self.view_is ∙ c.requires.none in
    let front : bytes ≡ c.self.inside.line.items ++ bytes = rw none refl in
    let held : b ≡ record a { line = a.line ++ bytes } = ap (λ (l : List ℕ). record b { line = l }) front ∙ ap (λ (p : Place). record p { line = p.line ++ bytes }) c.self.view_is in
    rw none
    (fed_then a b _ bytes (10 ∷ []) (fed_held a b bytes held)
    (fed_line b c.without_return.result.now c.run_line.new.self c.requires.feed (omega (arith, c.if-bytes-gt-MAX_LINE.false)) c.without_return.ensures c.in_ok-run_line.ensures.ok))
