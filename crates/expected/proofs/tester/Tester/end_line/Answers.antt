use Rattle.std.proofs.Common.{◌+◌, ◌<◌, ◌^◌, ◌++◌, ◌∷◌, [], refl, ap, ◌∙◌, append_assoc, arith}
use Rattle.std.specs.Str.Lines.{strip_carriage_return}
use Rattle.std.proofs.lemmas.Result.{err_from_is_err_and}
use Rattle.expected.proofs.Pieces.{line_after, line_fault, after_at, fault_more, fault_at}
use Rattle.expected.proofs.tester.Tester.end_line.Goals as goal

pub returns-in_err-hold-clause-fault : goal.returns-in_err-hold-clause-fault
returns-in_err-hold-clause-fault c =
    let p = err_from_is_err_and c.from_residual.result c.from_residual.ensures.1 in
    rw (p.1, p.2)
    (λ cpus front ran. fault_at cpus _ _ _ (append_assoc front c.args.bytes.now (10 ∷ [])) (fault_more cpus (front ++ c.args.bytes.now) (10 ∷ []) _ (c.in_err-hold.ensures.fault cpus front ran)))

pub returns-in_err-outcome-clause-fault : goal.returns-in_err-outcome-clause-fault
returns-in_err-outcome-clause-fault c =
    let p = err_from_is_err_and c.from_residual-in_err-outcome.result c.from_residual-in_err-outcome.ensures.1 in
    let text = c.without_return-text.ensures ∙ ap strip_carriage_return c.deref.ensures.value in
    rw (p.1, p.2)
    (λ cpus front ran. fault_at cpus _ _ _ (append_assoc front c.args.bytes.now (10 ∷ []))
    (line_fault cpus (front ++ c.args.bytes.now) c.hold.new.self _ (c.in_ok-hold.ensures.ok cpus front ran) (rw text at c.in_err-outcome.ensures.fault)))

pub returns-clause-ok : goal.returns-clause-ok
returns-clause-ok c = λ cpus front ran.
    let text = c.without_return-text.ensures ∙ ap strip_carriage_return c.deref.ensures.value in
    let few : c.hold.new.self.number + 1 < 2 ^ 64 = omega arith in
    after_at c.args.name.now cpus ((front ++ c.args.bytes.now) ++ 10 ∷ []) (front ++ (c.args.bytes.now ++ 10 ∷ [])) _ _ (append_assoc front c.args.bytes.now (10 ∷ []))
    (line_after c.args.name.now cpus (front ++ c.args.bytes.now) c.hold.new.self _ _ c.clear.ensures.items refl few (c.in_ok-hold.ensures.ok cpus front ran) (rw text at c.in_ok-outcome.ensures.ok))
