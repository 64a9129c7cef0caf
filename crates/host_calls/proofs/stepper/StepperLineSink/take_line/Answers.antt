use Rattle.std.proofs.Common.{◌++◌, refl, ap, ◌∙◌, arith}
use Rattle.std.specs.Prelude.{string_bytes}
use Rattle.std.proofs.lemmas.Result.{err_from_is_err_and}
use Rattle.host_calls.proofs.Lines.{takes_line, refuses_line}
use Rattle.host_calls.proofs.stepper.StepperLineSink.take_line.Goals as goal

pub returns-then-len-clause-fault : goal.returns-then-len-clause-fault
returns-then-len-clause-fault c = (refl, λ line s. absurd (omega (arith, s.0, c.if-len.true)))

pub returns-in_err-run_line-clause-fault : goal.returns-in_err-run_line-clause-fault
returns-in_err-run_line-clause-fault c =
    let p = err_from_is_err_and c.from_residual.result c.from_residual.ensures.1 in
    rw (p.1, p.2) (refuses_line c.args.self.now c.args.number c.args.front.now c.text_of.result.now c.args.len c.args.ended _ c.text_of.ensures c.in_err-run_line.ensures.fault)

pub returns-clause-ok : goal.returns-clause-ok
returns-clause-ok c = (
  string_bytes c.run_line.new.self.printed,
  takes_line c.args.self.now c.args.number c.args.front.now c.text_of.result.now c.args.len c.args.ended c.run_line.new.self _ c.text_of.ensures (omega (arith, c.if-len.false)) c.in_ok-run_line.ensures.ok,
  c.in_ok-extend_from_slice.ensures.items ∙ ap (λ t. c.args.output.now.items ++ t) c.as_bytes.ensures.value,
)
