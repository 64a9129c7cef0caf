use Rattle.std.proofs.Common.{◌≡◌, Err, rules}
use Rattle.mig_base.specs.declared.refusal.Refusal.{Refusal}
use Rattle.host_calls.proofs.StepLines.{happens_within, printed_refusal}
use Rattle.host_calls.proofs.stepper.Stepper.make_step.Goals as goal

pub print_made-requires-clause-within : goal.print_made-requires-clause-within
print_made-requires-clause-within c = happens_within c.args.self.now.world c.args.step c.in-Ok.effect c.step-outcome.new.self c.headline.ensures.reached (rw c.in-Ok.is at c.step-outcome.ensures.happens)

pub returns-in_ok-print_line-in-Err-clause-ok : goal.returns-in_ok-print_line-in-Err-clause-ok
returns-in_ok-print_line-in-Err-clause-ok c =
    let lacks_nothing : c.step-outcome.result ≡ Err Refusal.NoMemory → ⊥ = search rules in (
      c.step-outcome.result,
      (lacks_nothing, c.step-outcome.ensures.happens),
      rw c.in-Err.is (printed_refusal c.args.step c.in-Err.field-0 c.step-outcome.new.self _ _ c.requires (rw c.in-Err.is at c.in_ok-print_line-in-Err.ensures.ok)),
    )
