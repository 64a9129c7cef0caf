use Rattle.std.proofs.Common.{refl, arith}
use Rattle.host_calls.proofs.stepper.StepperLineSink.overrun.Goals as goal

pub returns : goal.returns
returns c = λ raw long. (refl, λ line s. absurd (omega (arith, s.0, long)))
