use Rattle.std.proofs.lemmas.Result.{IfOk-weaker}
use Rattle.audit.proofs.trace_events.trace_of.Goals as goal

pub returns : goal.returns
returns c = IfOk-weaker c.trace.result _ _ (λ text is. (_, _, is)) c.trace.ensures
