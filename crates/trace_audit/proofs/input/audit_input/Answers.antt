use Rattle.std.proofs.Common.{inr}
use Rattle.std.proofs.lemmas.Result.{IfOk-weaker}
use Rattle.strace_text.specs.Traces.{IsNoLog}
use Rattle.trace_audit.proofs.Inputs.{as_trace}
use Rattle.trace_audit.proofs.input.audit_input.Goals as goal

pub returns-then-begins_a_trace-clause-audits : goal.returns-then-begins_a_trace-clause-audits
returns-then-begins_a_trace-clause-audits g c =
    let other : IsNoLog c.in_ok-front.front.items = rw c.deref.ensures.value at (c.begins_a_trace.ensures c.if-begins_a_trace.true) in
    IfOk-weaker c.judge_converted.result _ _ (λ said judges. as_trace c.args.asked c.args.name.now c.in_ok-front.front.items said _ _ _ _ c.in_ok-converted.converted c.in_ok-front.ensures other judges) c.judge_converted.ensures.judges

pub returns-then-begins_a_trace-clause-traces : goal.returns-then-begins_a_trace-clause-traces
returns-then-begins_a_trace-clause-traces g c = IfOk-weaker c.judge_converted.result _ _ (λ said traces. inr ((c.args.name.now, c.in_ok-converted.converted, traces))) c.judge_converted.ensures.traces
