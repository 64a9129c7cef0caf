-- An input that is a trace, from its parts.
use Rattle.std.proofs.Common.{ℕ, List, ◌++◌, Option, None, Some, ap, ◌∙◌, inr}
use Rattle.std.specs.Prelude.{IfSome}
use Rattle.std.specs.Io.KnownBytes.{Consumes}
use Rattle.audit.specs.declared.audit.Asked.{Asked}
use Rattle.audit.specs.declared.audit.Verdict.{Verdict}
use Rattle.strace_text.specs.declared.writer.Converted.{Converted}
use Rattle.strace_text.specs.Traces.{IsNoLog}
use Rattle.trace_audit.specs.Traces.{AuditsInput, JudgesConverted}

-- an input begins as its front does
pub as_trace : (asked : Asked) (name front : List ℕ) (said : Verdict) (before after a b : Option (List ℕ)) (converted : Converted) → Consumes a b front → IsNoLog front → JudgesConverted asked name converted said before after
    → IfSome a (λ input. AuditsInput asked name input said before after)
as_trace asked name front said before after None b converted read other judges = tt
as_trace asked name front said before after (Some xs) None converted read other judges = absurd read
as_trace asked name front said before after (Some xs) (Some ys) converted read other judges = inr ((other.0, other.1 ++ ys, read ∙ ap (λ (l : List ℕ). l ++ ys) other.2, other.3), (converted, judges))
