-- Judging an input that is a log, or what strace has written.
use Rattle.std.specs.Prelude.{◌≡◌, ◌≢◌, ℕ, ◌⊎◌, List, [], ◌∷◌, ◌++◌, codes, Option, Some}
use Rattle.std.specs.List.{flat_map}
use Rattle.std.specs.Fmt.{decimal}
use Rattle.std.specs.String.{string_bytes}
use Rattle.std.specs.Io.KnownBytes.{Appends}
use Rattle.audit.specs.declared.audit.Asked.{Asked}
use Rattle.audit.specs.declared.audit.Verdict.{Verdict}
use Rattle.audit.specs.declared.audit.Verdict.TheVariants as verdict
use Rattle.audit.specs.TraceEvents.{IsTraced}
use Rattle.audit.specs.Verdicts.{Audits}
use Rattle.strace_text.specs.declared.writer.Converted.{Converted}
use Rattle.strace_text.specs.declared.writer.Refused.{Refused}
use Rattle.strace_text.specs.Traces.{IsNoLog}
use Rattle.trace_audit.specs.ShownText.{shown_text}

-- the line of a listing for a line of a trace that cannot be read
abbrev pub refused_line : List ℕ → Refused → List ℕ
refused_line name refused = name ++ (codes ":" ++ (decimal refused.line ++ (codes ": " ++ (string_bytes refused.reason ++ 10 ∷ []))))

-- the listing of all of them
abbrev pub refused_text : List ℕ → List Refused → List ℕ
refused_text name wrong = flat_map (λ refused. refused_line name refused) wrong

-- the lines of a trace that cannot be read were listed; or there is none, and its log was judged under the empty name, and what was said of it is shown with the lines of the trace
abbrev pub JudgesConverted : Asked → List ℕ → Converted → Verdict → Option (List ℕ) → Option (List ℕ) → Type 0
JudgesConverted asked name converted said before after =
    (converted.wrong.items ≢ []) × (said ≡ verdict.Wrong) × Appends before after (refused_text name converted.wrong.items)
    ⊎ (converted.wrong.items ≡ []) × ((text : List ℕ) × Audits asked [] (string_bytes converted.log) said (Some []) (Some text) × Appends before after (shown_text name converted.lines.items text))

-- an input was judged: as a log; or it does not begin as a log does, and what a trace was converted to was judged
abbrev pub AuditsInput : Asked → List ℕ → List ℕ → Verdict → Option (List ℕ) → Option (List ℕ) → Type 0
AuditsInput asked name input said before after =
    Audits asked name input said before after
    ⊎ IsNoLog input × ((converted : Converted) × JudgesConverted asked name converted said before after)

-- the trace events of its log were added, with the lines of the trace; or there is none, since lines of the trace cannot be read
abbrev pub TracesConverted : Asked → List ℕ → Converted → Verdict → List ℕ → List ℕ → Type 0
TracesConverted asked name converted said before after =
    (said ≡ verdict.Wrong) × (after ≡ before)
    ⊎ ((text : List ℕ) × IsTraced asked said [] text × (after ≡ before ++ shown_text name converted.lines.items text))

-- the trace events of an input were added: of a log, or of what a trace was converted to
abbrev pub TracesInput : Asked → Verdict → List ℕ → List ℕ → Type 0
TracesInput asked said before after =
    IsTraced asked said before after ⊎ ((name : List ℕ) × (converted : Converted) × TracesConverted asked name converted said before after)
