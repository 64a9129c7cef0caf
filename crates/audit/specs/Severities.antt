-- How severe the findings of a log are, and which of them fail it.
use Rattle.std.specs.Prelude.{ℕ, Bool, true, false, if◌then◌else◌, List, codes}
use Rattle.std.specs.List.{list_any}
use Rattle.audit.specs.declared.audit.Asked.{Asked}
use Rattle.audit.specs.declared.findings.Finding.{Finding}
use Rattle.audit.specs.declared.rule_names.Rule.{Rule}
use Rattle.audit.specs.declared.rule_names.Rule.TheVariants as rule
use Rattle.audit.specs.declared.rule_names.Severity.{Severity}
use Rattle.audit.specs.declared.rule_names.Severity.TheVariants as severity

-- how severe it is that a rule is broken: pages that are owed are a fault only where all are expected
abbrev pub severity_of : Asked → Rule → Severity
severity_of asked rule.Unexplained = severity.Unexplained
severity_of asked rule.PutAgain = severity.Note
severity_of asked rule.PageOwed = if asked.expects_all then severity.Fault else severity.Note
severity_of asked rule.Page = severity.Page
severity_of asked broken = severity.Fault

-- the name of a severity
abbrev pub severity_word : Severity → List ℕ
severity_word severity.Unexplained = codes "unexplained"
severity_word severity.Fault = codes "fault"
severity_word severity.Note = codes "note"
severity_word severity.Page = codes "page"

-- whether a finding of this severity fails a log: a note only where it is to, and never what happened to a page
abbrev pub is_failure : Bool → Severity → Bool
is_failure strict severity.Note = strict
is_failure strict severity.Page = false
is_failure strict said = true

-- whether a log fails in which a rule is broken
abbrev pub fails : Asked → Rule → Bool
fails asked broken = is_failure asked.strict (severity_of asked broken)

-- whether a log fails in which this was found
abbrev pub any_fails : Asked → List Finding → Bool
any_fails asked found = list_any (λ (one : Finding). fails asked one.rule) found
