-- What is written of a log that was read, and what is said of it as a whole.
use Rattle.std.specs.Prelude.{◌≡◌, ℕ, ◌<◌, List, [], ◌∷◌, ◌++◌, length, codes, Option, Bool, true, false, if◌then◌else◌, IsSome}
use Rattle.std.specs.Fmt.{decimal}
use Rattle.std.specs.Io.KnownBytes.{Appends}
use Rattle.audit.specs.declared.audit.Asked.{Asked}
use Rattle.audit.specs.declared.audit.Form.{Form}
use Rattle.audit.specs.declared.audit.Form.TheVariants as form
use Rattle.audit.specs.declared.audit.Report.{Report}
use Rattle.audit.specs.declared.audit.Verdict.{Verdict}
use Rattle.audit.specs.declared.audit.Verdict.TheVariants as verdict
use Rattle.audit.specs.declared.certificate.Certificate.{Certificate}
use Rattle.audit.specs.declared.certificate.Certificate.TheVariants.{Certified}
use Rattle.audit.specs.declared.certificate.Certificate.TheVariants as certificate
use Rattle.audit.specs.declared.certificate.Missing.{Missing}
use Rattle.audit.specs.declared.certificate.Missing.TheVariants.{Refused, Differs}
use Rattle.audit.specs.declared.certificate.Totals.{Totals}
use Rattle.audit.specs.declared.findings.Finding.{Finding}
use Rattle.audit.specs.declared.work.Unjudged.{Unjudged}
use Rattle.audit.specs.Certificates.{IsCertificate, IsCertifiedInput, Shows}
use Rattle.audit.specs.Severities.{any_fails, severity_of, severity_word}
use Rattle.kernel_rules.specs.Runs.{Event}
use Rattle.log_entries.specs.declared.log_line.LogLine.{LogLine}
use Rattle.log_entries.specs.Events.{HasEvents}
use Rattle.call_log.specs.declared.complete.ReadLog.{ReadLog}
use Rattle.call_log.specs.Listing.{HasNoFeed, IsLog, IsRead}

-- what the line of a finding begins with
abbrev pub finding_front : Form → List ℕ → ℕ → List ℕ
finding_front form.Text name line = name ++ (codes ":" ++ (decimal line ++ codes ": "))
finding_front form.Json name line = codes "{\"severity\": \""

-- the line of a finding: its severity, and what is said of it
pub record IsFinding (asked : Asked) (name : List ℕ) (found : Finding) (text : List ℕ) : Type 0 where
  pub said : List ℕ
  pub one : HasNoFeed said
  pub parts : text ≡ finding_front asked.form name found.line ++ (severity_word (severity_of asked found.rule) ++ (said ++ 10 ∷ []))

-- the lines of findings, one after another
abbrev pub Prints : Asked → List ℕ → List Finding → List ℕ → Type 0
Prints asked name [] output = output ≡ []
Prints asked name (one ∷ more) output = (text : List ℕ) × (rest : List ℕ) × IsFinding asked name one text × (output ≡ text ++ rest) × Prints asked name more rest

-- what comes before the number of pages that a kernel owes
abbrev pub missing_word : Form → List ℕ
missing_word form.Text = codes "certified: the kernel's answers, which a kernel of the rules may have given; pages known to be missing "
missing_word form.Json = codes "\"certified\": true, \"missing\": "

-- what comes before the number of calls that have put a page twice
abbrev pub twice_word : Form → List ℕ
twice_word form.Text = codes ", put twice "
twice_word form.Json = codes ", \"twice\": "

-- what comes before the number of pages of which nothing is known
abbrev pub unknown_word : Form → List ℕ
unknown_word form.Text = codes ", of which nothing is known "
unknown_word form.Json = codes ", \"unknown\": "

-- what is said of a run that is certified: what its kernel owes at the end and has put twice, and of how many pages nothing is known
abbrev pub certified_line : Form → Totals → ℕ → List ℕ
certified_line form totals unknown =
    missing_word form ++ decimal totals.owed ++ (twice_word form ++ decimal totals.twice) ++ (unknown_word form ++ decimal unknown)

-- what is said of a run that is not, for this reason
abbrev pub missing_line : Form → List ℕ → List ℕ
missing_line form.Text reason = codes "not certified: " ++ reason
missing_line form.Json reason = codes "\"certified\": false, \"reason\": \"" ++ reason ++ 34 ∷ []

-- what says whether a run is certified
abbrev pub IsCertificateLine : Form → Certificate → List ℕ → Type 0
IsCertificateLine form (Certified totals) line = (unknown : ℕ) × (line ≡ certified_line form totals unknown)
IsCertificateLine form (certificate.Missing why) line = (reason : List ℕ) × HasNoFeed reason × (line ≡ missing_line form reason)

-- a summary as a text: a line that begins with a number of calls, the line of a certificate, and what else is said
abbrev pub text_summary : ℕ → List ℕ → List ℕ → List ℕ → List ℕ
text_summary calls counts line rest = decimal calls ++ codes " calls: " ++ counts ++ 10 ∷ line ++ 10 ∷ rest

-- a summary as an object on a line of its own
abbrev pub json_summary : ℕ → List ℕ → List ℕ → List ℕ
json_summary calls counts line = codes "{\"calls\": " ++ decimal calls ++ codes ", " ++ counts ++ codes ", " ++ line ++ codes "}" ++ 10 ∷ []

-- a summary of these parts, in a form
abbrev pub IsSummaryOf : Form → ℕ → List ℕ → List ℕ → List ℕ → Type 0
IsSummaryOf form.Text calls counts line text = (rest : List ℕ) × (text ≡ text_summary calls counts line rest)
IsSummaryOf form.Json calls counts line text = text ≡ json_summary calls counts line

-- a summary, with what says whether the run is certified
pub record IsSummary (form : Form) (made : Certificate) (text : List ℕ) : Type 0 where
  pub calls : ℕ
  pub counts : List ℕ
  pub line : List ℕ
  pub one : HasNoFeed counts
  pub is : IsCertificateLine form made line
  pub parts : IsSummaryOf form calls counts line text

-- what is said of a log, by whether it has a finding that fails it
abbrev pub HasVerdict : Verdict → Bool → Type 0
HasVerdict verdict.Certified fails = fails ≡ false
HasVerdict verdict.Clean fails = fails ≡ false
HasVerdict verdict.Undecided fails = fails ≡ false
HasVerdict verdict.Nothing fails = fails ≡ false
HasVerdict verdict.Doubtful fails = fails ≡ true
HasVerdict verdict.Found fails = fails ≡ true
HasVerdict verdict.Unexplained fails = fails ≡ true
HasVerdict verdict.Wrong fails = ⊥

-- what is said fits whether the log is whole: only where lines were lost is it doubtful, and all but that and what is undecided is said of a whole log alone
abbrev pub FitsLog : Verdict → Bool → Type 0
FitsLog verdict.Undecided whole = Unit {0}
FitsLog verdict.Doubtful whole = whole ≡ false
FitsLog said whole = whole ≡ true

-- nothing is said to be judged only where nothing could be
abbrev pub FitsWork : Verdict → Option Unjudged → Type 0
FitsWork verdict.Nothing nothing = IsSome nothing
FitsWork said nothing = Unit {0}

-- the input is a log of which no line was lost, and each call that ends has begun
abbrev pub IsWhole : List ℕ → Type 0
IsWhole input = (lines : List LogLine) × (events : List Event) × IsLog input lines × HasEvents lines events

-- what is said needs a whole log, or is doubtful or undecided
abbrev pub IsSure : Verdict → List ℕ → Type 0
IsSure verdict.Undecided input = Unit {0}
IsSure verdict.Doubtful input = Unit {0}
IsSure said input = IsWhole input

-- whether a run is said to be certified
abbrev pub is_certified : Verdict → Bool
is_certified verdict.Certified = true
is_certified said = false

-- whether the checker does not take the run that was found
abbrev pub is_refused : Missing → Bool
is_refused Refused = true
is_refused Differs = true
is_refused _ = false

-- a clean log with a run that is certified; one whose run the checker does not take is not decided
abbrev pub certified_verdict : Verdict → Certificate → Verdict
certified_verdict verdict.Clean (Certified totals) = verdict.Certified
certified_verdict verdict.Clean (certificate.Missing why) = if is_refused why then verdict.Undecided else verdict.Clean
certified_verdict said certificate = said

-- a log is not said to be certified without a certificate, nor clean with one; and one of which nothing was judged has none
abbrev pub GoesWith : Certificate → Verdict → Type 0
GoesWith (Certified totals) verdict.Clean = ⊥
GoesWith (Certified totals) verdict.Nothing = ⊥
GoesWith (certificate.Missing why) verdict.Certified = ⊥
GoesWith made said = Unit {0}

-- the findings of a log without a wrong line were written, and its summary with the line of a certificate, which this input has
pub record IsJudged (asked : Asked) (name input : List ℕ) (verdict : Verdict) (before after : Option (List ℕ)) : Type 0 where
  pub found : List Finding
  pub findings : List ℕ
  pub summary : List ℕ
  pub made : Certificate
  pub prints : Prints asked name found findings
  pub is : IsSummary asked.form made summary
  pub fits : HasVerdict verdict (any_fails asked found)
  pub sure : IsSure verdict input
  pub goes : GoesWith made verdict
  pub shows : Shows made input
  pub appends : Appends before after (findings ++ summary)

-- a whole log was read. Its wrong lines were written; or there is none, and its findings and its summary were written
abbrev pub Audits : Asked → List ℕ → List ℕ → Verdict → Option (List ℕ) → Option (List ℕ) → Type 0
Audits asked name input verdict.Wrong before after = (text : List ℕ) × (0 < length text) × IsRead name input text × Appends before after text
Audits asked name input verdict.Certified before after =
    IsRead name input [] × IsJudged asked name input verdict.Certified before after × ((totals : Totals) × IsCertifiedInput input totals)
Audits asked name input said before after = IsRead name input [] × IsJudged asked name input said before after

-- a report of a log that was read: the lines of some findings, a summary with the line of a certificate, and the verdict that goes with both
pub record IsReport (asked : Asked) (name : List ℕ) (read : ReadLog) (report : Report) : Type 0 where
  pub found : List Finding
  pub made : Certificate
  pub prints : Prints asked name found report.findings.items
  pub is : IsSummary asked.form made report.summary.items
  pub fits : HasVerdict report.verdict (any_fails asked found)
  pub whole : FitsLog report.verdict read.entries.whole
  pub goes : GoesWith made report.verdict
  pub shows : IsCertificate read.entries made
