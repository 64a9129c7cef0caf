-- What is written of a log, from its parts.
use Rattle.std.proofs.Common.{◌≡◌, ℕ, ◌+◌, ◌<◌, ◌≤◌, Bool, true, false, List, [], ◌∷◌, ◌++◌, length, take, get_or, Option, Some, None, refl, sym, ap, subst, ◌∙◌, append_assoc, append-nil, arith}
use Rattle.std.specs.Prelude.{if◌then◌else◌, IfSome, IsSome}
use Rattle.std.proofs.lemmas.List.{take_all, take_more}
use Rattle.std.specs.Io.KnownBytes.{Appends}
use Rattle.std.proofs.KnownBytes.{Appends-trans}
use Rattle.audit.specs.declared.audit.Asked.{Asked}
use Rattle.audit.specs.declared.audit.Form.{Form}
use Rattle.audit.specs.declared.audit.Form.TheVariants as form
use Rattle.audit.specs.declared.audit.Report.{Report}
use Rattle.audit.specs.declared.audit.Verdict.{Verdict}
use Rattle.audit.specs.declared.audit.Verdict.TheVariants as verdict
use Rattle.audit.specs.declared.certificate.Certificate.{Certificate}
use Rattle.audit.specs.declared.certificate.Certificate.TheVariants.{Certified, Missing}
use Rattle.audit.specs.declared.certificate.Totals.{Totals}
use Rattle.audit.specs.declared.findings.Finding.{Finding}
use Rattle.audit.specs.declared.work.Unjudged.{Unjudged}
use Rattle.audit.specs.Certificates.{IsCertificate, IsCertifiedInput, NeedsWork, Shows}
use Rattle.audit.specs.Verdicts.{IsFinding, HasVerdict, FitsLog, FitsWork, IsWhole, IsSure, GoesWith, IsJudged, Audits, IsCertificateLine, IsSummary, Prints, IsReport, certified_verdict, json_summary, text_summary, is_certified, is_refused}
use Rattle.call_log.specs.declared.complete.ReadLog.{ReadLog}
use Rattle.call_log.specs.Listing.{HasNoFeed, IsLog, IsRead, ReadsEntries, ReadsLog}
use Rattle.log_entries.specs.declared.entry_reader.EntryReader.{EntryReader}
use Rattle.log_entries.specs.declared.log_line.LogLine.{LogLine}
use Rattle.log_entries.specs.Readers.{HasRead}

-- Findings

prints_push : (asked : Asked) (name : List ℕ) (found : List Finding) (one : Finding) (old text : List ℕ) → Prints asked name found old → IsFinding asked name one text → Prints asked name (found ++ one ∷ []) (old ++ text)
prints_push asked name [] one old text none is = (text, [], is, ap (λ (t : List ℕ). t ++ text) none ∙ sym (append-nil text), refl)
prints_push asked name (x ∷ xs) one old text so_far is =
    let (first, rest, its, parts, more) = so_far in
    (first, rest ++ text, its, ap (λ (t : List ℕ). t ++ text) parts ∙ append_assoc first rest text, prints_push asked name xs one rest text more is)

pub prints_more : (asked : Asked) (name : List ℕ) (found : List Finding) (i : ℕ) (d : Finding) (old new text : List ℕ) → i < length found → Prints asked name (take i found) old → IsFinding asked name (get_or found i d) text → new ≡ old ++ text
    → Prints asked name (take (i + 1) found) new
prints_more asked name found i d old new text below so_far is added =
    subst (λ (p : List Finding). Prints asked name p new) (sym (take_more found i d below))
    (subst (λ (t : List ℕ). Prints asked name (take i found ++ get_or found i d ∷ []) t) (sym added) (prints_push asked name (take i found) (get_or found i d) old text so_far is))

pub prints_all : (asked : Asked) (name : List ℕ) (found : List Finding) (i : ℕ) (output : List ℕ) → Prints asked name (take i found) output → length found ≤ i → Prints asked name found output
prints_all asked name found i output p past = subst (λ (f : List Finding). Prints asked name f output) (take_all i found past) p

-- Summaries

pub as_text : (f : Form) (made : Certificate) (calls : ℕ) (line said text : List ℕ) → f ≡ form.Text → IsCertificateLine f made line → said ≡ line → (counts : List ℕ) × HasNoFeed counts × (rest : List ℕ) × (text ≡ text_summary calls counts said rest) → IsSummary f made text
as_text form.Text made calls line said text e is same parts = record {
  calls = calls;
  counts = parts.0;
  line = line;
  one = parts.1;
  is = is;
  parts = (parts.2, parts.3 ∙ ap (λ (l : List ℕ). text_summary calls parts.0 l parts.2) same);
}
as_text form.Json made calls line said text e is same parts = absurd (cc)

pub as_json : (f : Form) (made : Certificate) (calls : ℕ) (line said text : List ℕ) → f ≡ form.Json → IsCertificateLine f made line → said ≡ line → (counts : List ℕ) × HasNoFeed counts × (text ≡ json_summary calls counts said) → IsSummary f made text
as_json form.Json made calls line said text e is same parts = record {
  calls = calls;
  counts = parts.0;
  line = line;
  one = parts.1;
  is = is;
  parts = parts.2 ∙ ap (λ (l : List ℕ). json_summary calls parts.0 l) same;
}
as_json form.Text made calls line said text e is same parts = absurd (cc)

-- Certificates

fits_too : (v : Verdict) (made : Certificate) (n : Bool) → HasVerdict v n → HasVerdict (certified_verdict v made) n
fits_too verdict.Certified (Certified totals) n fits = fits
fits_too verdict.Certified (Missing why) n fits = fits
fits_too verdict.Clean (Certified totals) n fits = fits
fits_too verdict.Clean (Missing why) n fits = elim (is_refused why) as (λ b. HasVerdict (if b then verdict.Undecided else verdict.Clean) n) [ true ↦ fits | false ↦ fits ]
fits_too verdict.Found (Certified totals) n fits = fits
fits_too verdict.Found (Missing why) n fits = fits
fits_too verdict.Unexplained (Certified totals) n fits = fits
fits_too verdict.Unexplained (Missing why) n fits = fits
fits_too verdict.Doubtful (Certified totals) n fits = fits
fits_too verdict.Doubtful (Missing why) n fits = fits
fits_too verdict.Undecided (Certified totals) n fits = fits
fits_too verdict.Undecided (Missing why) n fits = fits
fits_too verdict.Nothing (Certified totals) n fits = fits
fits_too verdict.Nothing (Missing why) n fits = fits
fits_too verdict.Wrong (Certified totals) n fits = fits
fits_too verdict.Wrong (Missing why) n fits = fits

whole_too : (v : Verdict) (made : Certificate) (whole : Bool) → FitsLog v whole → FitsLog (certified_verdict v made) whole
whole_too verdict.Certified (Certified totals) whole fits = fits
whole_too verdict.Certified (Missing why) whole fits = fits
whole_too verdict.Clean (Certified totals) whole fits = fits
whole_too verdict.Clean (Missing why) whole fits = elim (is_refused why) as (λ b. FitsLog (if b then verdict.Undecided else verdict.Clean) whole) [ true ↦ tt | false ↦ fits ]
whole_too verdict.Found (Certified totals) whole fits = fits
whole_too verdict.Found (Missing why) whole fits = fits
whole_too verdict.Unexplained (Certified totals) whole fits = fits
whole_too verdict.Unexplained (Missing why) whole fits = fits
whole_too verdict.Doubtful (Certified totals) whole fits = fits
whole_too verdict.Doubtful (Missing why) whole fits = fits
whole_too verdict.Undecided (Certified totals) whole fits = fits
whole_too verdict.Undecided (Missing why) whole fits = fits
whole_too verdict.Nothing (Certified totals) whole fits = fits
whole_too verdict.Nothing (Missing why) whole fits = fits
whole_too verdict.Wrong (Certified totals) whole fits = fits
whole_too verdict.Wrong (Missing why) whole fits = fits

nothing_certified : (nothing : Option Unjudged) → IsSome nothing → nothing ≡ None → ⊥
nothing_certified None fits none = let e : false ≡ true = fits in absurd (cc)
nothing_certified (Some why) fits none = absurd (cc)

goes_too : (v : Verdict) (made : Certificate) (nothing : Option Unjudged) → is_certified v ≡ false → FitsWork v nothing → NeedsWork made nothing → GoesWith made (certified_verdict v made)
goes_too verdict.Certified (Certified totals) nothing plain fits needs = tt
goes_too verdict.Certified (Missing why) nothing plain fits needs = absurd (cc)
goes_too verdict.Clean (Certified totals) nothing plain fits needs = tt
goes_too verdict.Clean (Missing why) nothing plain fits needs = elim (is_refused why) as (λ b. GoesWith (Missing why) (if b then verdict.Undecided else verdict.Clean)) [ true ↦ tt | false ↦ tt ]
goes_too verdict.Found (Certified totals) nothing plain fits needs = tt
goes_too verdict.Found (Missing why) nothing plain fits needs = tt
goes_too verdict.Unexplained (Certified totals) nothing plain fits needs = tt
goes_too verdict.Unexplained (Missing why) nothing plain fits needs = tt
goes_too verdict.Doubtful (Certified totals) nothing plain fits needs = tt
goes_too verdict.Doubtful (Missing why) nothing plain fits needs = tt
goes_too verdict.Undecided (Certified totals) nothing plain fits needs = tt
goes_too verdict.Undecided (Missing why) nothing plain fits needs = tt
goes_too verdict.Nothing (Certified totals) nothing plain fits needs = nothing_certified nothing fits needs
goes_too verdict.Nothing (Missing why) nothing plain fits needs = tt
goes_too verdict.Wrong (Certified totals) nothing plain fits needs = tt
goes_too verdict.Wrong (Missing why) nothing plain fits needs = tt

pub certified_fits : (v said : Verdict) (made : Certificate) (n : Bool) → said ≡ certified_verdict v made → HasVerdict v n → HasVerdict said n
certified_fits v said made n by fits = subst (λ (k : Verdict). HasVerdict k n) (sym by) (fits_too v made n fits)

pub certified_whole : (v said : Verdict) (made : Certificate) (whole : Bool) → said ≡ certified_verdict v made → FitsLog v whole → FitsLog said whole
certified_whole v said made whole by fits = subst (λ (k : Verdict). FitsLog k whole) (sym by) (whole_too v made whole fits)

pub certified_goes : (v said : Verdict) (made : Certificate) (nothing : Option Unjudged) → said ≡ certified_verdict v made → is_certified v ≡ false → FitsWork v nothing → NeedsWork made nothing → GoesWith made said
certified_goes v said made nothing by plain fits needs = subst (λ (k : Verdict). GoesWith made k) (sym by) (goes_too v made nothing plain fits needs)

shows_input : (entries : EntryReader) (made : Certificate) (input : List ℕ) (lines : List LogLine) → IsCertificate entries made → IsLog input lines → HasRead lines entries → Shows made input
shows_input entries (Certified totals) input lines is log has = (lines, log, is lines has)
shows_input entries (Missing why) input lines is log has = tt

whole_input : (entries : EntryReader) (input : List ℕ) (lines : List LogLine) → IsLog input lines → HasRead lines entries → entries.whole ≡ true → IsWhole input
whole_input entries input lines log has whole =
    let read = has whole in
    (lines, entries.entries, log, read.events)

sure_of : (v : Verdict) (entries : EntryReader) (input : List ℕ) (lines : List LogLine) → IsLog input lines → HasRead lines entries → FitsLog v entries.whole → IsSure v input
sure_of verdict.Certified entries input lines log has fits = whole_input entries input lines log has fits
sure_of verdict.Clean entries input lines log has fits = whole_input entries input lines log has fits
sure_of verdict.Found entries input lines log has fits = whole_input entries input lines log has fits
sure_of verdict.Unexplained entries input lines log has fits = whole_input entries input lines log has fits
sure_of verdict.Doubtful entries input lines log has fits = tt
sure_of verdict.Undecided entries input lines log has fits = tt
sure_of verdict.Nothing entries input lines log has fits = whole_input entries input lines log has fits
sure_of verdict.Wrong entries input lines log has fits = whole_input entries input lines log has fits

with_totals : (made : Certificate) (input : List ℕ) → GoesWith made verdict.Certified → Shows made input → (totals : Totals) × IsCertifiedInput input totals
with_totals (Certified totals) input goes shows = (totals, shows)
with_totals (Missing why) input goes shows = absurd goes

-- The whole log

judged : (asked : Asked) (name input : List ℕ) (read : ReadLog) (report : Report) (w0 w1 w2 w3 : Option (List ℕ)) → ReadsEntries input read → IsReport asked name read report → Appends w0 w1 [] → Appends w1 w2 report.findings.items → Appends w2 w3 report.summary.items
    → IsJudged asked name input report.verdict w0 w3
judged asked name input read report w0 w1 w2 w3 has is none first wrote = record {
  found = is.found;
  findings = report.findings.items;
  summary = report.summary.items;
  made = is.made;
  prints = is.prints;
  is = is.is;
  fits = is.fits;
  sure = sure_of report.verdict read.entries input has.0 has.1 has.2 is.whole;
  goes = is.goes;
  shows = shows_input read.entries is.made input has.0 is.shows has.1 has.2;
  appends = Appends-trans w0 w1 w3 [] (report.findings.items ++ report.summary.items) none (Appends-trans w1 w2 w3 report.findings.items report.summary.items first wrote);
}

said : (asked : Asked) (name input : List ℕ) (v : Verdict) (before after : Option (List ℕ)) → IsRead name input [] → IsJudged asked name input v before after → Audits asked name input v before after
said asked name input verdict.Certified before after read j = (read, j, with_totals j.made input j.goes j.shows)
said asked name input verdict.Clean before after read j = (read, j)
said asked name input verdict.Found before after read j = (read, j)
said asked name input verdict.Unexplained before after read j = (read, j)
said asked name input verdict.Doubtful before after read j = (read, j)
said asked name input verdict.Undecided before after read j = (read, j)
said asked name input verdict.Nothing before after read j = (read, j)
said asked name input verdict.Wrong before after read j = absurd j.fits

-- The report is written

written : (asked : Asked) (name input : List ℕ) (read : ReadLog) (report : Report) (w0 w1 w2 w3 : Option (List ℕ)) → ReadsLog name input (Some read) w0 w1 → IsReport asked name read report → Appends w1 w2 report.findings.items → Appends w2 w3 report.summary.items
    → Audits asked name input report.verdict w0 w3
written asked name input read report w0 w1 w2 w3 log is first wrote =
    let none : log.0 ≡ [] = log.2.0 refl in
    said asked name input report.verdict w0 w3 (subst (λ (t : List ℕ). IsRead name input t) none log.1)
    (judged asked name input read report w0 w1 w2 w3 log.4 is (subst (λ (t : List ℕ). Appends w0 w1 t) none log.3) first wrote)

pub audited : (r : Option (List ℕ)) (asked : Asked) (name : List ℕ) (found : Option ReadLog) (read : ReadLog) (report : Report) (w0 w1 w2 w3 : Option (List ℕ)) → IfSome r (λ input. ReadsLog name input found w0 w1) → found ≡ Some read → IsReport asked name read report
    → Appends w1 w2 report.findings.items → Appends w2 w3 report.summary.items → IfSome r (λ input. Audits asked name input report.verdict w0 w3)
audited None asked name found read report w0 w1 w2 w3 log some is first wrote = tt
audited (Some input) asked name found read report w0 w1 w2 w3 log some is first wrote =
    written asked name input read report w0 w1 w2 w3 (subst (λ (f : Option ReadLog). ReadsLog name input f w0 w1) some log) is first wrote

some_text : (text : List ℕ) → (text ≡ [] → ⊥) → 0 < length text
some_text [] h = absurd (h refl)
some_text (x ∷ xs) h = omega arith

pub audited_wrong : (r : Option (List ℕ)) (asked : Asked) (name : List ℕ) (found : Option ReadLog) (w0 w1 : Option (List ℕ)) → IfSome r (λ input. ReadsLog name input found w0 w1) → found ≡ None → IfSome r (λ input. Audits asked name input verdict.Wrong w0 w1)
audited_wrong None asked name found w0 w1 read never = tt
audited_wrong (Some input) asked name found w0 w1 read never = (read.0, some_text read.0 (λ none. let e : false ≡ true = subst (λ (f : Option ReadLog). IsSome f) never (read.2.1 none) in cc), read.1, read.3)
