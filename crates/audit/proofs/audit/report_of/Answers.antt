use Rattle.std.proofs.Common.{◌∙◌, Bool, ap, subst, sym}
use Rattle.log_entries.specs.declared.entry_reader.EntryReader.{EntryReader}
use Rattle.log_entries.specs.Readers.{HasRead}
use Rattle.audit.specs.Verdicts.{FitsLog}
use Rattle.audit.proofs.Certificates.{certificate_before}
use Rattle.audit.proofs.Verdicts.{certified_fits, certified_goes, certified_whole}
use Rattle.audit.proofs.audit.report_of.Goals as goal

pub returns-clause-report : goal.returns-clause-report
returns-clause-report c = record {
  found = _;
  made = _;
  prints = rw c.deref-2.ensures.value at c.in_ok-findings.ensures;
  is = c.in_ok-summary.ensures;
  fits = certified_fits _ _ _ _ c.certified_verdict-verdict.ensures (rw c.deref-3.ensures.value at (rw c.any_fails.ensures at c.verdict_of-judgement.ensures.verdict));
  whole =
      subst (λ (b : Bool). FitsLog c.certified_verdict-verdict.result b) (ap (λ (r : EntryReader). r.whole) c.deref.ensures ∙ c.in_ok-log.ensures.whole)
      (certified_whole _ _ _ _ c.certified_verdict-verdict.ensures c.verdict_of-judgement.ensures.log);
  goes = certified_goes _ _ _ _ c.certified_verdict-verdict.ensures c.verdict_of-judgement.ensures.plain c.verdict_of-judgement.ensures.work c.in_ok-certificate.ensures.work;
  shows = certificate_before c.args.read.entries c.deref-5.result.now _ (λ lines has. subst (λ (r : EntryReader). HasRead lines r) (sym c.deref-5.ensures) (c.in_ok-log.ensures.read lines has)) c.in_ok-certificate.ensures.is;
}
