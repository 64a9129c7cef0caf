use Rattle.std.proofs.Common.{refl}
use Rattle.audit.proofs.Certificates.{certificate, needs_work}
use Rattle.audit.proofs.certificate.certificate_of.Goals as goal

pub returns : goal.returns
returns c = record {
  is = certificate c.args.entries.now _ c.in_ok-found.found c.totals_of-wanted.result c.decide.result c.decide.ensures (rw c.in_default.is at c.missing_of.ensures.whole) refl c.in_ok-found.ensures.run;
  work = needs_work _ _ (rw c.in_default.is at c.missing_of.ensures.work);
}
