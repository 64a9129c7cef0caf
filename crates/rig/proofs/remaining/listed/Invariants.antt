use Rattle.mig_base.proofs.Taken.{IsPart, taken}
use Rattle.rig.proofs.RemainingLemmas.{AreListed}
use Rattle.rig.proofs.remaining.listed.Given as goal

abbrev pub invariant-loop-page : goal.invariant-loop-page
invariant-loop-page l = record { part : IsPart l.set l.page-iterator; listed : AreListed (taken l.set l.page-iterator) l.pages.items }
