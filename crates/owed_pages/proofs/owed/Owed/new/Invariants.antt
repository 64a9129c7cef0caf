use Rattle.mig_base.proofs.Taken.{IsPart, taken}
use Rattle.owed_pages.proofs.OwedLemmas.{AreOwn}
use Rattle.owed_pages.proofs.owed.Owed.new.Given as goal

abbrev pub invariant-loop-page : goal.invariant-loop-page
invariant-loop-page l = record { part : IsPart l.pages l.page-iterator; own : AreOwn l.links.forth.items (taken l.pages l.page-iterator) }
