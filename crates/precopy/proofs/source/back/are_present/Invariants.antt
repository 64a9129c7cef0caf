use Rattle.std.proofs.Common.{◌≡◌, ℕ, true}
use Rattle.mig_base.proofs.Taken.{IsPart, taken}
use Rattle.mig_model.specs.Guest.{is_present}
use Rattle.precopy.proofs.source.back.are_present.Given as goal

abbrev pub invariant-loop-page : goal.invariant-loop-page
invariant-loop-page l = record {
  part : IsPart l.pages l.page-iterator;
  all : (q : ℕ) → taken l.pages l.page-iterator q ≡ true → is_present l.space q ≡ true;
}
