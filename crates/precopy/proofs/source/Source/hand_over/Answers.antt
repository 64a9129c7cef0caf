use Rattle.std.proofs.Common.{refl, rules}
use Rattle.precopy.proofs.GuestLemmas.{few_dirty}
use Rattle.precopy.proofs.source.Source.hand_over.Goals as goal

pub returns : goal.returns
returns c = record {
  discarded = search rules;
  pages = search rules;
  owed = rw (← c.self.view_is) c.in_ok-owed.ensures;
  well_formed = c.in_ok-package.ensures.well_formed (rw c.in_ok-owed.ensures (few_dirty c.self.inside.space c.self.inside.cpus c.self.inside.log c.is_in_order.ensures c.self.invariant.1));
  frame = rw (c.in_ok-package.ensures.frame, c.in_ok-owed.ensures, ← c.self.view_is) refl;
}
