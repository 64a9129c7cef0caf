use Rattle.std.proofs.Common.{◌≡◌, true, sym, subst}
use Rattle.precopy.proofs.GuestLemmas.{bare_guest}
use Rattle.precopy.proofs.RecoveryLemmas.{released_order}
use Rattle.precopy.proofs.source.Source.release.Goals as goal

pub invariant_of-self : goal.invariant_of-self
invariant_of-self c = (
  rw (c.new-3.ensures, c.new-4.ensures) (released_order c.self.inside.switched (subst (λ node. node.switched ≡ true) (sym c.self.view_is) c.requires)),
  rw c.new-3.ensures (bare_guest c.self.inside.cpus c.self.invariant.1.right),
)
