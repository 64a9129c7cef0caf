use Rattle.std.proofs.Common.{◌∙◌, ap, arith}
use Rattle.std.specs.Ordering.{nat_cmp}
use Rattle.std.specs.FinSet.{contains, contains-empty}
use Rattle.userfault.proofs.ModeLemmas.{part_none}
use Rattle.userfault.proofs.modes.part_of.Goals as goal

pub loop-at-init : goal.loop-at-init
loop-at-init c = record {
  range = (omega arith, omega arith);
  part = λ q. ap (λ s. contains s q) c.new-part.ensures ∙ contains-empty nat_cmp q ∙ part_none c.args.first q (contains c.args.set.now q);
}
