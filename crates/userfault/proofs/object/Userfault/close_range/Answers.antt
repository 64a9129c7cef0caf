use Rattle.std.proofs.Common.{◌∙◌}
use Rattle.userfault.proofs.OpenLemmas.{closed}
use Rattle.userfault.proofs.object.Userfault.close_range.Goals as goal

pub returns : goal.returns
returns c = λ before is had. closed _ before c.args.modes.now c.remove_unless_in.new.set c.remove_unless_in-2.new.set c.args.first c.args.count (c.self.view_is ∙ is) had c.remove_unless_in.ensures c.remove_unless_in-2.ensures
