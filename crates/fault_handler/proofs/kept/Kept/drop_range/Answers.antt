use Rattle.fault_handler.proofs.KeptLemmas.{kept_dropped}
use Rattle.fault_handler.proofs.kept.Kept.drop_range.Goals as goal

pub invariant_of-self : goal.invariant_of-self
invariant_of-self c =
    kept_dropped c.self.inside.pages c.drop_range.new.self c.self.inside.set c.remove_range.new.self c.args.first c.args.count c.self.invariant c.remove_range.ensures c.drop_range.ensures.bytes c.drop_range.ensures.protected
