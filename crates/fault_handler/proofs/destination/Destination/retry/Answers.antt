use Rattle.fault_handler.proofs.CommandLemmas.{retry_kept}
use Rattle.fault_handler.proofs.destination.Destination.retry.Goals as goal

pub invariant_of-self : goal.invariant_of-self
invariant_of-self c =
    (retry_kept c.retry.result c.self.inside.has_run (record { space = c.self.inside.space; cpus = c.self.inside.cpus }) (record { space = c.retry.new.space; cpus = c.retry.new.cpus }) c.self.inside.owed c.args.cpu c.is_in_order.ensures c.retry.ensures.made c.retry.ensures.err c.self.invariant.0, c.self.invariant.1)
