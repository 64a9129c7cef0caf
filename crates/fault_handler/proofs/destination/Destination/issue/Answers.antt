use Rattle.fault_handler.proofs.CommandLemmas.{issue_kept}
use Rattle.fault_handler.proofs.destination.Destination.issue.Goals as goal

pub invariant_of-self : goal.invariant_of-self
invariant_of-self c =
    (issue_kept c.issue.result c.self.inside.has_run (record { space = c.self.inside.space; cpus = c.self.inside.cpus }) (record { space = c.issue.new.space; cpus = c.issue.new.cpus }) c.self.inside.owed c.args.cpu c.args.command c.is_in_order.ensures c.issue.ensures.made c.issue.ensures.err c.self.invariant.0, c.self.invariant.1)
