use Rattle.mig_model.specs.Space.{called}
use Rattle.uffd_ioctl.proofs.LentLemmas.{call_lent}
use Rattle.guest_tests.proofs.LentLemmas.{either_lent}
use Rattle.guest_tests.proofs.dirty_logs.map_call.Goals as goal

pub returns : goal.returns
returns c =
    let space = c.args.space.now in
    either_lent c.map_call.result space (called space c.args.cpu c.args.command) c.map_call.new.self c.map_call.ensures.space c.map_call.ensures.err (call_lent space c.args.cpu c.args.command c.is_in_order.ensures c.requires.lent) c.requires.lent
