use Rattle.userfault.proofs.OpenLemmas.{is_opened}
use Rattle.memory_tests.proofs.userfaults.open_and_move.Goals as goal

pub move_to_open-requires-clause-open : goal.move_to_open-requires-clause-open
move_to_open-requires-clause-open g c = is_opened c.open_range.new.self c.args.object.now c.args.to c.args.count c.in_ok-open_range.ensures.ok
