use Rattle.postmig_c.proofs.Statuses.{frame_kept_but, frame_open, destination_left, destination_takes, destination_takes_not}
use Rattle.postmig_c.proofs.destination_calls.take_forward.Goals as goal

pub returns-clause-made : goal.returns-clause-made
returns-clause-made c zero = destination_takes c.args.bytes.now c.args.node.now c.take.new.self c.take.result c.told_of_frame.result c.told_of_frame.new.effect c.take.ensures.taken c.take.ensures.line c.told_of_frame.ensures.made c.told_of_frame.ensures.refused zero

pub returns-clause-kept : goal.returns-clause-kept
returns-clause-kept c other lack = frame_kept_but _ _ _ c.take.result c.told_of_frame.result c.told_of_frame.new.effect c.told_of_frame.ensures.made c.told_of_frame.ensures.refused c.take.ensures.err other lack

pub returns-clause-open : goal.returns-clause-open
returns-clause-open c = frame_open c.take.result c.told_of_frame.result c.told_of_frame.new.effect c.told_of_frame.ensures.made c.told_of_frame.ensures.refused

pub returns-clause-refused : goal.returns-clause-refused
returns-clause-refused c other = destination_takes_not c.args.bytes.now c.args.node.now.node c.take.result c.told_of_frame.result c.told_of_frame.new.effect c.take.ensures.refused c.told_of_frame.ensures.made c.told_of_frame.ensures.refused other

pub returns-clause-left : goal.returns-clause-left
returns-clause-left c other = destination_left c.args.bytes.now c.args.node.now c.take.new.self c.take.result c.told_of_frame.result c.told_of_frame.new.effect c.take.ensures.left c.take.ensures.no_line c.told_of_frame.ensures.made other
