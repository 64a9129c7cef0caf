use Rattle.postmig_c.proofs.Statuses.{frame_kept, frame_open, destination_takes_not_urgently, destination_takes_urgently}
use Rattle.postmig_c.proofs.destination_calls.take_aside.Goals as goal

pub returns-clause-made : goal.returns-clause-made
returns-clause-made c zero = destination_takes_urgently c.args.bytes.now c.args.node.now c.take_urgent.new.self c.take_urgent.result c.told_of_frame.result c.told_of_frame.new.effect c.take_urgent.ensures.taken c.take_urgent.ensures.line c.told_of_frame.ensures.made c.told_of_frame.ensures.refused zero

pub returns-clause-kept : goal.returns-clause-kept
returns-clause-kept c other = frame_kept _ _ _ c.take_urgent.result c.told_of_frame.result c.told_of_frame.new.effect c.told_of_frame.ensures.made c.take_urgent.ensures.err other

pub returns-clause-open : goal.returns-clause-open
returns-clause-open c = frame_open c.take_urgent.result c.told_of_frame.result c.told_of_frame.new.effect c.told_of_frame.ensures.made c.told_of_frame.ensures.refused

pub returns-clause-refused : goal.returns-clause-refused
returns-clause-refused c other =
    destination_takes_not_urgently c.args.bytes.now c.args.node.now.node c.take_urgent.result c.told_of_frame.result c.told_of_frame.new.effect c.take_urgent.ensures.refused c.told_of_frame.ensures.made c.told_of_frame.ensures.refused other
