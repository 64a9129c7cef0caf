use Rattle.postmig_c.proofs.Statuses.{frame_kept, frame_open, source_takes, source_takes_not}
use Rattle.postmig_c.proofs.source_calls.take_back.Goals as goal

pub returns-clause-made : goal.returns-clause-made
returns-clause-made c zero = source_takes c.args.bytes.now c.args.node.now c.back.new.self c.back.result c.told_of_frame.result c.told_of_frame.new.effect c.back.ensures.taken c.back.ensures.line c.told_of_frame.ensures.made c.told_of_frame.ensures.refused zero

pub returns-clause-refused : goal.returns-clause-refused
returns-clause-refused c other = source_takes_not c.args.bytes.now c.args.node.now.node c.back.result c.told_of_frame.result c.told_of_frame.new.effect c.back.ensures.refused c.told_of_frame.ensures.made c.told_of_frame.ensures.refused other

pub returns-clause-kept : goal.returns-clause-kept
returns-clause-kept c other = frame_kept _ _ _ c.back.result c.told_of_frame.result c.told_of_frame.new.effect c.told_of_frame.ensures.made c.back.ensures.err other

pub returns-clause-open : goal.returns-clause-open
returns-clause-open c = frame_open c.back.result c.told_of_frame.result c.told_of_frame.new.effect c.told_of_frame.ensures.made c.told_of_frame.ensures.refused
