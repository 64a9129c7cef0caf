use Rattle.std.proofs.Common.{rules}
use Rattle.call_log.proofs.Reading.{ran_end, ran_then}
use Rattle.call_log.proofs.input.read_piece.Goals as goal

pub returns-in_ok-take_end-in-Ok-eq0 : goal.returns-in_ok-take_end-in-Ok-eq0
returns-in_ok-take_end-in-Ok-eq0 g c = λ name start before ran.
    ran_end name start _ _ before _ _ c.args.reader.now c.take_end.new.self _ c.read.new.buf ran c.in-Ok-eq0.field-0-test (search rules) c.in-Ok-eq0.ensures.bytes c.in_ok-take_end-in-Ok-eq0.ensures

pub returns-in_ok-take_piece-in-Ok : goal.returns-in_ok-take_piece-in-Ok
returns-in_ok-take_piece-in-Ok g c = λ name start before ran.
    ran_then name start _ _ before _ _ c.args.reader.now c.take_piece.new.self _ ran c.in-Ok.ensures.bytes.0 c.in_ok-take_piece-in-Ok.ensures
