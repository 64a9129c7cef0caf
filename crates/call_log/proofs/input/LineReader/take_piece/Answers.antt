use Rattle.std.proofs.lemmas.Result.{on_ok_weaker}
use Rattle.call_log.proofs.Reading.{leads_written}
use Rattle.call_log.proofs.input.LineReader.take_piece.Goals as goal

pub returns : goal.returns
returns g c = on_ok_weaker c.write.result (leads_written c.args.self.now c.feed.new.self c.write.new.self c.args.piece.now _ _ c.in_ok-feed.ensures) c.write.ensures
