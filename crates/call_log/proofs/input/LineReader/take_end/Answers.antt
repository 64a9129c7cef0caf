use Rattle.std.proofs.lemmas.Result.{on_ok_weaker}
use Rattle.call_log.proofs.Reading.{completes}
use Rattle.call_log.proofs.input.LineReader.take_end.Goals as goal

pub returns : goal.returns
returns g c = on_ok_weaker c.write.result (completes c.args.self.now c.finish.new.self c.write.new.self _ _ c.in_ok-finish.ensures) c.write.ensures
