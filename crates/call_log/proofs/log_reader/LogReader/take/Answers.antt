use Rattle.std.proofs.lemmas.Result.{on_ok_weaker}
use Rattle.call_log.proofs.Lines.{takes_after}
use Rattle.call_log.proofs.log_reader.LogReader.take.Goals as goal

pub returns : goal.returns
returns c =
    let l = c.in_ok-list.ensures in
    let a = l.1 in
    on_ok_weaker c.take_below-2.result
    (λ t. takes_after c.args.self.now _ c.take_below-2.new.self c.args.bytes.now l.0 (record { listed = a.listed; output = a.output; right = a.right; name = a.name; line = a.line }) c.in-Some.ensures.some.0 c.end.ensures t)
    c.take_below-2.ensures
