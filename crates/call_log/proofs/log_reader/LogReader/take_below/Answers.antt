use Rattle.std.proofs.Common.{ap, string_bytes}
use Rattle.std.proofs.lemmas.Result.{on_ok_weaker}
use Rattle.call_log.specs.declared.log_reader.LogReader.{LogReader}
use Rattle.call_log.proofs.Lines.{takes_below}
use Rattle.call_log.proofs.log_reader.LogReader.take_below.Goals as goal

pub returns : goal.returns
returns c =
    let same = c.enter.ensures.same in
    on_ok_weaker c.list_any.result
    (λ a.
    takes_below c.args.self.now _ c.list_any.new.self c.args.bytes.now _ _
    (record {
      line = ap (λ (r : LogReader). r.line) same;
      name = ap (λ (r : LogReader). string_bytes r.name) same;
      output = ap (λ (r : LogReader). r.output.items) same;
      right = ap (λ (r : LogReader). r.is_right) same;
    })
    (ap (λ (r : LogReader). r.head) same) c.in_ok-enter.ensures.read c.requires c.in_ok-line.ensures.found c.in_ok-wrong.ensures a)
    c.list_any.ensures
