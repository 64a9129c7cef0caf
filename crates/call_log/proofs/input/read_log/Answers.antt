use Rattle.call_log.proofs.Reading.{found_log}
use Rattle.call_log.proofs.input.read_log.Goals as goal

pub returns : goal.returns
returns g c =
    found_log _ c.read_lines.new.reader c.into_log.result _ _ _ c.into_log.ensures.found c.into_log.ensures.entries
    (c.in_ok-read_lines.ensures c.args.name.now (c.in_ok-reader.ensures _))
