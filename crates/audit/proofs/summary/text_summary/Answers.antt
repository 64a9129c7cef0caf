use Rattle.std.proofs.Common.{arith}
use Rattle.std.proofs.lemmas.Grind.{common_steps}
use Rattle.audit.proofs.summary.text_summary.Goals as goal

pub returns : goal.returns
returns c = (c.first_line.result.now, c.first_line.ensures, c.as_bytes-3.result.now, grind (arith, common_steps))
