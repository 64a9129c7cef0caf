use Rattle.std.proofs.Common.{◌∙◌, sym}
use Rattle.log_entries.proofs.Same.{made_same}
use Rattle.log_entries.proofs.tables.is_same.Goals as goal

pub returns : goal.returns
returns c = λ h. made_same c.args.one c.args.other (sym c.eq.ensures ∙ h)
