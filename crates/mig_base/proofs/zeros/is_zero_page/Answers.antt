use Rattle.std.proofs.Common.{◌∙◌}
use Rattle.mig_base.proofs.ZeroLemmas.{equals_page}
use Rattle.mig_base.proofs.zeros.is_zero_page.Goals as goal

pub returns-then-page-eq0 : goal.returns-then-page-eq0
returns-then-page-eq0 c = c.eq.ensures ∙ equals_page c.args.page.now 4096 c.told-page
