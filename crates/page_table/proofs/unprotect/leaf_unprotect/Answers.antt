use Rattle.std.proofs.Common.{◌∙◌, ap, None, get_or}
use Rattle.std.specs.FinSet.{contains}
use Rattle.mig_base.proofs.SetLemmas.{member_without}
use Rattle.page_table.proofs.unprotect.leaf_unprotect.Goals as goal

pub returns : goal.returns
returns c = λ j.
    let flag = ap (λ s. contains s j) c.remove_range.ensures ∙ member_without c.args.leaf.now.protected c.args.first c.args.count j in
    λ i. (get_or c.args.leaf.now.pages.items j None, flag i)
