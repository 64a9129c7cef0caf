use Rattle.std.proofs.Common.{◌∙◌, ap}
use Rattle.std.specs.Ordering.{nat_cmp}
use Rattle.std.specs.FinSet.{contains, contains-empty}
use Rattle.page_table.proofs.leaf.Leaf.new.Goals as goal

pub returns : goal.returns
returns c = λ i k. (c.in_ok-missing_pages.ensures.1 i k, (ap (λ s. contains s i) c.new.ensures ∙ contains-empty nat_cmp i) k)
