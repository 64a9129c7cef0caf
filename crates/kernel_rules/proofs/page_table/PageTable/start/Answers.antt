use Rattle.std.proofs.Common.{sym, ◌∙◌}
use Rattle.std.specs.Ordering.{nat_cmp}
use Rattle.std.specs.BTreeMap.{get}
use Rattle.kernel_rules.proofs.PageRuns.{start_joined, start_put}
use Rattle.kernel_rules.proofs.page_table.PageTable.start.Goals as goal

pub returns-then-are_same-clause-found : goal.returns-then-are_same-clause-found
returns-then-are_same-clause-found c =
    start_joined (get nat_cmp c.args.self.now.runs) (get nat_cmp c.remove.new.self) c.args.page c.args.found c.if-page-gt0.true c.ranges.page.fits c.remove.ensures.updates.1 c.remove.ensures.updates.2
    (sym c.look.ensures ∙ c.if-are_same.ensures)

pub returns-in-Ok-clause-found : goal.returns-in-Ok-clause-found
returns-in-Ok-clause-found c = start_put (get nat_cmp c.insert.new.self) c.args.page c.args.found c.ranges.page.fits c.in-Ok.ensures.updates.1
