use Rattle.std.proofs.Common.{sym}
use Rattle.std.specs.Ordering.{nat_cmp}
use Rattle.std.specs.BTreeMap.{get}
use Rattle.kernel_rules.proofs.PageRuns.{look_none}
use Rattle.kernel_rules.proofs.page_table.PageTable.new.Goals as goal

pub returns-clause-none : goal.returns-clause-none
returns-clause-none c = λ n. sym (look_none (get nat_cmp c.new.result) n (λ q l. search))
