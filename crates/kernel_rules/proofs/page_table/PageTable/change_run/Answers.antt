use Rattle.std.proofs.Common.{◌∙◌, ap, arith}
use Rattle.kernel_rules.specs.Changes.{changed}
use Rattle.std.specs.Ordering.{nat_cmp}
use Rattle.std.specs.BTreeMap.{get}
use Rattle.kernel_rules.specs.Tables.{pages_of}
use Rattle.kernel_rules.proofs.PageRuns.{same_until, set_changed}
use Rattle.kernel_rules.proofs.page_table.PageTable.change_run.Goals as goal

pub returns-clause-changed : goal.returns-clause-changed
returns-clause-changed c =
    set_changed (pages_of c.args.self.now) (pages_of c.set.new.self) c.args.first c.run-count.result c.apply.result c.args.change (c.apply.ensures ∙ ap (changed c.args.change) c.look-found.ensures)
    (λ n from to. same_until (get nat_cmp c.args.self.now.runs) c.args.first c.run-count.result n (omega (arith, c.requires.room, c.run-count.ensures.within)) c.run-count.ensures.none from to) c.in_ok-set.ensures.set
