use Rattle.std.proofs.Common.{arith}
use Rattle.std.specs.Ordering.{nat_cmp}
use Rattle.std.specs.BTreeMap.{get}
use Rattle.kernel_rules.proofs.PageRuns.{both, set_last, set_within}
use Rattle.kernel_rules.proofs.page_table.PageTable.set.Goals as goal

pub returns-in_default-clause-set : goal.returns-in_default-clause-set
returns-in_default-clause-set c =
    both c.start.result c.start.ensures.others c.start.ensures.found
    (λ others found. set_last (get nat_cmp c.args.self.now.runs) (get nat_cmp c.start.new.self.runs) c.args.first c.args.count c.args.found c.ranges.first.fits c.requires.room (omega (arith, c.in_default.ensures)) c.requires.same
    others found)

pub returns-clause-set : goal.returns-clause-set
returns-clause-set c =
    both c.start-3.result c.start-3.ensures.others c.start-3.ensures.found
    (λ others found. set_within (get nat_cmp c.args.self.now.runs) (get nat_cmp c.start-2.new.self.runs) (get nat_cmp c.start-3.new.self.runs) c.args.first c.args.count c.in-Some.end c.args.found c.look-next.result
    c.in-Some.ensures.1 (omega (arith, c.in-Some.ensures)) c.requires.some c.requires.same c.in_ok-start.ensures.others c.in_ok-start.ensures.found others c.look-next.ensures found)
