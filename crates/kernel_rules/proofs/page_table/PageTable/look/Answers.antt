use Rattle.std.specs.Ordering.{nat_cmp}
use Rattle.std.specs.BTreeMap.{get}
use Rattle.kernel_rules.proofs.PageRuns.{look_is, look_none}
use Rattle.kernel_rules.proofs.page_table.PageTable.look.Goals as goal

pub returns-in-Some : goal.returns-in-Some
returns-in-Some c =
    let here = (c.range.ensures.in_range tt).3 _ _ c.in-Some.ensures.steps in
    let last = (c.range.ensures.in_range tt).4 _ _ c.in-Some.ensures.steps in
    look_is (get nat_cmp c.args.self.now.runs) _ c.args.page _ c.ranges.page.fits here.0.1 here.1 (λ q l s. last q (tt, l) s)

pub returns-in-None : goal.returns-in-None
returns-in-None c = look_none (get nat_cmp c.args.self.now.runs) c.args.page (λ q l. (c.range.ensures.in_range tt).5 c.in-None.ensures.steps.0 q (tt, l))
