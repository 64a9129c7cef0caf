use Rattle.std.proofs.Common.{◌∙◌, ◌+◌, sym, ap, false, arith}
use Rattle.std.specs.Prelude.{not}
use Rattle.foundation.proofs.RangeLemmas.{none_below-from, none_below-not}
use Rattle.kernel_rules.specs.State.{page_is}
use Rattle.kernel_rules.specs.Tests.{passes}
use Rattle.kernel_rules.specs.Held.{kernel_of}
use Rattle.kernel_rules.proofs.PageRuns.{so_more}
use Rattle.kernel_rules.proofs.kernel_table.KernelTable.some_page.Goals as goal

pub returns-then-page_passes : goal.returns-then-page_passes
returns-then-page_passes c =
    sym (ap not (none_below-not (λ i. not (not (page_is (passes c.args.test) ((kernel_of c.args.self.now).pages c.args.space (c.args.first + i))))) c.args.count c.loop-done.done c.loop-done-test.true
    (ap (λ b. not (not b)) (sym c.page_passes.ensures ∙ c.if-page_passes.true))))

pub returns : goal.returns
returns c =
    sym (ap not (none_below-from (λ i. not (not (page_is (passes c.args.test) ((kernel_of c.args.self.now).pages c.args.space (c.args.first + i))))) c.args.count
    (λ i l. ap (λ b. not (not b)) (c.loop-done.invariant.1 i (omega (arith, l, c.loop-done-test.false))))))

pub loop-done-preserved : goal.loop-done-preserved
loop-done-preserved c = (
  omega (arith, c.run-done.ensures.within, c.loop-done-test.true),
  so_more (λ n. (kernel_of c.args.self.now).pages c.args.space n) (page_is (passes c.args.test)) c.args.first c.loop-done.done c.run-done.result false c.loop-done.invariant.1
      (sym c.page_passes.ensures ∙ c.if-page_passes.false) c.run-done.ensures.same,
)
