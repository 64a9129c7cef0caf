use Rattle.std.proofs.Common.{◌∙◌, ◌+◌, ◌++◌, ap}
use Rattle.kernel_rules.specs.Held.{kernel_of}
use Rattle.kernel_rules.specs.MapCalls.{grown_page, with_number}
use Rattle.kernel_rules.proofs.Moved.{leavings_more, leavings_none}
use Rattle.kernel_rules.proofs.kernel_table.KernelTable.leavings.Goals as goal

pub loop-i-init : goal.loop-i-init
loop-i-init c = c.new-pages.ensures.items ∙ leavings_none (kernel_of c.args.self.now) c.args.space c.args.from

pub loop-i-preserved : goal.loop-i-preserved
loop-i-preserved c =
    leavings_more (kernel_of c.args.self.now) c.args.space c.args.from c.loop-i.i c.loop-i.pages.items c.add_number.new.pages.items c.loop-i.invariant
    (c.in_ok-add_number.ensures ∙ ap (λ p. c.loop-i.pages.items ++ with_number (c.args.from + c.loop-i.i) p) (c.grown.ensures ∙ ap grown_page c.page.ensures))
