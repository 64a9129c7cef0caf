use Rattle.std.proofs.Common.{◌∙◌, sym}
use Rattle.kernel_rules.specs.Held.{kernel_of}
use Rattle.kernel_rules.proofs.Replies.{unregistered_is}
use Rattle.kernel_rules.proofs.kernel_table.KernelTable.unregister.Goals as goal

pub returns-in_ok-wake-in-Done-clause-step : goal.returns-in_ok-wake-in-Done-clause-step
returns-in_ok-wake-in-Done-clause-step c =
    unregistered_is (kernel_of c.args.self.now) (kernel_of c.unregister_in.new.self) (kernel_of c.wake.new.self) c.args.name c.args.object c.args.start c.args.len c.args.answer c.in-Done.is (sym c.is_enabled.ensures ∙ c.if-not-is_enabled.false) (sym c.is_range.ensures ∙ c.if-not-is_range.false)
    c.in_ok-unregister_in-in-Done.ensures.ended c.in_ok-wake-in-Done.ensures.woken
