use Rattle.std.proofs.Common.{◌∙◌, sym}
use Rattle.kernel_rules.specs.Held.{kernel_of}
use Rattle.kernel_rules.proofs.Moved.{mremapped_is}
use Rattle.kernel_rules.proofs.kernel_table.KernelTable.mremaps.Goals as goal

pub returns-in_ok-moves-in-Value-clause-step : goal.returns-in_ok-moves-in-Value-clause-step
returns-in_ok-moves-in-Value-clause-step c =
    mremapped_is (kernel_of c.args.self.now) (kernel_of c.moves.new.self) c.args.key c.args.space c.args.addr c.args.old_len c.args.new_len c.args.flags c.in-Value.target c.args.answer c.in-Value.is
    (rw c.pages_of-count.ensures.value at (sym c.is_mappable.ensures ∙ c.if-not-is_mappable.false))
    (rw c.pages_of-new_count.ensures.value at (sym c.is_mappable-else-not-is_mappable.ensures ∙ c.if-not-is_mappable-2.false))
    (rw (c.pages_of-count.ensures.value, c.pages_of-new_count.ensures.value, c.has_bit.ensures) at c.in_ok-moves-in-Value.ensures.moved)
