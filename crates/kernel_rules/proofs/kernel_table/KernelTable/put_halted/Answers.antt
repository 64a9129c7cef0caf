use Rattle.std.proofs.Common.{◌≡◌, ◌∙◌, Option, subst, sym}
use Rattle.std.specs.Prelude.{IfOk}
use Rattle.kernel_rules.specs.Held.{kernel_of}
use Rattle.kernel_rules.specs.State.{Kernel, allowed}
use Rattle.kernel_rules.proofs.Replies.{none_halted, part_halted}
use Rattle.kernel_rules.proofs.kernel_table.KernelTable.put_halted.Goals as goal

pub returns-then-not-is_right_part-clause-step : goal.returns-then-not-is_right_part-clause-step
returns-then-not-is_right_part-clause-step c =
    subst (λ (k : Option Kernel). IfOk c.refuse_while_changing.result (λ made. k ≡ allowed made (kernel_of c.refuse_while_changing.new.self)))
    (sym
    (none_halted (kernel_of c.args.self.now) c.args.key c.args.name c.args.object c.args.start c.args.len c.args.how c.args.bytes (sym c.is_right_part.ensures ∙ c.if-not-is_right_part.true)))
    c.refuse_while_changing.ensures.step

pub returns-clause-step : goal.returns-clause-step
returns-clause-step c =
    subst (λ (k : Option Kernel). IfOk c.put_part.result (λ made. k ≡ allowed made (kernel_of c.put_part.new.self)))
    (sym
    (part_halted (kernel_of c.args.self.now) c.args.key c.args.name c.args.object c.args.start c.args.len c.args.how c.args.bytes c.bytes_or_none-done.result
    (sym c.is_right_part.ensures ∙ c.if-not-is_right_part.false) c.bytes_or_none-done.ensures))
    c.put_part.ensures.step
