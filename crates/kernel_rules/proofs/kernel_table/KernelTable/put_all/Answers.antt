use Rattle.std.proofs.Common.{◌∙◌, sym}
use Rattle.kernel_rules.specs.Held.{kernel_of}
use Rattle.kernel_rules.proofs.Replies.{all_put}
use Rattle.kernel_rules.proofs.kernel_table.KernelTable.put_all.Goals as goal

pub returns-clause-step : goal.returns-clause-step
returns-clause-step c =
    all_put (kernel_of c.args.self.now) (kernel_of c.put_in.new.self) c.args.name c.args.object c.args.start c.args.len c.args.how c.args.bytes c.if-bytes-len.false
    (sym c.is_right.ensures ∙ c.if-not-is_right.false) (sym c.is_changing.ensures ∙ c.if-is_changing.false) (sym c.each_page.ensures ∙ c.if-not-each_page.false) c.in_ok-put_in.ensures.put
