use Rattle.kernel_rules.proofs.Spaces.{kernel_put}
use Rattle.kernel_rules.proofs.kernel_table.KernelTable.change.Goals as goal

pub returns-clause-changed : goal.returns-clause-changed
returns-clause-changed c =
    kernel_put c.args.self.now c.take_pages-pages.new.self c.put_pages.new.self c.args.space c.args.first c.args.count c.args.change c.take_pages-pages.result c.change.new.self
    c.take_pages-pages.ensures.same c.put_pages.ensures.same c.take_pages-pages.ensures.pages c.take_pages-pages.ensures.others c.in_ok-change.ensures.ok c.in_ok-put_pages.ensures.put
