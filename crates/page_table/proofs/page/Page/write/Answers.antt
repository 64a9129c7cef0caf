use Rattle.std.proofs.Common.{◌∙◌, ap, sym}
use Rattle.mig_base.proofs.PageSetViews.{on_any_err}
use Rattle.page_table.specs.Bytes.{write_needs_room}
use Rattle.page_table.specs.Contents.{bytes_in}
use Rattle.page_table.proofs.ZeroLemmas.{zeros_need_room}
use Rattle.page_table.proofs.page.Page.write.Goals as goal

pub returns-in_err-self-inside-in-Zeros-clause-needs : goal.returns-in_err-self-inside-in-Zeros-clause-needs
returns-in_err-self-inside-in-Zeros-clause-needs c = on_any_err c.from_residual-in_err-self-inside-in-Zeros.result (ap (λ page. write_needs_room page c.args.bytes.now) (sym c.self.view_is ∙ ap bytes_in c.in-Zeros.is) ∙ zeros_need_room c.args.bytes.now c.in_err-self-inside-in-Zeros.ensures.err)
