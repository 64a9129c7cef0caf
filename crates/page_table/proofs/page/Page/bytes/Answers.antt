use Rattle.std.proofs.Common.{◌∙◌, sym, ap, Some}
use Rattle.page_table.specs.Contents.{bytes_in}
use Rattle.page_table.proofs.page.Page.bytes.Goals as goal

pub returns-in-Zeros : goal.returns-in-Zeros
returns-in-Zeros c = ap Some c.zero_bytes.ensures ∙ sym (ap bytes_in c.in-Zeros.is) ∙ c.self.view_is
