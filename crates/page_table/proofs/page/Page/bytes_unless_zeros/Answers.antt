use Rattle.std.proofs.Common.{◌∙◌, sym, ap}
use Rattle.page_table.specs.Bytes.{unless_zeros}
use Rattle.page_table.specs.Contents.{bytes_in}
use Rattle.page_table.proofs.ZeroLemmas.{none_of_zeros}
use Rattle.page_table.proofs.page.Page.bytes_unless_zeros.Goals as goal

pub returns-in-Zeros : goal.returns-in-Zeros
returns-in-Zeros c = sym none_of_zeros ∙ ap unless_zeros (sym (ap bytes_in c.in-Zeros.is) ∙ c.self.view_is)
