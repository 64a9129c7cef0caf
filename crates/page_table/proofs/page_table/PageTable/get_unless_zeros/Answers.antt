use Rattle.std.proofs.Common.{◌∙◌, ap}
use Rattle.page_table.specs.Bytes.{unless_zeros}
use Rattle.page_table.proofs.ViewLemmas.{bytes_seen}
use Rattle.page_table.proofs.page_table.PageTable.get_unless_zeros.Goals as goal

pub returns : goal.returns
returns c = c.bytes_unless_zeros_at.ensures ∙ ap unless_zeros (bytes_seen c.self.inside.places.items c.args.self.now c.args.page c.self.invariant.few c.self.view_is)
