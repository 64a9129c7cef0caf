use Rattle.std.proofs.Common.{◌∙◌, sym, ap, Some}
use Rattle.page_table.proofs.ZeroLemmas.{zeros_over}
use Rattle.page_table.proofs.page.written.Goals as goal

pub returns-then-are_zeros-clause-ok : goal.returns-then-are_zeros-clause-ok
returns-then-are_zeros-clause-ok c = ap Some (sym (zeros_over c.args.offset c.args.bytes.now c.requires (sym c.are_zeros.ensures ∙ c.if-are_zeros.true)))
