use Rattle.std.proofs.Common.{◌∙◌, sym, ap, arith}
use Rattle.page_table.proofs.TableLemmas.{past_places, whole_cell}
use Rattle.page_table.proofs.ViewLemmas.{bytes_seen}
use Rattle.page_table.proofs.page_table.PageTable.has_whole_pages.Goals as goal

pub returns-clause-whole : goal.returns-clause-whole
returns-clause-whole c = λ q bytes present. whole_cell c.self.inside.places.items q bytes (bytes_seen c.self.inside.places.items c.args.self.now q c.self.invariant.few c.self.view_is ∙ present)

pub returns-clause-inside : goal.returns-clause-inside
returns-clause-inside c = λ q past. sym (bytes_seen c.self.inside.places.items c.args.self.now q c.self.invariant.few c.self.view_is) ∙ ap (λ x. x.0) (past_places c.self.inside.places.items q (omega (arith, past, c.self.invariant.few)))
