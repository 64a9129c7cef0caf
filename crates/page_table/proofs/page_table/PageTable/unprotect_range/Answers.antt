use Rattle.std.proofs.Common.{◌≤◌, length, arith}
use Rattle.page_table.proofs.OpenedLemmas.{opened_bytes, opened_flags, opened_table}
use Rattle.page_table.proofs.page_table.PageTable.unprotect_range.Goals as goal

pub invariant_of-self : goal.invariant_of-self
invariant_of-self c = opened_table c.self.inside.places.items c.unprotect_cells.new.places.items c.args.first c.args.count c.self.invariant c.unprotect_cells.ensures.size c.unprotect_cells.ensures.opened

pub returns-clause-bytes : goal.returns-clause-bytes
returns-clause-bytes c =
    let still : length c.unprotect_cells.new.places.items ≤ 1024 = omega (arith, c.unprotect_cells.ensures.size, c.self.invariant.few) in
    opened_bytes c.self.inside.places.items c.unprotect_cells.new.places.items c.args.self.now c.args.first c.args.count c.self.invariant.few still c.self.view_is c.unprotect_cells.ensures.opened

pub returns-clause-protected : goal.returns-clause-protected
returns-clause-protected c =
    let still : length c.unprotect_cells.new.places.items ≤ 1024 = omega (arith, c.unprotect_cells.ensures.size, c.self.invariant.few) in
    opened_flags c.self.inside.places.items c.unprotect_cells.new.places.items c.args.self.now c.args.first c.args.count c.self.invariant.few still c.self.view_is c.unprotect_cells.ensures.opened
