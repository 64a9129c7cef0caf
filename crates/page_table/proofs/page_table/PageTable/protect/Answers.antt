use Rattle.std.proofs.Common.{◌≡◌, ◌≤◌, ◌∙◌, true, is_some, length, arith}
use Rattle.page_table.specs.Leaves.{cell_at}
use Rattle.page_table.proofs.ViewLemmas.{place_of_cell, present_seen, flagged_bytes, protected_flags, flagged_table}
use Rattle.page_table.proofs.page_table.PageTable.protect.Goals as goal

pub protect_at-requires : goal.protect_at-requires
protect_at-requires c = place_of_cell c.self.inside.places.items c.args.page (present_seen c.self.inside.places.items c.args.self.now c.args.page c.self.invariant.few c.self.view_is ∙ c.requires)

pub invariant_of-self : goal.invariant_of-self
invariant_of-self c =
    let some : is_some (cell_at c.self.inside.places.items c.args.page).0 ≡ true = present_seen c.self.inside.places.items c.args.self.now c.args.page c.self.invariant.few c.self.view_is ∙ c.requires in
    flagged_table c.self.inside.places.items c.protect_at.new.places.items c.args.page true c.self.invariant c.protect_at.ensures.size some c.protect_at.ensures.put

pub returns-clause-bytes : goal.returns-clause-bytes
returns-clause-bytes c =
    let still : length c.protect_at.new.places.items ≤ 1024 = omega (arith, c.protect_at.ensures.size, c.self.invariant.few) in
    flagged_bytes c.self.inside.places.items c.protect_at.new.places.items c.args.self.now c.args.page true c.self.invariant.few still c.self.view_is c.protect_at.ensures.put

pub returns-clause-protected : goal.returns-clause-protected
returns-clause-protected c =
    let still : length c.protect_at.new.places.items ≤ 1024 = omega (arith, c.protect_at.ensures.size, c.self.invariant.few) in
    protected_flags c.self.inside.places.items c.protect_at.new.places.items c.args.self.now c.args.page c.self.invariant.few still c.self.view_is c.protect_at.ensures.put
