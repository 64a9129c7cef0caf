use Rattle.std.proofs.Common.{arith}
use Rattle.precopy.proofs.GuestLemmas.{right_package}
use Rattle.precopy.proofs.source.Source.package.Goals as goal

pub returns-clause-well_formed : goal.returns-clause-well_formed
returns-clause-well_formed c few =
    let count = c.count-count.ensures in
    rw (c.in_ok-areas.ensures, c.in_ok-owed.ensures.copy, c.new-commands.ensures, c.in_ok-commands.ensures)
    (right_package c.self.inside.space c.self.inside.cpus c.args.owed.now c.is_in_order.ensures c.self.invariant.1 (omega (arith, count.count, count.range), omega (arith, count.count, count.range)) few)
