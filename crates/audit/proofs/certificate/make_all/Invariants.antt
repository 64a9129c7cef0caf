use Rattle.kernel_rules.specs.Certified.{IsReached}
use Rattle.kernel_rules.specs.Held.{AreTables}
use Rattle.kernel_rules.specs.Worlds.{place_of}
use Rattle.audit.proofs.certificate.make_all.Given as goal

abbrev pub invariant-loop : goal.invariant-loop
invariant-loop l = AreTables l.world.kernel × IsReached l.entries (place_of l.world)
