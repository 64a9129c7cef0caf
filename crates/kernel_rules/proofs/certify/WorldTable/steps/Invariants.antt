use Rattle.std.proofs.Common.{◌≡◌, drop}
use Rattle.std.specs.Prelude.{map}
use Rattle.kernel_rules.specs.Certified.{moved_all}
use Rattle.kernel_rules.specs.Held.{AreTables}
use Rattle.kernel_rules.specs.Runs.{event_of}
use Rattle.kernel_rules.specs.Worlds.{place_of}
use Rattle.kernel_rules.proofs.certify.WorldTable.steps.Given as goal

abbrev pub invariant-loop-step : goal.invariant-loop-step
invariant-loop-step l = AreTables l.self.kernel × (moved_all (map event_of l.log) (place_of l.self) (drop l.step-index l.run) ≡ moved_all (map event_of l.log) (place_of l.fn.self) l.run)
