use Rattle.std.proofs.Common.{◌≡◌, take}
use Rattle.mig_base.specs.Flat.{IsFlatRun, memory_of}
use Rattle.mig_model.specs.Host.{memory}
use Rattle.report.proofs.check.replay.Given as goal

abbrev pub invariant-loop-index : goal.invariant-loop-index
invariant-loop-index l = record { run : IsFlatRun (take l.index l.entries); memory : memory l.host ≡ memory_of (take l.index l.entries) }
