use Rattle.std.proofs.Common.{◌≡◌, take}
use Rattle.mig_base.specs.Flat.{IsFlatRun, memory_of}
use Rattle.mig_model.specs.Host.{memory}
use Rattle.history.specs.Histories.{entries}
use Rattle.history_order.proofs.replay.is_flat.Given as goal

abbrev pub invariant-loop-operation : goal.invariant-loop-operation
invariant-loop-operation l = record { run : IsFlatRun (entries (take l.operation-index l.operations)); memory : memory l.host ≡ memory_of (entries (take l.operation-index l.operations)) }
