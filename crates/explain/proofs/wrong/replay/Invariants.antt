use Rattle.std.proofs.Common.{◌≡◌, take}
use Rattle.mig_base.specs.Flat.{no_memory, memory_of}
use Rattle.mig_model.specs.Host.{memory}
use Rattle.explain.specs.Explaining.{AreWrong}
use Rattle.explain.proofs.wrong.replay.Given as goal

abbrev pub invariant-loop-index : goal.invariant-loop-index
invariant-loop-index l = record { are : AreWrong no_memory 0 (take l.index l.entries) l.wrongs.items; memory : memory l.host ≡ memory_of (take l.index l.entries) }
