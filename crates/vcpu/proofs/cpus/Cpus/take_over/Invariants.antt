use Rattle.std.proofs.Common.{◌≡◌, ◌++◌, map, take, drop}
use Rattle.mig_model.specs.Cpus.{taken_over}
use Rattle.vcpu.proofs.cpus.Cpus.take_over.Given as goal

abbrev pub invariant-loop-k : goal.invariant-loop-k
invariant-loop-k l = l.self ≡ map taken_over (take l.k l.commands) ++ drop l.k l.initial.self
