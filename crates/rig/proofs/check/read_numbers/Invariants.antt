use Rattle.std.proofs.Common.{◌<◌, length}
use Rattle.std.specs.List.{All}
use Rattle.mig_base.specs.declared.TheConstants.{MAX_CPUS}
use Rattle.rig.proofs.check.read_numbers.Given as goal

abbrev pub invariant-loop-rest : goal.invariant-loop-rest
invariant-loop-rest l = All (λ s. s.cpu < MAX_CPUS) l.rest → All (λ s. s.cpu < MAX_CPUS) l.seats

abbrev pub decreases-loop-rest : goal.decreases-loop-rest
decreases-loop-rest l = length l.rest
