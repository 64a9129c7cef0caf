-- The messages of page faults that wait are of page faults alone, and stay so.
use Rattle.std.proofs.lemmas.Bool.Decides.{nat_tests}
use Rattle.std.proofs.Common.{ℕ, Bool, List, [], ◌∷◌, ◌++◌, arith}
use Rattle.mig_base.specs.declared.command.Access.{Access}
use Rattle.mig_base.specs.declared.command.Command.{Command}
use Rattle.mig_base.specs.Userfault.{Noted}
use Rattle.mig_model.specs.Space.{Space, accessed_by}
use Rattle.mig_model.specs.Guest.{space_by}
use Rattle.mig_model.specs.Promises.{IsFault, AreFaults}

pub AreFaults-push : (faults : List Noted) (noted : Noted) → IsFault noted.message → AreFaults faults → AreFaults (faults ++ noted ∷ [])
AreFaults-push [] noted is are = (is, tt)
AreFaults-push (first ∷ faults) noted is are = (are.0, AreFaults-push faults noted is are.1)

-- Loads, stores and map calls

accessed_faults : (access : Access) (space : Space) (cpu : ℕ) (command : Command) → AreFaults space.object.faults → AreFaults (accessed_by access space cpu command).object.faults
accessed_faults access space cpu command are = grind (arith, nat_tests, AreFaults-push)

-- the space once a processor has tried a command
pub AreFaults-tried : (access : Bool) (space : Space) (cpu : ℕ) (command : Command) → AreFaults space.object.faults → AreFaults (space_by access space cpu command).object.faults
AreFaults-tried access space cpu command are = grind (arith, nat_tests, accessed_faults)
