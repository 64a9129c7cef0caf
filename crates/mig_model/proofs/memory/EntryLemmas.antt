-- A command that a host answers, and what a transcript holds after its entry.
use Rattle.std.proofs.lemmas.Bool.Decides.{nat_tests}
use Rattle.std.proofs.Common.{◌≡◌, ℕ, List, [], ◌∷◌, ◌++◌, refl, ap, arith}
use Rattle.mig_base.specs.declared.command.Command.{Command}
use Rattle.mig_base.specs.declared.command.Entry.{Entry}
use Rattle.mig_base.specs.Flat.{no_memory, reply_of, memory_of, IsFlatRun}
use Rattle.mig_base.proofs.FlatLemmas.{memory_from-push, IsRunFrom-push}
use Rattle.mig_model.specs.Host.{Host, memory, host_after, IsSound}
use Rattle.mig_model.proofs.memory.CommandLemmas.{memory-changed, IsSound-changed}

abbrev pub entry_of : Host → ℕ → Command → Entry
entry_of host cpu command = record { cpu = cpu; command = command; reply = reply_of (memory host) command }

pub sound_after : (host : Host) (command : Command) → IsSound host → IsSound (host_after host command)
sound_after host command sound = IsSound-changed host command (reply_of (memory host) command) sound refl

pub holds_after : (host : Host) (transcript : List Entry) (cpu : ℕ) (command : Command) → IsSound host → memory host ≡ memory_of transcript →
    memory (host_after host command) ≡ memory_of (transcript ++ entry_of host cpu command ∷ [])
holds_after host transcript cpu command sound holds = grind (arith, nat_tests, memory-changed, memory_from-push)

pub flat_after : (host : Host) (transcript : List Entry) (cpu : ℕ) (command : Command) → memory host ≡ memory_of transcript → IsFlatRun transcript →
    IsFlatRun (transcript ++ entry_of host cpu command ∷ [])
flat_after host transcript cpu command holds flat = IsRunFrom-push no_memory transcript (entry_of host cpu command) flat (ap (λ m. reply_of m command) holds)
