-- The replies of map calls: a call is entered when it is made, and its processor gets the reply when its last message is read.
use Rattle.std.specs.Prelude.{◌≡◌, ℕ, ◌==◌, if◌then◌else◌, Option, Some, None, Ok, List, [], ◌∷◌}
use Rattle.mig_base.specs.declared.command.Entry.{Entry}
use Rattle.mig_base.specs.declared.command.Reply.{Reply}
use Rattle.mig_base.specs.declared.cpu_state.CpuState.{CpuState}
use Rattle.mig_base.specs.declared.effect.Effect.{Effect}
use Rattle.mig_base.specs.declared.message.Message.{Message}
use Rattle.mig_base.specs.declared.schedule.Step.{Step}
use Rattle.mig_model.specs.Migration.{World, outcome}

-- the reply in the last entry of a processor, if it has one
abbrev pub last_reply : List Entry → ℕ → Option Reply
last_reply [] k = None
last_reply (entry ∷ entries) k = elim (last_reply entries k) [ Some reply ↦ Some reply | None ↦ if entry.cpu == k then Some entry.reply else None ]

-- the reply that a processor in a map call will get
abbrev pub call_reply : CpuState → Option Reply
call_reply (CpuState.InCall reply left) = Some reply
call_reply processor = None

-- a step reads the last message of the call of a processor, and gives it this reply
pub record HandsOver (world : World) (step : Step) (k : ℕ) (reply : Reply) : Type 0 where
  pub event : Message
  pub is : outcome world step ≡ Ok (Effect.ReadLast event k reply)
