-- The steps of a guest: its processors' commands. And what a handler's step continues from.
use Rattle.std.specs.Prelude.{ℕ, Bool, Option, Some, None, Result, Ok, Err, List, [], ◌∷◌}
use Rattle.mig_base.specs.Commands.{is_access}
use Rattle.mig_base.specs.declared.command.Command.{Command}
use Rattle.mig_base.specs.declared.command.Entry.{Entry}
use Rattle.mig_base.specs.declared.effect.Effect.{Effect}
use Rattle.mig_base.specs.declared.refusal.Refusal.{Refusal}
use Rattle.mig_model.specs.Cpus.{entries_of, idle_answer, woken_answer}
use Rattle.mig_model.specs.Effects.{try_effect}
use Rattle.mig_model.specs.Guest.{Guest, is_changing, took_by, tried}
use Rattle.mig_model.specs.NodeSteps.{and_then, in_phase, unless}

-- an accepted command: its effect, its entries in the transcript, and the guest after it
pub record Tried : Type 0 where
  pub effect : Effect
  pub entries : List Entry
  pub guest : Guest

-- the command is accepted, with this effect and these entries, and leads to this guest
abbrev pub tried_with : Effect → List Entry → Guest → Result Tried Refusal
tried_with effect entries guest = Ok (record { effect = effect; entries = entries; guest = guest })

-- a processor tries a command: it is made at once, or its page fault is queued and the processor sleeps
abbrev pub try_command : Guest → ℕ → Command → Result Tried Refusal
try_command guest cpu command =
    tried_with (try_effect cpu (took_by (is_access command) guest.space command))
    (entries_of cpu command (took_by (is_access command) guest.space command)) (tried (is_access command) guest cpu command)

-- Issue of a command: refused as NoCpu if the guest has no such processor, Busy unless it is idle, Phase unless a node runs the guest
abbrev pub issue : Guest → (runs : Bool) → ℕ → Command → Result Tried Refusal
issue guest runs cpu command = and_then (idle_answer guest.cpus cpu) (λ idle. in_phase runs (try_command guest cpu command))

-- Retry: refused as NoCpu if the guest has no such processor, NotAsleep if it has no command to retry, NotWoken while it sleeps, Phase
-- unless a node runs the guest
abbrev pub retry : Guest → (runs : Bool) → ℕ → Result Tried Refusal
retry guest runs cpu = and_then (woken_answer guest.cpus cpu) (λ command. in_phase runs (try_command guest cpu command))

-- the page, fault or copy that a step continues from: refused as NothingThere if there is none, Changing while the guest has unread
-- events
abbrev pub when_quiet : {A : Type 0} → Guest → Option A → Result A Refusal
when_quiet guest None = Err Refusal.NothingThere
when_quiet guest (Some next) = unless ((is_changing guest, Refusal.Changing) ∷ []) (Ok next)
