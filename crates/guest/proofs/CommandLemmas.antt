-- Commands that are begun or tried again: the guest after them.
use Rattle.std.proofs.Common.{◌≡◌, ◌∙◌, ℕ, Bool, true, false, List, sym, arith}
use Rattle.std.specs.Prelude.{Result, Ok, Err}
use Rattle.mig_base.specs.Commands.{is_access}
use Rattle.mig_base.specs.declared.command.Command.{Command}
use Rattle.mig_base.specs.declared.command.Entry.{Entry}
use Rattle.mig_base.specs.declared.effect.Effect.{Effect}
use Rattle.mig_base.specs.declared.refusal.Refusal.{Refusal}
use Rattle.mig_model.specs.Cpus.{idle_answer, woken_answer}
use Rattle.mig_model.specs.Guest.{Guest, tried}
use Rattle.mig_model.specs.GuestSteps.{issue, retry, tried_with, try_command}
use Rattle.mig_model.specs.NodeSteps.{and_then, in_phase}
use Rattle.mig_model.proofs.steps.StepLemmas.{goes_on, in-phase}

-- a processor that was woken tries its command again, at a node that runs it
pub again : (guest : Guest) (runs : Bool) (cpu : ℕ) (command : Command) → Ok command ≡ woken_answer guest.cpus cpu → runs ≡ true → retry guest runs cpu ≡ try_command guest cpu command
again guest runs cpu command woken run = goes_on (woken_answer guest.cpus cpu) command _ (sym woken) ∙ in-phase runs _ run

-- the guest after a command that was begun
begun_by : (idle : Result (Unit {0}) Refusal) (runs : Bool) (guest new : Guest) (cpu : ℕ) (command : Command) (effect : Effect) (entries : List Entry) →
    and_then idle (λ done. in_phase runs (try_command guest cpu command)) ≡ tried_with effect entries new → new ≡ tried (is_access command) guest cpu command
begun_by (Ok done) true guest new cpu command effect entries is = grind arith
begun_by (Ok done) false guest new cpu command effect entries is = absurd (grind arith)
begun_by (Err refusal) runs guest new cpu command effect entries is = absurd (grind arith)

pub begun : (guest new : Guest) (runs : Bool) (cpu : ℕ) (command : Command) (effect : Effect) (entries : List Entry) → issue guest runs cpu command ≡ tried_with effect entries new → new ≡ tried (is_access command) guest cpu command
begun guest new runs cpu command effect entries = begun_by (idle_answer guest.cpus cpu) runs guest new cpu command effect entries

-- the guest after a command that was tried again
pub record IsTriedAgain (guest : Guest) (cpu : ℕ) (new : Guest) : Type 0 where
  pub command : Command
  pub is : new ≡ tried (is_access command) guest cpu command

tried_by : (woken : Result Command Refusal) (runs : Bool) (guest new : Guest) (cpu : ℕ) (effect : Effect) (entries : List Entry) →
    and_then woken (λ command. in_phase runs (try_command guest cpu command)) ≡ tried_with effect entries new → IsTriedAgain guest cpu new
tried_by (Ok command) true guest new cpu effect entries is = record { command = command; is = grind arith }
tried_by (Ok command) false guest new cpu effect entries is = absurd (grind arith)
tried_by (Err refusal) runs guest new cpu effect entries is = absurd (grind arith)

pub tried_again : (guest new : Guest) (runs : Bool) (cpu : ℕ) (effect : Effect) (entries : List Entry) → retry guest runs cpu ≡ tried_with effect entries new → IsTriedAgain guest cpu new
tried_again guest new runs cpu effect entries = tried_by (woken_answer guest.cpus cpu) runs guest new cpu effect entries
