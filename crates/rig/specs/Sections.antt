-- Sections of the lock: each makes at most one step, and what that step enters in the transcript.
use Rattle.std.specs.Prelude.{◌≡◌, ◌≢◌, ℕ, ⊤, Bool, true, false, List, [], ◌∷◌, ◌++◌, Result, Ok, Err}
use Rattle.mig_base.specs.declared.command.Command.{Command}
use Rattle.mig_base.specs.declared.command.Entry.{Entry}
use Rattle.mig_base.specs.declared.command.Reply.{Reply}
use Rattle.mig_base.specs.declared.cpu_state.CpuState.{CpuState}
use Rattle.mig_base.specs.declared.effect.Effect.{Effect}
use Rattle.mig_base.specs.declared.refusal.Refusal.{Refusal}
use Rattle.mig_base.specs.declared.schedule.Step.{Step}
use Rattle.mig_model.specs.Migration.{World}
use Rattle.mig_model.specs.Promises.{IsReached}
use Rattle.mig_model.specs.Runs.{Happens, Outcome}
use Rattle.rig.specs.declared.section.Attempt.{Attempt}

-- the world is that to which this one step led, with this outcome, from some world that steps can reach
abbrev pub IsMade : Step → Outcome → World → Type 0
IsMade step outcome new = (old : World) × IsReached old × Happens old step outcome new

-- some world that steps can reach gives this outcome to the step
abbrev pub IsSomeOutcome : Step → Outcome → Type 0
IsSomeOutcome step outcome = (new : World) × IsMade step outcome new

-- the same of a Serve that is made in this epoch alone: in another it is refused as StaleEpoch, and no step is made
abbrev pub IsServed : ℕ → Outcome → World → Type 0
IsServed epoch outcome new =
    (old : World) × IsReached old
    × (epoch ≢ old.source.epoch → (outcome ≡ Err Refusal.StaleEpoch) × (new ≡ old))
    × (epoch ≡ old.source.epoch → Happens old Step.Serve outcome new)

-- what became of a command, by the effect of its step: it has a reply, also where a map call still waits for its messages, or it sleeps
abbrev pub IsTriedAs : Effect → Attempt → Type 0
IsTriedAs (Effect.Answered k reply) tried = tried ≡ Attempt.Replied reply
IsTriedAs (Effect.InCall k messages) tried = (reply : Reply) × (tried ≡ Attempt.Replied reply)
IsTriedAs effect tried = tried ≡ Attempt.Asleep

-- one step, made or refused, and what became of its command
abbrev pub IsTried : World → Step → Result Attempt Refusal → World → Type 0
IsTried old step (Ok tried) new = (effect : Effect) × Happens old step (Ok effect) new × IsTriedAs effect tried
IsTried old step (Err refusal) new = Happens old step (Err refusal) new

-- the same of a command that is tried again
abbrev pub IsRetry : World → ℕ → Command → Result (Command × Attempt) Refusal → World → Type 0
IsRetry old cpu command (Ok r) new = (r.0 ≡ command) × IsTried old (Step.Retry cpu) (Ok r.1) new
IsRetry old cpu command (Err refusal) new = IsTried old (Step.Retry cpu) (Err refusal) new

-- the entry of a command and its reply
abbrev pub entry_of : ℕ → Command → Reply → Entry
entry_of cpu command reply = record { cpu = cpu; command = command; reply = reply }

-- the entries of a command that was tried: none if it sleeps
abbrev pub entries_by : ℕ → Command → Attempt → List Entry
entries_by cpu command (Attempt.Replied reply) = entry_of cpu command reply ∷ []
entries_by cpu command Attempt.Asleep = []

-- the transcript after a try, by its effect: a command with its reply is entered, and so is a map call that waits for its messages
abbrev pub IsEntered : Effect → List Entry → List Entry → ℕ → Command → Type 0
IsEntered (Effect.Answered k reply) old new cpu command = new ≡ old ++ entry_of cpu command reply ∷ []
IsEntered (Effect.InCall k messages) old new cpu command = (reply : Reply) × (new ≡ old ++ entry_of cpu command reply ∷ [])
IsEntered effect old new cpu command = new ≡ old

-- a step of a world that steps can reach has entered the command with this reply
unfoldable pub IsReplyTo : ℕ → Command → Reply → Type 0
IsReplyTo cpu command reply =
    (old : World) × (new : World) × (step : Step) × (effect : Effect)
    × IsReached old × Happens old step (Ok effect) new × (new.transcript ≡ old.transcript ++ entry_of cpu command reply ∷ [])

-- the same for some command of the processor
abbrev pub IsReplyOf : ℕ → Reply → Type 0
IsReplyOf cpu reply = (command : Command) × IsReplyTo cpu command reply

-- what became of a command, if its step was not refused: where it has a reply, that is the one that a step has entered
abbrev pub IsToldOf : ℕ → Command → Attempt → Type 0
IsToldOf cpu command (Attempt.Replied reply) = IsReplyTo cpu command reply
IsToldOf cpu command Attempt.Asleep = ⊤

-- whether the processor is in a map call
abbrev pub is_calling : Result CpuState Refusal → Bool
is_calling (Ok (CpuState.InCall reply left)) = true
is_calling state = false
