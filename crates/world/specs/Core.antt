-- The first promise of every migration. To believe it, a reader need not know what a step does to a page or a frame.
--
-- The transcript is the run of one flat memory on the same commands, in the order in which they took effect; no page is installed over one
-- that is present; and once the migration is complete, and from then on, the destination alone holds that flat memory, and no page is owed.
use Rattle.std.specs.Prelude.{◌≡◌, ℕ, ◌<◌, ◌/◌, ◌⊎◌, ◌==◌, ◌&&◌, if◌then◌else◌, Bool, true, false, Option, None, Some, Ok, Err, IsOk, List, [], ◌∷◌, ◌++◌, length}
use Rattle.mig_base.specs.Flat.{IsFlatRun, memory_of}
use Rattle.foundation.specs.declared.TheConstants.{PAGE_SIZE}
use Rattle.mig_base.specs.declared.command.Command.{Command}
use Rattle.mig_base.specs.declared.command.Entry.{Entry}
use Rattle.mig_base.specs.declared.command.Reply.{Reply}
use Rattle.mig_base.specs.declared.cpu_state.CpuState.{CpuState}
use Rattle.mig_base.specs.declared.effect.Effect.{Effect}
use Rattle.mig_base.specs.declared.message.Message.{Message}
use Rattle.mig_base.specs.declared.phase.Received.{Received}
use Rattle.mig_base.specs.declared.phase.WorldPhase.{WorldPhase}
use Rattle.mig_base.specs.declared.refusal.Refusal.{Refusal}
use Rattle.mig_base.specs.declared.schedule.Step.{Step}
use Rattle.mig_model.specs.Cpus.{outstanding, processor_at}
use Rattle.mig_model.specs.Host.{memory}
use Rattle.mig_model.specs.Migration.{World, guest_of}
use Rattle.mig_model.specs.Promises.{IsAlone, IsPut, IsZeroed}
use Rattle.mig_model.specs.Replies.{call_reply, last_reply}
use Rattle.mig_model.specs.Runs.{Outcome}
use Rattle.mig_model.specs.Source.{space_of}
use Rattle.mig_model.specs.Views.{phase_of}
use Rattle.mig_model.specs.Whereabouts.{current_host}

-- what holds of every world, whatever steps led to it
pub record Core (world : World) : Type 0 where
  -- the transcript is the run of one flat memory on its commands
  pub flat : IsFlatRun world.transcript
  -- the guest sees that flat memory: at the source until the destination has run, then at the destination, where a page that is owed is
  -- seen with the source's bytes
  pub current : memory (current_host world) ≡ memory_of world.transcript
  -- once the migration is complete, the guest runs at the destination, which alone holds that flat memory, and no page is owed
  pub runs : phase_of world ≡ WorldPhase.Complete → world.destination.has_run ≡ true
  pub alone : phase_of world ≡ WorldPhase.Complete → IsAlone world

-- the state of a processor of the guest, at the node that runs it; Idle if the guest has no such processor
abbrev pub processor_of : World → ℕ → CpuState
processor_of world cpu = processor_at (guest_of world).cpus cpu

-- the number of the guest's processors
abbrev pub cpus_of : World → ℕ
cpus_of world = length (guest_of world).cpus

-- what holds of a new world of `cpus` processors: no migration has begun, nothing is entered, and each processor is idle
pub record CoreFirst (cpus : ℕ) (world : World) : Type 0 where
  pub core : Core world
  pub phase : phase_of world ≡ WorldPhase.Idle
  pub count : cpus_of world ≡ cpus
  pub empty : world.transcript ≡ []
  pub idle : (cpu : ℕ) → processor_of world cpu ≡ CpuState.Idle

-- Commands

-- the command with which a processor waits, if it does
abbrev pub waiting : World → ℕ → Option Command
waiting world cpu = outstanding (processor_of world cpu)

-- whether a command took effect
abbrev pub took_effect : Outcome → Bool
took_effect (Ok (Effect.Answered cpu reply)) = true
took_effect (Ok (Effect.InCall cpu left)) = true
took_effect result = false

-- the command with which a processor waits after a step, by the one before it: it begins to wait when its Issue sleeps, and waits until
-- its Retry takes effect
abbrev pub waiting_after : Step → Outcome → ℕ → Option Command → Option Command
waiting_after (Step.Issue k command) (Ok (Effect.Asleep j)) cpu before = if k == cpu then Some command else before
waiting_after (Step.Retry k) result cpu before = if took_effect result && k == cpu then None else before
waiting_after step result cpu before = before

-- a step tries a command of a processor: that of its Issue, or at a Retry the one with which it waits
abbrev pub IsTry : World → Step → ℕ → Command → Type 0
IsTry old step cpu command = (step ≡ Step.Issue cpu command) ⊎ ((step ≡ Step.Retry cpu) × (waiting old cpu ≡ Some command))

-- the processor whose command a step tries, if it tries one
abbrev pub tried_by : Step → Option ℕ
tried_by (Step.Issue cpu command) = Some cpu
tried_by (Step.Retry cpu) = Some cpu
tried_by step = None

-- what becomes of a command that a processor tries: it is answered, it begins a map call, or it sleeps
abbrev pub IsTryEffect : ℕ → Effect → Type 0
IsTryEffect cpu (Effect.Answered k reply) = k ≡ cpu
IsTryEffect cpu (Effect.InCall k left) = k ≡ cpu
IsTryEffect cpu (Effect.Asleep k) = k ≡ cpu
IsTryEffect cpu effect = ⊥

-- the reply that is due to a processor in a map call
abbrev pub reply_due : World → ℕ → Option Reply
reply_due world cpu = call_reply (processor_of world cpu)

-- whether a map call of a processor begins with this outcome
abbrev pub begins_call : Outcome → ℕ → Bool
begins_call (Ok (Effect.InCall k left)) cpu = k == cpu
begins_call result cpu = false

-- whether it returns with this outcome
abbrev pub ends_call : Outcome → ℕ → Bool
ends_call (Ok (Effect.ReadLast event k reply)) cpu = k == cpu
ends_call result cpu = false

-- the transcript with one entry more: a command of a processor, with its reply
abbrev pub with_entry : List Entry → ℕ → Command → Reply → List Entry
with_entry transcript cpu command reply = transcript ++ record { cpu = cpu; command = command; reply = reply } ∷ []

-- A command is entered at the step at which it takes effect, with the reply that its processor gets. A map call may return later, when
-- its last message is read
pub record IsEntered (old : World) (step : Step) (result : Outcome) (new : World) : Type 0 where
  -- a command that is accepted is one of a processor of the guest. It takes effect or sleeps
  pub tried : (cpu : ℕ) (effect : Effect) → tried_by step ≡ Some cpu → result ≡ Ok effect → IsTryEffect cpu effect × (cpu < cpus_of old)
  pub answered : (cpu : ℕ) (reply : Reply) → result ≡ Ok (Effect.Answered cpu reply) →
      (command : Command) × IsTry old step cpu command × (new.transcript ≡ with_entry old.transcript cpu command reply)
  pub called : (cpu left : ℕ) → result ≡ Ok (Effect.InCall cpu left) →
      (command : Command) × (reply : Reply) × IsTry old step cpu command × (new.transcript ≡ with_entry old.transcript cpu command reply)
      × (processor_of new cpu ≡ CpuState.InCall reply left) × (0 < left)
  pub asleep : (cpu : ℕ) → result ≡ Ok (Effect.Asleep cpu) → (command : Command) × IsTry old step cpu command × (processor_of new cpu ≡ CpuState.Asleep command)
  -- nothing else is entered
  pub others : took_effect result ≡ false → new.transcript ≡ old.transcript
  -- a processor makes one command at a time, keeps the one with which it waits, and tries it again once it is woken
  pub free : (cpu : ℕ) (command : Command) → step ≡ Step.Issue cpu command → IsOk result → processor_of old cpu ≡ CpuState.Idle
  pub woken : (cpu : ℕ) → step ≡ Step.Retry cpu → IsOk result → (command : Command) × (processor_of old cpu ≡ CpuState.Woken command)
  pub waits : (cpu : ℕ) → waiting new cpu ≡ waiting_after step result cpu (waiting old cpu)
  -- a map call begins at its InCall alone, and lasts until the last of its messages is read: then it returns, once, with the reply of its
  -- entry
  pub lasts : (cpu : ℕ) → begins_call result cpu ≡ false → ends_call result cpu ≡ false → reply_due new cpu ≡ reply_due old cpu
  pub returned : (event : Message) (cpu : ℕ) (reply : Reply) → result ≡ Ok (Effect.ReadLast event cpu reply) →
      ((step ≡ Step.SourceRead) ⊎ (step ≡ Step.DestRead))
      × (processor_of old cpu ≡ CpuState.InCall reply 1) × (processor_of new cpu ≡ CpuState.Idle) × (last_reply old.transcript cpu ≡ Some reply)

-- Steps

-- whether the source takes the word of the destination that it has everything: Done, or the Recv of a destination that has ended
abbrev pub is_done : Step → Outcome → Bool
is_done (Step.DeliverBack n) (Ok Effect.TookDone) = true
is_done (Step.DeliverBack n) (Ok (Effect.TookRecv Received.Ended owed)) = true
is_done step result = false

-- What holds of every step and its outcome, whatever steps came before. The outcome of a step that tries no command is named here only
-- where a promise needs it: what each step does is in the machine. The laws `completion` and `a_migration_can_complete` of mig_model say
-- that each such word completes the migration, and from which worlds some steps lead there
pub record CoreStep (old : World) (step : Step) (result : Outcome) (new : World) : Type 0 where
  pub core : Core new
  -- each reply that a processor gets is the one in the transcript
  pub entered : IsEntered old step result new
  -- Install and the handlers put a copy or a page of zeros only where no page is present; a copy has the bytes of the page from which it
  -- was owed. (`current` says that no other step changes what the guest sees.)
  pub copy : (addr origin : ℕ) → step ≡ Step.Install → result ≡ Ok (Effect.Installed addr origin) → IsPut old new (addr / PAGE_SIZE) (origin / PAGE_SIZE)
  pub source_zero : (addr : ℕ) → step ≡ Step.SourceAct → result ≡ Ok (Effect.Zeroed addr) → IsZeroed (space_of old.source) (space_of new.source) (addr / PAGE_SIZE)
  pub destination_zero : (addr : ℕ) → step ≡ Step.DestAct → result ≡ Ok (Effect.Zeroed addr) →
      IsZeroed old.destination.guest.space new.destination.guest.space (addr / PAGE_SIZE)
  -- the guest has as many processors as before
  pub count : cpus_of new ≡ cpus_of old
  -- a migration is complete only once the source has taken that word, and stays complete
  pub completes : phase_of new ≡ WorldPhase.Complete → (phase_of old ≡ WorldPhase.Complete) ⊎ (is_done step result ≡ true)
  pub stays : phase_of old ≡ WorldPhase.Complete → phase_of new ≡ WorldPhase.Complete
  -- a refused step changes nothing
  pub refused : (refusal : Refusal) → result ≡ Err refusal → new ≡ old

-- the same of each of some steps in turn
abbrev pub CoreRun : World → List Step → List Outcome → World → Type 0
CoreRun old [] [] new = new ≡ old
CoreRun old (step ∷ steps) (result ∷ results) new = (mid : World) × CoreStep old step result mid × CoreRun mid steps results new
CoreRun old [] (result ∷ results) new = ⊥
CoreRun old (step ∷ steps) [] new = ⊥
