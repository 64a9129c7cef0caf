-- Runs of which only the contents differ: which steps they may have, what they answer, and what they decide alike.
use Rattle.std.specs.Prelude.{◌≡◌, ℕ, ◌<◌, nat_le, Bool, true, false, List, [], ◌∷◌, map, Result, Err}
use Rattle.std.specs.Option.{option_map}
use Rattle.std.specs.FinMap.{contains_key}
use Rattle.mig_base.specs.declared.command.Command.{Command}
use Rattle.mig_base.specs.declared.command.Command.TheVariants.{Store}
use Rattle.mig_base.specs.declared.command.Reply.{Reply}
use Rattle.mig_base.specs.declared.command.Reply.TheVariants.{Value}
use Rattle.mig_base.specs.declared.cpu_state.CpuState.{CpuState}
use Rattle.mig_base.specs.declared.effect.Effect.{Effect}
use Rattle.mig_base.specs.declared.refusal.Refusal.{Refusal}
use Rattle.mig_base.specs.declared.schedule.Step.{Step}
use Rattle.mig_model.specs.Lengths.{text_len}
use Rattle.mig_model.specs.Guest.{Guest, is_present}
use Rattle.mig_model.specs.Migration.{World, after_steps, answer, first_world_with, next, outcome}
use Rattle.mig_model.specs.Promises.{IsComplete}
use Rattle.mig_model.specs.Runs.{outcomes}
use Rattle.mig_model.specs.Views.{counts_of, owed_left, phase_of}
use Rattle.mig_model.specs.Wire.{Copy, Frame, Sent, Wire}
use Rattle.mig_model.specs.Wire.Frame.{Page, Zero, Run, Package}
use Rattle.mig_laws.specs.Worlds.{answer_under, is_partial, outcome_under, step_under, world_under}

-- a map of bytes that takes no other byte to 0
abbrev pub KeepsOthers : (ℕ → ℕ) → Type 0
KeepsOthers f = (n : ℕ) → n < 256 → f n ≡ 0 → n ≡ 0

-- Deliveries

-- none of the steps, made in turn, is a delivery that ends inside a Page
abbrev pub NonePartial : World → List Step → Type 0
NonePartial world [] = Unit {0}
NonePartial world (step ∷ steps) = (is_partial world step ≡ false) × NonePartial (next world step) steps

-- how many bytes complete a Page
abbrev pub page_len : ℕ
page_len = text_len (Page 0 [])

-- whether a step, if it is a delivery, is of at least as many bytes as complete a Page. It then ends inside no frame Page
abbrev pub is_long : Step → Bool
is_long (Step.Deliver n) = nat_le page_len n
is_long (Step.DeliverBack n) = nat_le page_len n
is_long (Step.DeliverUrgent n) = nat_le page_len n
is_long step = true

-- a world to which steps lead from a first world, of which none is a delivery that ends inside a Page
pub record IsReachedWhole (world : World) : Type 0 where
  pub cpus : ℕ
  pub epoch : ℕ
  pub rounds : ℕ
  pub steps : List Step
  pub whole : NonePartial (first_world_with cpus epoch rounds) steps
  pub is : world ≡ after_steps (first_world_with cpus epoch rounds) steps

-- What steps answer

-- what steps made in turn answer, changed
abbrev pub outcomes_under : (ℕ → ℕ) → World → List Step → List (Result Effect Refusal)
outcomes_under f world [] = []
outcomes_under f world (step ∷ steps) = outcome_under f world step (outcome world step) ∷ outcomes_under f (next world step) steps

-- the changed world answers the changed step with the changed answer
abbrev pub AnswersAlike : (ℕ → ℕ) → World → Step → Type 0
AnswersAlike f world step = answer (world_under f world) (step_under f step) ≡ answer_under f world step (answer world step)

-- and refuses it with the refusal of the step
abbrev pub RefusesAlike : (ℕ → ℕ) → World → Step → Type 0
RefusesAlike f world step = (refusal : Refusal) → outcome world step ≡ Err refusal → outcome (world_under f world) (step_under f step) ≡ Err refusal

-- the world to which the changed run leads
abbrev pub changed_run : (ℕ → ℕ) → World → List Step → World
changed_run f world steps = after_steps (world_under f world) (map (step_under f) steps)

-- what the changed run answers
abbrev pub changed_outcomes : (ℕ → ℕ) → World → List Step → List (Result Effect Refusal)
changed_outcomes f world steps = outcomes (world_under f world) (map (step_under f) steps)

-- the map that takes every byte to 0
abbrev pub zeros : ℕ → ℕ
zeros number = 0

-- What they decide alike

-- one world is complete exactly if the other is
abbrev pub CompleteAlike : World → World → Type 0
CompleteAlike old new = (IsComplete old → IsComplete new) × (IsComplete new → IsComplete old)

-- a command without the value of a store
abbrev pub bare_command : Command → Command
bare_command (Store addr width value) = Store addr width 0
bare_command command = command

-- a reply without the value of a load
abbrev pub bare_reply : Reply → Reply
bare_reply (Value number) = Value 0
bare_reply reply = reply

-- a processor without values
abbrev pub bare_cpu : CpuState → CpuState
bare_cpu CpuState.Idle = CpuState.Idle
bare_cpu (CpuState.Asleep command) = CpuState.Asleep (bare_command command)
bare_cpu (CpuState.Woken command) = CpuState.Woken (bare_command command)
bare_cpu (CpuState.InCall reply left) = CpuState.InCall (bare_reply reply) left

-- a frame without its contents: a Page is as a Zero, a Run has as many pages, and a Package has no values of stores
abbrev pub bare_frame : Frame → Frame
bare_frame (Page page bytes) = Zero page
bare_frame (Run first pages) = Run first (map (λ (bytes : List ℕ). []) pages)
bare_frame (Package areas owed commands) = Package areas owed (map (option_map bare_command) commands)
bare_frame frame = frame

-- two wires with the same frames but for contents, of which as many bytes have arrived
pub record AreAlikeWires (old new : Wire) : Type 0 where
  pub frames : map (λ (sent : Sent). record sent { frame = bare_frame sent.frame }) new.frames ≡ map (λ (sent : Sent). record sent { frame = bare_frame sent.frame }) old.frames
  pub held : new.held ≡ old.held

-- two guests with the same pages mapped, present, write-protected and registered, and the same unread messages, whose processors are in the
-- same states, with the same commands but for values
pub record AreAlikeGuests (old new : Guest) : Type 0 where
  pub areas : new.space.host.areas ≡ old.space.host.areas
  pub present : (page : ℕ) → is_present new.space page ≡ is_present old.space page
  pub protected : new.space.protected ≡ old.space.protected
  pub object : new.space.object ≡ old.space.object
  pub cpus : map bare_cpu new.cpus ≡ map bare_cpu old.cpus

-- two worlds that differ in contents alone: all that a node decides by is the same
pub record DecideAlike (old new : World) : Type 0 where
  pub phase : phase_of new ≡ phase_of old
  pub source_phase : new.source.phase ≡ old.source.phase
  pub destination_phase : new.destination.phase ≡ old.destination.phase
  pub switched : new.source.switched ≡ old.source.switched
  pub has_run : new.destination.has_run ≡ old.destination.has_run
  pub ended : new.destination.ended ≡ old.destination.ended
  pub epochs : (new.source.epoch ≡ old.source.epoch) × (new.destination.epoch ≡ old.destination.epoch) × (new.source.end_epoch ≡ old.source.end_epoch)
  -- clean, todo, sent, and the faults that are held
  pub log : new.source.log ≡ old.source.log
  pub held : new.destination.held ≡ old.destination.held
  -- what is still to be pushed, is asked for, owed and requested
  pub remaining : new.source.remaining ≡ old.source.remaining
  pub asked : new.source.asked ≡ old.source.asked
  pub owed : new.destination.owed ≡ old.destination.owed
  pub requests : new.destination.requests ≡ old.destination.requests
  -- how many frames the source has put on the urgent wire in its epoch, and how many of them the destination has taken
  pub urgent_frames : (new.source.urgent_sent ≡ old.source.urgent_sent) × (new.destination.urgent_taken ≡ old.destination.urgent_taken)
  pub left : owed_left new ≡ owed_left old
  pub counts : counts_of new ≡ counts_of old
  -- the pages whose copies are kept, and those whose copies have arrived
  pub kept : (page : ℕ) → contains_key new.destination.kept page ≡ contains_key old.destination.kept page
  pub arrivals : map (λ (copy : Copy). copy.page) new.destination.arrivals ≡ map (λ (copy : Copy). copy.page) old.destination.arrivals
  pub source : AreAlikeGuests old.source.guest new.source.guest
  pub destination : AreAlikeGuests old.destination.guest new.destination.guest
  -- Discard, Package and Recv among the frames
  pub forward : AreAlikeWires old.forward new.forward
  pub back : AreAlikeWires old.back new.back
  pub urgent : AreAlikeWires old.urgent new.urgent
  pub up : new.up ≡ old.up

-- the run of steps and that in which each store of the right form stores 0 decide alike, where the run has no delivery that ends inside a
-- Page
abbrev pub DecidesAsZeros : World → List Step → Type 0
DecidesAsZeros world steps = NonePartial world steps → DecideAlike (after_steps world steps) (after_steps world (map (step_under zeros) steps))
