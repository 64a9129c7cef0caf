-- What every world keeps is kept by every step, and by every list of them.
use Rattle.std.proofs.lemmas.Bool.Decides.{nat_tests}
use Rattle.std.proofs.Common.{◌≡◌, ℕ, ◌||◌, Bool, true, false, not, List, [], ◌∷◌, refl, sym, subst, arith}
use Rattle.mig_base.specs.declared.schedule.Side.{Side}
use Rattle.mig_base.specs.declared.schedule.Step.{Step}
use Rattle.mig_base.specs.declared.command.Command.{Command}
use Rattle.mig_model.specs.Migration.{World, first_world_with, next, after_steps, runs, is_short}
use Rattle.mig_model.proofs.steps.StepWorlds.{after_command}
use Rattle.mig_model.specs.Invariant.{IsSoundWorld, AreSoundUrgent}
use Rattle.mig_model.specs.Promises.{IsReached, IsComplete, after_move, after_move_back, after_move_urgent}
use Rattle.mig_model.proofs.invariant.Breaking.{kept-break, kept-notice_source, kept-notice_destination, kept-resume}
use Rattle.mig_model.proofs.invariant.Stopping.{kept-push, kept-serve, kept-end, kept-switch}
use Rattle.mig_model.proofs.steps.FirstWorld.{kept-first}
use Rattle.mig_model.proofs.invariant.SourceCommands.{kept-command_at_source}
use Rattle.mig_model.proofs.invariant.SourceRounds.{kept-start, kept-round}
use Rattle.mig_model.proofs.invariant.SourceSending.{kept-send, kept-run}
use Rattle.mig_model.proofs.invariant.Delivery.{kept-deliver}
use Rattle.mig_model.proofs.invariant.DeliveryBack.{kept-deliver_back}
use Rattle.mig_model.proofs.invariant.DestinationRead.{kept-dest_read, kept-command_at_destination}
use Rattle.mig_model.proofs.invariant.DestinationAct.{kept-dest_act, kept-install}
use Rattle.mig_model.proofs.completion.StaysComplete.{complete-next}
use Rattle.mig_model.proofs.steps.StepCases.{MakesWorld, made-next}
use Rattle.mig_model.specs.Wire.{Sent}
use Rattle.mig_model.proofs.invariant.UrgentSteps.{urgent-first, urgent-next}
use Rattle.mig_model.proofs.invariant.UrgentKept.{kept-deliver_urgent, kept-push_urgent}
use Rattle.mig_model.proofs.invariant.UrgentWire.{all_came}
use Rattle.mig_model.proofs.invariant.WireLemmas.{fits-moved}
use Rattle.mig_model.proofs.invariant.SourceKept.{kept-source_read, kept-source_act}

-- Commands: the node that runs the guest makes them

pub runs_source : (switched ran : Bool) → (not switched || ran) ≡ true → ran ≡ false → switched ≡ false
runs_source switched ran h none = grind (arith, nat_tests)

command_by : (ran : Bool) (world : World) (cpu : ℕ) (command : Command) → world.destination.has_run ≡ ran → runs world ≡ true → IsSoundWorld world → IsSoundWorld (after_command world cpu command)
command_by true world cpu command is may kept = kept-command_at_destination world cpu command is kept
command_by false world cpu command is may kept = kept-command_at_source world cpu command is (runs_source world.source.switched world.destination.has_run may is) kept

kept-command : (world : World) (cpu : ℕ) (command : Command) → runs world ≡ true → IsSoundWorld world → IsSoundWorld (after_command world cpu command)
kept-command world cpu command may kept = command_by world.destination.has_run world cpu command refl may kept

-- bytes that complete no frame change nothing else

kept-move : (world : World) (n : ℕ) (sent : Sent) (rest : List Sent) → IsSoundWorld world → world.forward.frames ≡ sent ∷ rest → is_short world.forward sent.frame n ≡ true → IsSoundWorld (after_move world n)
kept-move world n sent rest kept is short = assumption (fits-moved world.forward n sent rest is short)

kept-move_back : (world : World) (n : ℕ) (sent : Sent) (rest : List Sent) → IsSoundWorld world → world.back.frames ≡ sent ∷ rest → is_short world.back sent.frame n ≡ true → IsSoundWorld (after_move_back world n)
kept-move_back world n sent rest kept is short = assumption (fits-moved world.back n sent rest is short)

-- nor do those of the urgent wire
kept-move_urgent : (world : World) (n : ℕ) → IsSoundWorld world → IsSoundWorld (after_move_urgent world n)
kept-move_urgent world n kept = assumption

pub kept-answer : (world : World) (step : Step) → IsSoundWorld world → AreSoundUrgent world → MakesWorld IsSoundWorld world step
kept-answer world (Step.Issue cpu command) kept urgent = λ there idle may. kept-command world cpu command may kept
kept-answer world (Step.Retry cpu) kept urgent = λ command waits woken may. kept-command world cpu command may kept
kept-answer world Step.Start kept urgent = λ idle unused. kept-start world kept idle
kept-answer world Step.Round kept urgent = λ precopy quiet. kept-round world kept precopy
kept-answer world Step.Send kept urgent = λ page is precopy up quiet. kept-send world page kept is precopy up quiet
kept-answer world (Step.SendRun count) kept urgent = λ first number is many precopy up quiet. kept-run world first number count kept many precopy up quiet
kept-answer world Step.SourceRead kept urgent = λ noted is started unswitched. kept-source_read world noted kept is started unswitched
kept-answer world Step.SourceAct kept urgent = λ fault rest is started unswitched quiet. kept-source_act world fault kept started unswitched
kept-answer world Step.Switch kept urgent = λ precopy up quiet. kept-switch world kept precopy up quiet
kept-answer world (Step.Deliver n) kept urgent = ((λ sent rest is short. kept-move world n sent rest kept is short), (λ sent rest is full started up free early. kept-deliver world sent rest kept is up free (all_came world sent rest kept urgent is up early)))
kept-answer world (Step.DeliverBack n) kept urgent = ((λ sent rest is short. kept-move_back world n sent rest kept is short), (λ sent rest is full started up. kept-deliver_back world sent rest kept is up))
kept-answer world Step.DestRead kept urgent = λ noted is ran. kept-dest_read world noted kept is ran
kept-answer world Step.DestAct kept urgent = λ fault rest is ran quiet. kept-dest_act world fault rest kept is ran quiet
kept-answer world Step.Install kept urgent = λ copy rest is ran quiet. kept-install world copy rest kept is ran quiet
kept-answer world (Step.Push ticket) kept urgent = λ stopped up own present remains. kept-push world ticket.page kept stopped up present remains
kept-answer world (Step.PushUrgent ticket) kept urgent = λ stopped up own present remains. kept-push_urgent world ticket.page kept stopped up present remains
kept-answer world (Step.DeliverUrgent n) kept urgent = ((λ sent rest is short. kept-move_urgent world n kept), (λ sent rest is full ran up. kept-deliver_urgent world sent rest kept urgent is ran up))
kept-answer world Step.Serve kept urgent = λ page pages is stopped up. kept-serve world pages kept stopped
kept-answer world Step.End kept urgent = λ stopped other up none. kept-end world kept stopped up other none
kept-answer world Step.Break kept urgent = λ started unreleased up. kept-break world kept started unreleased
kept-answer world (Step.Notice Side.Source) kept urgent = λ started unreleased down. kept-notice_source world kept started down
kept-answer world (Step.Notice Side.Destination) kept urgent = λ started unreleased down. kept-notice_destination world kept down
kept-answer world Step.Resume kept urgent = λ from to down unused. kept-resume world kept from to down

pub kept-next : (world : World) (step : Step) → IsSoundWorld world → AreSoundUrgent world → IsSoundWorld (next world step)
kept-next world step kept urgent = made-next IsSoundWorld world step kept (kept-answer world step kept urgent)

pub kept-after_steps : (world : World) (steps : List Step) → IsSoundWorld world → AreSoundUrgent world → IsSoundWorld (after_steps world steps)
kept-after_steps world [] kept urgent = kept
kept-after_steps world (step ∷ steps) kept urgent = kept-after_steps (next world step) steps (kept-next world step kept urgent) (urgent-next world step kept urgent)

-- what each step keeps beside it, a list of steps keeps
pub by_steps : (P : World → Type 0) → ((world : World) (step : Step) → IsSoundWorld world → AreSoundUrgent world → P world → P (next world step)) → (world : World) (steps : List Step) → IsSoundWorld world → AreSoundUrgent world → P world → P (after_steps world steps)
by_steps P keeps world [] kept urgent h = h
by_steps P keeps world (step ∷ steps) kept urgent h = by_steps P keeps (next world step) steps (kept-next world step kept urgent) (urgent-next world step kept urgent) (keeps world step kept urgent h)

-- every list of steps from a first world
pub always : (cpus epoch rounds : ℕ) (steps : List Step) → IsSoundWorld (after_steps (first_world_with cpus epoch rounds) steps)
always cpus epoch rounds steps = kept-after_steps (first_world_with cpus epoch rounds) steps (kept-first cpus epoch rounds) (urgent-first cpus epoch rounds)

-- every world that some list of steps leads to
pub kept-reached : (world : World) → IsReached world → IsSoundWorld world
kept-reached world reached = subst IsSoundWorld (sym reached.is) (always reached.cpus reached.epoch reached.rounds reached.steps)

pub by_reached : (P : World → Type 0) → ((world : World) (step : Step) → IsSoundWorld world → AreSoundUrgent world → P world → P (next world step)) → ((cpus epoch rounds : ℕ) → P (first_world_with cpus epoch rounds)) → (world : World) → IsReached world → P world
by_reached P keeps first world reached =
    subst P (sym reached.is)
    (by_steps P keeps (first_world_with reached.cpus reached.epoch reached.rounds) reached.steps (kept-first reached.cpus reached.epoch reached.rounds) (urgent-first reached.cpus reached.epoch reached.rounds) (first reached.cpus reached.epoch reached.rounds))

pub urgent-reached : (world : World) → IsReached world → AreSoundUrgent world
urgent-reached world reached = by_reached AreSoundUrgent (λ old step kept urgent h. urgent-next old step kept h) urgent-first world reached

-- a migration that is complete stays so
pub complete-after_steps : (world : World) (steps : List Step) → IsSoundWorld world → AreSoundUrgent world → IsComplete world → IsComplete (after_steps world steps)
complete-after_steps world steps kept urgent done = by_steps IsComplete (λ old step kept urgent h. complete-next old step kept h) world steps kept urgent done
