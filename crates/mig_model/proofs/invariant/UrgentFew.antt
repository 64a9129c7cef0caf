-- The frames that were put on the urgent wire in an epoch and the pages that remain are, together, no more than the pages of the source.
use Rattle.std.proofs.Common.{◌≡◌, ℕ, ◌+◌, ◌≤◌, not, Bool, true, false, List, refl, sym, ◌∙◌, arith}
use Rattle.std.specs.Ordering.{nat_cmp}
use Rattle.std.specs.FinSet as finset
use Rattle.std.specs.FinSet.{FinSet, contains, len}
use Rattle.std.proofs.lemmas.Bool.{false≢true}
use Rattle.std.proofs.lemmas.Bool.Decides.{nat_tests}
use Rattle.mig_base.specs.declared.phase.SourcePhase.{SourcePhase}
use Rattle.mig_base.specs.declared.schedule.Side.{Side}
use Rattle.mig_base.specs.declared.schedule.Step.{Step}
use Rattle.mig_base.specs.declared.command.Command.{Command}
use Rattle.mig_base.proofs.SetLemmas.{member_below}
use Rattle.mig_model.specs.Host.{IsSound}
use Rattle.mig_model.specs.Space.{Space}
use Rattle.mig_base.specs.declared.act.Act.{Act}
use Rattle.mig_model.specs.Guest.{is_present}
use Rattle.mig_model.specs.Log.{present}
use Rattle.mig_model.specs.Wire.{Frame, Sent}
use Rattle.mig_model.specs.Migration.{World, first_world_with, next, runs}
use Rattle.mig_model.proofs.steps.StepWorlds.{after_command, after_deliver_back, after_switch}
use Rattle.mig_model.specs.Source.{is_precopy, is_released, is_stopped, source_act, source_acted_by, space_of}
use Rattle.mig_model.specs.Invariant.{AreSoundUrgent, IsSoundWorld}
use Rattle.mig_model.specs.Promises.{IsReached}
use Rattle.mig_model.proofs.delivery.Taken.{IsInPlaceBack}
use Rattle.mig_model.specs.Bounds.{AreUrgentFew, IsUrgentFew}
use Rattle.mig_model.proofs.steps.EveryStep.{by_reached}
use Rattle.mig_model.proofs.memory.Facts.{owed_is_present}
use Rattle.mig_model.proofs.delivery.FramesTaken.{is_taken_back}
use Rattle.mig_model.proofs.delivery.PushOrder.{idle_unswitched}
use Rattle.mig_base.proofs.SetSizes.{len-part, len-removed, len-some}
use Rattle.mig_model.proofs.invariant.SourceRounds.{precopy_unswitched}
use Rattle.mig_model.proofs.steps.StepCases.{MakesWorld, made-next}

-- Sets of pages of the source

-- a set of present pages has no more than there are
pub few_present : (space : Space) (set : FinSet nat_cmp) → IsSound space.host → ((page : ℕ) → contains set page ≡ true → is_present space page ≡ true) → len set ≤ len (present space)
few_present space set sound h = grind (arith, nat_tests, len-part, member_below)

-- Sums

sum_fresh : (count left all : ℕ) → count ≡ 0 → left ≤ all → count + left ≤ all
sum_fresh count left all none few = omega (arith, none, few)

-- The source

pub few-first : (cpus epoch rounds : ℕ) → AreUrgentFew (first_world_with cpus epoch rounds)
few-first cpus epoch rounds = record { before_switch = λ h. refl; few = λ h. absurd (false≢true h) }

-- before the switch nothing else is asked
before : {from : SourcePhase} {switched : Bool} {count : ℕ} {space : Space} {remaining : FinSet nat_cmp} (to : SourcePhase) (new : Space) (left : FinSet nat_cmp) → switched ≡ false →
    IsUrgentFew from switched count space remaining → IsUrgentFew to switched count new left
before to new left not h = record { before_switch = h.before_switch; few = λ s. absurd (false≢true (sym not ∙ s)) }

command_few : (world : World) (cpu : ℕ) (command : Command) → runs world ≡ true → AreUrgentFew world → AreUrgentFew (after_command world cpu command)
command_few world cpu command may h = grind (arith, nat_tests)

acted_few : (act : Act) (world : World) (page : ℕ) → world.source.switched ≡ false → AreUrgentFew world → AreUrgentFew (record world { source = source_acted_by act world.source page })
acted_few act world page not h = grind (arith, nat_tests)

switch_few : (world : World) → IsSoundWorld world → is_precopy world.source.phase ≡ true → AreUrgentFew world → AreUrgentFew (after_switch world)
switch_few world kept precopy h = grind (arith, nat_tests, few_present, owed_is_present)

push_few : (world : World) (page : ℕ) → contains world.source.remaining page ≡ true → AreUrgentFew world →
    IsUrgentFew world.source.phase world.source.switched world.source.urgent_sent (space_of world.source) (finset.remove world.source.remaining page)
push_few world page remains h = grind (arith, nat_tests, len-removed)

push_urgent_few : (world : World) (page : ℕ) → IsSoundWorld world → is_stopped world.source.phase ≡ true → contains world.source.remaining page ≡ true → AreUrgentFew world →
    IsUrgentFew world.source.phase world.source.switched (world.source.urgent_sent + 1) (space_of world.source) (finset.remove world.source.remaining page)
push_urgent_few world page kept stopped remains h = grind (arith, nat_tests, len-removed, len-some)

-- Frames that the source takes

back_few : (frame : Frame) (epoch : ℕ) (rest : List Sent) (world : World) → IsSoundWorld world → AreSoundUrgent world → world.up ≡ true → IsInPlaceBack world.source frame → AreUrgentFew world →
    AreUrgentFew (after_deliver_back world (record { epoch = epoch; frame = frame }) rest)
back_few frame epoch rest world kept urgent up place h = grind (arith, nat_tests, sum_fresh, few_present)

-- The channel

resume_few : (world : World) → IsSoundWorld world → AreUrgentFew world → IsUrgentFew world.source.phase world.source.switched 0 (space_of world.source) world.source.remaining
resume_few world kept h = grind (arith, nat_tests)

notices_few : (world : World) → is_released world.source.phase ≡ false → AreUrgentFew world → IsUrgentFew SourcePhase.Paused world.source.switched world.source.urgent_sent (space_of world.source) world.source.remaining
notices_few world unreleased h = record { before_switch = h.before_switch; few = λ s p. h.few s unreleased }

-- Steps

pub few-answer : (world : World) (step : Step) → IsSoundWorld world → AreSoundUrgent world → AreUrgentFew world → MakesWorld AreUrgentFew world step
few-answer world (Step.Issue cpu command) kept urgent h = λ there idle may. command_few world cpu command may h
few-answer world (Step.Retry cpu) kept urgent h = λ command waits woken may. command_few world cpu command may h
few-answer world Step.Start kept urgent h = λ idle unused. before _ _ _ (idle_unswitched world.source.phase world.source.switched idle kept.phases.source_phase) h
few-answer world Step.Round kept urgent h = λ precopy quiet. before _ _ _ (precopy_unswitched world.source.phase world.source.switched precopy kept.phases.source_phase) h
few-answer world Step.Send kept urgent h = λ page is precopy up quiet. before _ _ _ (precopy_unswitched world.source.phase world.source.switched precopy kept.phases.source_phase) h
few-answer world (Step.SendRun count) kept urgent h = λ first number is many precopy up quiet. before _ _ _ (precopy_unswitched world.source.phase world.source.switched precopy kept.phases.source_phase) h
few-answer world Step.SourceRead kept urgent h = λ noted is started unswitched. before _ _ _ unswitched h
few-answer world Step.SourceAct kept urgent h = λ fault rest is started unswitched quiet. acted_few (source_act world.source fault) world fault.page unswitched h
few-answer world Step.Switch kept urgent h = λ precopy up quiet. switch_few world kept precopy h
few-answer world (Step.DeliverBack n) kept urgent h =
    ((λ sent rest is short. h), (λ sent rest is full started up. back_few sent.frame sent.epoch rest world kept urgent up (is_taken_back world sent rest kept up is) h))
few-answer world (Step.Push ticket) kept urgent h = λ stopped up own present remains. push_few world ticket.page remains h
few-answer world (Step.PushUrgent ticket) kept urgent h = λ stopped up own present remains. push_urgent_few world ticket.page kept stopped remains h
few-answer world (Step.Notice Side.Source) kept urgent h = λ started unreleased down. notices_few world unreleased h
few-answer world Step.Resume kept urgent h = λ from to down unused. resume_few world kept h
few-answer world _ kept urgent h = assumption

pub few-next : (world : World) (step : Step) → IsSoundWorld world → AreSoundUrgent world → AreUrgentFew world → AreUrgentFew (next world step)
few-next world step kept urgent h = made-next AreUrgentFew world step h (few-answer world step kept urgent h)

pub few-reached : (world : World) → IsReached world → AreUrgentFew world
few-reached world reached = by_reached AreUrgentFew few-next few-first world reached
