-- What is promised of every world and of every step, in words that know nothing of the steps.
use Rattle.std.proofs.Common.{◌≡◌, ℕ, zero, suc, ◌<◌, ◌/◌, ◌⊎◌, Bool, true, false, eqb, Option, Some, None, List, [], ◌∷◌, ◌++◌, refl, sym, ap, ◌∙◌, subst, inl, inr, ⊎_elim, arith, append-nil}
use Rattle.std.specs.Prelude.{Ok, Err, IsOk}
use Rattle.std.proofs.lemmas.Bool.{false≢true, eqb-true, eqb-false}
use Rattle.std.proofs.lemmas.Bool.Decides.{nat_tests}
use Rattle.std.proofs.lemmas.List.{length-replicate}
use Rattle.std.proofs.lemmas.Option.{none-some}
use Rattle.mig_base.specs.Commands.{is_access}
use Rattle.mig_base.specs.Flat.{reply_of}
use Rattle.foundation.specs.declared.TheConstants.{PAGE_SIZE}
use Rattle.mig_base.specs.declared.command.Access.{Access}
use Rattle.mig_base.specs.declared.command.Command.{Command}
use Rattle.mig_base.specs.declared.command.Reply.{Reply}
use Rattle.mig_base.specs.declared.cpu_state.CpuState.{CpuState}
use Rattle.mig_base.specs.declared.effect.Effect.{Effect}
use Rattle.mig_base.specs.declared.message.Message.{Message}
use Rattle.mig_base.specs.declared.phase.WorldPhase.{WorldPhase}
use Rattle.mig_base.specs.declared.refusal.Refusal.{Refusal}
use Rattle.mig_base.specs.declared.schedule.Step.{Step}
use Rattle.mig_model.specs.Cpus.{Took, access_took, call_took, entries_of, is_idle, is_woken, outstanding, processor_after, processor_at}
use Rattle.mig_model.specs.Effects.{try_effect}
use Rattle.mig_model.specs.Guest.{took_by}
use Rattle.mig_model.specs.Host.{memory}
use Rattle.mig_model.specs.Migration.{Made, World, answer, first_world_with, guest_of, next, outcome}
use Rattle.mig_model.specs.Promises.{IsPut, IsReached, IsZeroed}
use Rattle.mig_model.specs.Replies.{HandsOver, call_reply}
use Rattle.mig_model.specs.Source.{is_released, space_of}
use Rattle.mig_model.specs.Space.{Space, access_of, queued_by}
use Rattle.mig_model.specs.Runs.{Happens, IsRun, Outcome, may_lack}
use Rattle.mig_model.specs.Views.{phase_of}
use Rattle.mig_model.proofs.transcript.CallReplies.{reply_arises, reply_handed_over, reply_kept}
use Rattle.mig_model.proofs.invariant.CpuCount.{as_many_next}
use Rattle.mig_model.proofs.invariant.DestinationAct.{install_put_next}
use Rattle.mig_model.proofs.steps.EveryStep.{kept-reached}
use Rattle.mig_model.proofs.memory.Facts.{by_test}
use Rattle.mig_model.proofs.transcript.PromiseLemmas.{complete_ran, is_alone}
use Rattle.mig_model.proofs.completion.StaysComplete.{complete-next}
use Rattle.mig_model.proofs.steps.ReachedLemmas.{reached-next}
use Rattle.mig_model.proofs.steps.StepCases.{Makes, holds-made, made-effect, made-ok}
use Rattle.mig_model.proofs.steps.StepLemmas.{Holds, holds-effect, holds-map, next-refused}
use Rattle.mig_model.proofs.steps.WokenSteps.{IsQuiet, frame_not_last, is_last_read, is_quiet, quiet}
use Rattle.mig_model.proofs.steps.StepPromises.{destination_zeroed, source_zeroed}
use Rattle.mig_model.proofs.steps.StepWorlds.{after_command}
use Rattle.mig_model.proofs.completion.ViewPromises.{phase_complete}
use Rattle.mig_model.proofs.transcript.WaitingCommands.{idle_at, is_try, same_waits, set_here, set_there, tried_guest, tried_other}
use Rattle.world.specs.Core.{Core, CoreFirst, CoreRun, CoreStep, IsEntered, IsTry, IsTryEffect, begins_call, cpus_of, ends_call, is_done, processor_of, reply_due, took_effect, tried_by, waiting, waiting_after, with_entry}
use Rattle.world.proofs.ReachedLemmas.{reached_happens}
use Rattle.world.proofs.WithinLemmas.{guest_count, is_there, waits_there}

pub core_reached : (world : World) → IsReached world → Core world
core_reached world reached =
    let kept = kept-reached world reached in
    record {
      flat = kept.memory.flat;
      current = kept.memory.holds;
      runs = λ h. complete_ran world kept ((phase_complete world).0 h);
      alone = λ h. is_alone world kept ((phase_complete world).0 h);
    }

pub core_first : (cpus epoch rounds : ℕ) → CoreFirst cpus (first_world_with cpus epoch rounds)
core_first cpus epoch rounds =
    record {
      core = core_reached _ (record { cpus = cpus; epoch = epoch; rounds = rounds; steps = []; is = refl });
      phase = refl;
      count = length-replicate cpus CpuState.Idle;
      empty = refl;
      idle = λ cpu. idle_at cpus cpu;
    }

-- What a step makes

-- how a command ends in a world
abbrev took_of : World → Command → Took
took_of world command = took_by (is_access command) (guest_of world).space command

-- a step tries a command
record Tried (world : World) (step : Step) (made : Made) : Type 0 where
  cpu : ℕ
  command : Command
  try : IsTry world step cpu command
  effect : made.effect ≡ try_effect cpu (took_of world command)
  entered : made.world.transcript ≡ world.transcript ++ entries_of cpu command (took_of world command)
  at : processor_of made.world cpu ≡ processor_after command (took_of world command)

tries : (world : World) (step : Step) → is_try step ≡ true → Makes (Tried world step) world step
tries world (Step.Issue cpu command) h =
    λ there idle may.
    record {
      cpu = cpu;
      command = command;
      try = inl refl;
      effect = refl;
      entered = refl;
      at = ap (λ g. processor_at g.cpus cpu) (tried_guest world cpu command) ∙ set_there (guest_of world).cpus cpu (processor_after command (took_of world command)) there;
    }
tries world (Step.Retry cpu) h =
    λ command waits woken may.
    record {
      cpu = cpu;
      command = command;
      try = inr (refl, waits);
      effect = refl;
      entered = refl;
      at = ap (λ g. processor_at g.cpus cpu) (tried_guest world cpu command) ∙ set_here (guest_of world).cpus cpu (processor_after command (took_of world command)) command waits;
    }
tries world _ h = absurd (false≢true h)

abbrev is_sleep : Effect → Bool
is_sleep (Effect.Asleep cpu) = true
is_sleep effect = false

-- a step tries no command, and enters nothing
record Silent (world : World) (made : Made) : Type 0 where
  effect : took_effect (Ok made.effect) ≡ false
  awake : is_sleep made.effect ≡ false
  transcript : made.world.transcript ≡ world.transcript

silent : (world : World) (step : Step) → is_try step ≡ false → Makes (Silent world) world step
silent world step other = grind (arith, nat_tests)

-- What is entered

-- a try that is answered
answered_try : (k cpu : ℕ) (command : Command) (took : Took) (reply : Reply) → try_effect k took ≡ Effect.Answered cpu reply →
    (k ≡ cpu) × (entries_of k command took ≡ record { cpu = k; command = command; reply = reply } ∷ [])
answered_try k cpu command took reply h = grind (arith, nat_tests)

-- a try that begins a call
record CallTry (k cpu left : ℕ) (command : Command) (took : Took) : Type 0 where
  reply : Reply
  same : k ≡ cpu
  entries : entries_of k command took ≡ record { cpu = k; command = command; reply = reply } ∷ []
  call : processor_after command took ≡ CpuState.InCall reply left
  some : 0 < left

-- a call has messages
abbrev HasMessages : Took → Type 0
HasMessages took = (reply : Reply) (left : ℕ) → took ≡ Took.Call reply left → 0 < left

queued_some : (given : Reply) (messages : ℕ) → HasMessages (call_took given messages)
queued_some given zero reply left h = absurd (grind (arith, nat_tests))
queued_some given (suc messages) reply left h = grind (arith, nat_tests)

took_some : (access : Bool) (space : Space) (command : Command) → HasMessages (took_by access space command)
took_some true space command reply left h = absurd (not_call (access_of space command) reply left h)
  where
    not_call : (access : Access) (reply : Reply) (left : ℕ) → access_took access ≡ Took.Call reply left → ⊥
    not_call access reply left h = grind (arith, nat_tests)
took_some false space command reply left h = queued_some (reply_of (memory space.host) command) (queued_by space command) reply left h

same_left : (k cpu more left : ℕ) → Effect.InCall k more ≡ Effect.InCall cpu left → (k ≡ cpu) × (more ≡ left)
same_left k cpu more left h = grind (arith, nat_tests)

called_try : (k cpu : ℕ) (command : Command) (took : Took) (left : ℕ) → HasMessages took → try_effect k took ≡ Effect.InCall cpu left → CallTry k cpu left command took
called_try k cpu command (Took.Answer reply) left some h = grind (arith, nat_tests)
called_try k cpu command Took.Sleep left some h = grind (arith, nat_tests)
called_try k cpu command (Took.Call reply more) left some h =
    let same = same_left k cpu more left h in
    record { reply = reply; same = same.0; entries = refl; call = ap (λ n. CpuState.InCall reply n) same.1; some = subst (λ n. 0 < n) same.1 (some reply more refl) }

-- a try that sleeps
asleep_try : (k cpu : ℕ) (command : Command) (took : Took) → try_effect k took ≡ Effect.Asleep cpu → (k ≡ cpu) × (processor_after command took ≡ CpuState.Asleep command)
asleep_try k cpu command took h = grind (arith, nat_tests)

silent_try : (k : ℕ) (command : Command) (took : Took) → took_effect (Ok (try_effect k took)) ≡ false → entries_of k command took ≡ []
silent_try k command took h = grind (arith, nat_tests)

-- what a reply tells of the world after it
abbrev AnsweredIn : World → Step → ℕ → Reply → Effect → World → Type 0
AnsweredIn world step cpu reply effect new =
    effect ≡ Effect.Answered cpu reply → (command : Command) × IsTry world step cpu command × (new.transcript ≡ with_entry world.transcript cpu command reply)

answered_by : (world : World) (step : Step) (cpu : ℕ) (reply : Reply) (made : Made) → Tried world step made → AnsweredIn world step cpu reply made.effect made.world
answered_by world step cpu reply made t h =
    let told = answered_try t.cpu cpu t.command (took_of world t.command) reply (sym t.effect ∙ h) in (
      t.command,
      subst (λ k. IsTry world step k t.command) told.0 t.try,
      t.entered ∙ ap (λ es. world.transcript ++ es) told.1 ∙ ap (λ k. with_entry world.transcript k t.command reply) told.0,
    )

not_answered : (effect : Effect) (cpu : ℕ) (reply : Reply) → took_effect (Ok effect) ≡ false → effect ≡ Effect.Answered cpu reply → ⊥
not_answered effect cpu reply silent h = grind (arith, nat_tests)

not_called : (effect : Effect) (cpu left : ℕ) → took_effect (Ok effect) ≡ false → effect ≡ Effect.InCall cpu left → ⊥
not_called effect cpu left silent h = grind (arith, nat_tests)

-- a fact about what every step makes
by_step : (Q : Made → Type 0) (world : World) (step : Step) → ((made : Made) → Tried world step made → Q made) → ((made : Made) → Silent world made → Q made) → Holds Q (answer world step)
by_step Q world step of_try of_silent =
    by_test (is_try step)
    (λ h. holds-map (Tried world step) Q (answer world step) of_try (holds-made _ world step (tries world step h)))
    (λ h. holds-map (Silent world) Q (answer world step) of_silent (holds-made _ world step (silent world step h)))

answered : (world : World) (step : Step) (cpu : ℕ) (reply : Reply) → outcome world step ≡ Ok (Effect.Answered cpu reply) →
    (command : Command) × IsTry world step cpu command × ((next world step).transcript ≡ with_entry world.transcript cpu command reply)
answered world step cpu reply is =
    holds-effect (AnsweredIn world step cpu reply) world step (Effect.Answered cpu reply)
    (by_step _ world step (answered_by world step cpu reply) (λ made s h. absurd (not_answered made.effect cpu reply s.effect h))) is refl

abbrev CalledIn : World → Step → ℕ → ℕ → Effect → World → Type 0
CalledIn world step cpu left effect new =
    effect ≡ Effect.InCall cpu left →
    (command : Command) × (reply : Reply) × IsTry world step cpu command × (new.transcript ≡ with_entry world.transcript cpu command reply)
    × (processor_of new cpu ≡ CpuState.InCall reply left) × (0 < left)

called_by : (world : World) (step : Step) (cpu left : ℕ) (made : Made) → Tried world step made → CalledIn world step cpu left made.effect made.world
called_by world step cpu left made t h =
    let told = called_try t.cpu cpu t.command (took_of world t.command) left (took_some (is_access t.command) (guest_of world).space t.command) (sym t.effect ∙ h) in (
      t.command,
      told.reply,
      subst (λ k. IsTry world step k t.command) told.same t.try,
      t.entered ∙ ap (λ es. world.transcript ++ es) told.entries ∙ ap (λ k. with_entry world.transcript k t.command told.reply) told.same,
      subst (λ k. processor_of made.world k ≡ CpuState.InCall told.reply left) told.same (t.at ∙ told.call),
      told.some,
    )

called : (world : World) (step : Step) (cpu left : ℕ) → outcome world step ≡ Ok (Effect.InCall cpu left) →
    (command : Command) × (reply : Reply) × IsTry world step cpu command × ((next world step).transcript ≡ with_entry world.transcript cpu command reply)
    × (processor_of (next world step) cpu ≡ CpuState.InCall reply left) × (0 < left)
called world step cpu left is =
    holds-effect (CalledIn world step cpu left) world step (Effect.InCall cpu left)
    (by_step _ world step (called_by world step cpu left) (λ made s h. absurd (not_called made.effect cpu left s.effect h))) is refl

abbrev AsleepIn : World → Step → ℕ → Effect → World → Type 0
AsleepIn world step cpu effect new = effect ≡ Effect.Asleep cpu → (command : Command) × IsTry world step cpu command × (processor_of new cpu ≡ CpuState.Asleep command)

asleep_by : (world : World) (step : Step) (cpu : ℕ) (made : Made) → Tried world step made → AsleepIn world step cpu made.effect made.world
asleep_by world step cpu made t h =
    let told = asleep_try t.cpu cpu t.command (took_of world t.command) (sym t.effect ∙ h) in (
      t.command,
      subst (λ k. IsTry world step k t.command) told.0 t.try,
      subst (λ k. processor_of made.world k ≡ CpuState.Asleep t.command) told.0 (t.at ∙ told.1),
    )

not_asleep : (effect : Effect) (cpu : ℕ) → is_sleep effect ≡ false → effect ≡ Effect.Asleep cpu → ⊥
not_asleep effect cpu awake h = grind (arith, nat_tests)

asleep : (world : World) (step : Step) (cpu : ℕ) → outcome world step ≡ Ok (Effect.Asleep cpu) →
    (command : Command) × IsTry world step cpu command × (processor_of (next world step) cpu ≡ CpuState.Asleep command)
asleep world step cpu is =
    holds-effect (AsleepIn world step cpu) world step (Effect.Asleep cpu)
    (by_step _ world step (asleep_by world step cpu) (λ made s h. absurd (not_asleep made.effect cpu s.awake h))) is refl

abbrev OthersIn : World → Effect → World → Type 0
OthersIn world effect new = took_effect (Ok effect) ≡ false → new.transcript ≡ world.transcript

others_made : (world : World) (step : Step) → Holds (λ made. OthersIn world made.effect made.world) (answer world step)
others_made world step =
    by_step _ world step
    (λ made t h. t.entered ∙ ap (λ es. world.transcript ++ es) (silent_try t.cpu t.command (took_of world t.command) (sym (ap (λ e. took_effect (Ok e)) t.effect) ∙ h)) ∙ append-nil world.transcript)
    (λ made s h. s.transcript)

others_by : (world : World) (step : Step) (result : Outcome) → outcome world step ≡ result → took_effect result ≡ false → (next world step).transcript ≡ world.transcript
others_by world step (Ok effect) is h = holds-effect (OthersIn world) world step effect (others_made world step) is h
others_by world step (Err refusal) is h = ap (λ w. w.transcript) (next-refused world step refusal is)

-- Waiting commands

idle_is : (p : CpuState) → is_idle p ≡ true → p ≡ CpuState.Idle
idle_is p h = grind (arith, nat_tests)

free : (world : World) (cpu : ℕ) (command : Command) → IsOk (outcome world (Step.Issue cpu command)) → processor_of world cpu ≡ CpuState.Idle
free world cpu command ok = made-ok (λ new. processor_of world cpu ≡ CpuState.Idle) world (Step.Issue cpu command) (λ there idle may. idle_is (processor_of world cpu) idle) ok

woken_is : (p : CpuState) → is_woken p ≡ true → (command : Command) × (p ≡ CpuState.Woken command)
woken_is (CpuState.Woken command) h = (command, refl)
woken_is _ h = absurd (false≢true h)

woken : (world : World) (cpu : ℕ) → IsOk (outcome world (Step.Retry cpu)) → (command : Command) × (processor_of world cpu ≡ CpuState.Woken command)
woken world cpu ok =
    made-ok (λ new. (command : Command) × (processor_of world cpu ≡ CpuState.Woken command)) world (Step.Retry cpu) (λ command waits woken may. woken_is (processor_of world cpu) woken) ok

after_refusal : (step : Step) (refusal : Refusal) (k : ℕ) (before : Option Command) → waiting_after step (Err refusal) k before ≡ before
after_refusal step refusal k before = grind (arith, nat_tests)

after_other : (step : Step) (result : Outcome) (k : ℕ) (before : Option Command) → is_try step ≡ false → waiting_after step result k before ≡ before
after_other step result k before h = grind (arith, nat_tests)

after_issue : (took : Took) (command : Command) (cpu k : ℕ) (before now : Option Command) → (eqb cpu k ≡ true → (now ≡ outstanding (processor_after command took)) × (before ≡ None)) → (eqb cpu k ≡ false → now ≡ before) →
    now ≡ waiting_after (Step.Issue cpu command) (Ok (try_effect cpu took)) k before
after_issue took command cpu k before now here there = grind (arith, nat_tests)

after_retry : (took : Took) (command : Command) (cpu k : ℕ) (before now : Option Command) → (eqb cpu k ≡ true → (now ≡ outstanding (processor_after command took)) × (before ≡ Some command)) → (eqb cpu k ≡ false → now ≡ before) →
    now ≡ waiting_after (Step.Retry cpu) (Ok (try_effect cpu took)) k before
after_retry took command cpu k before now here there = grind (arith, nat_tests)

abbrev WaitsIn : World → Step → ℕ → Effect → World → Type 0
WaitsIn world step k effect new = waiting new k ≡ waiting_after step (Ok effect) k (waiting world k)

waits_ok : (world : World) (step : Step) (k : ℕ) (effect : Effect) → IsReached world → outcome world step ≡ Ok effect → WaitsIn world step k effect (next world step)
waits_ok world (Step.Issue cpu command) k effect reached is =
    made-effect (WaitsIn world (Step.Issue cpu command) k) world (Step.Issue cpu command) effect
    (λ there idle may.
    let new = after_command world cpu command in
    let at = ap (λ g. processor_at g.cpus cpu) (tried_guest world cpu command) ∙ set_there (guest_of world).cpus cpu (processor_after command (took_of world command)) there in
    after_issue (took_of world command) command cpu k (waiting world k) (waiting new k)
    (λ h.
    let same = eqb-true cpu k h in
    (subst (λ j. waiting new j ≡ outstanding (processor_after command (took_of world command))) same (ap outstanding at), subst (λ j. waiting world j ≡ None) same (ap outstanding (idle_is (processor_of world cpu) idle))))
    (λ h. tried_other world cpu command k (eqb-false cpu k h))) is
waits_ok world (Step.Retry cpu) k effect reached is =
    made-effect (WaitsIn world (Step.Retry cpu) k) world (Step.Retry cpu) effect
    (λ command waits woken may.
    let new = after_command world cpu command in
    let at = ap (λ g. processor_at g.cpus cpu) (tried_guest world cpu command) ∙ set_here (guest_of world).cpus cpu (processor_after command (took_of world command)) command waits in
    after_retry (took_of world command) command cpu k (waiting world k) (waiting new k)
    (λ h.
    let same = eqb-true cpu k h in
    (subst (λ j. waiting new j ≡ outstanding (processor_after command (took_of world command))) same (ap outstanding at), subst (λ j. waiting world j ≡ Some command) same waits))
    (λ h. tried_other world cpu command k (eqb-false cpu k h))) is
waits_ok world step k effect reached is = same_waits world step (kept-reached world reached) refl k ∙ sym (after_other step (Ok effect) k (waiting world k) refl)

waits_by : (world : World) (step : Step) (k : ℕ) (result : Outcome) → IsReached world → outcome world step ≡ result → waiting (next world step) k ≡ waiting_after step result k (waiting world k)
waits_by world step k (Ok effect) reached is = waits_ok world step k effect reached is
waits_by world step k (Err refusal) reached is = ap (λ w. waiting w k) (next-refused world step refusal is) ∙ sym (after_refusal step refusal k (waiting world k))

-- What a try gives

-- a try of a processor that the guest has
abbrev TriedIn : World → ℕ → Effect → World → Type 0
TriedIn world cpu effect new = IsTryEffect cpu effect × (cpu < cpus_of world)

of_try : (took : Took) (cpu : ℕ) → IsTryEffect cpu (try_effect cpu took)
of_try (Took.Answer reply) cpu = refl
of_try Took.Sleep cpu = refl
of_try (Took.Call reply left) cpu = refl

same_cpu : (k cpu : ℕ) → Some k ≡ Some cpu → k ≡ cpu
same_cpu k cpu h = grind (arith, nat_tests)

tried : (world : World) (step : Step) (cpu : ℕ) (effect : Effect) → tried_by step ≡ Some cpu → outcome world step ≡ Ok effect → IsTryEffect cpu effect × (cpu < cpus_of world)
tried world (Step.Issue k command) cpu effect of is =
    subst (λ j. IsTryEffect j effect × (j < cpus_of world)) (same_cpu k cpu of)
    (made-effect (TriedIn world k) world (Step.Issue k command) effect (λ there idle may. (of_try (took_of world command) k, is_there k (cpus_of world) (cpus_of world) there refl)) is)
tried world (Step.Retry k) cpu effect of is =
    subst (λ j. IsTryEffect j effect × (j < cpus_of world)) (same_cpu k cpu of)
    (made-effect (TriedIn world k) world (Step.Retry k) effect (λ command waits woken may. (of_try (took_of world command) k, waits_there (guest_of world).cpus k command waits)) is)
tried world _ cpu effect of is = absurd (none-some cpu of)

-- Map calls

-- the last message of a call is read by SourceRead or DestRead
abbrev NotLast : Effect → World → Type 0
NotLast effect new = is_last_read effect ≡ false

try_not_last : (took : Took) (cpu : ℕ) → is_last_read (try_effect cpu took) ≡ false
try_not_last took cpu = grind (arith, nat_tests)

quiet_not_last : (world : World) (step : Step) → IsReached world → is_quiet step ≡ true → Holds (λ made. NotLast made.effect made.world) (answer world step)
quiet_not_last world step reached h = holds-map (IsQuiet world) _ (answer world step) (λ made q. q.1) (quiet world step (kept-reached world reached) h)

last_of : (effect : Effect) (event : Message) (cpu : ℕ) (reply : Reply) → effect ≡ Effect.ReadLast event cpu reply → is_last_read effect ≡ false → ⊥
last_of effect event cpu reply h not = grind (arith, nat_tests)

reads : (world : World) (step : Step) (event : Message) (cpu : ℕ) (reply : Reply) → IsReached world → outcome world step ≡ Ok (Effect.ReadLast event cpu reply) → (step ≡ Step.SourceRead) ⊎ (step ≡ Step.DestRead)
reads world Step.SourceRead event cpu reply reached is = inl refl
reads world Step.DestRead event cpu reply reached is = inr refl
reads world (Step.Issue k command) event cpu reply reached is =
    absurd (last_of _ event cpu reply refl (made-effect NotLast world (Step.Issue k command) (Effect.ReadLast event cpu reply) (λ there idle may. try_not_last (took_of world command) k) is))
reads world (Step.Retry k) event cpu reply reached is =
    absurd (last_of _ event cpu reply refl (made-effect NotLast world (Step.Retry k) (Effect.ReadLast event cpu reply) (λ command waits woken may. try_not_last (took_of world command) k) is))
reads world (Step.Deliver n) event cpu reply reached is =
    absurd (last_of _ event cpu reply refl (made-effect NotLast world (Step.Deliver n) (Effect.ReadLast event cpu reply) ((λ sent rest is short. refl), (λ sent rest is full started up free early. frame_not_last sent.frame)) is))
reads world step event cpu reply reached is =
    absurd (last_of _ event cpu reply refl (holds-effect NotLast world step (Effect.ReadLast event cpu reply) (quiet_not_last world step reached refl) is))

begun : (effect : Effect) (cpu left : ℕ) → effect ≡ Effect.InCall cpu left → begins_call (Ok effect) cpu ≡ true
begun effect cpu left h = grind (arith, nat_tests)

ended : (result : Outcome) (event : Message) (cpu : ℕ) (reply : Reply) → result ≡ Ok (Effect.ReadLast event cpu reply) → ends_call result cpu ≡ true
ended result event cpu reply h = grind (arith, nat_tests)

-- a call that neither begins nor ends is as before
same_due : (before after : Option Reply) → ((reply : Reply) → before ≡ Some reply → after ≡ Some reply) → ((reply : Reply) → after ≡ Some reply → before ≡ Some reply) → after ≡ before
same_due None None kept arises = refl
same_due None (Some reply) kept arises = sym (arises reply refl)
same_due (Some reply) after kept arises = kept reply refl

lasts_ok : (world : World) (step : Step) (effect : Effect) (cpu : ℕ) → IsReached world → outcome world step ≡ Ok effect → begins_call (Ok effect) cpu ≡ false → ends_call (Ok effect) cpu ≡ false → reply_due (next world step) cpu ≡ reply_due world cpu
lasts_ok world step effect cpu reached is none ends =
    same_due (reply_due world cpu) (reply_due (next world step) cpu)
    (λ reply h.
    ⊎_elim
    (λ (kept : reply_due (next world step) cpu ≡ Some reply). kept)
    (λ (over : HandsOver world step cpu reply). absurd (false≢true (sym ends ∙ ended (Ok effect) over.event cpu reply (sym is ∙ over.is))))
    (reply_kept world step cpu reply reached h))
    (λ reply h.
    ⊎_elim
    (λ (was : reply_due world cpu ≡ Some reply). was)
    (λ (new : (left : ℕ) × (effect ≡ Effect.InCall cpu left)). absurd (false≢true (sym none ∙ begun effect cpu new.0 new.1)))
    (reply_arises world step effect cpu reply reached is h))

lasts_by : (world : World) (step : Step) (result : Outcome) (cpu : ℕ) → IsReached world → outcome world step ≡ result → begins_call result cpu ≡ false → ends_call result cpu ≡ false → reply_due (next world step) cpu ≡ reply_due world cpu
lasts_by world step (Ok effect) cpu reached is none ends = lasts_ok world step effect cpu reached is none ends
lasts_by world step (Err refusal) cpu reached is none ends = ap (λ w. reply_due w cpu) (next-refused world step refusal is)

entered : (world : World) (step : Step) → IsReached world → IsEntered world step (outcome world step) (next world step)
entered world step reached =
    record {
      tried = tried world step;
      answered = answered world step;
      called = called world step;
      others = others_by world step (outcome world step) refl;
      asleep = asleep world step;
      woken = λ cpu is. subst (λ s. IsOk (outcome world s) → (command : Command) × (processor_of world cpu ≡ CpuState.Woken command)) (sym is) (woken world cpu);
      free = λ cpu command is. subst (λ s. IsOk (outcome world s) → processor_of world cpu ≡ CpuState.Idle) (sym is) (free world cpu command);
      waits = λ cpu. waits_by world step cpu (outcome world step) reached refl;
      lasts = λ cpu. lasts_by world step (outcome world step) cpu reached refl;
      returned = λ event cpu reply is. let told = reply_handed_over world step event cpu reply reached is in (reads world step event cpu reply reached is, told.0, told.1, told.2);
    }

-- Steps

stays : (world : World) (step : Step) → IsReached world → phase_of world ≡ WorldPhase.Complete → phase_of (next world step) ≡ WorldPhase.Complete
stays world step reached complete =
    (phase_complete (next world step)).1 (complete-next world step (kept-reached world reached) ((phase_complete world).0 complete))

count : (world : World) (step : Step) → IsReached world → cpus_of (next world step) ≡ cpus_of world
count world step reached =
    guest_count (next world step) (reached-next world step reached) ∙ as_many_next world step (kept-reached world reached) ∙ sym (guest_count world reached)

-- completion comes by that word alone
abbrev CompletesBy : World → Step → Effect → World → Type 0
CompletesBy world step effect new = is_released new.source.phase ≡ true → (is_released world.source.phase ≡ true) ⊎ (is_done step (Ok effect) ≡ true)

completes_made : (world : World) (step : Step) → Makes (λ made. CompletesBy world step made.effect made.world) world step
completes_made world step = grind (arith, nat_tests)

completes : (world : World) (step : Step) (result : Outcome) → outcome world step ≡ result → phase_of (next world step) ≡ WorldPhase.Complete → (phase_of world ≡ WorldPhase.Complete) ⊎ (is_done step result ≡ true)
completes world step (Ok effect) is complete =
    ⊎_elim
    (λ (before : is_released world.source.phase ≡ true). inl ((phase_complete world).1 before))
    (λ (done : is_done step (Ok effect) ≡ true). inr done)
    (made-effect (CompletesBy world step) world step effect (completes_made world step) is ((phase_complete (next world step)).0 complete))
completes world step (Err refusal) is complete = inl (subst (λ w. phase_of w ≡ WorldPhase.Complete) (next-refused world step refusal is) complete)

-- what holds of one step holds of a step that is equal to it
at_step : (world : World) (one step : Step) (effect : Effect) (P : World → Type 0) → (outcome world one ≡ Ok effect → P (next world one)) → step ≡ one → outcome world step ≡ Ok effect → P (next world step)
at_step world one step effect P holds is = subst (λ s. outcome world s ≡ Ok effect → P (next world s)) (sym is) holds

core_made : (world : World) (step : Step) → IsReached world → CoreStep world step (outcome world step) (next world step)
core_made world step reached =
    record {
      core = core_reached (next world step) (reached-next world step reached);
      entered = entered world step reached;
      copy = λ addr origin.
          at_step world Step.Install step (Effect.Installed addr origin) (λ w. IsPut world w (addr / PAGE_SIZE) (origin / PAGE_SIZE)) (install_put_next world addr origin (kept-reached world reached));
      source_zero = λ addr.
          at_step world Step.SourceAct step (Effect.Zeroed addr) (λ w. IsZeroed (space_of world.source) (space_of w.source) (addr / PAGE_SIZE)) (source_zeroed world addr);
      destination_zero = λ addr.
          at_step world Step.DestAct step (Effect.Zeroed addr) (λ w. IsZeroed world.destination.guest.space w.destination.guest.space (addr / PAGE_SIZE)) (destination_zeroed world addr);
      count = count world step reached;
      completes = completes world step (outcome world step) refl;
      stays = stays world step reached;
      refused = next-refused world step;
    }

not_made : {A : Type 0} (effect : Effect) → Err Refusal.NoMemory ≡ Ok effect → A
not_made effect h = absurd (grind (arith, nat_tests))

not_ok : (result : Outcome) → result ≡ Err Refusal.NoMemory → IsOk result → ⊥
not_ok result is ok = grind (arith, nat_tests)

core_lacking : (world : World) (step : Step) → IsReached world → CoreStep world step (Err Refusal.NoMemory) world
core_lacking world step reached =
    record {
      core = core_reached world reached;
      entered =
          record {
            tried = λ cpu effect of h. not_made effect h;
            answered = λ cpu reply h. not_made (Effect.Answered cpu reply) h;
            called = λ cpu left h. not_made (Effect.InCall cpu left) h;
            asleep = λ cpu h. not_made (Effect.Asleep cpu) h;
            others = λ h. refl;
            free = λ cpu command is ok. absurd (not_ok (Err Refusal.NoMemory) refl ok);
            woken = λ cpu is ok. absurd (not_ok (Err Refusal.NoMemory) refl ok);
            waits = λ cpu. sym (after_refusal step Refusal.NoMemory cpu (waiting world cpu));
            lasts = λ cpu none ends. refl;
            returned = λ event cpu reply h. not_made (Effect.ReadLast event cpu reply) h;
          };
      copy = λ addr origin is h. not_made (Effect.Installed addr origin) h;
      source_zero = λ addr is h. not_made (Effect.Zeroed addr) h;
      destination_zero = λ addr is h. not_made (Effect.Zeroed addr) h;
      count = refl;
      completes = λ complete. inl complete;
      stays = λ complete. complete;
      refused = λ refusal h. refl;
    }

pub core_happens : (old new : World) (step : Step) (result : Outcome) → IsReached old → Happens old step result new → CoreStep old step result new
core_happens old new step result reached happens =
    ⊎_elim
    (λ (h : (result ≡ outcome old step) × (new ≡ next old step)).
    subst (λ w. CoreStep old step result w) (sym h.1) (subst (λ r. CoreStep old step r (next old step)) (sym h.0) (core_made old step reached)))
    (λ (h : (result ≡ Err Refusal.NoMemory) × (may_lack step (outcome old step) ≡ true) × (new ≡ old)).
    subst (λ w. CoreStep old step result w) (sym h.2) (subst (λ r. CoreStep old step r old) (sym h.0) (core_lacking old step reached)))
    happens

-- Runs

pub core_run : (old new : World) (steps : List Step) (results : List Outcome) → IsReached old → IsRun old steps results new → CoreRun old steps results new
core_run old new [] [] reached run = run
core_run old new (step ∷ steps) (result ∷ results) reached run =
    (run.0, core_happens old run.0 step result reached run.1, core_run run.0 new steps results (reached_happens old run.0 step result reached run.1) run.2)
core_run old new [] (result ∷ results) reached run = absurd run
core_run old new (step ∷ steps) [] reached run = absurd run
