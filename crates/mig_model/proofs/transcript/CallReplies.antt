-- A processor in a call has the reply of its last entry, until its last message is read.
use Rattle.std.proofs.lemmas.Bool.Decides.{nat_tests}
use Rattle.std.proofs.Common.{◌≡◌, ℕ, zero, suc, Bool, true, false, eqb, Option, Some, None, List, [], ◌∷◌, ◌++◌, refl, sym, ap, ◌∙◌, subst, ◌⊎◌, inl, inr, ⊎_elim, arith, if◌then◌else◌, not, append-nil}
use Rattle.std.specs.Prelude.{set, map, Ok, Err}
use Rattle.std.specs.Ordering.{nat_cmp}
use Rattle.std.specs.FinMap.{FinMap}
use Rattle.std.specs.FinSet.{FinSet}
use Rattle.std.proofs.lemmas.Bool.{false≢true, cases_eq}
use Rattle.std.proofs.lemmas.Option.{none-some}
use Rattle.mig_base.specs.declared.Prot.{Prot}
use Rattle.mig_base.specs.declared.command.Command.{Command}
use Rattle.mig_base.specs.declared.command.Entry.{Entry}
use Rattle.mig_base.specs.declared.command.Reply.{Reply}
use Rattle.mig_base.specs.declared.cpu_state.CpuState.{CpuState}
use Rattle.mig_base.specs.declared.effect.Effect.{Effect}
use Rattle.mig_base.specs.declared.message.Message.{Message}
use Rattle.mig_base.specs.declared.message.Message.TheVariants.{PageFault}
use Rattle.mig_base.specs.declared.schedule.Step.{Step}
use Rattle.mig_base.specs.Commands.{is_access}
use Rattle.mig_model.specs.Cpus.{Took, all_woken, entries_of, handed_over, is_idle, is_woken, message_less, processor_after, processor_at, taken_over, woken_if}
use Rattle.mig_model.specs.Cpus.Took.{Sleep, Call}
use Rattle.mig_model.specs.Guest.{Guest, is_left_by, read_guest, took_by}
use Rattle.mig_model.specs.Wire.{Frame, Sent}
use Rattle.mig_model.specs.Wire.Frame.{Package}
use Rattle.mig_model.specs.Migration.{Made, World, answer, guest_by, guest_of, next, outcome, Answer, next_by, outcome_by}
use Rattle.mig_model.proofs.steps.StepWorlds.{after_command, after_deliver}
use Rattle.mig_model.specs.Effects.{event_effect, read_effect, try_effect}
use Rattle.mig_model.specs.Promises.{AreSoundCalls}
use Rattle.mig_model.specs.Invariant.{IsSoundWorld}
use Rattle.mig_model.specs.Promises.{IsReached}
use Rattle.mig_model.specs.Replies.{HandsOver, call_reply, last_reply}
use Rattle.mig_model.proofs.transcript.Calls.{are_sound_calls, calls-first, calls_next}
use Rattle.mig_model.proofs.steps.EveryStep.{by_reached, kept-reached}
use Rattle.mig_model.proofs.memory.Facts.{by_test}
use Rattle.mig_model.proofs.invariant.FirstFrame.{delivered}
use Rattle.mig_model.proofs.steps.StepCases.{Makes, holds-made}
use Rattle.mig_model.proofs.steps.WokenSteps.{IsQuiet, IsWoken, frame_not_last, guest_woken, is_last_read, quiet, wakes-taken}
use Rattle.mig_model.proofs.steps.StepLemmas.{Holds, Leaves, holds-effect, holds-map, leaves-next}
use Rattle.mig_model.proofs.transcript.WaitingCommands.{idle_at, is_try, map_at, set_other, tried_guest}
use Rattle.mig_model.proofs.invariant.SourceKept.{has_not_run}

-- The last entry of a processor

behind_first : (here : Bool) (reply : Reply) (old first : Option Reply) →
    elim (if here then Some reply else old) [ Some r ↦ Some r | None ↦ first ] ≡ (if here then Some reply else elim old [ Some r ↦ Some r | None ↦ first ])
behind_first here reply old first = grind (arith, nat_tests)

last_reply-push : (entries : List Entry) (entry : Entry) (k : ℕ) → last_reply (entries ++ entry ∷ []) k ≡ (if eqb entry.cpu k then Some entry.reply else last_reply entries k)
last_reply-push [] entry k = refl
last_reply-push (first ∷ entries) entry k = grind (arith, nat_tests, behind_first, last_reply-push entries entry k)

other_entry : (entries : List Entry) (cpu : ℕ) (command : Command) (reply : Reply) (k : ℕ) → (cpu ≡ k → ⊥) → last_reply (entries ++ record { cpu = cpu; command = command; reply = reply } ∷ []) k ≡ last_reply entries k
other_entry entries cpu command reply k other = grind (arith, nat_tests, last_reply-push)

-- what a command enters is not of another processor
entered_other : (took : Took) (entries : List Entry) (cpu : ℕ) (command : Command) (k : ℕ) → (cpu ≡ k → ⊥) → last_reply (entries ++ entries_of cpu command took) k ≡ last_reply entries k
entered_other (Took.Answer reply) entries cpu command k other = other_entry entries cpu command reply k other
entered_other Sleep entries cpu command k other = ap (λ e. last_reply e k) (append-nil entries)
entered_other (Call reply left) entries cpu command k other = other_entry entries cpu command reply k other

-- a call has entered the reply that it will give
entered_call : (took : Took) (entries : List Entry) (cpu : ℕ) (command : Command) (reply : Reply) → call_reply (processor_after command took) ≡ Some reply → last_reply (entries ++ entries_of cpu command took) cpu ≡ Some reply
entered_call took entries cpu command reply h = grind (arith, nat_tests, last_reply-push)

-- Processors

-- the reply that the processor of a number will get
abbrev reply_at : List CpuState → ℕ → Option Reply
reply_at processors k = call_reply (processor_at processors k)

-- waking leaves calls
woken_replies : (test : ℕ → Bool) (ps : List CpuState) (k : ℕ) → reply_at (all_woken test ps) k ≡ reply_at ps k
woken_replies test ps k = grind (arith, nat_tests, map_at)

woken_idle : (test : ℕ → Bool) (ps : List CpuState) (k : ℕ) → processor_at ps k ≡ CpuState.Idle → processor_at (all_woken test ps) k ≡ CpuState.Idle
woken_idle test ps k idle = map_at (woken_if test) ps k refl ∙ ap (woken_if test) idle

idle_reply : (p : CpuState) → is_idle p ≡ true → call_reply p ≡ None
idle_reply p h = grind (arith, nat_tests)

woken_none : (p : CpuState) → is_woken p ≡ true → call_reply p ≡ None
woken_none p h = grind (arith, nat_tests)

taken_reply : (commands : List (Option Command)) (k : ℕ) → reply_at (map taken_over commands) k ≡ None
taken_reply [] k = refl
taken_reply (None ∷ commands) zero = refl
taken_reply (Some command ∷ commands) zero = refl
taken_reply (command ∷ commands) (suc k) = taken_reply commands k

-- one message less

less_goes_on : (p : CpuState) (reply : Reply) → call_reply p ≡ Some reply → (call_reply (message_less p) ≡ Some reply) ⊎ (handed_over p ≡ Some reply)
less_goes_on p reply h = grind (arith, nat_tests)

less_was : (p : CpuState) (reply : Reply) → call_reply (message_less p) ≡ Some reply → call_reply p ≡ Some reply
less_was p reply h = grind (arith, nat_tests)

last_message : (p : CpuState) (reply : Reply) → handed_over p ≡ Some reply → p ≡ CpuState.InCall reply 1
last_message p reply h = grind (arith, nat_tests)

set_reply : (processors : List CpuState) (i k : ℕ) (new : CpuState) (reply : Reply) → (call_reply new ≡ Some reply → reply_at processors i ≡ Some reply) → reply_at (set processors i new) k ≡ Some reply → reply_at processors k ≡ Some reply
set_reply [] i k new reply was h = h
set_reply (p ∷ ps) zero zero new reply was h = was h
set_reply (p ∷ ps) zero (suc k) new reply was h = h
set_reply (p ∷ ps) (suc i) zero new reply was h = h
set_reply (p ∷ ps) (suc i) (suc k) new reply was h = set_reply ps i k new reply was h

-- a processor in a call is there
set_in_call : (processors : List CpuState) (i : ℕ) (new : CpuState) (reply : Reply) → reply_at processors i ≡ Some reply → processor_at (set processors i new) i ≡ new
set_in_call [] i new reply h = absurd (none-some reply h)
set_in_call (p ∷ ps) zero new reply h = refl
set_in_call (p ∷ ps) (suc i) new reply h = set_in_call ps i new reply h

-- Steps that try no command

-- an effect tells that a processor gets this reply
record IsLast (effect : Effect) (k : ℕ) (reply : Reply) : Type 0 where
  event : Message
  is : effect ≡ Effect.ReadLast event k reply

-- calls continue, but for one whose last message is read
record GoOn (old new : Guest) (effect : Effect) : Type 0 where
  kept : (k : ℕ) (reply : Reply) → reply_at old.cpus k ≡ Some reply → (reply_at new.cpus k ≡ Some reply) ⊎ IsLast effect k reply
  was : (k : ℕ) (reply : Reply) → reply_at new.cpus k ≡ Some reply → reply_at old.cpus k ≡ Some reply
  last : (event : Message) (k : ℕ) (reply : Reply) → effect ≡ Effect.ReadLast event k reply → (processor_at old.cpus k ≡ CpuState.InCall reply 1) × (processor_at new.cpus k ≡ CpuState.Idle)

-- all continue
abbrev SameCalls : Guest → Guest → Type 0
SameCalls old new = (k : ℕ) → reply_at new.cpus k ≡ reply_at old.cpus k

not_last : {A : Type 0} (effect : Effect) (event : Message) (k : ℕ) (reply : Reply) → is_last_read effect ≡ false → effect ≡ Effect.ReadLast event k reply → A
not_last effect event k reply not is = absurd (false≢true (sym not ∙ ap is_last_read is))

all_go_on : (old new : Guest) (effect : Effect) → SameCalls old new → is_last_read effect ≡ false → GoOn old new effect
all_go_on old new effect same not = grind (arith, nat_tests)

-- Messages

-- the processor whose last message it is
told_last : (o : Option Reply) (message event : Message) (cpu k : ℕ) (reply : Reply) → event_effect message cpu o ≡ Effect.ReadLast event k reply → (cpu ≡ k) × (o ≡ Some reply)
told_last o message event cpu k reply h = grind (arith, nat_tests)

-- the processors once an event of one of them is read
abbrev event_read : List CpuState → ℕ → (ℕ → Bool) → List CpuState
event_read cpus cpu test = all_woken test (set cpus cpu (message_less (processor_at cpus cpu)))

event_kept : (cpus : List CpuState) (message : Message) (cpu : ℕ) (test : ℕ → Bool) (k : ℕ) (reply : Reply) → reply_at cpus k ≡ Some reply →
    (reply_at (event_read cpus cpu test) k ≡ Some reply) ⊎ IsLast (event_effect message cpu (handed_over (processor_at cpus cpu))) k reply
event_kept cpus message cpu test k reply h =
    let p = processor_at cpus cpu in
    ⊎_elim
    (λ (same : cpu ≡ k).
    let own = ap (λ j. reply_at cpus j) same ∙ h in
    ⊎_elim
    (λ (on : call_reply (message_less p) ≡ Some reply).
    inl (woken_replies test (set cpus cpu (message_less p)) k ∙ ap (λ j. reply_at (set cpus cpu (message_less p)) j) (sym same) ∙ ap call_reply (set_in_call cpus cpu (message_less p) reply own) ∙ on))
    (λ (over : handed_over p ≡ Some reply). inr (record { event = message; is = ap (λ o. event_effect message cpu o) over ∙ ap (λ j. Effect.ReadLast message j reply) same }))
    (less_goes_on p reply own))
    (λ (other : cpu ≡ k → ⊥). inl (woken_replies test (set cpus cpu (message_less p)) k ∙ ap call_reply (set_other cpus cpu k (message_less p) other) ∙ h))
    (cases_eq cpu k)

event_goes_on : (old new : Guest) (message : Message) (cpu : ℕ) (test : ℕ → Bool) → new.cpus ≡ event_read old.cpus cpu test → GoOn old new (event_effect message cpu (handed_over (processor_at old.cpus cpu)))
event_goes_on old new message cpu test is =
    let p = processor_at old.cpus cpu in
    record {
      kept = λ k reply h. subst (λ cpus. (reply_at cpus k ≡ Some reply) ⊎ IsLast (event_effect message cpu (handed_over p)) k reply) (sym is) (event_kept old.cpus message cpu test k reply h);
      was = λ k reply h. set_reply old.cpus cpu k (message_less p) reply (less_was p reply) (sym (woken_replies test (set old.cpus cpu (message_less p)) k) ∙ ap (λ cpus. reply_at cpus k) (sym is) ∙ h);
      last = λ event k reply h.
          let told = told_last (handed_over p) message event cpu k reply h in
          let one = last_message p reply told.1 in
          let there = set_in_call old.cpus cpu (message_less p) reply (ap call_reply one) in
          subst (λ j. (processor_at old.cpus j ≡ CpuState.InCall reply 1) × (processor_at new.cpus j ≡ CpuState.Idle)) told.0
          (one, ap (λ cpus. processor_at cpus cpu) is ∙ woken_idle test (set old.cpus cpu (message_less p)) cpu (there ∙ ap message_less one));
    }

read_goes_on : (guest : Guest) (cpu : ℕ) (message : Message) → GoOn guest (read_guest guest cpu message) (read_effect guest.cpus cpu message)
read_goes_on guest cpu (PageFault addr write wp tid) = all_go_on guest _ _ (λ k. refl) refl
read_goes_on guest cpu message = event_goes_on guest _ message cpu (is_left_by message) refl

-- where the guest runs, by the node that changes
source_goes_on : (ran : Bool) (old new to : Guest) (effect : Effect) → ran ≡ false → GoOn old new effect → GoOn (guest_by ran old to) (guest_by ran new to) effect
source_goes_on ran old new to effect is on = grind (arith, nat_tests)

destination_goes_on : (ran : Bool) (from old new : Guest) (effect : Effect) → ran ≡ true → GoOn old new effect → GoOn (guest_by ran from old) (guest_by ran from new) effect
destination_goes_on ran from old new effect is on = grind (arith, nat_tests)

try_not_last : (took : Took) (cpu : ℕ) → is_last_read (try_effect cpu took) ≡ false
try_not_last took cpu = grind (arith, nat_tests)

-- Steps that try no command

-- calls continue, and nothing is entered
record GoesOn (world : World) (made : Made) : Type 0 where
  calls : GoOn (guest_of world) (guest_of made.world) made.effect
  transcript : made.world.transcript ≡ world.transcript

quietly : (world new : World) (effect : Effect) → SameCalls (guest_of world) (guest_of new) → is_last_read effect ≡ false → new.transcript ≡ world.transcript → GoesOn world (record { effect = effect; world = new })
quietly world new effect same not entered = record { calls = all_go_on (guest_of world) (guest_of new) effect same not; transcript = entered }

-- a Package is taken where no processor is in a call, and none is then
package_calls : (epoch : ℕ) (areas : FinMap nat_cmp Prot) (owed : FinSet nat_cmp) (commands : List (Option Command)) (rest : List Sent) (world : World) → world.up ≡ true → world.forward.frames ≡ record { epoch = epoch; frame = Package areas owed commands } ∷ rest → IsSoundWorld world →
    AreSoundCalls world → SameCalls (guest_of world) (guest_of (delivered world (record { epoch = epoch; frame = Package areas owed commands } ∷ rest)))
package_calls epoch areas owed commands rest world up first kept all k = grind (arith, nat_tests, taken_reply)

-- waking leaves calls
woken_calls : (old new : List CpuState) → IsWoken old new → (k : ℕ) → reply_at new k ≡ reply_at old k
woken_calls old new w k = ap (λ ps. reply_at ps k) w.is ∙ woken_replies w.test old k

taken_calls : (frame : Frame) (epoch : ℕ) (rest : List Sent) (world : World) → world.up ≡ true → world.forward.frames ≡ record { epoch = epoch; frame = frame } ∷ rest → IsSoundWorld world → AreSoundCalls world →
    SameCalls (guest_of world) (guest_of (after_deliver world (record { epoch = epoch; frame = frame }) rest))
taken_calls frame epoch rest world up first kept all k = grind (arith, nat_tests, package_calls, guest_woken, wakes-taken)

goes_on : (world : World) (step : Step) → IsSoundWorld world → AreSoundCalls world → is_try step ≡ false → Holds (GoesOn world) (answer world step)
goes_on world (Step.Issue cpu command) kept all other = absurd (false≢true (sym other))
goes_on world (Step.Retry cpu) kept all other = absurd (false≢true (sym other))
goes_on world Step.SourceRead kept all other =
    holds-made _ world Step.SourceRead (λ noted is started unswitched.
    record {
      calls = source_goes_on world.destination.has_run world.source.guest _ world.destination.guest _ (has_not_run world kept unswitched) (read_goes_on world.source.guest noted.cpu noted.message);
      transcript = refl;
    })
goes_on world Step.DestRead kept all other =
    holds-made _ world Step.DestRead (λ noted is ran.
    record { calls = destination_goes_on world.destination.has_run world.source.guest world.destination.guest _ _ ran (read_goes_on world.destination.guest noted.cpu noted.message); transcript = refl })
goes_on world (Step.Deliver n) kept all other =
    holds-made _ world (Step.Deliver n) (
      (λ sent rest is short. quietly world _ _ (λ k. refl) refl refl),
      (λ sent rest is full started up free early. quietly world _ _ (taken_calls sent.frame sent.epoch rest world up is kept all) (frame_not_last sent.frame) refl),
    )
goes_on world step kept all other =
    holds-map (IsQuiet world) _ (answer world step) (λ made q. quietly world made.world made.effect (woken_calls _ _ (guest_woken world made.world q.0)) q.1 q.0.transcript) (quiet world step kept refl)

-- Steps that try a command

record Tries (world : World) (made : Made) : Type 0 where
  cpu : ℕ
  command : Command
  free : reply_at (guest_of world).cpus cpu ≡ None
  effect : made.effect ≡ try_effect cpu (took_by (is_access command) (guest_of world).space command)
  is : made.world ≡ after_command world cpu command

is_tried : (world : World) (step : Step) → is_try step ≡ true → Makes (Tries world) world step
is_tried world (Step.Issue cpu command) h = grind (arith, nat_tests, idle_reply)
is_tried world (Step.Retry cpu) h = grind (arith, nat_tests, woken_none)
is_tried world _ h = absurd (false≢true h)

-- the processors once one has tried a command
tried_at : (world : World) (cpu : ℕ) (command : Command) (k : ℕ) →
    processor_at (guest_of (after_command world cpu command)).cpus k ≡ processor_at (set (guest_of world).cpus cpu (processor_after command (took_by (is_access command) (guest_of world).space command))) k
tried_at world cpu command k = ap (λ g. processor_at g.cpus k) (tried_guest world cpu command)

tried_keeps : (world : World) (cpu : ℕ) (command : Command) (k : ℕ) (reply : Reply) → reply_at (guest_of world).cpus cpu ≡ None → reply_at (guest_of world).cpus k ≡ Some reply → reply_at (guest_of (after_command world cpu command)).cpus k ≡ Some reply
tried_keeps world cpu command k reply free h = grind (arith, nat_tests, set_other)

-- every processor in a call has entered its reply
abbrev HasReplies : World → Type 0
HasReplies world = (k : ℕ) (reply : Reply) → reply_at (guest_of world).cpus k ≡ Some reply → last_reply world.transcript k ≡ Some reply

-- the processor at a place of a list where one was set
set_either : (processors : List CpuState) (i k : ℕ) (new : CpuState) (reply : Reply) → reply_at processors i ≡ None → reply_at (set processors i new) k ≡ Some reply →
    ((i ≡ k) × (call_reply new ≡ Some reply)) ⊎ ((i ≡ k → ⊥) × (reply_at processors k ≡ Some reply))
set_either [] i k new reply free h = absurd (none-some reply h)
set_either (p ∷ ps) zero zero new reply free h = inl (refl, h)
set_either (p ∷ ps) zero (suc k) new reply free h = inr (λ e. absurd (omega (arith, e)), h)
set_either (p ∷ ps) (suc i) zero new reply free h = inr (λ e. absurd (omega (arith, e)), h)
set_either (p ∷ ps) (suc i) (suc k) new reply free h = grind (arith, nat_tests, set_either ps i k new reply free h)

tried_replies : (world : World) (cpu : ℕ) (command : Command) → reply_at (guest_of world).cpus cpu ≡ None → HasReplies world → HasReplies (after_command world cpu command)
tried_replies world cpu command free has k reply h =
    let took = took_by (is_access command) (guest_of world).space command in
    ⊎_elim
    (λ (own : (cpu ≡ k) × (call_reply (processor_after command took) ≡ Some reply)). subst (λ j. last_reply (world.transcript ++ entries_of cpu command took) j ≡ Some reply) own.0 (entered_call took world.transcript cpu command reply own.1))
    (λ (rest : (cpu ≡ k → ⊥) × (reply_at (guest_of world).cpus k ≡ Some reply)). entered_other took world.transcript cpu command k rest.0 ∙ has k reply rest.1)
    (set_either (guest_of world).cpus cpu k (processor_after command took) reply free (sym (ap call_reply (tried_at world cpu command k)) ∙ h))

-- Every step

replies_answer : (world : World) (step : Step) → IsSoundWorld world → AreSoundCalls world → HasReplies world → Leaves HasReplies (answer world step)
replies_answer world step kept all has =
    by_test (is_try step)
    (λ tries. holds-map (Tries world) _ (answer world step) (λ made t. subst HasReplies (sym t.is) (tried_replies world t.cpu t.command t.free has)) (holds-made _ world step (is_tried world step tries)))
    (λ other. holds-map (GoesOn world) _ (answer world step) (λ made g k reply h. ap (λ e. last_reply e k) g.transcript ∙ has k reply (g.calls.was k reply h)) (goes_on world step kept all other))

pub reply_entered : (world : World) (cpu : ℕ) (reply : Reply) → IsReached world → call_reply (processor_at (guest_of world).cpus cpu) ≡ Some reply → last_reply world.transcript cpu ≡ Some reply
reply_entered world cpu reply reached =
    (by_reached (λ w. AreSoundCalls w × HasReplies w) (λ old step kept urgent both. (calls_next old step kept both.0, leaves-next HasReplies old step both.1 (replies_answer old step kept both.0 both.1)))
    (λ cpus epoch rounds. (calls-first cpus epoch rounds, λ k other h. absurd (none-some other (sym (ap call_reply (idle_at cpus k)) ∙ h)))) world reached).1 cpu reply

-- a call that continues, or gives its reply by this step
abbrev GoesOnOr : ℕ → Reply → Made → Type 0
GoesOnOr k reply made = (reply_at (guest_of made.world).cpus k ≡ Some reply) ⊎ IsLast made.effect k reply

call_answer : (world : World) (step : Step) (k : ℕ) (reply : Reply) → IsSoundWorld world → AreSoundCalls world → reply_at (guest_of world).cpus k ≡ Some reply → Holds (GoesOnOr k reply) (answer world step)
call_answer world step k reply kept all h =
    by_test (is_try step)
    (λ tries. holds-map (Tries world) _ (answer world step) (λ made t. inl (ap (λ w. reply_at (guest_of w).cpus k) t.is ∙ tried_keeps world t.cpu t.command k reply t.free h)) (holds-made _ world step (is_tried world step tries)))
    (λ other. holds-map (GoesOn world) _ (answer world step) (λ made g. g.calls.kept k reply h) (goes_on world step kept all other))

handed_by : (world : World) (step : Step) (cpu : ℕ) (reply : Reply) → reply_at (guest_of world).cpus cpu ≡ Some reply → Holds (GoesOnOr cpu reply) (answer world step) → (reply_at (guest_of (next world step)).cpus cpu ≡ Some reply) ⊎ HandsOver world step cpu reply
unfolding next outcome
handed_by world step cpu reply h holds = by (answer world step) refl holds
  where
    by : (result : Answer) → answer world step ≡ result → Holds (GoesOnOr cpu reply) result → (reply_at (guest_of (next_by world (answer world step))).cpus cpu ≡ Some reply) ⊎ HandsOver world step cpu reply
    by (Ok made) is (inl stays) = inl (ap (λ r. reply_at (guest_of (next_by world r)).cpus cpu) is ∙ stays)
    by (Ok made) is (inr last) = inr (record { event = last.event; is = ap outcome_by is ∙ ap (λ e. Ok e) last.is })
    by (Err refusal) is k = inl (ap (λ r. reply_at (guest_of (next_by world r)).cpus cpu) is ∙ h)

pub reply_kept : (world : World) (step : Step) (cpu : ℕ) (reply : Reply) → IsReached world → call_reply (processor_at (guest_of world).cpus cpu) ≡ Some reply →
    (call_reply (processor_at (guest_of (next world step)).cpus cpu) ≡ Some reply) ⊎ HandsOver world step cpu reply
reply_kept world step cpu reply reached h = handed_by world step cpu reply h (call_answer world step cpu reply (kept-reached world reached) (are_sound_calls world reached) h)

-- a call begins by this effect
abbrev Begins : Effect → ℕ → Type 0
Begins effect k = (left : ℕ) × (effect ≡ Effect.InCall k left)

begins_by : (took : Took) (command : Command) (cpu : ℕ) (reply : Reply) → call_reply (processor_after command took) ≡ Some reply → Begins (try_effect cpu took) cpu
begins_by (Took.Answer given) command cpu reply h = absurd (none-some reply h)
begins_by Sleep command cpu reply h = absurd (none-some reply h)
begins_by (Call given left) command cpu reply h = (left, refl)

-- a processor that is in a call was in it before, or began it by this step
abbrev ArisesBy : World → ℕ → Reply → Effect → World → Type 0
ArisesBy world k reply effect new = reply_at (guest_of new).cpus k ≡ Some reply → (reply_at (guest_of world).cpus k ≡ Some reply) ⊎ Begins effect k

arises_tried : (world : World) (k : ℕ) (reply : Reply) (made : Made) → Tries world made → ArisesBy world k reply made.effect made.world
arises_tried world k reply made t h =
    let took = took_by (is_access t.command) (guest_of world).space t.command in
    ⊎_elim
    (λ (own : (t.cpu ≡ k) × (call_reply (processor_after t.command took) ≡ Some reply)).
    let begins = begins_by took t.command t.cpu reply own.1 in
    inr (begins.0, t.effect ∙ begins.1 ∙ ap (λ j. Effect.InCall j begins.0) own.0))
    (λ (rest : (t.cpu ≡ k → ⊥) × (reply_at (guest_of world).cpus k ≡ Some reply)). inl rest.1)
    (set_either (guest_of world).cpus t.cpu k (processor_after t.command took) reply t.free
    (sym (ap call_reply (tried_at world t.cpu t.command k)) ∙ sym (ap (λ w. reply_at (guest_of w).cpus k) t.is) ∙ h))

arises_answer : (world : World) (step : Step) (k : ℕ) (reply : Reply) → IsSoundWorld world → AreSoundCalls world → Holds (λ made. ArisesBy world k reply made.effect made.world) (answer world step)
arises_answer world step k reply kept all =
    by_test (is_try step)
    (λ tries. holds-map (Tries world) _ (answer world step) (λ made t. arises_tried world k reply made t) (holds-made _ world step (is_tried world step tries)))
    (λ other. holds-map (GoesOn world) _ (answer world step) (λ made g h. inl (g.calls.was k reply h)) (goes_on world step kept all other))

pub reply_arises : (world : World) (step : Step) (effect : Effect) (cpu : ℕ) (reply : Reply) → IsReached world → outcome world step ≡ Ok effect → call_reply (processor_at (guest_of (next world step)).cpus cpu) ≡ Some reply →
    (call_reply (processor_at (guest_of world).cpus cpu) ≡ Some reply) ⊎ ((left : ℕ) × (effect ≡ Effect.InCall cpu left))
reply_arises world step effect cpu reply reached is =
    holds-effect (ArisesBy world cpu reply) world step effect (arises_answer world step cpu reply (kept-reached world reached) (are_sound_calls world reached)) is

-- what is handed over is that reply
abbrev LastTold : World → Effect → World → Type 0
LastTold world effect new = (event : Message) (k : ℕ) (reply : Reply) → effect ≡ Effect.ReadLast event k reply → (processor_at (guest_of world).cpus k ≡ CpuState.InCall reply 1) × (processor_at (guest_of new).cpus k ≡ CpuState.Idle)

last_answer : (world : World) (step : Step) → IsSoundWorld world → AreSoundCalls world → Holds (λ made. LastTold world made.effect made.world) (answer world step)
last_answer world step kept all =
    by_test (is_try step)
    (λ tries. holds-map (Tries world) _ (answer world step)
    (λ made t event k reply is. not_last (try_effect t.cpu (took_by (is_access t.command) (guest_of world).space t.command)) event k reply (try_not_last _ t.cpu) (sym t.effect ∙ is)) (holds-made _ world step (is_tried world step tries)))
    (λ other. holds-map (GoesOn world) _ (answer world step) (λ made g event k reply is. g.calls.last event k reply is) (goes_on world step kept all other))

pub reply_handed_over : (world : World) (step : Step) (event : Message) (cpu : ℕ) (reply : Reply) → IsReached world → outcome world step ≡ Ok (Effect.ReadLast event cpu reply) →
    (processor_at (guest_of world).cpus cpu ≡ CpuState.InCall reply 1) × (processor_at (guest_of (next world step)).cpus cpu ≡ CpuState.Idle) × (last_reply world.transcript cpu ≡ Some reply)
reply_handed_over world step event cpu reply reached is =
    let told = holds-effect (LastTold world) world step (Effect.ReadLast event cpu reply) (last_answer world step (kept-reached world reached) (are_sound_calls world reached)) is event cpu reply refl in
    (told.0, told.1, reply_entered world cpu reply reached (ap call_reply told.0))
