-- A processor is in a call exactly as long as it has unread events there, and counts them: every step keeps it.
use Rattle.std.proofs.Common.{◌≡◌, ℕ, zero, suc, ◌+◌, Bool, true, false, not, eqb, ltb, Option, Some, None, List, [], ◌∷◌, ◌++◌, length, refl, sym, ap, ◌∙◌, subst, arith, if◌then◌else◌}
use Rattle.std.specs.Prelude.{set, map}
use Rattle.std.proofs.lemmas.Bool.Decides.{nat_tests}
use Rattle.std.proofs.lemmas.Bool.{false≢true, ne_eqb}
use Rattle.mig_base.specs.declared.command.Access.{Access}
use Rattle.mig_base.specs.declared.command.Command.{Command}
use Rattle.mig_base.specs.declared.command.Reply.{Reply}
use Rattle.mig_base.specs.declared.cpu_state.CpuState.{CpuState}
use Rattle.mig_base.specs.declared.message.Message.{Message}
use Rattle.mig_base.specs.declared.message.Message.TheVariants.{PageFault, Remap, Remove, Unmap}
use Rattle.mig_base.specs.declared.schedule.Step.{Step}
use Rattle.mig_base.specs.Commands.{is_access}
use Rattle.mig_base.specs.Flat.{reply_of}
use Rattle.mig_model.specs.Host.{memory}
use Rattle.mig_base.specs.Userfault.{Noted, next_message}
use Rattle.mig_model.specs.Space.{access_of, call_messages, modes_after}
use Rattle.mig_model.specs.Wire.{Frame}
use Rattle.mig_model.specs.Wire.Frame.{Package}
use Rattle.mig_model.specs.Promises.{unread_of, CallFits, HasSoundCalls, AreSoundCalls}
use Rattle.mig_model.specs.Invariant.{IsSoundWorld, AreWholeEvents}
use Rattle.mig_model.proofs.owed.SourceMessages.{noted_all, events_queued}
use Rattle.mig_model.proofs.owed.SettledPromises.{accessed_events}
use Rattle.mig_model.proofs.owed.FaultLemmas.{AreFaults-tried}
use Rattle.mig_model.proofs.transcript.WaitingCommands.{idle_at, map_at, set_there, set_other}
use Rattle.mig_model.proofs.steps.EveryStep.{by_reached}
use Rattle.mig_model.specs.Cpus.{access_took, all_woken, call_took, is_idle, is_woken, message_less, processor_after, processor_at, taken_over}
use Rattle.mig_model.specs.Guest.{Guest, read_guest, tried, is_left_by}
use Rattle.mig_model.specs.Destination.{Destination, destination_took}
use Rattle.mig_model.specs.Migration.{first_world_with, World, guest_by, guest_of, next, with_guest_by}
use Rattle.mig_model.proofs.steps.StepWorlds.{after_command, has_no_cpu}
use Rattle.mig_model.specs.Promises.{IsReached}
use Rattle.mig_model.proofs.steps.StepCases.{made-next}
use Rattle.mig_model.proofs.steps.WokenSteps.{Wakes, takes, wakes-next}
use Rattle.mig_model.proofs.memory.Facts.{eqb-self, modes_events}

-- Numbers of events

unread-append : (events more : List Noted) (k : ℕ) → unread_of (events ++ more) k ≡ unread_of events k + unread_of more k
unread-append [] more k = omega arith
unread-append (noted ∷ events) more k = let rest = unread-append events more k in omega (arith, rest)

one_more : (here : Bool) (count : ℕ) → (if here then 1 else 0) + (if here then count else 0) ≡ (if here then suc count else 0)
one_more here count = grind (arith, nat_tests)

none_noted : (here : Bool) (n : ℕ) → n ≡ (if here then n else n)
none_noted here n = grind (arith, nat_tests)

unread-noted : (messages : List Message) (cpu k : ℕ) → unread_of (noted_all messages cpu) k ≡ (if eqb cpu k then length messages else 0)
unread-noted [] cpu k = none_noted (eqb cpu k) 0
unread-noted (message ∷ messages) cpu k = ap (λ n. (if eqb cpu k then 1 else 0) + n) (unread-noted messages cpu k) ∙ one_more (eqb cpu k) (length messages)

-- Processors

-- waking leaves calls
fits_all : (test : ℕ → Bool) (cpus : List CpuState) (k unread : ℕ) → CallFits (processor_at cpus k) unread → CallFits (processor_at (all_woken test cpus) k) unread
fits_all test cpus k unread h = grind (arith, nat_tests, map_at)

idle_unread : (p : CpuState) (unread : ℕ) → is_idle p ≡ true → CallFits p unread → unread ≡ 0
idle_unread p unread is h = grind (arith, nat_tests)

woken_unread : (p : CpuState) (unread : ℕ) → is_woken p ≡ true → CallFits p unread → unread ≡ 0
woken_unread p unread is h = grind (arith, nat_tests)

-- a processor that is there changes, and the others stay
fits_set : (cpus : List CpuState) (i : ℕ) (new : CpuState) (before now : ℕ → ℕ) → not (ltb i (length cpus)) ≡ false → ((k : ℕ) → CallFits (processor_at cpus k) (before k)) → ((k : ℕ) → (i ≡ k → ⊥) → now k ≡ before k) → CallFits new (now i) → (k : ℕ) →
    CallFits (processor_at (set cpus i new) k) (now k)
fits_set cpus i new before now there fits others here k = grind (arith, nat_tests, set_there, set_other)

-- Commands

answered_fits : (access : Access) (command : Command) (unread : ℕ) → unread ≡ 0 → CallFits (processor_after command (access_took access)) unread
answered_fits access command unread h = grind (arith, nat_tests)

called_fits : (reply : Reply) (count : ℕ) (command : Command) (unread : ℕ) → unread ≡ count → CallFits (processor_after command (call_took reply count)) unread
called_fits reply count command unread h = grind (arith, nat_tests)

plus_none : (n : ℕ) → n + 0 ≡ n
plus_none n = omega arith

none_plus : (n : ℕ) → 0 + n ≡ n
none_plus n = omega arith

tried_calls : (access : Bool) (guest : Guest) (cpu : ℕ) (command : Command) → not (ltb cpu (length guest.cpus)) ≡ false → unread_of guest.space.object.events cpu ≡ 0 → HasSoundCalls guest → HasSoundCalls (tried access guest cpu command)
tried_calls true guest cpu command there none calls =
    let access = access_of guest.space command in
    let events = accessed_events access guest.space cpu command in
    record {
      fits = subst (λ e. (k : ℕ) → CallFits (processor_at (set guest.cpus cpu (processor_after command (access_took access))) k) (unread_of e k)) (sym events)
          (fits_set guest.cpus cpu (processor_after command (access_took access)) (unread_of guest.space.object.events) (unread_of guest.space.object.events) there calls.fits (λ k other. refl)
          (answered_fits access command (unread_of guest.space.object.events cpu) none));
      faults = AreFaults-tried true guest.space cpu command calls.faults;
    }
tried_calls false guest cpu command there none calls =
    let reply = reply_of (memory guest.space.host) command in
    let messages = call_messages guest.space.object command reply in
    let old = guest.space.object.events in
    let new = processor_after command (call_took reply (length messages)) in
    let events = events_queued (modes_after guest.space.object command reply) messages cpu ∙ ap (λ e. e ++ noted_all messages cpu) (modes_events guest.space.object command reply) in
    let count = λ (k : ℕ). unread-append old (noted_all messages cpu) k ∙ ap (λ n. unread_of old k + n) (unread-noted messages cpu k) in
    record {
      fits = subst (λ e. (k : ℕ) → CallFits (processor_at (set guest.cpus cpu new) k) (unread_of e k)) (sym events)
          (fits_set guest.cpus cpu new (unread_of old) (unread_of (old ++ noted_all messages cpu)) there calls.fits
          (λ k other. count k ∙ ap (λ b. unread_of old k + (if b then length messages else 0)) (ne_eqb cpu k other) ∙ plus_none (unread_of old k))
          (called_fits reply (length messages) command (unread_of (old ++ noted_all messages cpu) cpu)
          (count cpu ∙ ap (λ b. unread_of old cpu + (if b then length messages else 0)) (eqb-self cpu) ∙ ap (λ n. n + length messages) none ∙ none_plus (length messages))));
      faults = AreFaults-tried false guest.space cpu command calls.faults;
    }

first_there : (n : ℕ) → not (ltb 0 (suc n)) ≡ false
first_there n = grind (arith, nat_tests)

more_there : (k n : ℕ) → not (ltb k n) ≡ false → not (ltb (suc k) (suc n)) ≡ false
more_there k n h = grind (arith, nat_tests)

woken_there : (cpus : List CpuState) (k : ℕ) → is_woken (processor_at cpus k) ≡ true → not (ltb k (length cpus)) ≡ false
woken_there [] k h = absurd (false≢true h)
woken_there (p ∷ ps) zero h = first_there (length ps)
woken_there (p ∷ ps) (suc k) h = more_there k (length ps) (woken_there ps k h)

-- Messages

less_fits : (p : CpuState) (unread : ℕ) → CallFits p (1 + unread) → CallFits (message_less p) unread
less_fits p unread h = grind (arith, nat_tests)

-- a processor that has unread events is there
call_there : (cpus : List CpuState) (k unread : ℕ) → CallFits (processor_at cpus k) (1 + unread) → not (ltb k (length cpus)) ≡ false
call_there [] k unread h = absurd (omega (arith, h))
call_there (p ∷ ps) zero unread h = first_there (length ps)
call_there (p ∷ ps) (suc k) unread h = more_there k (length ps) (call_there ps k unread h)

event_fits : (cpus : List CpuState) (first : Noted) (events : List Noted) (test : ℕ → Bool) → ((k : ℕ) → CallFits (processor_at cpus k) (unread_of (first ∷ events) k)) → (k : ℕ) →
    CallFits (processor_at (all_woken test (set cpus first.cpu (message_less (processor_at cpus first.cpu)))) k) (unread_of events k)
event_fits cpus first events test fits k =
    let own = subst (λ n. CallFits (processor_at cpus first.cpu) n) (ap (λ b. (if b then 1 else 0) + unread_of events first.cpu) (eqb-self first.cpu)) (fits first.cpu) in
    fits_all test (set cpus first.cpu (message_less (processor_at cpus first.cpu))) k (unread_of events k)
    (fits_set cpus first.cpu (message_less (processor_at cpus first.cpu)) (unread_of (first ∷ events)) (unread_of events) (call_there cpus first.cpu (unread_of events first.cpu) own) fits
    (λ j other. sym (ap (λ b. (if b then 1 else 0) + unread_of events j) (ne_eqb first.cpu j other) ∙ none_plus (unread_of events j)))
    (less_fits (processor_at cpus first.cpu) (unread_of events first.cpu) own) k)

-- a guest with these queues. Each guest is one with its own
abbrev with_queues : List Noted → List Noted → Guest → Guest
with_queues faults events guest = record guest { space = record guest.space { object = record guest.space.object { faults = faults; events = events } } }

event_calls : (message : Message) (cpu : ℕ) (events : List Noted) (guest : Guest) → AreWholeEvents (record { message = message; cpu = cpu } ∷ events) → HasSoundCalls (with_queues [] (record { message = message; cpu = cpu } ∷ events) guest) →
    HasSoundCalls (read_guest (with_queues [] (record { message = message; cpu = cpu } ∷ events) guest) cpu message)
event_calls (PageFault addr write wp tid) cpu events guest right calls = absurd right.0
event_calls (Remap from to len) cpu events guest right calls = record { fits = event_fits guest.cpus (record { message = Remap from to len; cpu = cpu }) events (is_left_by (Remap from to len)) calls.fits; faults = tt }
event_calls (Remove start end) cpu events guest right calls = record { fits = event_fits guest.cpus (record { message = Remove start end; cpu = cpu }) events (is_left_by (Remove start end)) calls.fits; faults = tt }
event_calls (Unmap start end) cpu events guest right calls = record { fits = event_fits guest.cpus (record { message = Unmap start end; cpu = cpu }) events (is_left_by (Unmap start end)) calls.fits; faults = tt }

fault_calls : (message : Message) (cpu : ℕ) (faults events : List Noted) (guest : Guest) → HasSoundCalls (with_queues (record { message = message; cpu = cpu } ∷ faults) events guest) →
    HasSoundCalls (read_guest (with_queues (record { message = message; cpu = cpu } ∷ faults) events guest) cpu message)
fault_calls message cpu faults events guest calls = grind (arith, nat_tests)

same_noted : (one other : Noted) → Some one ≡ Some other → one ≡ other
same_noted one other is = cc

queued_calls : (faults events : List Noted) (guest : Guest) (noted : Noted) → next_message (with_queues faults events guest).space.object ≡ Some noted → AreWholeEvents events → HasSoundCalls (with_queues faults events guest) →
    HasSoundCalls (read_guest (with_queues faults events guest) noted.cpu noted.message)
queued_calls [] [] guest noted is right calls = absurd (let none : None ≡ Some noted = is in cc)
queued_calls [] (event ∷ events) guest noted is right calls =
    subst (λ (n : Noted). HasSoundCalls (read_guest (with_queues [] (event ∷ events) guest) n.cpu n.message)) (same_noted event noted is) (event_calls event.message event.cpu events guest right calls)
queued_calls (fault ∷ faults) events guest noted is right calls =
    subst (λ (n : Noted). HasSoundCalls (read_guest (with_queues (fault ∷ faults) events guest) n.cpu n.message)) (same_noted fault noted is) (fault_calls fault.message fault.cpu faults events guest calls)

read_calls : (guest : Guest) (noted : Noted) → next_message guest.space.object ≡ Some noted → AreWholeEvents guest.space.object.events → HasSoundCalls guest → HasSoundCalls (read_guest guest noted.cpu noted.message)
read_calls guest = queued_calls guest.space.object.faults guest.space.object.events guest

-- a processor that is taken over is in no call
taken_fits : (commands : List (Option Command)) (k : ℕ) → CallFits (processor_at (map taken_over commands) k) 0
taken_fits [] k = refl
taken_fits (None ∷ commands) zero = refl
taken_fits (Some command ∷ commands) zero = refl
taken_fits (command ∷ commands) (suc k) = taken_fits commands k

-- waking leaves calls
woken_calls : (old new : Guest) → Wakes old new → HasSoundCalls old → HasSoundCalls new
woken_calls old new w calls =
    record {
      fits = λ k.
          subst (λ ps. CallFits (processor_at ps k) (unread_of new.space.object.events k)) (sym w.woken.is)
          (subst (λ e. CallFits (processor_at (all_woken w.woken.test old.cpus) k) (unread_of e k)) (sym w.events) (fits_all w.woken.test old.cpus k (unread_of old.space.object.events k) (calls.fits k)));
      faults = w.faults calls.faults;
    }

-- Steps

-- a command is tried where the guest runs
by_guest : (ran : Bool) (world : World) (cpu : ℕ) (command : Command) → not (ltb cpu (length (guest_by ran world.source.guest world.destination.guest).cpus)) ≡ false →
    (HasSoundCalls (guest_by ran world.source.guest world.destination.guest) → unread_of (guest_by ran world.source.guest world.destination.guest).space.object.events cpu ≡ 0) → AreSoundCalls world →
    AreSoundCalls (with_guest_by ran world (tried (is_access command) (guest_by ran world.source.guest world.destination.guest) cpu command))
by_guest ran world cpu command there none all = grind (arith, nat_tests, tried_calls)

command_calls : (world : World) (cpu : ℕ) (command : Command) → has_no_cpu world cpu ≡ false → (HasSoundCalls (guest_of world) → unread_of (guest_of world).space.object.events cpu ≡ 0) → AreSoundCalls world → AreSoundCalls (after_command world cpu command)
command_calls world cpu command there none all = let new = by_guest world.destination.has_run world cpu command there none all in record { source = new.source; destination = new.destination }

taken_calls : (frame : Frame) (node : Destination) (epoch : ℕ) → HasSoundCalls node.guest → HasSoundCalls (destination_took node epoch frame).guest
taken_calls (Package areas owed commands) node epoch calls = record { fits = λ k. taken_fits commands k; faults = tt }
taken_calls frame node epoch calls = woken_calls _ _ (takes frame node epoch refl).node.guest calls

pub calls_next : (world : World) (step : Step) → IsSoundWorld world → AreSoundCalls world → AreSoundCalls (next world step)
calls_next world (Step.Issue cpu command) kept all =
    made-next AreSoundCalls world (Step.Issue cpu command) all
    (λ there idle may. command_calls world cpu command there (λ calls. idle_unread (processor_at (guest_of world).cpus cpu) _ idle (calls.fits cpu)) all)
calls_next world (Step.Retry cpu) kept all =
    made-next AreSoundCalls world (Step.Retry cpu) all
    (λ command is woken may. command_calls world cpu command (woken_there (guest_of world).cpus cpu woken) (λ calls. woken_unread (processor_at (guest_of world).cpus cpu) _ woken (calls.fits cpu)) all)
calls_next world Step.SourceRead kept all =
    made-next AreSoundCalls world Step.SourceRead all (λ noted is started unswitched. record { source = read_calls world.source.guest noted is kept.spaces.source_events all.source; destination = all.destination })
calls_next world Step.DestRead kept all =
    made-next AreSoundCalls world Step.DestRead all (λ noted is ran. record { source = all.source; destination = read_calls world.destination.guest noted is kept.spaces.destination_events all.destination })
calls_next world (Step.Deliver n) kept all =
    made-next AreSoundCalls world (Step.Deliver n) all
    ((assumption), (λ sent rest is full started up free early. record { source = all.source; destination = taken_calls sent.frame world.destination sent.epoch all.destination }))
calls_next world step kept all =
    let wakes = wakes-next world step kept refl in
    record { source = woken_calls _ _ wakes.source all.source; destination = woken_calls _ _ wakes.node.guest all.destination }

pub calls-first : (cpus epoch rounds : ℕ) → AreSoundCalls (first_world_with cpus epoch rounds)
calls-first cpus epoch rounds = grind (arith, nat_tests, idle_at)

pub are_sound_calls : (world : World) → IsReached world → AreSoundCalls world
are_sound_calls world reached = by_reached AreSoundCalls (λ old step kept urgent all. calls_next old step kept all) calls-first world reached
