-- A destination that begins: its object is opened, asked for the three events, and has the mapped pages registered.
use Rattle.std.proofs.lemmas.Bool.Decides.{nat_tests}
use Rattle.std.proofs.lemmas.Bool.{false≢true, not-false, or_left, or_right}
use Rattle.std.proofs.lemmas.List.Elements.{filter_map-append}
use Rattle.std.proofs.lemmas.List.Folds.{list_any-append}
use Rattle.std.proofs.Common.{◌≡◌, ℕ, ◌+◌, ◌*◌, ◌/◌, ◌||◌, Bool, true, false, cond, Option, Some, None, List, [], ◌∷◌, ◌++◌, length, arith, refl, sym, ap, subst, ◌∙◌, not, ◌&&◌}
use Rattle.std.specs.Prelude.{Ok}
use Rattle.std.specs.FinMap.{contains_key}
use Rattle.std.specs.FinSet.{contains}
use Rattle.mig_base.specs.declared.Run.{Run}
use Rattle.mig_base.specs.declared.command.Errno.{Errno}
use Rattle.mig_base.specs.declared.effect.Effect.{Effect}
use Rattle.mig_base.specs.declared.schedule.Step.{Step}
use Rattle.foundation.specs.Bits.{is_one}
use Rattle.mig_base.specs.PageSets.{in_runs}
use Rattle.foundation.specs.Ranges.{in_range, none_below}
use Rattle.mig_base.specs.Userfault.{enabled_with, fresh_object}
use Rattle.foundation.proofs.TestLemmas.{eqb-self, or_first, or_second}
use Rattle.mig_model.specs.Destination.{Destination, destination_took}
use Rattle.mig_model.specs.Effects.{frame_effect}
use Rattle.mig_model.specs.Handlers.{AreRegistered, MayRegister, registered_in_turn}
use Rattle.mig_model.specs.Host.{Host, IsSound}
use Rattle.mig_model.specs.Ioctls.{all_features, answered_by, event_features, handshake_error, has_events, is_bad_mode, is_bad_range, is_bare, handshaken, left_by, mode_of, register_error, registered, registered_in}
use Rattle.mig_model.specs.Migration.{World, next, outcome}
use Rattle.mig_model.specs.Space.{IsSoundSpace, Space, fresh_space}
use Rattle.mig_model.specs.Wire.{Frame}
use Rattle.mig_model.proofs.invariant.Bounded.{bounded-reached}
use Rattle.mig_model.proofs.memory.HandlerCalls.{run_registers}
use Rattle.mig_model.proofs.memory.Registering.{pages_again}
use Rattle.mig_model.proofs.memory.SpaceLemmas.{no_member}
use Rattle.mig_model.proofs.steps.ReachedLemmas.{reached-next}
use Rattle.mig_model.proofs.steps.StepCases.{made-effect}
use Rattle.uffd_log.specs.declared.call.Call.TheVariants as call
use Rattle.uffd_log.specs.declared.call.Descriptor.{Descriptor}
use Rattle.uffd_log.specs.declared.line.Answer.TheVariants.{Features, Opened, Value}
use Rattle.kernel_rules.specs.declared.difference.Difference.TheVariants.{OtherFeatures, RegisterWithoutEvents}
use Rattle.kernel_rules.specs.declared.object.Object.{Object}
use Rattle.kernel_rules.specs.Ioctls as rules
use Rattle.kernel_rules.specs.MapCalls.{returned}
use Rattle.kernel_rules.specs.Runs.{Leads, line_of, lines_of, on_object, on_space}
use Rattle.kernel_rules.specs.State.{Kernel, asked_for, fresh_kernel, is_within, with_object}
use Rattle.kernel_laws.specs.Agreement.{Agree, AreMapped, Counterparts, Takes, answer_of_api, answer_of_register}
use Rattle.kernel_laws.specs.Logs.{AreFollowed, Arrival, HasRun, answered, arrived, at_rest, destination, first_calls, have_mremap, is_mremap, lines_of_call, lines_of_calls, log_of, register_calls, space_after, under_way, whole_log}
use Rattle.kernel_laws.proofs.Accesses.{asked}
use Rattle.kernel_laws.proofs.FaultReads.{Keeps, keeps-none}
use Rattle.kernel_laws.proofs.Followed.{both_fail}
use Rattle.kernel_laws.proofs.DestinationRuns.{steps-end}
use Rattle.kernel_laws.proofs.LogRuns.{Goes, agree-returned, allowed-is, call-leads, call_steps, homes-with, leads-append, logged-rule, stays, then-logged}
use Rattle.kernel_laws.proofs.OpenCalls.{AreBelow, HasCalls, Pending, still-below}
use Rattle.kernel_laws.proofs.Registers.{api-taken, register-taken}

-- userfaultfd(2)

abbrev bare_space : Host → Space
bare_space host = record fresh_space { host = host }

abbrev pub opened_object : Object
opened_object = record { space = 0; program = 0; waits = false; features = None; puts = false }

abbrev pub opened_kernel : ℕ → Kernel
opened_kernel name = with_object fresh_kernel name opened_object

nothing-registered : (page : ℕ) → (contains fresh_space.object.missing page || contains fresh_space.object.protect page) ≡ false
nothing-registered page = λ i. no_member page i || no_member page i

sound-bare : (host : Host) → IsSound host → IsSoundSpace (bare_space host)
sound-bare host sound =
    record {
      host = sound;
      mapped = λ page h. absurd (false≢true (sym (nothing-registered page) ∙ h));
      present = λ page h. absurd (false≢true (sym (no_member page) ∙ h));
      watched = λ page h. absurd (false≢true (sym (no_member page) ∙ h));
    }

agree-opened : (host : Host) (name : ℕ) → IsSound host → Agree (bare_space host) (opened_kernel name) name opened_object
agree-opened host name sound =
    record {
      sound = sound-bare host sound;
      named = ap (λ b. cond b (Some opened_object) None) (eqb-self name);
      features = refl;
      pages = nothing-registered;
      unread = record { on_their_way = tt; none_queued = refl };
      untold = record { same = refl; once = refl; ranks = refl; own = refl; tells = λ key some. absurd (false≢true (sym some)); none_queued = refl };
      alone = refl;
      ranged = λ page h. absurd (false≢true (sym (nothing-registered page) ∙ h));
    }

pub opens : (on : Descriptor) → Leads (at_rest fresh_kernel) (call_steps 0 (answered (call.Open false 0x800) (Opened on))) (at_rest (returned (opened_kernel on.object) 0))
unfolding on_space is_one none_below
opens on = call-leads [] fresh_kernel (opened_kernel on.object) 0 on.object (answered (call.Open false 0x800) (Opened on)) tt refl refl refl refl

-- UFFDIO_API

shaken-keeps : (one : Counterparts) (offer : ℕ) (after : Kernel) → rules.shaken one.kernel one.name one.object 0xaa event_features (Features all_features offer) ≡ Some after → Keeps one.kernel after
unfolding is_one none_below
shaken-keeps one offer after is =
    subst (Keeps one.kernel) (allowed-is _ _ after is)
    (keeps-none (not (is_within event_features 0x14d)) OtherFeatures one.kernel (with_object one.kernel one.name (record one.object { features = Some event_features })) refl (record { told = refl; homes = homes-with one (record one.object { features = Some event_features }) refl; differs = λ moves h. h }))

api-logged : (one : Counterparts) (on : Descriptor) (offer key : ℕ) → HasCalls [] one → on.object ≡ one.name → rules.is_offer all_features offer ≡ true → one.space.object.faults ≡ [] → handshake_error one.space 0xaa event_features ≡ None →
    Goes [] [] one (lines_of_call key (answered (call.Api on 0xaa event_features) (Features all_features offer))) (handshaken one.space 0xaa event_features)
unfolding on_object
api-logged one on offer key quiet own offers none accepted =
    logged-rule one key on (answered (call.Api on 0xaa event_features) (Features all_features offer)) (rules.shaken one.kernel one.name one.object 0xaa event_features (Features all_features offer)) (handshaken one.space 0xaa event_features)
    tt own refl refl refl refl (shaken-keeps one offer) quiet
    (subst (λ error. Takes (rules.shaken one.kernel one.name one.object 0xaa event_features (answer_of_api offer (answered_by error all_features))) (handshaken one.space 0xaa event_features) one.name) accepted
    (api-taken one.space one.kernel one.name one.object 0xaa event_features offer one.agree offers (λ off. none)))

-- UFFDIO_REGISTER

-- the object asked for the three events
asked-events : (one : Counterparts) (start len bits : ℕ) → register_error one.space start len bits ≡ None → not (asked_for one.object 2 && asked_for one.object 3 && asked_for one.object 6) ≡ false
asked-events one start len bits accepted =
    let others = (is_bad_mode bits, Errno.Einval) ∷ (is_bad_range start len, Errno.Einval) ∷ (is_bare one.space (start / 4096) (len / 4096), Errno.Einval) ∷ [] in
    let says = both_fail (not one.space.object.enabled) (not (has_events one.space.object)) Errno.Einval Errno.Einval others accepted in
    let at = λ (bit : ℕ). asked one.space one.kernel one.name one.object bit one.agree (not-false one.space.object.enabled says.0) in
    (λ i. not (at 2 i && at 3 i && at 6 i)) ∙ says.1

registered-keeps : (one : Counterparts) (start len bits calls : ℕ) (after : Kernel) → register_error one.space start len bits ≡ None → rules.registered one.kernel one.name one.object start len bits (Value calls) ≡ Some after → Keeps one.kernel after
registered-keeps one start len bits calls after accepted is =
    subst (Keeps one.kernel) (allowed-is _ _ after is)
    (keeps-none (not (asked_for one.object 2 && asked_for one.object 3 && asked_for one.object 6)) RegisterWithoutEvents one.kernel _ (asked-events one start len bits accepted) (record { told = refl; homes = λ name space h. h; differs = λ moves h. h }))

left-host : (error : Option Errno) (old new : Space) → new.host ≡ old.host → (left_by error old new).host ≡ old.host
left-host None old new same = same
left-host (Some errno) old new same = refl

-- the pages of the runs are mapped
abbrev pub HaveAreas : Space → List Run → Type 0
HaveAreas space areas = (page : ℕ) → in_runs areas page ≡ true → contains_key space.host.areas page ≡ true

mapped-run : (space : Space) (run : Run) (areas : List Run) → HaveAreas space (run ∷ areas) → AreMapped space (4096 * run.first) (4096 * run.count)
mapped-run space run areas mapped page inside =
    mapped page
    (or_left (in_range run.first run.count page) (in_runs areas page) (sym (λ i. in_range (pages_again run.first i) (pages_again run.count i) page) ∙ inside))

register-logged : {pending : List Pending} (one : Counterparts) (on : Descriptor) (bits calls key : ℕ) (run : Run) (areas : List Run) → AreBelow key pending → HasCalls pending one → on.object ≡ one.name → rules.has_calls bits calls ≡ true → register_error one.space (4096 * run.first) (4096 * run.count) bits ≡ None →
    HaveAreas one.space (run ∷ areas) →
    Goes pending pending one (lines_of_call key (answered (call.Register on (4096 * run.first) (4096 * run.count) bits) (Value calls))) (registered one.space (4096 * run.first) (4096 * run.count) bits)
unfolding on_object
register-logged one on bits calls key run areas below quiet own has accepted mapped =
    let start = 4096 * run.first in
    let len = 4096 * run.count in
    let new = registered one.space start len bits in
    logged-rule one key on (answered (call.Register on start len bits) (Value calls)) (rules.registered one.kernel one.name one.object start len bits (Value calls)) new below own refl refl refl refl (λ after. registered-keeps one start len bits calls after accepted) quiet
    (subst (λ error. Takes (rules.registered one.kernel one.name one.object start len bits (answer_of_register calls error)) new one.name) accepted
    (register-taken one.space one.kernel one.name one.object start len bits calls one.agree has (λ none. mapped-run one.space run areas mapped)))

pub registers-logged : {pending : List Pending} (one : Counterparts) (on : Descriptor) (bits calls key : ℕ) (areas : List Run) → AreBelow key pending → HasCalls pending one → on.object ≡ one.name → rules.has_calls bits calls ≡ true → MayRegister one.space areas bits → HaveAreas one.space areas →
    Goes pending pending one (lines_of_calls key (register_calls on bits calls areas)) (registered_in_turn one.space areas bits)
registers-logged one on bits calls key [] below quiet own has accepted mapped = stays one one.space refl quiet
registers-logged {pending = pending} one on bits calls key (run ∷ areas) below quiet own has accepted mapped =
    let start = 4096 * run.first in
    let len = 4096 * run.count in
    let ended = answered (call.Register on start len bits) (Value calls) in
    let first = register-logged one on bits calls key run areas below quiet own has accepted.0 mapped in
    let host = ap (λ (s : Space). s.host) first.leaves ∙ left-host (register_error one.space start len bits) one.space (registered_in one.space (start / 4096) (len / 4096) (mode_of bits)) refl in
    let there : HaveAreas first.last.space areas = λ page inside. ap (λ (h : Host). contains_key h.areas page) host ∙ mapped page (or_right (in_range run.first run.count page) (in_runs areas page) inside) in
    let rest = registers-logged first.last on bits calls (key + 1) areas (still-below key (key + 1) pending (omega (arith)) below) first.told (own ∙ sym first.name) has (subst (λ s. MayRegister s areas bits) (sym first.leaves) accepted.1) there in
    subst (Goes pending pending one (lines_of_calls key (register_calls on bits calls (run ∷ areas)))) (ap (λ s. registered_in_turn s areas bits) first.leaves)
    (then-logged one (lines_of_call key ended) (lines_of_calls (key + 1) (register_calls on bits calls areas)) (registered one.space start len bits) (registered_in_turn first.last.space areas bits) first rest)

-- both
first-logged : (one : Counterparts) (on : Descriptor) (offer calls : ℕ) (areas : List Run) (new : Space) → HasCalls [] one → on.object ≡ one.name → rules.is_offer all_features offer ≡ true → rules.has_calls 1 calls ≡ true → one.space.object.faults ≡ [] →
    handshake_error one.space 0xaa event_features ≡ None → HaveAreas (handshaken one.space 0xaa event_features) areas → AreRegistered (handshaken one.space 0xaa event_features) new areas 1 →
    Goes [] [] one (lines_of_call 1 (answered (call.Api on 0xaa event_features) (Features all_features offer)) ++ lines_of_calls 2 (register_calls on 1 calls areas)) new
first-logged one on offer calls areas new quiet own offers has none accepted mapped registered =
    let api = lines_of_call 1 (answered (call.Api on 0xaa event_features) (Features all_features offer)) in
    let rest = lines_of_calls 2 (register_calls on 1 calls areas) in
    let shaken = api-logged one on offer 1 quiet own offers none accepted in
    let may = subst (λ s. MayRegister s areas 1) (sym shaken.leaves) registered.accepted in
    let registers = registers-logged shaken.last on 1 calls 2 areas tt shaken.told (own ∙ sym shaken.name) has may (subst (λ s. HaveAreas s areas) (sym shaken.leaves) mapped) in
    subst (Goes [] [] one (api ++ rest)) (ap (λ s. registered_in_turn s areas 1) shaken.leaves ∙ sym registered.leaves)
    (then-logged one api rest (handshaken one.space 0xaa event_features) (registered_in_turn shaken.last.space areas 1) shaken registers)

-- The whole log

took-package : (node : Destination) (epoch : ℕ) (frame : Frame) (count : ℕ) → frame_effect frame ≡ Effect.TookPackage count → (destination_took node epoch frame).has_run ≡ true
took-package node epoch frame count h = grind (arith, nat_tests)

moved-none : (n count : ℕ) → Effect.Moved n ≡ Effect.TookPackage count → (old : Bool) → old ≡ true
moved-none n count h old = absurd (cc)

has-run : (world : World) (n count : ℕ) → outcome world (Step.Deliver n) ≡ Ok (Effect.TookPackage count) → (next world (Step.Deliver n)).destination.has_run ≡ true
has-run world n count is =
    made-effect (λ effect new. effect ≡ Effect.TookPackage count → new.destination.has_run ≡ true) world (Step.Deliver n) (Effect.TookPackage count)
    ((λ sent rest first short h. moved-none n count h world.destination.has_run), (λ sent rest first full started up free early h. took-package world.destination sent.epoch sent.frame count h)) is refl

shaken-areas : (host : Host) (page : ℕ) → contains_key (handshaken (bare_space host) 0xaa event_features).host.areas page ≡ contains_key host.areas page
shaken-areas host page =
    ap (λ (h : Host). contains_key h.areas page)
    (left-host (handshake_error (bare_space host) 0xaa event_features) (bare_space host) (record (bare_space host) { object = enabled_with fresh_object event_features }) refl)

pub has-log : (it : Arrival) (steps : List Step) → AreFollowed (destination it.on it.from 0) (length (first_calls it)) [] (arrived it) steps → HasRun (whole_log it steps) (space_after (destination it.on it.from 0) (arrived it) steps)
has-log it steps followed =
    let on = it.on in
    let new = arrived it in
    let again = reached-next it.world (Step.Deliver it.n) it.reached in
    let all = bounded-reached new again in
    let host = new.destination.guest.space.host in
    let watched = run_registers it.reached.cpus it.world it.n it.count it.areas (bounded-reached it.world it.reached) it.is it.are in
    let kernel = returned (opened_kernel on.object) 0 in
    let agree = agree-returned [] (bare_space host) (opened_kernel on.object) 0 on.object opened_object tt refl (agree-opened host on.object all.ready.kept.spaces.destination_space.host) in
    let one : Counterparts = record { space = bare_space host; kernel = kernel; name = on.object; object = opened_object; agree = agree } in
    let there : HaveAreas (handshaken (bare_space host) 0xaa event_features) it.areas = λ page inside. shaken-areas host page ∙ sym (it.are.pages page) ∙ inside in
    let begun = first-logged one on it.offer it.calls it.areas new.destination.guest.space refl refl it.offers it.has refl watched.handshake there watched.areas in
    let number = length (first_calls it) in
    let rest = steps-end on it.from 0 it.source new number begun.last steps (again, has-run it.world it.n it.count it.is) begun.told begun.leaves (sym begun.name) (sym begun.home) followed in
    let opening = call_steps 0 (answered (call.Open false 0x800) (Opened on)) in
    let log = log_of (destination on it.from 0) number [] new steps in
    let last = under_way rest.last.kernel log.begun in
    let lines = lines_of_call 1 (answered (call.Api on 0xaa event_features) (Features all_features it.offer)) ++ lines_of_calls 2 (register_calls on 1 it.calls it.areas) in
    let moves = have_mremap (whole_log it steps).lines in
    let split = λ (none : moves ≡ false). sym (list_any-append is_mremap lines log.lines) ∙ none in
    record {
      steps = opening ++ (begun.steps ++ rest.steps);
      last = rest.last;
      run = record {
        whole = filter_map-append line_of opening (begun.steps ++ rest.steps) ∙ ap (λ l. lines_of opening ++ l) (filter_map-append line_of begun.steps rest.steps ∙ (λ i. begun.whole i ++ rest.whole i));
        leads = leads-append (at_rest fresh_kernel) (at_rest kernel) last opening (begun.steps ++ rest.steps) (opens on) (leads-append (at_rest kernel) (at_rest begun.last.kernel) last begun.steps rest.steps begun.leads rest.leads);
      };
      differs = rest.differs moves (λ none. or_second (have_mremap lines) (have_mremap log.lines) (split none)) (begun.differs moves (λ none. or_first (have_mremap lines) (have_mremap log.lines) (split none)) refl);
      leaves = rest.leaves;
    }
