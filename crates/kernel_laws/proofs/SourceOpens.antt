-- A source before its migration: nothing is registered with its object, and no fault is unread.
use Rattle.std.proofs.lemmas.Bool.Decides.{nat_tests}
use Rattle.std.proofs.lemmas.Bool.{false≢true}
use Rattle.std.proofs.lemmas.List.Elements.{filter_map-append}
use Rattle.std.proofs.Common.{◌≡◌, ℕ, ◌&&◌, ◌||◌, Bool, true, false, not, cond, Some, None, List, [], ◌∷◌, ◌++◌, map, arith, refl, sym, ap, subst, ◌∙◌}
use Rattle.std.specs.FinSet.{contains}
use Rattle.mig_base.specs.declared.command.Access.{Access}
use Rattle.mig_base.specs.declared.command.Access.TheVariants.{Answered, Missing, Protected}
use Rattle.mig_base.specs.declared.command.Command.{Command}
use Rattle.mig_base.specs.declared.command.Reply.{Reply}
use Rattle.mig_base.specs.declared.message.Message.{Message}
use Rattle.mig_base.specs.declared.schedule.Step.{Step}
use Rattle.foundation.specs.Bits.{is_one}
use Rattle.foundation.specs.Ranges.{none_below}
use Rattle.mig_base.specs.Commands.{is_access, is_store, page_of}
use Rattle.mig_base.specs.Flat.{reply_of}
use Rattle.mig_base.specs.Userfault.{Noted, Object, event_queued}
use Rattle.foundation.proofs.TestLemmas.{eqb-self}
use Rattle.mig_model.specs.Host.{memory}
use Rattle.mig_model.specs.Ioctls.{all_features}
use Rattle.mig_model.specs.Invariant.{IsSoundWorld}
use Rattle.mig_model.specs.Migration.{World, after_steps, first_world_with, guest_by, next, with_guest_by}
use Rattle.mig_model.specs.Guest.{space_by, tried}
use Rattle.mig_model.specs.Promises.{IsReached}
use Rattle.mig_model.specs.Source.{is_source_idle}
use Rattle.mig_model.specs.Space.{Space, access_of, accessed_by, all_queued, call_messages, modes_after}
use Rattle.mig_model.proofs.invariant.OpenObjects.{idle_unreleased}
use Rattle.mig_model.proofs.invariant.Bounded.{IsBounded, bounded-first, bounded-next, bounded-reached}
use Rattle.mig_model.proofs.steps.StepCases.{MakesWorld, made-next}
use Rattle.uffd_log.specs.declared.call.Call.TheVariants as call
use Rattle.uffd_log.specs.declared.call.Descriptor.{Descriptor}
use Rattle.uffd_log.specs.declared.line.Answer.TheVariants.{Features, Opened}
use Rattle.kernel_rules.specs.declared.object.Object.{Object as KernelObject}
use Rattle.kernel_rules.specs.Ioctls as rules
use Rattle.kernel_rules.specs.MapCalls.{returned}
use Rattle.kernel_rules.specs.Runs.{Leads, line_of, lines_of, on_object}
use Rattle.kernel_rules.specs.State.{Kernel, allowed, fresh_kernel, of_object, with_object}
use Rattle.kernel_laws.specs.Agreement.{Agree, AreUnread, AreUntold, Counterparts, features_of, telling}
use Rattle.kernel_laws.specs.Logs.{AreFollowed, Beginning, HasRun, IsLogged, IsUnreleased, Watching, answered, at_rest, log_of, source, source_left, source_log, under_way, unnamed, unnamed_features, unnamed_noted}
use Rattle.kernel_laws.proofs.FirstCalls.{opened_kernel, opened_object, opens}
use Rattle.kernel_laws.proofs.LogRuns.{agree-returned, call-leads, call_steps, leads-append, seen-quiet}
use Rattle.kernel_laws.proofs.SourceRuns.{IsBare, always, bare-idle, is-idle, source-logged}
use Rattle.kernel_laws.proofs.States.{free, logged-from}
use Rattle.kernel_laws.proofs.Unnamed.{sound-unnamed}

-- No fault is unread

none-missing : (made absent missing protect : Bool) (reply : Reply) → missing ≡ false → protect ≡ false → cond (not made) (Answered reply) (cond (absent && missing) Missing (cond protect Protected (Answered reply))) ≡ Answered reply
none-missing made absent missing protect reply hm hp = grind (arith, nat_tests)

accessed-faults : (access : Access) (space : Space) (cpu : ℕ) (command : Command) (reply : Reply) → access ≡ Answered reply → (accessed_by access space cpu command).object.faults ≡ space.object.faults
accessed-faults (Answered other) space cpu command reply is = refl
accessed-faults Missing space cpu command reply is = absurd (cc)
accessed-faults Protected space cpu command reply is = absurd (cc)

events-faults : (object : Object) (messages : List Message) (cpu : ℕ) → (all_queued object messages cpu).faults ≡ object.faults
events-faults object [] cpu = refl
events-faults object (message ∷ messages) cpu = events-faults (event_queued object message cpu) messages cpu

modes-faults : (object : Object) (command : Command) (reply : Reply) → (modes_after object command reply).faults ≡ object.faults
modes-faults object command reply = grind (arith, nat_tests)

and_none : (a b c : Bool) → b ≡ false → (a && b && c) ≡ false
and_none a b c h = grind (arith, nat_tests)

tried-faults : (access : Bool) (space : Space) (cpu : ℕ) (command : Command) → IsBare space.object → (space_by access space cpu command).object.faults ≡ space.object.faults
tried-faults true space cpu command bare =
    let none = bare (page_of command) in
    accessed-faults (access_of space command) space cpu command (reply_of (memory space.host) command)
    (none-missing _ _ (contains space.object.missing (page_of command)) _ (reply_of (memory space.host) command) none.0 (and_none (is_store command) (contains space.object.protect (page_of command)) _ none.1))
tried-faults false space cpu command bare =
    let reply = reply_of (memory space.host) command in
    events-faults (modes_after space.object command reply) (call_messages space.object command reply) cpu ∙ modes-faults space.object command reply

-- while no migration has started
abbrev IsUnasked : World → Type 0
IsUnasked world = is_source_idle world.source.phase ≡ true → world.source.guest.space.object.faults ≡ []

guest-faults : (ran : Bool) (world : World) (cpu : ℕ) (command : Command) → IsSoundWorld world → IsUnasked world →
    IsUnasked (with_guest_by ran world (tried (is_access command) (guest_by ran world.source.guest world.destination.guest) cpu command))
guest-faults true world cpu command kept none = none
guest-faults false world cpu command kept none = λ idle. tried-faults (is_access command) world.source.guest.space cpu command (bare-idle world kept idle) ∙ none idle

unasked-answer : (world : World) (step : Step) → IsSoundWorld world → IsUnasked world → MakesWorld IsUnasked world step
unasked-answer world (Step.Issue cpu command) kept none = λ there idle runs. guest-faults world.destination.has_run world cpu command kept none
unasked-answer world (Step.Retry cpu) kept none = λ command waits woken runs. guest-faults world.destination.has_run world cpu command kept none
unasked-answer world step kept none = grind (arith, nat_tests)

unasked-next : (world : World) (step : Step) → IsSoundWorld world → IsUnasked world → IsUnasked (next world step)
unasked-next world step kept none = made-next IsUnasked world step none (unasked-answer world step kept none)

unasked-after : (cpus : ℕ) (world : World) (steps : List Step) → IsBounded cpus world → IsUnasked world → IsUnasked (after_steps world steps)
unasked-after cpus world [] all none = none
unasked-after cpus world (step ∷ steps) all none = unasked-after cpus (next world step) steps (bounded-next cpus world step all) (unasked-next world step all.ready.kept none)

unasked-reached : (world : World) → (reached : IsReached world) → IsUnasked world
unasked-reached world reached =
    subst IsUnasked (sym reached.is) (unasked-after reached.cpus (first_world_with reached.cpus reached.epoch reached.rounds) reached.steps (bounded-first reached.cpus reached.epoch reached.rounds) (λ idle. refl))

-- The object

abbrev shaken_object : KernelObject
shaken_object = record opened_object { features = Some unnamed_features }

abbrev shaken_kernel : ℕ → Kernel
shaken_kernel name = with_object (returned (opened_kernel name) 0) name shaken_object

shaken : (name offer : ℕ) → rules.is_offer all_features offer ≡ true → rules.shaken (returned (opened_kernel name) 0) name opened_object 0xaa unnamed_features (Features all_features offer) ≡ Some (shaken_kernel name)
unfolding is_one none_below
shaken name offer offers = ap (λ b. allowed b (shaken_kernel name)) offers

shakes : (on : Descriptor) (offer : ℕ) → rules.is_offer all_features offer ≡ true →
    Leads (at_rest (returned (opened_kernel on.object) 0)) (call_steps 1 (answered (call.Api on 0xaa unnamed_features) (Features all_features offer))) (at_rest (returned (shaken_kernel on.object) 1))
unfolding on_object
shakes on offer offers =
    let ended = answered (call.Api on 0xaa unnamed_features) (Features all_features offer) in
    let kernel = returned (opened_kernel on.object) 0 in
    call-leads [] kernel (shaken_kernel on.object) 1 on.object ended tt
    (ap (λ o. of_object o (λ object. on_object kernel (record { key = 1; space = 0; thread = 0; program = 0; call = ended.call; last = false }) on.object object ended.out ended.call)) (ap (λ b. cond b (Some opened_object) None) (eqb-self on.object)) ∙ shaken on.object offer offers)
    refl refl refl

or_none : (a b : Bool) → a ≡ false → b ≡ false → (a || b) ≡ false
or_none a b ha hb = grind (arith, nat_tests)

-- the space of an idle source agrees with it
agree-shaken : (world : World) (reached : IsReached world) (name : ℕ) → is_source_idle world.source.phase ≡ true → Agree (unnamed world.source.guest.space) (shaken_kernel name) name shaken_object
agree-shaken world reached name idle =
    let all = bounded-reached world reached in
    let kept = all.ready.kept in
    let space = world.source.guest.space in
    let bare = bare-idle world kept idle in
    let events = (kept.precopy.idle_source (is-idle world.source.phase idle)).3 in
    let opened = all.opened.source (idle_unreleased world.source.phase idle) in
    record {
      sound = sound-unnamed space kept.spaces.source_space;
      named = ap (λ b. cond b (Some shaken_object) ((returned (opened_kernel name) 0).objects name)) (eqb-self name);
      features = ap (λ b. features_of b unnamed_features) (sym opened.enabled);
      pages = λ page. or_none (contains space.object.missing page) (contains space.object.protect page) (bare page).0 (bare page).1;
      unread = subst (λ (faults : List Noted). AreUnread [] name shaken_object (map unnamed_noted faults)) (sym (unasked-reached world reached idle)) (record { on_their_way = tt; none_queued = refl });
      untold = subst (λ (queue : List Noted). AreUntold name (telling (shaken_kernel name)) queue) (sym events)
          (record { same = refl; once = refl; ranks = refl; own = refl; tells = λ key some. absurd (false≢true (sym some)); none_queued = refl });
      alone = refl;
      ranged = λ page h. absurd (false≢true (sym (or_none (contains space.object.missing page) (contains space.object.protect page) (bare page).0 (bare page).1) ∙ h));
    }

-- The whole log

-- the kernel at rest from which the steps' log goes on
abbrev watched-from : Beginning → Watching
watched-from it =
    let on = it.by.on in
    let name = on.object in
    let kernel = returned (shaken_kernel name) 1 in
    let space = unnamed it.world.source.guest.space in
    let agree = agree-returned [] space (shaken_kernel name) 1 name shaken_object tt refl (agree-shaken it.world it.reached name it.idle) in
    let one : Counterparts = record { space = space; kernel = kernel; name = name; object = shaken_object; agree = agree } in
    record { world = it.world; reached = it.reached; by = it.by; one = one; same = refl; quiet = refl; own = refl }

opened-run : (it : Beginning) (steps : List Step) (space : Space) → IsLogged (watched-from it).one (log_of (source it.by 0) 2 [] it.world steps) space → HasRun (source_log it steps) space
opened-run it steps space rest =
    let on = it.by.on in
    let name = on.object in
    let kernel = returned (shaken_kernel name) 1 in
    let log = log_of (source it.by 0) 2 [] it.world steps in
    let opening = call_steps 0 (answered (call.Open false 0x800) (Opened on)) in
    let shake = call_steps 1 (answered (call.Api on 0xaa unnamed_features) (Features all_features it.offer)) in
    let first = returned (opened_kernel name) 0 in
    let begins : Leads (at_rest fresh_kernel) (opening ++ shake) (at_rest kernel) = leads-append (at_rest fresh_kernel) (at_rest first) (at_rest kernel) opening shake (opens on) (shakes on it.offer it.offers) in
    record {
      steps = (opening ++ shake) ++ rest.steps;
      last = rest.last;
      run = record {
        whole = filter_map-append line_of (opening ++ shake) rest.steps ∙ ap (λ l. lines_of (opening ++ shake) ++ l) rest.whole;
        leads = leads-append (at_rest fresh_kernel) (at_rest kernel) (under_way rest.last.kernel log.begun) (opening ++ shake) rest.steps begins rest.leads;
      };
      differs = rest.differs refl;
      leaves = rest.leaves;
    }

pub source-has-log : (it : Beginning) (steps : List Step) → AreFollowed (source it.by 0) 2 [] it.world steps → IsUnreleased it.world steps → HasRun (source_log it steps) (source_left it steps)
source-has-log it steps followed kept = opened-run it steps (source_left it steps) (source-logged (watched-from it) 2 steps followed kept)

-- also after the release
pub source-always-has-log : (it : Beginning) (steps : List Step) → AreFollowed (source it.by 0) 2 [] it.world steps → (space : Space) × HasRun (source_log it steps) space
source-always-has-log it steps followed =
    let at = watched-from it in
    let ends = always it.by 0 it.world 2 (free [] at.one (record { same = seen-quiet at.one at.quiet ∙ at.same; told = at.quiet; below = tt; own = at.own; there = refl })) steps (it.reached, idle_unreleased it.world.source.phase it.idle) followed in
    (ends.0, opened-run it steps ends.0 (logged-from at.one it.by.on.object (log_of (source it.by 0) 2 [] it.world steps) ends.0 refl ends.1))
