-- The log of a source without map calls has a run, step by step.
use Rattle.std.proofs.lemmas.Bool.Decides.{nat_tests}
use Rattle.std.proofs.lemmas.Bool.{false≢true}
use Rattle.std.proofs.Common.{◌≡◌, ◌⊎◌, inl, inr, ℕ, ◌+◌, ◌*◌, ◌/◌, ◌^◌, ◌||◌, Bool, true, false, not, cond, eqb, leb, ltb, Some, List, [], ◌∷◌, ◌++◌, map, arith, refl, sym, ap, subst, ◌∙◌, IsOk, length}
use Rattle.std.specs.Prelude.{Result, Ok, Err}
use Rattle.std.specs.FinMap.{contains_key}
use Rattle.std.specs.FinSet.{contains}
use Rattle.mig_base.specs.declared.TheConstants.{HIGH}
use Rattle.mig_base.specs.declared.act.Act.{Act}
use Rattle.mig_base.specs.declared.command.Command.{Command}
use Rattle.mig_base.specs.declared.command.Errno.{Errno}
use Rattle.mig_base.specs.declared.command.Reply.{Reply}
use Rattle.mig_base.specs.declared.message.Message.{Message}
use Rattle.mig_base.specs.declared.refusal.Refusal.{Refusal}
use Rattle.mig_base.specs.declared.effect.Effect.{Effect}
use Rattle.mig_base.specs.declared.phase.DestPhase.{DestPhase}
use Rattle.mig_base.specs.declared.phase.SourcePhase.{SourcePhase}
use Rattle.mig_base.specs.declared.schedule.Side.{Side}
use Rattle.mig_base.specs.declared.schedule.Step.{Step}
use Rattle.mig_base.specs.declared.wake.Wake.{Wake}
use Rattle.mig_base.specs.declared.wake.Wake.TheVariants.{Nobody, Range}
use Rattle.mig_base.specs.Acts.{act_effect}
use Rattle.foundation.specs.Bits.{is_one}
use Rattle.mig_base.specs.Commands.{is_access, page_of}
use Rattle.mig_base.specs.Flat.{dontneed_reply, is_all_mapped, is_page_start, mmap_reply, munmap_reply, reply_of, mremap_reply}
use Rattle.foundation.specs.Ranges.{lesser, pages_of, rounded}
use Rattle.foundation.proofs.TestLemmas.{and_first, and_second}
use Rattle.mig_base.specs.Userfault.{Noted, Object as ModelObject, is_watched, message_read, next_message, unregistered, event_queued}
use Rattle.mig_model.specs.Cpus.{outstanding, processor_at}
use Rattle.mig_model.specs.Guest.{Guest, is_changing, space_by, tried}
use Rattle.mig_model.specs.Handlers.{AreRegistered, IsWriteProtect, MayRegister, registered_in_turn}
use Rattle.mig_model.specs.Host.{memory}
use Rattle.mig_model.specs.Ioctls.{all_features, writeprotect_error}
use Rattle.mig_model.specs.Destination.{Destination}
use Rattle.mig_model.specs.Invariant.{IsSoundWorld, RanAt, SwitchedAt, Wires}
use Rattle.mig_model.specs.Migration.{World, guest_by, next, outcome, with_guest_by}
use Rattle.mig_model.specs.Promises.{IsReached}
use Rattle.mig_model.specs.Source.{Source, bytes_of, is_precopy, is_released, is_source_idle, source_acted_by, source_took}
use Rattle.mig_model.specs.Space.{Space, accessed, all_queued, called, message_if, call_messages, modes_after}
use Rattle.mig_model.specs.Wire.{Frame, Sent, is_zeros}
use Rattle.mig_model.proofs.completion.StaysComplete.{complete-next}
use Rattle.mig_model.proofs.invariant.Bounded.{bounded-reached, memory_bounded}
use Rattle.mig_model.proofs.invariant.FaultPages.{inside-reached}
use Rattle.mig_model.proofs.invariant.OpenObjects.{IsOpen}
use Rattle.mig_model.proofs.memory.HandlerCalls.{page_protected, round_registers, run_protected, source_forgets, source_unprotects, source_wakes, source_zeroes, start_registers, zero_protected}
use Rattle.mig_model.proofs.steps.PartsChanged.{changes_parts}
use Rattle.mig_model.proofs.steps.ReachedLemmas.{reached-next}
use Rattle.mig_model.proofs.steps.StepCases.{made-effect, made-next}
use Rattle.mig_model.proofs.transcript.WaitingAccesses.{are_accesses}
use Rattle.uffd_log.specs.declared.call.Descriptor.{Descriptor}
use Rattle.uffd_log.specs.declared.call.Call.TheVariants as call
use Rattle.uffd_log.specs.declared.line.Answer.TheVariants.{Done}
use Rattle.kernel_rules.specs.declared.object.Object.{Object}
use Rattle.kernel_rules.specs.Runs as runs
use Rattle.kernel_rules.specs.Runs.{Leads}
use Rattle.kernel_rules.specs.State.{Kernel}
use Rattle.kernel_laws.specs.Agreement.{Agree, Counterparts}
use Rattle.kernel_laws.specs.Logs.{AreFollowed, AreLogged, Ended, IsFollowed, IsUnreleased, Open, Watch, Watching, Written, answered, calls_written, is_followed, issue_written, keeps_off_all, lines_of_calls, log_of, map_call, protect_call, read_written, register_calls, resolve_call, source, source_calls, source_writes, then_written, under_way, unnamed, unnamed_features, unnamed_object, modelled}
use Rattle.mig_base.proofs.SetSizes.{only_where}
use Rattle.kernel_laws.proofs.FaultReads.{page-requeued, requeued, sound-requeued}
use Rattle.kernel_laws.proofs.FirstCalls.{HaveAreas, registers-logged}
use Rattle.kernel_laws.proofs.Followed.{followed-protect, followed-wake, followed-zeropage, no_error}
use Rattle.kernel_laws.proofs.LogRuns.{AreAll, Goes, Writes, by-result, protect-logged, stays, wake-logged, writes-calls, zeropage-logged, Differs, seen-quiet}
use Rattle.kernel_laws.proofs.Clearing.{by-dontneed, dropped_space}
use Rattle.kernel_laws.proofs.DiscardRuns.{pending_for}
use Rattle.kernel_laws.proofs.Moves.{Kept, held-changing, held-next, idle, kept-by, makes, reads, tries, wrote-next}
use Rattle.kernel_laws.proofs.States.{Ends, Free, Next, State, counterpart, ends-at, every-ends, free, held, log_begun, logged-from, next-ends, run_world}
use Rattle.kernel_laws.proofs.MapReplies.{by-reply, called_as}
use Rattle.kernel_laws.proofs.MapRuns.{by-mmap, by-refusal, has_events_in, no-map-call, by-remap}
use Rattle.kernel_laws.proofs.OpenCalls.{HasCalls, Pending, open_of}
use Rattle.kernel_laws.proofs.Unnamed.{accessed-unnamed, may-unnamed, next-unnamed, no-names, protect-unnamed, read-unnamed, sound-unnamed, turn-unnamed, unnamed_guest, wake-unnamed, zeropage-unnamed}
use Rattle.kernel_laws.proofs.GuestCalls.{IsReady, free-changing, free-kept}

-- The state of a source that is not released, and a kernel whose object agrees, while no map call is under way
pub record At : Type 0 where
  pub world : World
  pub reached : IsReached world
  pub unreleased : is_released world.source.phase ≡ false
  pub by : Watch
  pub one : Counterparts
  pub same : one.space ≡ unnamed world.source.guest.space
  pub told : HasCalls [] one
  pub own : by.on.object ≡ one.name

opened : (at : At) → IsOpen at.world.source.guest.space.object all_features
opened at = (bounded-reached at.world at.reached).opened.source at.unreleased

-- Accesses

tried-space : (ran : Bool) (world : World) (cpu : ℕ) (command : Command) → is_access command ≡ true →
    unnamed (with_guest_by ran world (tried (is_access command) (guest_by ran world.source.guest world.destination.guest) cpu command)).source.guest.space
    ≡ cond ran (unnamed world.source.guest.space) (accessed (unnamed world.source.guest.space) cpu command)
tried-space true world cpu command access = refl
tried-space false world cpu command access = ap (λ b. unnamed (space_by b world.source.guest.space cpu command)) access ∙ sym (accessed-unnamed world.source.guest.space cpu command)

retried-access : (ran : Bool) (world : World) (cpu : ℕ) (command : Command) → IsReached world → outstanding (processor_at (guest_by ran world.source.guest world.destination.guest).cpus cpu) ≡ Some command → is_access command ≡ true
retried-access true world cpu command reached waits = (are_accesses world reached).destination cpu command waits
retried-access false world cpu command reached waits = (are_accesses world reached).source cpu command waits

-- Start and Round

accepted : (world : World) (step : Step) (effect : Effect) → outcome world step ≡ Ok effect → IsOk (outcome world step)
accepted world step effect is = subst IsOk (sym is) refl

areas-logged : (at : At) (key : ℕ) (new : Space) → AreRegistered at.world.source.guest.space new (at.by.runs at.world.source.guest.space.host.areas) 3 →
    Goes [] [] at.one (lines_of_calls key (register_calls at.by.on 3 at.by.calls (at.by.runs at.world.source.guest.space.host.areas))) (unnamed new)
areas-logged at key new are =
    let space = at.world.source.guest.space in
    let runs = at.by.runs space.host.areas in
    let asked = (opened at).asked in
    let may = subst (λ s. MayRegister s runs 3) (sym at.same) (may-unnamed space runs 3 asked are.accepted) in
    let there : HaveAreas at.one.space runs = λ page inside. ap (λ (s : Space). contains_key s.host.areas page) at.same ∙ sym ((at.by.are space.host.areas (bounded-reached at.world at.reached).mapped).pages page) ∙ inside in
    subst (Goes [] [] at.one (lines_of_calls key (register_calls at.by.on 3 at.by.calls runs)))
    (ap (λ s. registered_in_turn s runs 3) at.same ∙ turn-unnamed space runs 3 asked ∙ ap unnamed (sym are.leaves))
    (registers-logged at.one at.by.on 3 at.by.calls key runs tt at.told at.own at.by.has may there)

-- Send and SendRun

protected-logged : (at : At) (key addr len bits : ℕ) (wake : Wake) (new : Guest) → IsWriteProtect at.world.source.guest new addr len bits wake →
    Goes [] [] at.one (lines_of_calls key (answered (call.WriteProtect at.by.on addr len bits) Done ∷ [])) (unnamed new.space)
protected-logged at key addr len bits wake new is =
    let old = at.world.source.guest in
    let there = protect-unnamed old new addr len bits wake is in
    let error = ap (λ (s : Space). writeprotect_error s addr len bits) at.same ∙ no_error (writeprotect_error old.space addr len bits) _ wake is.answer in
    protect-logged at.one key at.by.on addr len bits (unnamed new.space) tt at.own at.told error (followed-protect at.one (unnamed_guest old) (unnamed_guest new) key addr len bits wake at.same there)

sent-some : (on : Descriptor) (b : Bool) (addr : ℕ) → protect_call on (cond b (Effect.SentZero addr) (Effect.SentPage addr)) ≡ [] → (A : Type 0) → A
sent-some on true addr none A = absurd (cc)
sent-some on false addr none A = absurd (cc)

not-sent : (world : World) (on : Descriptor) (effect : Effect) → outcome world Step.Send ≡ Ok effect → protect_call on effect ≡ [] → (next world Step.Send).source.guest.space ≡ world.source.guest.space
not-sent world on effect is =
    made-effect (λ effect new. protect_call on effect ≡ [] → new.source.guest.space ≡ world.source.guest.space) world Step.Send effect
    (λ page least precopy up quiet none. sent-some on (is_zeros (bytes_of world.source page)) (4096 * page) none _) is

page-not-run : (b : Bool) (page addr pages : ℕ) → cond b (Effect.SentZero page) (Effect.SentPage page) ≡ Effect.SentRun addr pages → ⊥
page-not-run true page addr pages h = absurd (cc)
page-not-run false page addr pages h = absurd (cc)

not-a-run : (world : World) (addr pages : ℕ) → outcome world Step.Send ≡ Ok (Effect.SentRun addr pages) → ⊥
not-a-run world addr pages is =
    made-effect (λ effect new. effect ≡ Effect.SentRun addr pages → ⊥) world Step.Send (Effect.SentRun addr pages)
    (λ page least precopy up quiet h. page-not-run (is_zeros (bytes_of world.source page)) (4096 * page) addr pages h) is refl

send-logged : (at : At) (key : ℕ) (effect : Effect) → outcome at.world Step.Send ≡ Ok effect → Goes [] [] at.one (lines_of_calls key (protect_call at.by.on effect)) (unnamed (next at.world Step.Send).source.guest.space)
send-logged at key (Effect.SentPage addr) is =
    protected-logged at key addr 4096 1 Nobody (next at.world Step.Send).source.guest (page_protected at.reached.cpus at.world addr (bounded-reached at.world at.reached) is)
send-logged at key (Effect.SentZero addr) is =
    protected-logged at key addr 4096 1 Nobody (next at.world Step.Send).source.guest (zero_protected at.reached.cpus at.world addr (bounded-reached at.world at.reached) is)
send-logged at key (Effect.SentRun addr pages) is = absurd (not-a-run at.world addr pages is)
send-logged at key effect is = stays at.one (unnamed (next at.world Step.Send).source.guest.space) (at.same ∙ ap unnamed (sym (not-sent at.world at.by.on effect is refl))) at.told

run-some : (on : Descriptor) (addr pages : ℕ) → protect_call on (Effect.SentRun addr pages) ≡ [] → (A : Type 0) → A
run-some on addr pages none A = absurd (cc)

no-run-sent : (world : World) (count : ℕ) (on : Descriptor) (effect : Effect) → outcome world (Step.SendRun count) ≡ Ok effect → protect_call on effect ≡ [] → (next world (Step.SendRun count)).source.guest.space ≡ world.source.guest.space
no-run-sent world count on effect is =
    made-effect (λ effect new. protect_call on effect ≡ [] → new.source.guest.space ≡ world.source.guest.space) world (Step.SendRun count) effect
    (λ first number least many precopy up quiet none. run-some on (4096 * first) number none _) is

run-not-page : (first number addr : ℕ) → Effect.SentRun first number ≡ Effect.SentPage addr → ⊥
run-not-page first number addr h = absurd (cc)

run-not-zero : (first number addr : ℕ) → Effect.SentRun first number ≡ Effect.SentZero addr → ⊥
run-not-zero first number addr h = absurd (cc)

not-a-page : (world : World) (count addr : ℕ) → outcome world (Step.SendRun count) ≡ Ok (Effect.SentPage addr) → ⊥
not-a-page world count addr is =
    made-effect (λ effect new. effect ≡ Effect.SentPage addr → ⊥) world (Step.SendRun count) (Effect.SentPage addr) (λ first number least many precopy up quiet h. run-not-page (4096 * first) number addr h) is refl

not-a-zero : (world : World) (count addr : ℕ) → outcome world (Step.SendRun count) ≡ Ok (Effect.SentZero addr) → ⊥
not-a-zero world count addr is =
    made-effect (λ effect new. effect ≡ Effect.SentZero addr → ⊥) world (Step.SendRun count) (Effect.SentZero addr) (λ first number least many precopy up quiet h. run-not-zero (4096 * first) number addr h) is refl

run-logged : (at : At) (count key : ℕ) (effect : Effect) → outcome at.world (Step.SendRun count) ≡ Ok effect →
    Goes [] [] at.one (lines_of_calls key (protect_call at.by.on effect)) (unnamed (next at.world (Step.SendRun count)).source.guest.space)
run-logged at count key (Effect.SentRun addr pages) is =
    protected-logged at key addr (4096 * pages) 1 Nobody (next at.world (Step.SendRun count)).source.guest (run_protected at.reached.cpus at.world count addr pages (bounded-reached at.world at.reached) is)
run-logged at count key (Effect.SentPage addr) is = absurd (not-a-page at.world count addr is)
run-logged at count key (Effect.SentZero addr) is = absurd (not-a-zero at.world count addr is)
run-logged at count key effect is = stays at.one (unnamed (next at.world (Step.SendRun count)).source.guest.space) (at.same ∙ ap unnamed (sym (no-run-sent at.world count at.by.on effect is refl))) at.told

-- SourceRead

is-read : (world : World) (effect : Effect) → outcome world Step.SourceRead ≡ Ok effect →
    (noted : Noted) × (next_message world.source.guest.space.object ≡ Some noted) × ((next world Step.SourceRead).source.guest.space ≡ record world.source.guest.space { object = message_read world.source.guest.space.object })
is-read world effect is =
    made-effect (λ effect new. (noted : Noted) × (next_message world.source.guest.space.object ≡ Some noted) × (new.source.guest.space ≡ record world.source.guest.space { object = message_read world.source.guest.space.object }))
    world Step.SourceRead effect (λ noted next started unswitched. (noted, next, refl)) is

-- SourceAct

resolved-space : (on : Descriptor) (act : Act) (node : Source) (page addr : ℕ) → resolve_call on (act_effect act addr) ≡ [] → (source_acted_by act node page).guest.space ≡ node.guest.space
resolved-space on Act.Unprotected node page addr none = absurd (cc)
resolved-space on Act.Zeroed node page addr none = absurd (cc)
resolved-space on Act.Woke node page addr none = refl
resolved-space on Act.Forgot node page addr none = refl
resolved-space on (Act.Requested origin) node page addr none = refl

not-resolved : (world : World) (on : Descriptor) (effect : Effect) → outcome world Step.SourceAct ≡ Ok effect → resolve_call on effect ≡ [] → (next world Step.SourceAct).source.guest.space ≡ world.source.guest.space
not-resolved world on effect is =
    made-effect (λ effect new. resolve_call on effect ≡ [] → new.source.guest.space ≡ world.source.guest.space) world Step.SourceAct effect
    (λ fault rest first started unswitched quiet. resolved-space on _ world.source fault.page (4096 * fault.page)) is

resolve-logged : (at : At) (key : ℕ) (effect : Effect) → outcome at.world Step.SourceAct ≡ Ok effect →
    Goes [] [] at.one (lines_of_calls key (resolve_call at.by.on effect)) (unnamed (next at.world Step.SourceAct).source.guest.space)
resolve-logged at key (Effect.Unprotected addr) is =
    protected-logged at key addr 4096 0 (Range addr 4096) (next at.world Step.SourceAct).source.guest (source_unprotects at.reached.cpus at.world addr (bounded-reached at.world at.reached) is)
resolve-logged at key (Effect.Zeroed addr) is =
    let old = at.world.source.guest in
    let new = (next at.world Step.SourceAct).source.guest in
    zeropage-logged at.one key at.by.on addr (unnamed new.space) tt at.own at.told
    (followed-zeropage at.one (unnamed_guest old) (unnamed_guest new) key addr at.same (zeropage-unnamed old new addr (source_zeroes at.reached.cpus at.world addr (bounded-reached at.world at.reached) is)))
resolve-logged at key (Effect.Woke addr) is =
    let old = at.world.source.guest in
    let new = (next at.world Step.SourceAct).source.guest in
    wake-logged at.one key at.by.on addr 4096 (unnamed new.space) tt at.own at.told
    (followed-wake at.one (unnamed_guest old) (unnamed_guest new) addr at.same (wake-unnamed old new addr (source_wakes at.reached.cpus at.world addr (bounded-reached at.world at.reached) (inside-reached at.world at.reached) is)))
resolve-logged at key (Effect.Forgot addr) is =
    let old = at.world.source.guest in
    let new = (next at.world Step.SourceAct).source.guest in
    wake-logged at.one key at.by.on addr 4096 (unnamed new.space) tt at.own at.told
    (followed-wake at.one (unnamed_guest old) (unnamed_guest new) addr at.same (wake-unnamed old new addr (source_forgets at.reached.cpus at.world addr (bounded-reached at.world at.reached) (inside-reached at.world at.reached) is)))
resolve-logged at key effect is =
    stays at.one (unnamed (next at.world Step.SourceAct).source.guest.space) (at.same ∙ ap unnamed (sym (not-resolved at.world at.by.on effect is refl))) at.told

-- Switch: a thread that is on its way never queues its fault

agree-stopped : (space : Space) (kernel : Kernel) (name : ℕ) (object : Object) → Agree space kernel name object → Agree (requeued space [] space.object.events) kernel name object
agree-stopped space kernel name object agree =
    record {
      sound = sound-requeued space [] space.object.events agree.sound;
      named = agree.named;
      features = agree.features;
      pages = λ page. page-requeued space [] space.object.events name page (kernel.pages object.space page) (agree.pages page);
      unread = record { on_their_way = tt; none_queued = agree.unread.none_queued };
      untold = agree.untold;
      alone = agree.alone;
      ranged = agree.ranged;
    }

stopped : {calls : List Pending} (one : Counterparts) → HasCalls calls one → Goes calls calls one [] (requeued one.space [] one.space.object.events)
stopped one told =
    record {
      steps = [];
      last = record { space = requeued one.space [] one.space.object.events; kernel = one.kernel; name = one.name; object = one.object; agree = agree-stopped one.space one.kernel one.name one.object one.agree };
      whole = refl;
      leads = refl;
      leaves = refl;
      name = refl;
      home = refl;
      told = told;
      differs = λ moves none h. h;
    }

switch-logged : (at : At) → Goes [] [] at.one [] (unnamed (next at.world Step.Switch).source.guest.space)
switch-logged at =
    made-next (λ new. Goes [] [] at.one [] (unnamed new.source.guest.space)) at.world Step.Switch (stays at.one (unnamed at.world.source.guest.space) at.same at.told)
    (λ precopy up quiet. subst (λ s. Goes [] [] at.one [] (requeued s [] s.object.events)) at.same (stopped at.one at.told))

-- Frames

took-guest : (node : Source) (frame : Frame) → is_released (source_took node frame).phase ≡ false → (source_took node frame).guest ≡ node.guest
took-guest node frame unreleased = grind (arith, nat_tests)

delivered-guest : (world : World) (n : ℕ) → is_released (next world (Step.DeliverBack n)).source.phase ≡ false → (next world (Step.DeliverBack n)).source.guest ≡ world.source.guest
delivered-guest world n =
    made-next (λ new. is_released new.source.phase ≡ false → new.source.guest ≡ world.source.guest) world (Step.DeliverBack n) (λ unreleased. refl)
    ((λ sent rest first short unreleased. refl), (λ sent rest first full started up unreleased. took-guest world.source sent.frame unreleased))

-- Steps that do not change it

unchanged : (at : At) (step : Step) → (next at.world step).source.guest ≡ at.world.source.guest → Goes [] [] at.one [] (unnamed (next at.world step).source.guest.space)
unchanged at step is = stays at.one (unnamed (next at.world step).source.guest.space) (at.same ∙ ap (λ (guest : Guest). unnamed guest.space) (sym is)) at.told

node-unchanged : (at : At) (step : Step) → (next at.world step).source ≡ at.world.source → Goes [] [] at.one [] (unnamed (next at.world step).source.guest.space)
node-unchanged at step is = unchanged at step (ap (λ (node : Source). node.guest) is)

-- A map call of the guest

queued-unnamed : (object : ModelObject) (messages : List Message) (cpu : ℕ) → all_queued (unnamed_object object) messages cpu ≡ unnamed_object (all_queued object messages cpu)
queued-unnamed object [] cpu = refl
queued-unnamed object (message ∷ messages) cpu = queued-unnamed (event_queued object message cpu) messages cpu

-- an object that asks for no thread numbers changes as the other one
as-unnamed : (space : Space) (cpu : ℕ) (command : Command) (reply : Reply) → reply_of (memory space.host) command ≡ reply → called_as (unnamed space) cpu command reply ≡ unnamed (called_as space cpu command reply) →
    called (unnamed space) cpu command ≡ unnamed (called space cpu command)
as-unnamed space cpu command reply is same = by-reply (unnamed space) cpu command reply is ∙ same ∙ sym (ap unnamed (by-reply space cpu command reply is))

called-unnamed : (space : Space) (cpu : ℕ) (command : Command) → is_access command ≡ false → called (unnamed space) cpu command ≡ unnamed (called space cpu command)
called-unnamed space cpu (Command.Load addr width) access = absurd (false≢true (sym access))
called-unnamed space cpu (Command.Store addr width value) access = absurd (false≢true (sym access))
called-unnamed space cpu (Command.Mmap len prot place) access =
    by-mmap (memory space.host) len prot place (λ reply. mmap_reply (memory space.host) len prot place ≡ reply → called (unnamed space) cpu (Command.Mmap len prot place) ≡ unnamed (called space cpu (Command.Mmap len prot place)))
    (λ errno is. as-unnamed space cpu (Command.Mmap len prot place) (Reply.Refused errno) is refl)
    (λ start is. as-unnamed space cpu (Command.Mmap len prot place) (Reply.At start) is
    (ap (λ o. record (called_as space cpu (Command.Mmap len prot place) (Reply.At start)) { object = o })
    (queued-unnamed (unregistered space.object (start / 4096) (pages_of len)) (message_if (is_watched space.object (start / 4096) (pages_of len)) (Message.Unmap start (start + rounded len))) cpu))) refl
called-unnamed space cpu (Command.Munmap addr len) access =
    by-refusal (λ reply. munmap_reply addr len ≡ reply → called (unnamed space) cpu (Command.Munmap addr len) ≡ unnamed (called space cpu (Command.Munmap addr len)))
    ((not (is_page_start addr), Errno.Einval) ∷ (eqb len 0, Errno.Einval) ∷ (ltb HIGH (addr + rounded len), Errno.Einval) ∷ []) Reply.Done
    (λ errno is. as-unnamed space cpu (Command.Munmap addr len) (Reply.Refused errno) is refl)
    (λ is. as-unnamed space cpu (Command.Munmap addr len) Reply.Done is
    (ap (λ o. record (called_as space cpu (Command.Munmap addr len) Reply.Done) { object = o })
    (queued-unnamed (unregistered space.object (addr / 4096) (pages_of len)) (message_if (is_watched space.object (addr / 4096) (pages_of len)) (Message.Unmap addr (addr + rounded len))) cpu))) refl
called-unnamed space cpu (Command.Mremap addr old_len new_len may_move fixed) access =
    let command = Command.Mremap addr old_len new_len may_move fixed in
    by-remap (memory space.host) addr old_len new_len may_move fixed (λ reply. mremap_reply (memory space.host) addr old_len new_len may_move fixed ≡ reply → called (unnamed space) cpu command ≡ unnamed (called space cpu command))
    (λ errno is. as-unnamed space cpu command (Reply.Refused errno) is refl)
    (λ target is.
    let object = modes_after space.object command (Reply.At target) in
    let messages = call_messages space.object command (Reply.At target) in
    as-unnamed space cpu command (Reply.At target) is (ap (λ o. record (called_as space cpu command (Reply.At target)) { object = o }) (queued-unnamed object messages cpu))) refl
called-unnamed space cpu (Command.DontNeed addr len) access =
    let there = memory space.host in
    by-dontneed (λ reply. dontneed_reply there addr len ≡ reply → called (unnamed space) cpu (Command.DontNeed addr len) ≡ unnamed (called space cpu (Command.DontNeed addr len)))
    (is_page_start addr) (eqb len 0) (leb (2 ^ 64) (addr + rounded len)) (not (is_all_mapped there addr (rounded len)))
    (λ is. as-unnamed space cpu (Command.DontNeed addr len) (Reply.Refused Errno.Einval) is refl)
    (λ is. removed Reply.Done (addr + rounded len) is refl refl)
    (λ is. removed (Reply.Refused Errno.Enomem) (lesser (addr + rounded len) HIGH) is refl refl) refl
  where
    command : Command
    command = Command.DontNeed addr len

    w : Bool
    w = is_watched space.object (addr / 4096) (pages_of len)

    removed : (reply : Reply) (stop : ℕ) → dontneed_reply (memory space.host) addr len ≡ reply → called_as (unnamed space) cpu command reply ≡ dropped_space (unnamed space) (addr / 4096) (pages_of len) addr stop cpu w →
        dropped_space space (addr / 4096) (pages_of len) addr stop cpu w ≡ called_as space cpu command reply → called (unnamed space) cpu command ≡ unnamed (called space cpu command)
    removed reply stop is now before =
        as-unnamed space cpu command reply is
        (now ∙ ap (λ o. record (dropped_space (unnamed space) (addr / 4096) (pages_of len) addr stop cpu w) { object = o }) (queued-unnamed space.object (message_if w (Message.Remove addr stop)) cpu) ∙ ap unnamed before)

asked-events : has_events_in unnamed_features ≡ true
unfolding is_one
asked-events = refl

-- Every step

-- the steps in which the handler makes calls on pages, and Switch
abbrev IsHandled : Step → Type 0
IsHandled Step.Start = Unit {0}
IsHandled Step.Round = Unit {0}
IsHandled Step.Send = Unit {0}
IsHandled (Step.SendRun count) = Unit {0}
IsHandled Step.SourceAct = Unit {0}
IsHandled Step.Switch = Unit {0}
IsHandled step = ⊥

-- the guest of the source has no part in a step
abbrev IsPassive : Step → Type 0
IsPassive (Step.Issue cpu command) = ⊥
IsPassive (Step.Retry cpu) = ⊥
IsPassive Step.Start = ⊥
IsPassive Step.Round = ⊥
IsPassive Step.Send = ⊥
IsPassive (Step.SendRun count) = ⊥
IsPassive Step.SourceRead = ⊥
IsPassive Step.SourceAct = ⊥
IsPassive Step.Switch = ⊥
IsPassive step = Unit {0}

-- a frame that comes back does not release the source
abbrev Keeps : World → Step → Type 0
Keeps world (Step.DeliverBack n) = is_released (next world (Step.DeliverBack n)).source.phase ≡ false
Keeps world step = Unit {0}

passive : (world : World) (step : Step) → IsPassive step → Keeps world step → (next world step).source.guest ≡ world.source.guest
passive world (Step.DeliverBack n) is unreleased = delivered-guest world n unreleased
passive world (Step.Push ticket) is unreleased = made-next (λ new. new.source.guest ≡ world.source.guest) world (Step.Push ticket) refl (λ stopped up own present remains. refl)
passive world (Step.PushUrgent ticket) is unreleased = made-next (λ new. new.source.guest ≡ world.source.guest) world (Step.PushUrgent ticket) refl (λ stopped up own present remains. refl)
passive world Step.Serve is unreleased = made-next (λ new. new.source.guest ≡ world.source.guest) world Step.Serve refl (λ page pages first stopped up. refl)
passive world Step.End is unreleased = made-next (λ new. new.source.guest ≡ world.source.guest) world Step.End refl (λ stopped other up none. refl)
passive world (Step.Notice Side.Source) is unreleased = ap (λ (w : World). w.source.guest) (changes_parts world (Step.Notice Side.Source)).is
passive world (Step.Notice Side.Destination) is unreleased = ap (λ (w : World). w.source.guest) (changes_parts world (Step.Notice Side.Destination)).is
passive world Step.Resume is unreleased = ap (λ (node : Source). node.guest) (changes_parts world Step.Resume).source
passive world (Step.Deliver n) is unreleased = ap (λ (node : Source). node.guest) (changes_parts world (Step.Deliver n)).source
passive world Step.DestRead is unreleased = ap (λ (node : Source). node.guest) (changes_parts world Step.DestRead).source
passive world Step.DestAct is unreleased = ap (λ (node : Source). node.guest) (changes_parts world Step.DestAct).source
passive world Step.Install is unreleased = ap (λ (node : Source). node.guest) (changes_parts world Step.Install).source
passive world (Step.DeliverUrgent n) is unreleased = ap (λ (node : Source). node.guest) (changes_parts world (Step.DeliverUrgent n)).source
passive world Step.Break is unreleased = ap (λ (node : Source). node.guest) (changes_parts world Step.Break).source
passive world step is unreleased = absurd is

handled-writes : (at : At) (home key : ℕ) (step : Step) → IsHandled step →
    Writes [] at.one (source_writes at.by home key [] at.world step (outcome at.world step)) (unnamed (next at.world step).source.guest.space)
handled-writes at home key Step.Start handled =
    writes-calls at.one key (source_calls at.by at.world Step.Start (outcome at.world Step.Start)) (unnamed (next at.world Step.Start).source.guest.space)
    (by-result (source at.by at.one.object.space) at.world Step.Start at.one (λ effect. register_calls at.by.on 3 at.by.calls (at.by.runs at.world.source.guest.space.host.areas)) key (outcome at.world Step.Start) at.same at.told refl
    (λ effect is. areas-logged at key (next at.world Step.Start).source.guest.space
    (start_registers at.reached.cpus at.world (at.by.runs at.world.source.guest.space.host.areas) (bounded-reached at.world at.reached) (accepted at.world Step.Start effect is) (at.by.are at.world.source.guest.space.host.areas (bounded-reached at.world at.reached).mapped))))
handled-writes at home key Step.Round handled =
    writes-calls at.one key (source_calls at.by at.world Step.Round (outcome at.world Step.Round)) (unnamed (next at.world Step.Round).source.guest.space)
    (by-result (source at.by at.one.object.space) at.world Step.Round at.one (λ effect. register_calls at.by.on 3 at.by.calls (at.by.runs at.world.source.guest.space.host.areas)) key (outcome at.world Step.Round) at.same at.told refl
    (λ effect is. areas-logged at key (next at.world Step.Round).source.guest.space
    (round_registers at.reached.cpus at.world (at.by.runs at.world.source.guest.space.host.areas) (bounded-reached at.world at.reached) (accepted at.world Step.Round effect is) (at.by.are at.world.source.guest.space.host.areas (bounded-reached at.world at.reached).mapped))))
handled-writes at home key Step.Send handled =
    writes-calls at.one key (source_calls at.by at.world Step.Send (outcome at.world Step.Send)) (unnamed (next at.world Step.Send).source.guest.space)
    (by-result (source at.by at.one.object.space) at.world Step.Send at.one (protect_call at.by.on) key (outcome at.world Step.Send) at.same at.told refl (λ effect is. send-logged at key effect is))
handled-writes at home key (Step.SendRun count) handled =
    writes-calls at.one key (source_calls at.by at.world (Step.SendRun count) (outcome at.world (Step.SendRun count))) (unnamed (next at.world (Step.SendRun count)).source.guest.space)
    (by-result (source at.by at.one.object.space) at.world (Step.SendRun count) at.one (protect_call at.by.on) key (outcome at.world (Step.SendRun count)) at.same at.told refl (λ effect is. run-logged at count key effect is))
handled-writes at home key Step.SourceAct handled =
    writes-calls at.one key (source_calls at.by at.world Step.SourceAct (outcome at.world Step.SourceAct)) (unnamed (next at.world Step.SourceAct).source.guest.space)
    (by-result (source at.by at.one.object.space) at.world Step.SourceAct at.one (resolve_call at.by.on) key (outcome at.world Step.SourceAct) at.same at.told refl (λ effect is. resolve-logged at key effect is))
handled-writes at home key Step.Switch handled =
    writes-calls at.one key (source_calls at.by at.world Step.Switch (outcome at.world Step.Switch)) (unnamed (next at.world Step.Switch).source.guest.space)
    (switch-logged at)
handled-writes at home key step handled = absurd handled

-- Every list of steps

released-on : (world : World) (step : Step) → IsReached world → is_released world.source.phase ≡ true → is_released (next world step).source.phase ≡ true
released-on world step reached released = complete-next world step (bounded-reached world reached).ready.kept released

-- a reached world whose source is not released
abbrev pub IsKept : World → Type 0
IsKept world = IsReached world × (is_released world.source.phase ≡ false)

unreleased-first : (world : World) (steps : List Step) → IsReached world → IsUnreleased world steps → is_released world.source.phase ≡ false
unreleased-first world [] reached kept = kept
unreleased-first world (step ∷ steps) reached kept =
    only_where (is_released world.source.phase) (is_released (next world step).source.phase) (released-on world step reached) (unreleased-first (next world step) steps (reached-next world step reached) kept)

all-kept : (world : World) (steps : List Step) → IsReached world → IsUnreleased world steps → AreAll IsKept world steps
all-kept world [] reached kept = (reached, kept)
all-kept world (step ∷ steps) reached kept = ((reached, unreleased-first world (step ∷ steps) reached kept), all-kept (next world step) steps (reached-next world step reached) kept)

-- Any other step, and one while map calls are under way

abbrev space_of : World → Space
space_of world = unnamed world.source.guest.space

-- a step that is refused while an event is unread
refused-kept : {on : Descriptor} {home key : ℕ} {begun : List Open} (world : World) (step : Step) (calls : Result Effect Refusal → List Ended) → ((refusal : Refusal) → calls (Err refusal) ≡ []) → ((effect : Effect) → outcome world step ≡ Ok effect → ⊥) →
    Kept on home key begun (calls_written key begun (calls (outcome world step))) (unnamed world.source.guest.space) (unnamed (next world step).source.guest.space)
refused-kept {key = key} {begun = begun} world step calls none refused =
    kept-by space_of world step (λ result. calls_written key begun (calls result)) (outcome world step) (λ refusal. ap (calls_written key begun) (none refusal)) refl (λ effect is. absurd (refused effect is))

-- a processor's access, where the guest runs
tried-kept : {on : Descriptor} {home key : ℕ} {begun : List Open} (world : World) (cpu : ℕ) (command : Command) (ran : Bool) (written : Written) → IsReached world → is_access command ≡ true → keeps_off_all (space_of world) command begun ≡ true →
    written ≡ calls_written key begun [] → Kept on home key begun written (space_of world) (unnamed (with_guest_by ran world (tried (is_access command) (guest_by ran world.source.guest world.destination.guest) cpu command)).source.guest.space)
tried-kept world cpu command true written reached access off is = idle is refl
tried-kept world cpu command false written reached access off is =
    let spaces = (bounded-reached world reached).ready.kept.spaces in
    tries cpu command access off is (tried-space false world cpu command access) no-names (λ protect. spaces.both_modes (page_of command) ∙ protect)

-- a command, by whether it is an access
issued-kept : {on : Descriptor} {home key : ℕ} {begun : List Open} (world : World) (cpu : ℕ) (command : Command) (ran access : Bool) → IsReached world → is_access command ≡ access → is_followed command ≡ true → keeps_off_all (space_of world) command begun ≡ true →
    Kept on home key begun (cond ran (calls_written key begun []) (issue_written home key begun (space_of world) cpu command (map_call command))) (space_of world)
    (unnamed (with_guest_by ran world (tried (is_access command) (guest_by ran world.source.guest world.destination.guest) cpu command)).source.guest.space)
issued-kept world cpu command true access reached is followed off = idle refl refl
issued-kept {home = home} {key = key} {begun = begun} world cpu command false true reached is followed off =
    tried-kept world cpu command false _ reached is off (ap (issue_written home key begun (space_of world) cpu command) (no-map-call command is))
issued-kept world cpu command false false reached is followed off =
    makes cpu command is followed off refl (ap (λ b. unnamed (space_by b world.source.guest.space cpu command)) is ∙ sym (called-unnamed world.source.guest.space cpu command is)) (memory_bounded world reached).source

source-kept : (by : Watch) (home key : ℕ) (begun : List Open) (world : World) (step : Step) → IsReached world → Keeps world step → (IsHandled step → is_changing world.source.guest ≡ true) → (IsHandled step → is_source_idle world.source.phase ≡ false) →
    IsFollowed (space_of world) begun world step → Kept by.on home key begun (source_writes by home key begun world step (outcome world step)) (space_of world) (space_of (next world step))
source-kept by home key begun world (Step.Issue cpu command) reached unreleased changing busy followed =
    kept-by space_of world (Step.Issue cpu command) (source_writes by home key begun world (Step.Issue cpu command)) (outcome world (Step.Issue cpu command)) (λ refusal. refl) refl
    (λ effect is.
    made-effect (λ effect new. Kept by.on home key begun (source_writes by home key begun world (Step.Issue cpu command) (Ok effect)) (space_of world) (space_of new)) world (Step.Issue cpu command) effect
    (λ there ready runs.
    issued-kept world cpu command world.destination.has_run (is_access command) reached refl (and_first (is_followed command) (keeps_off_all (space_of world) command begun) followed)
    (and_second (is_followed command) (keeps_off_all (space_of world) command begun) followed)) is)
source-kept by home key begun world (Step.Retry cpu) reached unreleased changing busy followed =
    made-next (λ new. Kept by.on home key begun (calls_written key begun []) (space_of world) (space_of new)) world (Step.Retry cpu) (idle refl refl)
    (λ command waits woken runs. tried-kept world cpu command world.destination.has_run (calls_written key begun []) reached (retried-access world.destination.has_run world cpu command reached waits) (followed command waits) refl)
source-kept by home key begun world Step.SourceRead reached unreleased changing busy followed =
    kept-by space_of world Step.SourceRead (source_writes by home key begun world Step.SourceRead) (outcome world Step.SourceRead) (λ refusal. refl) refl
    (λ effect is.
    let space = world.source.guest.space in
    let it = is-read world effect is in
    let first = next-unnamed space.object it.0 it.1 in
    reads first.0 first.1 (ap (read_written by.on key begun) first.1) (ap unnamed it.2 ∙ sym (ap (λ o. record (unnamed space) { object = o }) (read-unnamed space.object))))
source-kept by home key begun world Step.Start reached unreleased changing busy followed =
    refused-kept world Step.Start (source_calls by world Step.Start) (λ refusal. refl)
    (λ effect is. made-effect (λ effect new. ⊥) world Step.Start effect (λ unbegun fits. false≢true (sym (busy tt) ∙ unbegun)) is)
source-kept by home key begun world Step.Round reached unreleased changing busy followed =
    refused-kept world Step.Round (source_calls by world Step.Round) (λ refusal. refl) (λ effect is. made-effect (λ effect new. ⊥) world Step.Round effect (λ precopy quiet. false≢true (sym quiet ∙ changing tt)) is)
source-kept by home key begun world Step.Send reached unreleased changing busy followed =
    refused-kept world Step.Send (source_calls by world Step.Send) (λ refusal. refl) (λ effect is. made-effect (λ effect new. ⊥) world Step.Send effect (λ page least precopy up quiet. false≢true (sym quiet ∙ changing tt)) is)
source-kept by home key begun world (Step.SendRun count) reached unreleased changing busy followed =
    refused-kept world (Step.SendRun count) (source_calls by world (Step.SendRun count)) (λ refusal. refl)
    (λ effect is. made-effect (λ effect new. ⊥) world (Step.SendRun count) effect (λ first number least many precopy up quiet. false≢true (sym quiet ∙ changing tt)) is)
source-kept by home key begun world Step.SourceAct reached unreleased changing busy followed =
    refused-kept world Step.SourceAct (source_calls by world Step.SourceAct) (λ refusal. refl)
    (λ effect is. made-effect (λ effect new. ⊥) world Step.SourceAct effect (λ fault rest first started unswitched quiet. false≢true (sym quiet ∙ changing tt)) is)
source-kept by home key begun world Step.Switch reached unreleased changing busy followed =
    refused-kept world Step.Switch (source_calls by world Step.Switch) (λ refusal. refl) (λ effect is. made-effect (λ effect new. ⊥) world Step.Switch effect (λ precopy up quiet. false≢true (sym quiet ∙ changing tt)) is)
source-kept by home key begun world step reached unreleased changing busy followed = idle refl (ap (λ (guest : Guest). unnamed guest.space) (sym (passive world step tt unreleased)))

-- Each state

-- no page is registered
abbrev pub IsBare : ModelObject → Type 0
IsBare object = (page : ℕ) → (contains object.missing page ≡ false) × (contains object.protect page ≡ false)

pub is-idle : (phase : SourcePhase) → is_source_idle phase ≡ true → phase ≡ SourcePhase.Idle
is-idle phase h = grind (arith, nat_tests)

pub bare-idle : (world : World) → IsSoundWorld world → is_source_idle world.source.phase ≡ true → IsBare world.source.guest.space.object
bare-idle world kept unbegun page =
    let missing = (kept.precopy.idle_source (is-idle world.source.phase unbegun)).4 page in
    (missing, sym (kept.spaces.both_modes page) ∙ missing)

-- an event is unread only once a migration has begun
changing-busy : (world : World) → IsReached world → is_changing world.source.guest ≡ true → is_source_idle world.source.phase ≡ false
changing-busy world reached changing = by (is_source_idle world.source.phase) refl where
  by : (b : Bool) → is_source_idle world.source.phase ≡ b → b ≡ false
  by false is = refl
  by true is =
      let none = ((bounded-reached world reached).ready.kept.precopy.idle_source (is-idle world.source.phase is)).3 in
      absurd (false≢true (sym (ap (λ (l : List Noted). ltb 0 (length l)) none) ∙ changing))

-- what the next step needs of the source's object
is-ready : (world : World) → IsKept world → IsReady (space_of world)
is-ready world it =
    let opened = (bounded-reached world it.0).opened.source it.1 in
    record { enabled = opened.enabled; asked = asked-events }

kept-next : {name home key : ℕ} {calls : List Pending} {one : Counterparts} (by : Watch) (world : World) (its : Free name home key (space_of world) calls one) (step : Step) → by.on.object ≡ name → IsKept world → Keeps world step → (IsHandled step → is_changing world.source.guest ≡ true) →
    IsFollowed (space_of world) (map open_of calls) world step →
    Next name home (under_way one.kernel (map open_of calls)) one (source_writes by home key (map open_of calls) world step (outcome world step)) (space_of (next world step))
kept-next {home = home} {key = key} {calls = calls} by world its step own it then changing followed =
    free-kept its by.on (source_writes by home key (map open_of calls) world step (outcome world step)) (space_of (next world step)) own (is-ready world it)
    (source-kept by home key (map open_of calls) world step it.0 then changing (λ handled. changing-busy world it.0 (changing handled)) followed)

-- by whether the handler makes calls in it
free-by : {home key : ℕ} {one : Counterparts} (by : Watch) (world : World) (its : Free by.on.object home key (space_of world) [] one) (step : Step) → IsKept world → Keeps world step → IsFollowed (space_of world) [] world step → (IsHandled step ⊎ (IsHandled step → ⊥)) →
    Next by.on.object home (under_way one.kernel []) one (source_writes by home key [] world step (outcome world step)) (space_of (next world step))
free-by {home = home} {key = key} {one = one} by world its step it then followed (inl handled) =
    wrote-next _ _ its (handled-writes (record { world = world; reached = it.0; unreleased = it.1; by = by; one = one; same = sym (seen-quiet one its.told) ∙ its.same; told = its.told; own = its.own }) home key step handled)
free-by by world its step it then followed (inr other) = kept-next by world its step refl it then (λ handled. absurd (other handled)) followed

is-handled : (step : Step) → IsHandled step ⊎ (IsHandled step → ⊥)
is-handled Step.Start = inl tt
is-handled Step.Round = inl tt
is-handled Step.Send = inl tt
is-handled (Step.SendRun count) = inl tt
is-handled Step.SourceAct = inl tt
is-handled Step.Switch = inl tt
is-handled step = inr (λ handled. handled)

free-next : {home key : ℕ} {calls : List Pending} {one : Counterparts} (by : Watch) (world : World) (its : Free by.on.object home key (space_of world) calls one) (step : Step) → IsKept world → Keeps world step → IsFollowed (space_of world) (map open_of calls) world step →
    Next by.on.object home (under_way one.kernel (map open_of calls)) one (source_writes by home key (map open_of calls) world step (outcome world step)) (space_of (next world step))
free-next {calls = []} by world its step it then followed = free-by by world its step it then followed (is-handled step)
free-next {calls = first ∷ calls} by world its step it then followed = kept-next by world its step refl it then (λ handled. free-changing its) followed

state-next : (by : Watch) (home : ℕ) (world : World) (key : ℕ) (state : State by.on.object home key (unnamed world.source.guest.space)) (step : Step) → IsKept world → Keeps world step → IsFollowed (unnamed world.source.guest.space) (log_begun state) world step →
    Next by.on.object home (run_world state) (counterpart state) (source_writes by home key (log_begun state) world step (outcome world step)) (unnamed (next world step).source.guest.space)
state-next by home world key (free calls one its) step it then followed = free-next by world its step it then followed
state-next by home world key (held clearing calls one its) step it then followed =
    held-next its by.on (source_writes by home key (log_begun (held clearing calls one its)) world step (outcome world step)) (unnamed (next world step).source.guest.space) refl
    (sound-unnamed world.source.guest.space (bounded-reached world it.0).ready.kept.spaces.source_space)
    (source-kept by home key (map open_of calls ++ open_of (pending_for clearing) ∷ []) world step it.0 then (λ handled. held-changing its) (λ handled. changing-busy world it.0 (held-changing its)) followed)

-- until it is released it keeps its memory
keeps : (world : World) (step : Step) → is_released (next world step).source.phase ≡ false → Keeps world step
keeps world (Step.DeliverBack n) kept = kept
keeps world step kept = tt

pub source-logged : (at : Watching) (key : ℕ) (steps : List Step) → AreFollowed (source at.by at.one.object.space) key [] at.world steps → IsUnreleased at.world steps → AreLogged (source at.by at.one.object.space) at.one key at.world steps
source-logged at key steps followed kept =
    let home = at.one.object.space in
    logged-from at.one at.by.on.object _ _ at.own
    (every-ends (source at.by home) at.by.on.object home IsKept (λ world number state step it then follows. state-next at.by home world number state step it (keeps world step then.1) follows) at.world key
    (free [] at.one (record { same = seen-quiet at.one at.quiet ∙ at.same; told = at.quiet; below = tt; own = at.own; there = refl })) steps (all-kept at.world steps at.reached kept) followed)

-- After the release nothing is written

is-released : (phase : SourcePhase) → is_released phase ≡ true → phase ≡ SourcePhase.Released
is-released phase h = grind (arith, nat_tests)

link-up : (up : Bool) → (up ≡ false → ⊥) → up ≡ true
link-up true down = refl
link-up false down = absurd (down refl)

destination-ended : (source : Source) (destination : Destination) (forward back urgent : List Sent) → is_released source.phase ≡ true → Wires source destination forward back urgent → destination.phase ≡ DestPhase.Ended
destination-ended source destination forward back urgent released wires = grind (arith, nat_tests)

-- the guest has left
released-facts : (world : World) → IsReached world → is_released world.source.phase ≡ true → (world.source.switched ≡ true) × (world.destination.has_run ≡ true)
released-facts world reached released =
    let kept = (bounded-reached world reached).ready.kept in
    let phase = is-released world.source.phase released in
    let up = link-up world.up (λ down. (kept.flight.down down).3 phase) in
    let ended = destination-ended world.source world.destination world.forward.frames world.back.frames world.urgent.frames released (kept.flight.wires up) in (
      subst (λ p. SwitchedAt p world.source.switched) phase kept.phases.source_phase,
      kept.phases.ended_after_run (subst (λ p. RanAt p world.destination.has_run world.destination.ended) ended kept.phases.destination_phase),
    )

-- a step that is refused writes nothing
refused-written : (world : World) (step : Step) (calls : Result Effect Refusal → List Ended) (key : ℕ) (begun : List Open) → ((refusal : Refusal) → calls (Err refusal) ≡ []) → ((effect : Effect) → outcome world step ≡ Ok effect → ⊥) →
    calls_written key begun (calls (outcome world step)) ≡ calls_written key begun []
refused-written world step calls key begun none refused = by (outcome world step) refl where
  by : (result : Result Effect Refusal) → outcome world step ≡ result → calls_written key begun (calls result) ≡ calls_written key begun []
  by (Ok effect) is = absurd (refused effect is)
  by (Err refusal) is = ap (calls_written key begun) (none refusal)

released-apart : (phase : SourcePhase) → is_released phase ≡ true → (is_source_idle phase ≡ false) × (is_precopy phase ≡ false)
released-apart phase h = (grind (arith, nat_tests), grind (arith, nat_tests))

nothing-written : (by : Watch) (home key : ℕ) (begun : List Open) (world : World) (step : Step) → IsReached world → is_released world.source.phase ≡ true → source_writes by home key begun world step (outcome world step) ≡ calls_written key begun []
nothing-written by home key begun world (Step.Issue cpu command) reached released = one (outcome world (Step.Issue cpu command)) where
  one : (result : Result Effect Refusal) → source_writes by home key begun world (Step.Issue cpu command) result ≡ calls_written key begun []
  one (Ok effect) = ap (λ b. cond b (calls_written key begun []) (issue_written home key begun (unnamed world.source.guest.space) cpu command (map_call command))) (released-facts world reached released).1
  one (Err refusal) = refl
nothing-written by home key begun world Step.SourceRead reached released = one (outcome world Step.SourceRead) refl where
  one : (result : Result Effect Refusal) → outcome world Step.SourceRead ≡ result → source_writes by home key begun world Step.SourceRead result ≡ calls_written key begun []
  one (Ok effect) is = absurd (made-effect (λ effect new. ⊥) world Step.SourceRead effect (λ noted next started unswitched. false≢true (sym unswitched ∙ (released-facts world reached released).0)) is)
  one (Err refusal) is = refl
nothing-written by home key begun world Step.Start reached released =
    refused-written world Step.Start (source_calls by world Step.Start) key begun (λ refusal. refl)
    (λ effect is. made-effect (λ effect new. ⊥) world Step.Start effect (λ unbegun fits. false≢true (sym (released-apart world.source.phase released).0 ∙ unbegun)) is)
nothing-written by home key begun world Step.Round reached released =
    refused-written world Step.Round (source_calls by world Step.Round) key begun (λ refusal. refl)
    (λ effect is. made-effect (λ effect new. ⊥) world Step.Round effect (λ precopy quiet. false≢true (sym (released-apart world.source.phase released).1 ∙ precopy)) is)
nothing-written by home key begun world Step.Send reached released =
    refused-written world Step.Send (source_calls by world Step.Send) key begun (λ refusal. refl)
    (λ effect is. made-effect (λ effect new. ⊥) world Step.Send effect (λ page least precopy up quiet. false≢true (sym (released-apart world.source.phase released).1 ∙ precopy)) is)
nothing-written by home key begun world (Step.SendRun count) reached released =
    refused-written world (Step.SendRun count) (source_calls by world (Step.SendRun count)) key begun (λ refusal. refl)
    (λ effect is. made-effect (λ effect new. ⊥) world (Step.SendRun count) effect (λ first number least many precopy up quiet. false≢true (sym (released-apart world.source.phase released).1 ∙ precopy)) is)
nothing-written by home key begun world Step.SourceAct reached released =
    refused-written world Step.SourceAct (source_calls by world Step.SourceAct) key begun (λ refusal. refl)
    (λ effect is. made-effect (λ effect new. ⊥) world Step.SourceAct effect (λ fault rest first started unswitched quiet. false≢true (sym unswitched ∙ (released-facts world reached released).0)) is)
nothing-written by home key begun world step reached released = refl

-- nor by all that follow
pub nothing-follows : (by : Watch) (home key : ℕ) (begun : List Open) (world : World) (steps : List Step) → IsReached world → is_released world.source.phase ≡ true → (more : ℕ) × (log_of (source by home) key begun world steps ≡ record { lines = []; key = more; begun = begun })
nothing-follows by home key begun world [] reached released = (key, refl)
nothing-follows by home key begun world (step ∷ steps) reached released =
    let new = next world step in
    let rest = nothing-follows by home (key + 0) begun new steps (reached-next world step reached) (released-on world step reached released) in (
      rest.0,
      ap (λ (first : Written). then_written first (log_of (source by home) first.key first.begun new steps)) (nothing-written by home key begun world step reached released) ∙ ap (then_written (calls_written key begun [])) rest.1,
    )

-- Every list of steps, also after the release

-- either the step keeps the source's memory, or it writes nothing
keeps-or-none : (by : Watch) (home key : ℕ) (begun : List Open) (world : World) (step : Step) → Keeps world step ⊎ (source_writes by home key begun world step (outcome world step) ≡ calls_written key begun [])
keeps-or-none by home key begun world (Step.DeliverBack n) = inr refl
keeps-or-none by home key begun world step = inl tt

-- a run to the end of a log with the same lines
same-ends : {name : ℕ} {start : runs.World} {one : Counterparts} {space : Space} (log more : Written) → more.lines ≡ log.lines → more.begun ≡ log.begun → Ends name start one log space → Ends name start one more space
same-ends {name = name} {start = start} {one = one} {space = space} log more lines begun ends =
    record {
      steps = ends.steps;
      last = ends.last;
      whole = ends.whole ∙ sym lines;
      leads = subst (λ b. Leads start ends.steps (under_way ends.last.kernel b)) (sym begun) ends.leads;
      leaves = ap (modelled ends.last.space) begun ∙ ends.leaves;
      own = ends.own;
      quiet = λ none. ends.quiet (sym begun ∙ none);
      differs = subst (λ l. Differs l one.kernel ends.last.kernel) (sym lines) ends.differs;
    }

-- a run of the log of these steps
abbrev HasEnds : (by : Watch) (home : ℕ) (world : World) (key : ℕ) → State by.on.object home key (unnamed world.source.guest.space) → List Step → Type 0
HasEnds by home world key state steps = (space : Space) × Ends by.on.object (run_world state) (counterpart state) (log_of (source by home) key (log_begun state) world steps) space

always-step : (by : Watch) (home : ℕ) (world : World) (key : ℕ) (state : State by.on.object home key (unnamed world.source.guest.space)) (step : Step) (steps : List Step) → IsKept world → IsFollowed (unnamed world.source.guest.space) (log_begun state) world step →
    (b : Bool) → is_released (next world step).source.phase ≡ b →
    ((first : Next by.on.object home (run_world state) (counterpart state) ((source by home).writes key (log_begun state) world step) (unnamed (next world step).source.guest.space)) → is_released (next world step).source.phase ≡ false →
    HasEnds by home (next world step) ((source by home).writes key (log_begun state) world step).key first.state steps) →
    HasEnds by home world key state (step ∷ steps)
always-step by home world key state step steps it followed false is rest =
    let new = next world step in
    let written = (source by home).writes key (log_begun state) world step in
    let first = state-next by home world key state step it (keeps world step is) followed in
    let ends = rest first is in (
      ends.0,
      next-ends by.on.object home (run_world state) (counterpart state) written (log_of (source by home) written.key written.begun new steps) (unnamed new.source.guest.space) ends.0 first
          (subst (λ begun. Ends by.on.object (run_world first.state) (counterpart first.state) (log_of (source by home) written.key begun new steps) ends.0) (sym first.begun) ends.1),
    )
always-step by home world key state step steps it followed true is rest =
    last (keeps-or-none by home key (log_begun state) world step)
  where
    new : World
    new = next world step

    written : Written
    written = (source by home).writes key (log_begun state) world step

    nothing : (more : ℕ) × (log_of (source by home) written.key written.begun new steps ≡ record { lines = []; key = more; begun = written.begun })
    nothing = nothing-follows by home written.key written.begun new steps (reached-next world step it.0) is

    last : Keeps world step ⊎ (written ≡ calls_written key (log_begun state) []) → HasEnds by home world key state (step ∷ steps)
    last (inl kept) =
        let first = state-next by home world key state step it kept followed in
        let space = unnamed new.source.guest.space in (
          space,
          next-ends by.on.object home (run_world state) (counterpart state) written (log_of (source by home) written.key written.begun new steps) space space first
              (same-ends (record { lines = []; key = written.key; begun = log_begun first.state }) (log_of (source by home) written.key written.begun new steps) (ap (λ (w : Written). w.lines) nothing.1)
              (ap (λ (w : Written). w.begun) nothing.1 ∙ first.begun) (ends-at by.on.object home written.key space first.state)),
        )
    last (inr none) =
        let space = unnamed world.source.guest.space in (
          space,
          same-ends (record { lines = []; key = key; begun = log_begun state }) (log_of (source by home) key (log_begun state) world (step ∷ steps))
              ((λ i. (none i).lines ++ (nothing.1 i).lines))
              (ap (λ (w : Written). w.begun) nothing.1 ∙ ap (λ (w : Written). w.begun) none) (ends-at by.on.object home key space state),
        )

pub always : (by : Watch) (home : ℕ) (world : World) (key : ℕ) (state : State by.on.object home key (unnamed world.source.guest.space)) (steps : List Step) → IsKept world → AreFollowed (source by home) key (log_begun state) world steps → HasEnds by home world key state steps
always by home world key state [] it followed = (unnamed world.source.guest.space, ends-at by.on.object home key (unnamed world.source.guest.space) state)
always by home world key state (step ∷ steps) it followed =
    let new = next world step in
    let written = (source by home).writes key (log_begun state) world step in
    always-step by home world key state step steps it followed.0 (is_released new.source.phase) refl
    (λ first kept. always by home new written.key first.state steps (reached-next world step it.0, kept) (subst (λ begun. AreFollowed (source by home) written.key begun new steps) first.begun followed.1))
