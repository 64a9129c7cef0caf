-- Logs of a node have runs, call by call and step by step.
use Rattle.kernel_rules.specs.Reads.{first_unread}
use Rattle.std.proofs.lemmas.Bool.Decides.{nat_tests}
use Rattle.std.proofs.lemmas.Bool.{eqb-true, false≢true}
use Rattle.std.proofs.lemmas.List.Elements.{filter_map-append}
use Rattle.std.proofs.lemmas.List.Folds.{list_any-append}
use Rattle.std.proofs.lemmas.Option.{none-some, same_Some}
use Rattle.std.proofs.Common.{◌≡◌, ℕ, ◌+◌, ◌*◌, ◌≤◌, ◌^◌, Bool, true, false, not, cond, eqb, ltb, Option, Some, None, List, [], ◌∷◌, ◌++◌, length, arith, refl, sym, ap, subst, ◌∙◌, ◌&&◌, ◌/◌}
use Rattle.std.specs.Prelude.{Result, Ok, Err, is_some, map}
use Rattle.std.specs.List.{list_any}
use Rattle.std.specs.FinSet.{contains}
use Rattle.mig_base.specs.declared.command.Access.{Access}
use Rattle.mig_base.specs.declared.command.Access.TheVariants.{Answered, Missing, Protected}
use Rattle.mig_base.specs.declared.command.Command.{Command}
use Rattle.mig_base.specs.declared.effect.Effect.{Effect}
use Rattle.mig_base.specs.declared.refusal.Refusal.{Refusal}
use Rattle.mig_base.specs.declared.schedule.Step.{Step}
use Rattle.foundation.specs.Bits.{is_one}
use Rattle.mig_base.specs.Commands.{is_access, is_store, page_of}
use Rattle.mig_base.specs.Messages.{fault_flags}
use Rattle.foundation.specs.Ranges.{in_range}
use Rattle.foundation.specs.Tests.{is_empty}
use Rattle.mig_base.specs.Userfault.{Noted, message_read, next_of, waits_fault}
use Rattle.foundation.proofs.TestLemmas.{or_first, or_second}
use Rattle.mig_model.specs.Ioctls.{event_features}
use Rattle.mig_model.specs.Migration.{World, next, outcome}
use Rattle.mig_model.specs.Space.{Space, access_of, accessed, accessed_by}
use Rattle.mig_model.proofs.memory.SpaceLemmas.{IsSoundSpace-accessed}
use Rattle.mig_model.proofs.steps.StepLemmas.{next-refused}
use Rattle.uffd_log.specs.declared.call.Call.{Call}
use Rattle.uffd_log.specs.declared.call.Call.TheVariants as call
use Rattle.uffd_log.specs.declared.call.Message.{Message as LogMessage}
use Rattle.uffd_log.specs.declared.call.Message.TheVariants as log
use Rattle.uffd_log.specs.declared.call.Descriptor.{Descriptor}
use Rattle.uffd_log.specs.declared.line.Answer.TheVariants.{Done, Value}
use Rattle.kernel_rules.specs.declared.difference.Difference.TheVariants.{FaultTakenAway}
use Rattle.kernel_rules.specs.declared.fault.Fault.{Fault}
use Rattle.kernel_rules.specs.declared.object.Object.{Object}
use Rattle.kernel_rules.specs.declared.run.Made.{Made}
use Rattle.kernel_rules.specs.Faults.{fault_of, faults_over, is_seen, is_unread, sees, sleeps_in, woken}
use Rattle.kernel_rules.specs.MapCalls.{may_return, returned}
use Rattle.kernel_rules.specs.Runs as runs
use Rattle.kernel_rules.specs.Runs.{Event, IsStep, Leads, Outcome, begins, ends, effect_at_end, effect_of, begun_of, is_still, lines_of, line_of, object_of, on_object, takes, world_with}
use Rattle.kernel_rules.specs.State.{Kernel, allowed, of_object}
use Rattle.kernel_laws.specs.Agreement.{Agree, AreUntold, Counterparts, Takes, message_of, telling}
use Rattle.kernel_laws.specs.Handlers.{copies_page, zeroes_page}
use Rattle.kernel_laws.specs.Logs.{AreExpected, Ended, Node, Written, answered, calls_written, have_mremap, is_mremap, lines_of_call, lines_of_calls, read_call, under_way}
use Rattle.kernel_laws.specs.Reading.{is_of_reader, makes}
use Rattle.kernel_laws.proofs.Accesses.{makes-taken}
use Rattle.kernel_laws.proofs.FaultReads.{Keeps, fault-read, home_of, keeps-none, none-unread, requeued}
use Rattle.kernel_laws.proofs.OpenCalls.{AreBelow, HasCalls, Pending, apart, begun_calls, but-last, last-begun, none-begun, open_of, others-return, others-stay, seen, telling_of}
use Rattle.mig_base.specs.declared.command.Errno.{Errno}
use Rattle.foundation.specs.Tests.{first_holding, is_every}
use Rattle.mig_base.specs.Userfault.{changing}
use Rattle.mig_model.specs.Ioctls.{is_bad_range, writeprotect_error}
use Rattle.kernel_rules.specs.declared.calling.Protecting.{Protecting}
use Rattle.kernel_rules.specs.declared.difference.Difference.TheVariants.{WriteProtectOverAHole}
use Rattle.kernel_rules.specs.Ioctls.{kept_pages, pages_set, waked, with_protected, without_protected}
use Rattle.kernel_rules.specs.State.{each_page, noted_if}
use Rattle.kernel_laws.specs.Handlers.{protects_pages}
use Rattle.kernel_laws.proofs.Protects.{each-protected}

-- Runs

pub leads-append : (a b c : runs.World) (steps more : List runs.Step) → Leads a steps b → Leads b more c → Leads a (steps ++ more) c
leads-append a b c [] more first second = subst (λ w. Leads w more c) (sym first) second
leads-append a b c (step ∷ steps) more first second = (first.0, first.1, leads-append first.0 b c steps more first.2 second)

-- lines note no difference but those that are expected of them
abbrev pub Differs : List Event → Kernel → Kernel → Type 0
Differs lines before after = (moves : Bool) → (moves ≡ false → have_mremap lines ≡ false) → AreExpected moves before → AreExpected moves after

pub both-differ : (lines more : List Event) (one two three : Kernel) → Differs lines one two → Differs more two three → Differs (lines ++ more) one three
both-differ lines more one two three first second moves none before =
    let split = λ (m : moves ≡ false). sym (list_any-append is_mremap lines more) ∙ none m in
    second moves (λ m. or_second (have_mremap lines) (have_mremap more) (split m)) (first moves (λ m. or_first (have_mremap lines) (have_mremap more) (split m)) before)

-- a run of these lines leads from a kernel whose object agrees with the model's to one whose object agrees with this space, and from these map
-- calls under way to those
pub record Goes (before after : List Pending) (one : Counterparts) (lines : List Event) (space : Space) : Type 0 where
  pub steps : List runs.Step
  pub last : Counterparts
  pub whole : lines_of steps ≡ lines
  pub leads : Leads (under_way one.kernel (map open_of before)) steps (under_way last.kernel (map open_of after))
  pub leaves : last.space ≡ space
  pub name : last.name ≡ one.name
  pub home : last.object.space ≡ one.object.space
  pub told : HasCalls after last
  pub differs : Differs lines one.kernel last.kernel

-- nothing happens
pub stays : {calls : List Pending} (one : Counterparts) (space : Space) → one.space ≡ space → HasCalls calls one → Goes calls calls one [] space
stays one space same told = record { steps = []; last = one; whole = refl; leads = refl; leaves = same; name = refl; home = refl; told = told; differs = λ moves none h. h }

pub then-logged : {before mid after : List Pending} (one : Counterparts) (lines more : List Event) (space last : Space) → (first : Goes before mid one lines space) → Goes mid after first.last more last → Goes before after one (lines ++ more) last
then-logged {before = before} {mid = mid} {after = after} one lines more space last first second =
    record {
      steps = first.steps ++ second.steps;
      last = second.last;
      whole = filter_map-append line_of first.steps second.steps ∙ (λ i. first.whole i ++ second.whole i);
      leads = leads-append (under_way one.kernel (map open_of before)) (under_way first.last.kernel (map open_of mid)) (under_way second.last.kernel (map open_of after)) first.steps second.steps first.leads second.leads;
      leaves = second.leaves;
      name = second.name ∙ first.name;
      home = second.home ∙ first.home;
      told = second.told;
      differs = both-differ lines more one.kernel first.last.kernel second.last.kernel first.differs second.differs;
    }

-- A call that has returned

pub told-returned : (calls : List Pending) (kernel : Kernel) (key name : ℕ) → AreBelow key calls → telling kernel ≡ telling_of name calls → telling (returned kernel key) ≡ telling_of name calls
told-returned calls kernel key name below told = ap (λ k. telling (returned k key)) told ∙ others-stay name key calls (apart key calls below)

pub agree-returned : (calls : List Pending) (space : Space) (kernel : Kernel) (key name : ℕ) (object : Object) → AreBelow key calls → telling kernel ≡ telling_of name calls → Agree space kernel name object → Agree space (returned kernel key) name object
agree-returned calls space kernel key name object below told agree =
    record {
      sound = agree.sound;
      named = agree.named;
      features = agree.features;
      unread = agree.unread;
      pages = agree.pages;
      untold = subst (λ k. AreUntold name k space.object.events) (told ∙ sym (told-returned calls kernel key name below told)) agree.untold;
      alone = agree.alone;
      ranged = agree.ranged;
    }

-- the steps of a call in an address space: its lines, and its effect between them
abbrev pub steps_in : (home key : ℕ) → Ended → List runs.Step
steps_in home key ended =
    runs.Step.line (begins (record { key = key; space = home; thread = 0; program = 0; call = ended.call; last = false })) ∷ runs.Step.effect key ended.out
    ∷ runs.Step.line (ends key ended.out) ∷ []

abbrev pub call_steps : ℕ → Ended → List runs.Step
call_steps key ended = steps_in 0 key ended

pub takes-effect : (calls : List Pending) (kernel after : Kernel) (made : Made) (out : Outcome) → list_any (λ (one : Pending). eqb one.key made.key) calls ≡ false → takes kernel made out ≡ Some after →
    effect_of (record { kernel = kernel; begun = begun_calls calls ++ record { made = made; out = None; left = 0 } ∷ [] }) (begun_of (begun_calls calls ++ record { made = made; out = None; left = 0 } ∷ []) made.key) made.key out
    ≡ Some (record { kernel = after; begun = begun_calls calls ++ record { made = made; out = Some out; left = 0 } ∷ [] })
takes-effect calls kernel after made out none taken =
    let begun : runs.Begun = record { made = made; out = None; left = 0 } in
    let over : runs.Begun = record { made = made; out = Some out; left = 0 } in
    ap (λ o. effect_of (record { kernel = kernel; begun = begun_calls calls ++ begun ∷ [] }) o made.key out) (last-begun made.key calls begun refl none)
    ∙ (λ i. world_with (record { kernel = kernel; begun = but-last made.key calls begun refl none i ++ over ∷ [] }) (taken i))

-- its end, with those that have begun before
pub call-ends : (calls : List Pending) (after : Kernel) (made : Made) (out : Outcome) → list_any (λ (one : Pending). eqb one.key made.key) calls ≡ false → is_still out ≡ true → Some out ≡ effect_at_end out.answer out → may_return after made.key ≡ true →
    IsStep (record { kernel = after; begun = begun_calls calls ++ record { made = made; out = Some out; left = 0 } ∷ [] }) (runs.Step.line (ends made.key out)) (under_way (returned after made.key) (map open_of calls))
call-ends calls after made out none still is may =
    let over : runs.Begun = record { made = made; out = Some out; left = 0 } in
    (over, still, last-begun made.key calls over refl none, may, is, refl, ap (λ b. record { kernel = returned after made.key; begun = b }) (sym (but-last made.key calls over refl none)))

pub leads-in : (calls : List Pending) (kernel after : Kernel) (home key name : ℕ) (ended : Ended) → AreBelow key calls → takes kernel (record { key = key; space = home; thread = 0; program = 0; call = ended.call; last = false }) ended.out ≡ Some after → is_still ended.out ≡ true →
    Some ended.out ≡ effect_at_end ended.out.answer ended.out → may_return after key ≡ true → Leads (under_way kernel (map open_of calls)) (steps_in home key ended) (under_way (returned after key) (map open_of calls))
leads-in calls kernel after home key name ended below taken still out may =
    let made : Made = record { key = key; space = home; thread = 0; program = 0; call = ended.call; last = false } in
    let begun : runs.Begun = record { made = made; out = None; left = 0 } in
    let over : runs.Begun = record { made = made; out = Some ended.out; left = 0 } in
    let none = apart key calls below in (
      record { kernel = kernel; begun = begun_calls calls ++ begun ∷ [] },
      (none-begun key calls none, refl),
      (
        record { kernel = after; begun = begun_calls calls ++ over ∷ [] },
        takes-effect calls kernel after made ended.out none taken,
        (under_way (returned after key) (map open_of calls), call-ends calls after made ended.out none still out may, refl),
      ),
    )

pub call-leads : (calls : List Pending) (kernel after : Kernel) (key name : ℕ) (ended : Ended) → AreBelow key calls → takes kernel (record { key = key; space = 0; thread = 0; program = 0; call = ended.call; last = false }) ended.out ≡ Some after → is_still ended.out ≡ true →
    Some ended.out ≡ effect_at_end ended.out.answer ended.out → telling after ≡ telling_of name calls → Leads (under_way kernel (map open_of calls)) (call_steps key ended) (under_way (returned after key) (map open_of calls))
call-leads calls kernel after key name ended below taken still out told =
    leads-in calls kernel after 0 key name ended below taken still out (ap (λ k. may_return k key) told ∙ others-return name key calls (apart key calls below))

logged-call : {calls : List Pending} (one : Counterparts) (kernel after : Kernel) (key : ℕ) (ended : Ended) (object : Object) (space : Space) (before : List runs.Step) → AreBelow key calls → lines_of before ≡ [] →
    Leads (under_way one.kernel (map open_of calls)) before (under_way kernel (map open_of calls)) →
    takes kernel (record { key = key; space = 0; thread = 0; program = 0; call = ended.call; last = false }) ended.out ≡ Some after → is_still ended.out ≡ true → Some ended.out ≡ effect_at_end ended.out.answer ended.out → telling after ≡ telling_of one.name calls → object.space ≡ one.object.space →
    ((moves : Bool) → AreExpected moves one.kernel → AreExpected moves after) → Agree space after one.name object → Goes calls calls one (lines_of_call key ended) space
logged-call {calls = calls} one kernel after key ended object space before below none first taken still out told home differs agree =
    record {
      steps = before ++ call_steps key ended;
      last = record { space = space; kernel = returned after key; name = one.name; object = object; agree = agree-returned calls space after key one.name object below told agree };
      whole = filter_map-append line_of before (call_steps key ended) ∙ ap (λ l. l ++ lines_of (call_steps key ended)) none;
      leads = leads-append (under_way one.kernel (map open_of calls)) (under_way kernel (map open_of calls)) (under_way (returned after key) (map open_of calls)) before (call_steps key ended) first
          (call-leads calls kernel after key one.name ended below taken still out told);
      leaves = refl;
      name = refl;
      home = home;
      told = told-returned calls after key one.name below told;
      differs = λ moves none. differs moves;
    }

-- the object of a name has the address space that it had
pub same-home : (one : Counterparts) (after : Kernel) (object : Object) → Keeps one.kernel after → after.objects one.name ≡ Some object → object.space ≡ one.object.space
same-home one after object keeps named = same_Some object.space one.object.space (ap home_of (sym named) ∙ keeps.homes one.name one.object.space (ap home_of one.agree.named))

homes-by : (kernel : Kernel) (name other space : ℕ) (object new : Object) (b : Bool) → eqb name other ≡ b → kernel.objects name ≡ Some object → new.space ≡ object.space → home_of (kernel.objects other) ≡ Some space → home_of (cond b (Some new) (kernel.objects other)) ≡ Some space
homes-by kernel name other space object new true is named same h = ap (λ n. Some n) same ∙ ap home_of (sym named) ∙ ap (λ n. home_of (kernel.objects n)) (eqb-true name other is) ∙ h
homes-by kernel name other space object new false is named same h = h

-- an object of the same address space takes its place
pub homes-with : (one : Counterparts) (new : Object) → new.space ≡ one.object.space → (other space : ℕ) → home_of (one.kernel.objects other) ≡ Some space → home_of (cond (eqb one.name other) (Some new) (one.kernel.objects other)) ≡ Some space
homes-with one new same other space h = homes-by one.kernel one.name other space one.object new (eqb one.name other) refl one.agree.named same h

-- a call of the handler, by its number
abbrev handler_call : ℕ → Call → Made
handler_call key call = record { key = key; space = 0; thread = 0; program = 0; call = call; last = false }

-- a rule of one call that has taken it
pub logged-rule : {calls : List Pending} (one : Counterparts) (key : ℕ) (on : Descriptor) (ended : Ended) (rule : Option Kernel) (space : Space) → AreBelow key calls → on.object ≡ one.name → object_of ended.call ≡ Some on.object →
    on_object one.kernel (handler_call key ended.call) one.name one.object ended.out ended.call ≡ rule →
    is_still ended.out ≡ true → Some ended.out ≡ effect_at_end ended.out.answer ended.out → ((after : Kernel) → rule ≡ Some after → Keeps one.kernel after) → HasCalls calls one → Takes rule space one.name →
    Goes calls calls one (lines_of_call key ended) space
logged-rule one key on ended rule space below own called is still out keeps told takes_it =
    let kept = keeps takes_it.kernel takes_it.taken in
    logged-call one one.kernel takes_it.kernel key ended takes_it.object space [] below refl refl (taken-by one key on ended rule takes_it.kernel own called is takes_it.taken) still out (kept.told ∙ told)
    (same-home one takes_it.kernel takes_it.object kept takes_it.agree.named) kept.differs takes_it.agree
  where
    taken-by : (one : Counterparts) (key : ℕ) (on : Descriptor) (ended : Ended) (rule : Option Kernel) (after : Kernel) → on.object ≡ one.name → object_of ended.call ≡ Some on.object →
        on_object one.kernel (handler_call key ended.call) one.name one.object ended.out ended.call ≡ rule → rule ≡ Some after → takes one.kernel (record { key = key; space = 0; thread = 0; program = 0; call = ended.call; last = false }) ended.out ≡ Some after
    taken-by one key on ended rule after own called is taken =
        ap (λ (o : Option ℕ). runs.taken_by one.kernel (record { key = key; space = 0; thread = 0; program = 0; call = ended.call; last = false }) ended.out o) (called ∙ ap (λ n. Some n) own)
        ∙ ap (λ (o : Option Object). of_object o (λ object. on_object one.kernel (handler_call key ended.call) one.name object ended.out ended.call)) one.agree.named ∙ is ∙ taken

-- What calls have to tell stays

pub allowed-is : (b : Bool) (kernel after : Kernel) → allowed b kernel ≡ Some after → kernel ≡ after
allowed-is true kernel after is = same_Some kernel after is
allowed-is false kernel after is = absurd (none-some after is)

pub unless-none : (b : Bool) (rule : Option Kernel) (after : Kernel) → cond b None rule ≡ Some after → rule ≡ Some after
unless-none true rule after is = absurd (none-some after is)
unless-none false rule after is = is

asleep-unread : (object inside asleep unread : Bool) → ((object && inside && asleep) && unread) ≡ true → (object && unread) ≡ true
asleep-unread object inside asleep unread h = grind (arith, nat_tests)

woken-keeps : (kernel put : Kernel) (name first count : ℕ) (answered : Bool) → first_unread put.faults name ≡ None → Keeps kernel put → Keeps kernel (woken put (sleeps_in name first count) answered)
woken-keeps kernel put name first count answered none keeps =
    let test = λ (fault : Fault). sleeps_in name first count fault && is_unread fault.phase in
    keeps-none (list_any test put.faults) FaultTakenAway kernel (faults_over put (sleeps_in name first count) answered)
    (none-unread test name (λ fault h. asleep-unread (eqb fault.object name) (in_range first count fault.page) (not (is_seen fault.phase)) (is_unread fault.phase) h) put.faults none) (record { told = keeps.told; homes = keeps.homes; differs = keeps.differs })

put-keeps : (kernel put : Kernel) (name first count : ℕ) (b : Bool) → first_unread put.faults name ≡ None → Keeps kernel put → Keeps kernel (cond b put (woken put (sleeps_in name first count) true))
put-keeps kernel put name first count true none keeps = keeps
put-keeps kernel put name first count false none keeps = woken-keeps kernel put name first count true none keeps

zeroed-keeps : (one : Counterparts) (key addr : ℕ) (after : Kernel) → zeroes_page one key addr ≡ Some after → Keeps one.kernel after
zeroed-keeps one key addr after is =
    subst (Keeps one.kernel) (allowed-is _ _ after is) (put-keeps one.kernel _ one.name (addr / 4096) (4096 / 4096) (is_one 0 0) one.agree.unread.none_queued (record { told = refl; homes = homes-with one (record one.object { puts = true }) refl; differs = λ moves h. h }))

copied-keeps : (one : Counterparts) (key from addr : ℕ) (after : Kernel) → copies_page one key from addr ≡ Some after → Keeps one.kernel after
copied-keeps one key from addr after is =
    subst (Keeps one.kernel) (allowed-is _ _ after (unless-none _ _ after is))
    (put-keeps one.kernel _ one.name (addr / 4096) (4096 / 4096) (is_one 0 0) one.agree.unread.none_queued (record { told = refl; homes = homes-with one (record one.object { puts = true }) refl; differs = λ moves h. h }))

waked-keeps : (one : Counterparts) (addr len : ℕ) (after : Kernel) → waked one.kernel one.name one.object addr len Done ≡ Some after → Keeps one.kernel after
waked-keeps one addr len after is =
    subst (Keeps one.kernel) (allowed-is _ _ after is) (woken-keeps one.kernel one.kernel one.name (addr / 4096) (len / 4096) true one.agree.unread.none_queued (record { told = refl; homes = λ name space h. h; differs = λ moves h. h }))

-- UFFDIO_WRITEPROTECT: each page of the range is registered for it, and no page of it is protected before the others

-- the kernel once the pages of a range are protected but those that the call has protected before
abbrev kept_from : Kernel → Object → (key first count bits : ℕ) → List Protecting → Kernel
kept_from kernel object key first count bits begun = without_protected (pages_set (with_protected kernel object first count (is_one bits 0)) object.space (kept_pages kernel key object.space begun)) key

kept-keeps : (one : Counterparts) (key first count bits : ℕ) →
    Keeps one.kernel (kept_from one.kernel one.object key first count bits one.kernel.protected) × (first_unread (kept_from one.kernel one.object key first count bits one.kernel.protected).faults one.name ≡ None)
kept-keeps one key first count bits =
    subst (λ begun. Keeps one.kernel (kept_from one.kernel one.object key first count bits begun) × (first_unread (kept_from one.kernel one.object key first count bits begun).faults one.name ≡ None)) (sym one.agree.alone)
    (record { told = refl; homes = λ name space h. h; differs = λ moves h. h }, one.agree.unread.none_queued)

no-hole : (one : Counterparts) (first count : ℕ) (now : Kernel) → is_every (λ page. contains one.space.object.protect page) first count ≡ true →
    noted_if (not (each_page one.kernel one.object.space first count (λ page. page.protect))) WriteProtectOverAHole now ≡ now
no-hole one first count now every = ap (λ b. noted_if (not b) WriteProtectOverAHole now) (each-protected one.space one.kernel one.name one.object first count one.agree every)

wakes-keeps : (kernel put : Kernel) (name first count : ℕ) (b : Bool) → first_unread put.faults name ≡ None → Keeps kernel put → Keeps kernel (cond b (woken put (sleeps_in name first count) true) put)
wakes-keeps kernel put name first count true none keeps = woken-keeps kernel put name first count true none keeps
wakes-keeps kernel put name first count false none keeps = keeps

is-each : (a b c d e : Bool) (v w x y z : Errno) → first_holding ((a, v) ∷ (b, w) ∷ (c, x) ∷ (d, y) ∷ (not e, z) ∷ []) ≡ None → e ≡ true
is-each a b c d e v w x y z is = grind (arith, nat_tests)

protects-each : (space : Space) (addr len bits : ℕ) → writeprotect_error space addr len bits ≡ None → is_every (λ page. contains space.object.protect page) (addr / 4096) (len / 4096) ≡ true
protects-each space addr len bits is =
    is-each (not space.object.enabled) (ltb 2 bits) (is_bad_range addr len) (ltb 0 (changing space.object)) (is_every (λ page. contains space.object.protect page) (addr / 4096) (len / 4096)) Errno.Einval Errno.Einval Errno.Einval Errno.Eagain Errno.Enoent is

protected-keeps : (one : Counterparts) (key addr len bits : ℕ) (after : Kernel) → writeprotect_error one.space addr len bits ≡ None → protects_pages one key addr len bits ≡ Some after → Keeps one.kernel after
protected-keeps one key addr len bits after error is =
    let first = addr / 4096 in
    let count = len / 4096 in
    let kept = kept_from one.kernel one.object key first count bits one.kernel.protected in
    let both = kept-keeps one key first count bits in
    subst (Keeps one.kernel) (allowed-is _ _ after is)
    (subst (λ put. Keeps one.kernel (cond (eqb bits 0) (woken put (sleeps_in one.name first count) true) put)) (sym (no-hole one first count kept (protects-each one.space addr len bits error)))
    (wakes-keeps one.kernel kept one.name first count (eqb bits 0) both.1 both.0))

-- Threads

-- a number that no thread has, from 2^31 on: one that the log does not name
fresh_thread : List Fault → ℕ
fresh_thread [] = 2 ^ 31
fresh_thread (fault ∷ faults) = fault.thread + 1 + fresh_thread faults

above : (thread first rest : ℕ) → first + 1 + rest ≤ thread → (eqb first thread ≡ false) × (rest ≤ thread)
above thread first rest h = (grind (arith, nat_tests, h), omega (arith, h))

idle-from : (faults : List Fault) (thread : ℕ) → fresh_thread faults ≤ thread → fault_of faults thread ≡ None
unfolding fresh_thread
idle-from [] thread h = refl
idle-from (fault ∷ faults) thread h =
    let both = above thread fault.thread (fresh_thread faults) h in
    ap (λ b. cond b (Some fault) (fault_of faults thread)) both.0 ∙ idle-from faults thread both.1

idle : (faults : List Fault) → is_some (fault_of faults (fresh_thread faults)) ≡ false
idle faults = ap is_some (idle-from faults (fresh_thread faults) (omega (arith)))

-- An access

seen-keeps : (found : Option Object) (test : Object → Bool) (now : Object → Kernel) (kernel after : Kernel) → ((object : Object) → Keeps kernel (now object)) → of_object found (λ object. allowed (test object) (now object)) ≡ Some after →
    Keeps kernel after
seen-keeps None test now kernel after keeps is = absurd (none-some after is)
seen-keeps (Some object) test now kernel after keeps is = subst (Keeps kernel) (allowed-is _ _ after is) (keeps object)

logged-seen : {calls : List Pending} (one : Counterparts) (thread page flags : ℕ) (b : Bool) (space : Space) → HasCalls calls one → Takes (cond b (Some one.kernel) (sees one.kernel thread one.name page flags)) space one.name → Goes calls calls one [] space
logged-seen {calls = calls} one thread page flags true space told it =
    record {
      steps = [];
      last = record { space = space; kernel = it.kernel; name = one.name; object = it.object; agree = it.agree };
      whole = refl;
      leads = ap (λ k. under_way k (map open_of calls)) (same_Some one.kernel it.kernel it.taken);
      leaves = refl;
      name = refl;
      home = same-home one one.kernel it.object (record { told = refl; homes = λ name space h. h; differs = λ moves h. h }) (ap (λ (k : Kernel). k.objects one.name) (same_Some one.kernel it.kernel it.taken) ∙ it.agree.named);
      told = ap telling (sym (same_Some one.kernel it.kernel it.taken)) ∙ told;
      differs = λ moves none. subst (AreExpected moves) (same_Some one.kernel it.kernel it.taken);
    }
logged-seen {calls = calls} one thread page flags false space told it =
    let kept = seen-keeps (one.kernel.objects one.name) _ _ one.kernel it.kernel (λ object. record { told = refl; homes = λ name space h. h; differs = λ moves h. h }) it.taken in
    record {
      steps = runs.Step.thread_sees thread one.name page flags ∷ [];
      last = record { space = space; kernel = it.kernel; name = one.name; object = it.object; agree = it.agree };
      whole = refl;
      leads = (under_way it.kernel (map open_of calls), ap (λ o. world_with (under_way one.kernel (map open_of calls)) o) it.taken, refl);
      leaves = refl;
      name = refl;
      home = same-home one it.kernel it.object kept it.agree.named;
      told = kept.told ∙ told;
      differs = λ moves none. kept.differs moves;
    }

logged-made : {calls : List Pending} (one : Counterparts) (cpu thread : ℕ) (command : Command) (access : Access) → HasCalls calls one → Takes (makes access one thread command) (accessed_by access one.space cpu command) one.name →
    Goes calls calls one [] (accessed_by access one.space cpu command)
logged-made one cpu thread command (Answered reply) told it = logged-seen one thread 0 0 true (accessed_by (Answered reply) one.space cpu command) told it
logged-made one cpu thread command Missing told it =
    logged-seen one thread (page_of command) (fault_flags (is_store command) false) (waits_fault one.space.object.faults (4096 * page_of command) false) (accessed_by Missing one.space cpu command) told it
logged-made one cpu thread command Protected told it =
    logged-seen one thread (page_of command) (fault_flags true true) (waits_fault one.space.object.faults (4096 * page_of command) true) (accessed_by Protected one.space cpu command) told it

pub no_thread_ids : is_one event_features 8 ≡ false
unfolding is_one
no_thread_ids = refl

-- What a destination that runs has

-- the object asked for no thread numbers, and its pages are registered for missing faults if for any
pub accessed-logged : {calls : List Pending} (one : Counterparts) (cpu : ℕ) (command : Command) → is_access command ≡ true → HasCalls calls one → one.space.object.enabled ≡ true → is_one one.space.object.features 8 ≡ false →
    (contains one.space.object.protect (page_of command) ≡ true → contains one.space.object.missing (page_of command) ≡ true) → Goes calls calls one [] (accessed one.space cpu command)
accessed-logged one cpu command access told enabled unnamed watched =
    let thread = fresh_thread one.kernel.faults in
    logged-made one cpu thread command (access_of one.space command) told
    (makes-taken one cpu thread command (access_of one.space command) access enabled (idle one.kernel.faults) (λ ids. absurd (false≢true (sym unnamed ∙ ids))) watched
    (IsSoundSpace-accessed one.space cpu command access one.agree.sound) refl)

-- A step of a handler

-- the calls of a step of a handler, by its outcome
abbrev pub made-calls : (Effect → List Ended) → Result Effect Refusal → List Ended
made-calls calls (Ok effect) = calls effect
made-calls calls (Err refusal) = []

pub by-result : {pending : List Pending} (node : Node) (world : World) (step : Step) (one : Counterparts) (calls : Effect → List Ended) (key : ℕ) (result : Result Effect Refusal) → one.space ≡ node.space world → HasCalls pending one → outcome world step ≡ result →
    ((effect : Effect) → outcome world step ≡ Ok effect → Goes pending pending one (lines_of_calls key (calls effect)) (node.space (next world step))) →
    Goes pending pending one (lines_of_calls key (made-calls calls result)) (node.space (next world step))
by-result node world step one calls key (Ok effect) same told is made = made effect is
by-result node world step one calls key (Err refusal) same told is made = stays one (node.space (next world step)) (same ∙ sym (ap node.space (next-refused world step refusal is))) told

-- read(2) of a page fault

no-events : (events : List Noted) → map (λ (noted : Noted). message_of noted.message) events ≡ [] → events ≡ []
no-events [] is = refl
no-events (noted ∷ events) is = absurd (false≢true (ap is_empty is))

pub quiet-events : (one : Counterparts) → HasCalls [] one → one.space.object.events ≡ []
quiet-events one quiet = no-events one.space.object.events (sym (subst (λ k. AreUntold one.name k one.space.object.events) quiet one.agree.untold).same)

pub first-fault : (faults events : List Noted) (noted : Noted) → events ≡ [] → next_of faults events ≡ Some noted → (rest : List Noted) × (faults ≡ noted ∷ rest)
first-fault [] events noted none is = absurd (none-some noted (sym (ap (next_of []) none) ∙ is))
first-fault (fault ∷ faults) events noted none is = (faults, ap (λ n. n ∷ faults) (same_Some fault noted is))

read-space : (space : Space) (noted : Noted) (rest : List Noted) → space.object.faults ≡ noted ∷ rest → record space { object = message_read space.object } ≡ requeued space rest space.object.events
read-space space noted rest faults = rw faults refl

unread-by-none : (message : LogMessage) → is_of_reader None message ≡ false
unread-by-none (log.Fault addr flags thread) = refl
unread-by-none (log.Fork child) = refl
unread-by-none (log.Remap from to len) = refl
unread-by-none (log.Remove start end) = refl
unread-by-none (log.Unmap start end) = refl

pub read-logged : {calls : List Pending} (one : Counterparts) (key : ℕ) (on : Descriptor) (noted : Noted) (rest : List Noted) → AreBelow key calls → on.object ≡ one.name → HasCalls calls one → one.space.object.enabled ≡ true → one.space.object.faults ≡ noted ∷ rest →
    Goes calls calls one (lines_of_call key (read_call on noted.message)) (record one.space { object = message_read one.space.object })
unfolding on_object
read-logged {calls = calls} one key on noted rest below own told enabled first =
    let space = one.space in
    let took = fault-read space one.kernel key None one.name one.object None noted rest one.agree enabled first refl (unread-by-none (message_of noted.message)) in
    let ended = read_call on noted.message in
    subst (Goes calls calls one (lines_of_call key ended)) (sym (read-space space noted rest first))
    (logged-call one took.now took.new key ended one.object (requeued space rest space.object.events) (runs.Step.thread_queues took.thread ∷ []) below refl
    (under_way took.now (map open_of calls), ap (λ o. world_with (under_way one.kernel (map open_of calls)) o) took.queued, refl)
    (ap (λ n. of_object (took.now.objects n) (λ object. on_object took.now (handler_call key ended.call) n object ended.out ended.call)) own ∙ ap (λ o. of_object o (λ object. on_object took.now (handler_call key ended.call) one.name object ended.out ended.call)) took.named ∙ took.taken)
    refl refl (took.keeps.told ∙ told) refl took.keeps.differs took.agree)

-- One call that has done its work

pub zeropage-logged : {calls : List Pending} (one : Counterparts) (key : ℕ) (on : Descriptor) (addr : ℕ) (space : Space) → AreBelow key calls → on.object ≡ one.name → HasCalls calls one → Takes (zeroes_page one key addr) space one.name →
    Goes calls calls one (lines_of_calls key (answered (call.ZeroPage on addr 4096 0) (Value 4096) ∷ [])) space
unfolding on_object
zeropage-logged one key on addr space below own told it =
    logged-rule one key on (answered (call.ZeroPage on addr 4096 0) (Value 4096)) (zeroes_page one key addr) space below own refl refl refl refl (zeroed-keeps one key addr) told it

pub wake-logged : {calls : List Pending} (one : Counterparts) (key : ℕ) (on : Descriptor) (addr len : ℕ) (space : Space) → AreBelow key calls → on.object ≡ one.name → HasCalls calls one → Takes (waked one.kernel one.name one.object addr len Done) space one.name →
    Goes calls calls one (lines_of_calls key (answered (call.Wake on addr len) Done ∷ [])) space
unfolding on_object
wake-logged one key on addr len space below own told it =
    logged-rule one key on (answered (call.Wake on addr len) Done) (waked one.kernel one.name one.object addr len Done) space below own refl refl refl refl (waked-keeps one addr len) told it

pub copy-logged : {calls : List Pending} (one : Counterparts) (key from : ℕ) (on : Descriptor) (addr : ℕ) (space : Space) → AreBelow key calls → on.object ≡ one.name → HasCalls calls one → Takes (copies_page one key from addr) space one.name →
    Goes calls calls one (lines_of_calls key (answered (call.Copy on addr from 4096 0) (Value 4096) ∷ [])) space
unfolding on_object
copy-logged one key from on addr space below own told it =
    logged-rule one key on (answered (call.Copy on addr from 4096 0) (Value 4096)) (copies_page one key from addr) space below own refl refl refl refl (copied-keeps one key from addr) told it

pub protect-logged : {calls : List Pending} (one : Counterparts) (key : ℕ) (on : Descriptor) (addr len bits : ℕ) (space : Space) → AreBelow key calls → on.object ≡ one.name → HasCalls calls one → writeprotect_error one.space addr len bits ≡ None →
    Takes (protects_pages one key addr len bits) space one.name → Goes calls calls one (lines_of_calls key (answered (call.WriteProtect on addr len bits) Done ∷ [])) space
unfolding on_object
protect-logged one key on addr len bits space below own told error it =
    logged-rule one key on (answered (call.WriteProtect on addr len bits) Done) (protects_pages one key addr len bits) space below own refl refl refl refl (λ after. protected-keeps one key addr len bits after error) told it

-- Every list of steps of a node

-- a test of worlds holds of each world on the way
abbrev pub AreAll : (World → Type 0) → World → List Step → Type 0
AreAll holds world [] = holds world
AreAll holds world (step ∷ steps) = holds world × AreAll holds (next world step) steps

pub first-of : (holds : World → Type 0) (world : World) (steps : List Step) → AreAll holds world steps → holds world
first-of holds world [] all = all
first-of holds world (step ∷ steps) all = all.0

-- the events of the model are those that it has unread of the calls under way
pub seen-quiet : (one : Counterparts) → HasCalls [] one → seen [] one.space ≡ one.space
seen-quiet one quiet = λ i. record one.space { object = record one.space.object { events = sym (quiet-events one quiet) i } }

-- a part of a log has such a run, after which these map calls are under way, of numbers below the next
pub record Writes (before : List Pending) (one : Counterparts) (log : Written) (space : Space) : Type 0 where
  pub after : List Pending
  pub middle : Space
  pub goes : Goes before after one log.lines middle
  pub same : seen after middle ≡ space
  pub begun : log.begun ≡ map open_of after
  pub below : AreBelow log.key after

-- calls of a handler do, while none is under way
abbrev pub writes-calls : (one : Counterparts) (key : ℕ) (calls : List Ended) (space : Space) → Goes [] [] one (lines_of_calls key calls) space → Writes [] one (calls_written key [] calls) space
writes-calls one key calls space goes =
    record { after = []; middle = space; goes = goes; same = subst (λ s. seen [] s ≡ s) goes.leaves (seen-quiet goes.last goes.told); begun = refl; below = tt }
