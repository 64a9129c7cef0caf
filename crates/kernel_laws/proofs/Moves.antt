-- From one state to the next, by what a step of a node writes.
use Rattle.std.proofs.lemmas.Bool.Decides.{nat_tests}
use Rattle.std.proofs.lemmas.Bool.{eqb-true, false≢true, not-true, or_from}
use Rattle.std.proofs.lemmas.List.Folds.{list_any-append}
use Rattle.std.proofs.lemmas.List.{append-nil, append_assoc}
use Rattle.std.proofs.lemmas.Option.{none-some, same_Some}
use Rattle.std.proofs.Common.{◌≡◌, ℕ, ◌<◌, ◌≤◌, ◌+◌, ◌-◌, ◌*◌, ◌/◌, ◌&&◌, ◌||◌, Bool, true, false, not, cond, eqb, ltb, Option, Some, None, List, [], ◌∷◌, ◌++◌, length, map, arith, refl, sym, ap, subst, ◌∙◌}
use Rattle.std.specs.Prelude.{Result, Ok, Err}
use Rattle.std.specs.List.{list_any}
use Rattle.std.specs.FinSet.{contains}
use Rattle.mig_base.specs.declared.command.Access.{Access}
use Rattle.mig_base.specs.declared.command.Access.TheVariants.{Answered, Missing, Protected}
use Rattle.mig_base.specs.declared.command.Command.{Command}
use Rattle.mig_base.specs.declared.message.Message.{Message}
use Rattle.mig_base.specs.declared.effect.Effect.{Effect}
use Rattle.mig_base.specs.declared.refusal.Refusal.{Refusal}
use Rattle.mig_base.specs.declared.schedule.Step.{Step}
use Rattle.foundation.specs.Bits.{is_one}
use Rattle.mig_base.specs.Commands.{is_access, page_of, is_store}
use Rattle.foundation.specs.Ranges.{in_range, pages_of}
use Rattle.foundation.specs.Tests.{is_empty}
use Rattle.mig_base.specs.Userfault.{Noted, Object, changing, event_queued, is_registered, is_watched, message_read, next_message, next_of, read_by, rest_noted, waits_fault, thread_id}
use Rattle.mig_model.specs.Ioctls.{has_events}
use Rattle.mig_model.specs.Migration.{World, next, outcome}
use Rattle.mig_model.proofs.steps.StepLemmas.{next-refused}
use Rattle.mig_model.specs.Space.{IsSoundSpace, Space, access_of, accessed, accessed_by, called, queued_by, call_messages}
use Rattle.mig_base.specs.Flat.{reply_of}
use Rattle.mig_model.specs.Bounds.{IsMapping}
use Rattle.mig_model.specs.Host.{memory}
use Rattle.uffd_log.specs.declared.call.Call.{Call}
use Rattle.uffd_log.specs.declared.call.Descriptor.{Descriptor}
use Rattle.kernel_laws.specs.Maps.{answer_of_reply, told_by}
use Rattle.kernel_laws.proofs.QuietCalls.{quiet-writes}
use Rattle.kernel_laws.proofs.Unmaps.{is-watched, some-below}
use Rattle.kernel_rules.specs.Runs as runs
use Rattle.kernel_rules.specs.Runs.{Event, Leads, begins, ends}
use Rattle.kernel_laws.specs.Agreement.{Counterparts}
use Rattle.kernel_laws.specs.Logs.{Ended, Open, Written, calls_written, ends_of, event_written, is_followed, issue_written, keeps_off, keeps_off_all, lines_of_calls, map_call, map_written, read_call, read_written, under_way, wake_range, is_last, is_remap, message_written, noted_by as noted_as, one_less, read_calls, told_now, unread_of, wakes_first, with_unread}
use Rattle.kernel_laws.proofs.Apart.{accessed-apart, called-apart, quiet-kept, same-queued, same-reply, same-messages}
use Rattle.kernel_laws.proofs.Beside.{begins_call, has_key, leads-beside, world_of}
use Rattle.kernel_laws.proofs.DiscardRuns.{Discard, dropped_by, noted_by, pending_for, remove-read, then-from, waiting}
use Rattle.kernel_laws.proofs.LogRuns.{Goes, Writes, accessed-logged, quiet-events, stays, Differs, seen-quiet}
use Rattle.kernel_laws.proofs.MapRuns.{IsFault, is-fault, message-logged, range-woken, MayCall}
use Rattle.kernel_laws.proofs.OpenCalls.{AreBelow, HasCalls, Pending, apart, begun_calls, none-begun, open_of, still-below, ArePaired, seen}
use Rattle.kernel_laws.proofs.States.{Free, Held, Next, any-begun, held, free}
use Rattle.uffd_log.specs.declared.line.Answer.{Answer}
use Rattle.kernel_laws.proofs.Tellings.{Telling}
use Rattle.foundation.proofs.TestLemmas.{and_first, and_second}

-- a step other than a command
abbrev pub IsOther : Step → Type 0
IsOther (Step.Issue cpu command) = ⊥
IsOther step = Unit {0}

-- No MADV_DONTNEED is under way

pub wrote-next : {name home key : ℕ} {space : Space} {calls : List Pending} {one : Counterparts} (written : Written) (new : Space) → Free name home key space calls one → Writes calls one written new → Next name home (under_way one.kernel (map open_of calls)) one written new
wrote-next written new at writes =
    let goes = writes.goes in
    record {
      state = free writes.after goes.last (record { same = ap (seen writes.after) goes.leaves ∙ writes.same; told = goes.told; below = writes.below; own = at.own ∙ sym goes.name; there = at.there ∙ sym goes.home });
      begun = writes.begun;
      steps = goes.steps;
      whole = goes.whole;
      leads = goes.leads;
      differs = goes.differs;
    }

-- one begins
pub begins-next : {name home key : ℕ} {space : Space} {calls : List Pending} {one : Counterparts} (it : Discard) → Free name home key space calls one → it.key ≡ key → it.home ≡ home → is_watched one.space.object (it.addr / 4096) (pages_of it.len) ≡ true →
    one.space.object.enabled ≡ true → has_events one.space.object ≡ true →
    Next name home (under_way one.kernel (map open_of calls)) one (record { lines = begins (open_of (pending_for it)).made ∷ []; key = key + 1; begun = map open_of calls ++ open_of (pending_for it) ∷ [] }) (dropped_by it space)
begins-next {name = name} {home = home} {key = key} {calls = calls} {one = one} it at is its watched enabled asked =
    let none = ap (λ n. list_any (λ (p : Pending). eqb p.key n) calls) is ∙ apart key calls at.below in
    record {
      state = held it calls one
          (record {
            before = begun_calls calls;
            later = [];
            is = sym (append-nil (begun_calls calls));
            none = ap (list_any (has_key it.key)) (append-nil (begun_calls calls)) ∙ sym (any-begun it.key calls) ∙ none;
            same = ap (dropped_by it) at.same;
            told = at.told;
            below = still-below key (key + 1) calls (omega (arith)) at.below;
            low = next it.key key is;
            own = at.own;
            there = at.there;
            its = its;
            watched = watched;
            enabled = enabled;
            asked = asked;
          });
      begun = refl;
      steps = runs.Step.line (begins (open_of (pending_for it)).made) ∷ [];
      whole = refl;
      leads = (world_of one.kernel (begun_calls calls ++ waiting it ∷ []), (none-begun it.key calls none, refl), refl);
      differs = λ moves none h. h;
    }
  where
    next : (a b : ℕ) → a ≡ b → a < b + 1
    next a b h = omega (arith, h)

-- One is under way

-- what a step of a node writes then, and does to its space
pub data Kept (on : Descriptor) (home key : ℕ) (begun : List Open) (written : Written) (old new : Space) : Type 0 where
  idle : written ≡ calls_written key begun [] → old ≡ new → Kept on home key begun written old new
  reads : (noted : Noted) → next_message old.object ≡ Some noted → written ≡ read_written on key begun (Some noted) → new ≡ record old { object = message_read old.object } → Kept on home key begun written old new
  tries : (cpu : ℕ) (command : Command) → is_access command ≡ true → keeps_off_all old command begun ≡ true → written ≡ calls_written key begun [] → new ≡ accessed old cpu command → is_one old.object.features 8 ≡ false →
      (contains old.object.protect (page_of command) ≡ true → contains old.object.missing (page_of command) ≡ true) → Kept on home key begun written old new
  makes : (cpu : ℕ) (command : Command) → is_access command ≡ false → is_followed command ≡ true → keeps_off_all old command begun ≡ true → written ≡ issue_written home key begun old cpu command (map_call command) → new ≡ called old cpu command →
      IsMapping old.host.areas → Kept on home key begun written old new

-- by the outcome: a refused step does nothing
pub kept-by : {on : Descriptor} {home key : ℕ} {begun : List Open} (space : World → Space) (world : World) (step : Step) (written : Result Effect Refusal → Written) (result : Result Effect Refusal) → ((refusal : Refusal) → written (Err refusal) ≡ calls_written key begun []) →
    outcome world step ≡ result → ((effect : Effect) → outcome world step ≡ Ok effect → Kept on home key begun (written (Ok effect)) (space world) (space (next world step))) → Kept on home key begun (written result) (space world) (space (next world step))
kept-by space world step written (Ok effect) none is made = made effect is
kept-by space world step written (Err refusal) none is made = idle (none refusal) (sym (ap space (next-refused world step refusal is)))

-- the object, whose messages alone may change
abbrev Alike : Object → Object → Type 0
Alike new old = new ≡ record old { faults = new.faults; events = new.events }

-- what the call needs of the object
record StaysHeld (it : Discard) (object : Object) : Type 0 where
  watched : is_watched object (it.addr / 4096) (pages_of it.len) ≡ true
  enabled : object.enabled ≡ true
  asked : has_events object ≡ true

alike-held : {name home key : ℕ} {space : Space} {calls : List Pending} {one : Counterparts} {it : Discard} → Held name home key space it calls one → (new : Object) → Alike new one.space.object → StaysHeld it new
alike-held {it = it} at new same =
    record { watched = ap (λ (o : Object). is_watched o (it.addr / 4096) (pages_of it.len)) same ∙ at.watched; enabled = ap (λ (o : Object). o.enabled) same ∙ at.enabled; asked = ap has_events same ∙ at.asked }

-- a part of a run beside the call
beside-next : {name home key : ℕ} {space : Space} {calls : List Pending} {one : Counterparts} {it : Discard} (written : Written) (new middle : Space) (after : List Pending) (lines : List Event) → (at : Held name home key space it calls one) → (goes : Goes calls after one lines middle) →
    list_any (begins_call it.key) lines ≡ false → StaysHeld it middle.object → dropped_by it (seen after middle) ≡ new → AreBelow written.key after → key ≤ written.key → written.lines ≡ lines → written.begun ≡ map open_of after ++ open_of (pending_for it) ∷ [] →
    Next name home (world_of one.kernel (at.before ++ waiting it ∷ at.later)) one written new
beside-next {one = one} {it = it} written new middle after lines at goes apart_lines kept same below less lines_are begun_is =
    let last = goes.last in
    let beside =
    leads-beside (waiting it) one.kernel at.before at.later goes.steps (under_way last.kernel (map open_of after)) at.none (ap (list_any (begins_call it.key)) goes.whole ∙ apart_lines)
    (subst (λ b. Leads (world_of one.kernel b) goes.steps (under_way last.kernel (map open_of after))) at.is goes.leads) in
    let stays : StaysHeld it last.space.object = subst (λ (s : Space). StaysHeld it s.object) (sym goes.leaves) kept in
    record {
      state = held it after last
          (record {
            before = beside.before;
            later = beside.later;
            is = beside.is;
            none = beside.none;
            same = ap (λ s. dropped_by it (seen after s)) goes.leaves ∙ same;
            told = goes.told;
            below = below;
            low = lower it.key _ _ at.low less;
            own = at.own ∙ sym goes.name;
            there = at.there ∙ sym goes.home;
            its = at.its;
            watched = stays.watched;
            enabled = stays.enabled;
            asked = stays.asked;
          });
      begun = begun_is;
      steps = goes.steps;
      whole = goes.whole ∙ sym lines_are;
      leads = beside.leads;
      differs = subst (λ l. Differs l one.kernel last.kernel) (sym lines_are) goes.differs;
    }
  where
    lower : (a b c : ℕ) → a < b → b ≤ c → a < c
    lower a b c h k = omega (arith, h, k)

-- a number below those of the lines
calls-apart : (low key : ℕ) (calls : List Ended) → low < key → list_any (begins_call low) (lines_of_calls key calls) ≡ false
calls-apart low key [] less = refl
calls-apart low key (ended ∷ calls) less = λ i. above low key less i || calls-apart low (key + 1) calls (later low key less) i where
  above : (low key : ℕ) → low < key → eqb key low ≡ false
  above low key h = grind (arith, nat_tests, h)

  later : (low key : ℕ) → low < key → low < key + 1
  later low key h = omega (arith, h)

-- what an event writes
event-apart : (on : Descriptor) (low key : ℕ) (begun : List Open) → low < key → list_any (begins_call low) (event_written on key begun).lines ≡ false
event-apart on low key [] less = refl
event-apart on low key (one ∷ begun) less =
    let reads = lines_of_calls key (read_calls on (told_now one)) in
    let after = key + length (told_now one) in
    let wakes = lines_of_calls after (wakes_first on (told_now one)) in
    let test = begins_call low in
    list_any-append test (reads ++ ends_of one) wakes
    ∙ or_from (list_any test (reads ++ ends_of one)) (list_any test wakes)
    (list_any-append test reads (ends_of one) ∙ or_from (list_any test reads) (list_any test (ends_of one)) (calls-apart low key (read_calls on (told_now one)) less) (no-begin (is_last one.unread)))
    (calls-apart low after (wakes_first on (told_now one)) (later low key (length (told_now one)) less))
  where
    later : (low key n : ℕ) → low < key → low < key + n
    later low key n h = omega (arith, h)

    no-begin : (b : Bool) → list_any (begins_call low) (cond b (ends one.made.key one.out ∷ []) []) ≡ false
    no-begin true = refl
    no-begin false = refl

read-apart : (on : Descriptor) (low key : ℕ) (begun : List Open) (noted : Noted) → low < key → list_any (begins_call low) (read_written on key begun (Some noted)).lines ≡ false
read-apart on low key begun noted less = by noted.message where
  by : (message : Message) → list_any (begins_call low) (message_written on key begun message).lines ≡ false
  by (Message.PageFault addr write wp tid) = calls-apart low key (read_call on (Message.PageFault addr write wp tid) ∷ []) less
  by (Message.Remap from to len) = event-apart on low key begun less
  by (Message.Remove start end) = event-apart on low key begun less
  by (Message.Unmap start end) = event-apart on low key begun less

event-grows : (on : Descriptor) (key : ℕ) (begun : List Open) → key ≤ (event_written on key begun).key
event-grows on key [] = omega (arith)
event-grows on key (one ∷ begun) = omega (arith)

read-grows : (on : Descriptor) (key : ℕ) (begun : List Open) (noted : Noted) → key ≤ (read_written on key begun (Some noted)).key
read-grows on key begun noted = by noted.message where
  by : (message : Message) → key ≤ (message_written on key begun message).key
  by (Message.PageFault addr write wp tid) = omega (arith)
  by (Message.Remap from to len) = event-grows on key begun
  by (Message.Remove start end) = event-grows on key begun
  by (Message.Unmap start end) = event-grows on key begun

-- the same message beside the call
abbrev read_beside : Descriptor → (key : ℕ) → List Pending → Open → Noted → Written
read_beside on key calls extra noted = read_written on key (map open_of calls ++ extra ∷ []) (Some noted)

abbrev with_extra : Written → Open → Written
with_extra written extra = record written { begun = written.begun ++ extra ∷ [] }

event-beside : (on : Descriptor) (key : ℕ) (one : Pending) (calls : List Pending) (extra : Open) → event_written on key (map open_of (one ∷ calls) ++ extra ∷ []) ≡ with_extra (event_written on key (map open_of (one ∷ calls))) extra
event-beside on key one calls extra = λ i. record (event_written on key (map open_of (one ∷ calls))) { begun = sym (append_assoc (one_less (open_of one)) (map open_of calls) (extra ∷ [])) i }

lines-beside : (on : Descriptor) (key : ℕ) (calls : List Pending) (extra : Open) (noted : Noted) → (calls ≡ [] → IsFault noted.message) → read_beside on key calls extra noted ≡ with_extra (read_written on key (map open_of calls) (Some noted)) extra
lines-beside on key calls extra noted fault = by calls noted.message fault where
  by : (calls : List Pending) (message : Message) → (calls ≡ [] → IsFault message) → message_written on key (map open_of calls ++ extra ∷ []) message ≡ with_extra (message_written on key (map open_of calls) message) extra
  by calls (Message.PageFault addr write wp tid) fault = refl
  by [] (Message.Remap from to len) fault = absurd (fault refl)
  by [] (Message.Remove start end) fault = absurd (fault refl)
  by [] (Message.Unmap start end) fault = absurd (fault refl)
  by (one ∷ calls) (Message.Remap from to len) fault = event-beside on key one calls extra
  by (one ∷ calls) (Message.Remove start end) fault = event-beside on key one calls extra
  by (one ∷ calls) (Message.Unmap start end) fault = event-beside on key one calls extra

-- What reads and accesses leave of the object

read-alike : (object : Object) → Alike (message_read object) object
read-alike object = by object.faults where
  by : (faults : List Noted) → Alike (read_by faults object) object
  by [] = refl
  by (fault ∷ faults) = refl

accessed-alike : (space : Space) (cpu : ℕ) (command : Command) → Alike (accessed space cpu command).object space.object
accessed-alike space cpu command = by (access_of space command) where
  queued : (b : Bool) (more : Object) → Alike more space.object → Alike (cond b space.object more) space.object
  queued true more same = refl
  queued false more same = same

  by : (access : Access) → Alike (accessed_by access space cpu command).object space.object
  by (Answered reply) = refl
  by Missing = queued (waits_fault space.object.faults (4096 * page_of command) false) _ refl
  by Protected = queued (waits_fault space.object.faults (4096 * page_of command) true) _ refl

-- a message that is read beside a later event
read-beside : (object : Object) (message : Message) (cpu : ℕ) (noted : Noted) (faults events : List Noted) → object.faults ≡ faults → object.events ≡ events → next_of faults events ≡ Some noted →
    message_read (event_queued object message cpu) ≡ event_queued (message_read object) message cpu
read-beside object message cpu noted [] [] none nothing next = absurd (none-some noted next)
read-beside object message cpu noted [] (event ∷ events) none is next =
    ap (λ l. read_by l (event_queued object message cpu)) none
    ∙ (λ i. record object { events = rest_noted (is i ++ record { message = message; cpu = cpu } ∷ []) })
    ∙ (λ i. record object { events = rest_noted (sym is i) ++ record { message = message; cpu = cpu } ∷ [] })
    ∙ sym (ap (λ l. event_queued (read_by l object) message cpu) none)
read-beside object message cpu noted (fault ∷ faults) events is same next =
    ap (λ l. read_by l (event_queued object message cpu)) is ∙ sym (ap (λ l. event_queued (read_by l object) message cpu) is)

-- the messages of an object aside
seen-alike : (after calls : List Pending) (middle old : Space) {object : Object} → seen after middle ≡ record (seen calls old) { object = object } → Alike object (seen calls old).object → Alike middle.object old.object
seen-alike after calls middle old {object = object} same alike =
    let is : (seen after middle).object ≡ object = ap (λ (s : Space). s.object) same in
    (λ i. record (is i) { faults = middle.object.faults; events = middle.object.events }) ∙ (λ i. record (alike i) { faults = middle.object.faults; events = middle.object.events })

-- A message that was there before

read-next : {name home key : ℕ} {space : Space} {calls : List Pending} {one : Counterparts} {it : Discard} (at : Held name home key space it calls one) (on : Descriptor) (noted : Noted) (faults events : List Noted) → on.object ≡ name →
    one.space.object.faults ≡ faults → unread_of (map open_of calls) ≡ events → next_of faults events ≡ Some noted → (calls ≡ [] → IsFault noted.message) →
    Next name home (world_of one.kernel (at.before ++ waiting it ∷ at.later)) one (read_beside on key calls (open_of (pending_for it)) noted) (record space { object = message_read space.object })
read-next {name = name} {home = home} {key = key} {space = space} {calls = calls} {one = one} {it = it} at on noted faults events own faults_are events_are next fault =
    let new = record space { object = message_read space.object } in
    let was = seen calls one.space in
    let writes = message-logged one key on noted faults events at.below (own ∙ at.own) at.told at.enabled faults_are events_are next in
    let written = read_written on key (map open_of calls) (Some noted) in
    let extra = open_of (pending_for it) in
    let alike : Alike writes.middle.object one.space.object = seen-alike writes.after calls writes.middle one.space (writes.same) (read-alike was.object) in
    subst (λ w. Next name home (world_of one.kernel (at.before ++ waiting it ∷ at.later)) one w new) (sym (lines-beside on key calls extra noted fault))
    (beside-next (record written { begun = written.begun ++ extra ∷ [] }) new writes.middle writes.after written.lines at writes.goes (read-apart on it.key key (map open_of calls) noted at.low) (alike-held at writes.middle.object alike)
    (ap (dropped_by it) writes.same ∙ ap (λ o. record (dropped_by it was) { object = o }) (sym (read-beside was.object (noted_by it).message it.cpu noted faults events faults_are events_are next))
    ∙ ap (λ (s : Space). record s { object = message_read s.object }) at.same)
    writes.below (read-grows on key (map open_of calls) noted) refl (ap (λ b. b ++ extra ∷ []) writes.begun))

-- Its own message

no-calls : (key : ℕ) (calls : List Pending) → AreBelow key calls → unread_of (map open_of calls) ≡ [] → calls ≡ []
no-calls key [] below events = refl
no-calls key (first ∷ calls) below events = absurd (some-left first.modelled (unread_of (map open_of calls)) first.unread below.2.paired events) where
  some-left : (modelled more : List Noted) (unread : List Telling) → ArePaired modelled unread → modelled ++ more ≡ [] → ⊥
  some-left [] more unread paired is = paired
  some-left (noted ∷ modelled) more unread paired is = false≢true (ap is_empty is)

both-none : {X : Type 0} (xs ys : List X) → xs ++ ys ≡ [] → (xs ≡ []) × (ys ≡ [])
both-none [] ys is = (refl, is)
both-none (x ∷ xs) ys is = absurd (false≢true (ap is_empty is))

remove-next : {name home key : ℕ} {space : Space} {calls : List Pending} {one : Counterparts} {it : Discard} (at : Held name home key space it calls one) (on : Descriptor) → on.object ≡ name → IsSoundSpace space → one.space.object.faults ≡ [] → unread_of (map open_of calls) ≡ [] →
    Next name home (world_of one.kernel (at.before ++ waiting it ∷ at.later)) one (read_beside on key calls (open_of (pending_for it)) (noted_by it)) (record space { object = message_read space.object })
remove-next {name = name} {home = home} {key = key} {space = space} {calls = calls} {one = one} {it = it} at on own sound faults unread =
    let new = record space { object = message_read space.object } in
    let stop = it.addr + 4096 * pages_of it.len in
    let none = no-calls key calls at.below unread in
    let quiet : HasCalls [] one = subst (λ c. HasCalls c one) none at.told in
    let same : dropped_by it one.space ≡ space = ap (dropped_by it) (sym (seen-quiet one quiet)) ∙ ap (λ c. dropped_by it (seen c one.space)) (sym none) ∙ at.same in
    let alone = both-none at.before at.later (sym at.is ∙ ap begun_calls none) in
    let dropped = dropped_by it one.space in
    let middle = record dropped { object = message_read dropped.object } in
    let first = remove-read it one key on at.low (own ∙ at.own) quiet (at.its ∙ at.there) at.enabled at.asked at.watched faults (quiet-events one quiet) (subst IsSoundSpace (sym same) sound) in
    let enabled = ap (λ (s : Space). s.object.enabled) first.leaves ∙ ap (λ (o : Object). o.enabled) (read-alike dropped.object) ∙ at.enabled in
    let wakes = range-woken first.last (key + 1) on it.addr stop tt (own ∙ at.own ∙ sym first.name) first.told enabled it.wakes in
    let more = lines_of_calls (key + 1) (wake_range on it.addr (stop - it.addr)) in
    let read = then-from one _ more middle middle first (subst (Goes [] [] first.last more) first.leaves wakes) in
    let left = seen-quiet read.last read.told ∙ read.leaves ∙ ap (λ (s : Space). record s { object = message_read s.object }) same in
    subst (λ start. Next name home start one (read_beside on key calls (open_of (pending_for it)) (noted_by it)) new) (λ i. world_of one.kernel (sym alone.0 i ++ waiting it ∷ sym alone.1 i))
    (subst (λ c. Next name home (world_of one.kernel (waiting it ∷ [])) one (read_beside on key c (open_of (pending_for it)) (noted_by it)) new) (sym none)
    (record {
      state = free [] read.last (record { same = left; told = read.told; below = tt; own = at.own ∙ sym read.name; there = at.there ∙ sym read.home });
      begun = refl;
      steps = read.steps;
      whole = read.whole;
      leads = read.leads;
      differs = read.differs;
    }))

-- An access

-- apart from the pages that are to be cleared
kept-last : (space : Space) (command : Command) (begun : List Open) (it : Discard) → keeps_off_all space command (begun ++ open_of (pending_for it) ∷ []) ≡ true → keeps_off space command (pending_for it).call ≡ true
kept-last space command begun it off =
    let test = λ (one : Open). not (keeps_off space command one.made.call) in
    last (list_any test begun) (keeps_off space command (pending_for it).call) (sym (ap not (list_any-append test begun (open_of (pending_for it) ∷ []))) ∙ off)
  where
    last : (others own : Bool) → not (others || (not own || false)) ≡ true → own ≡ true
    last others own h = grind (arith, nat_tests)

kept-off : (space : Space) (command : Command) (begun : List Open) (it : Discard) → is_access command ≡ true → keeps_off_all space command (begun ++ open_of (pending_for it) ∷ []) ≡ true → in_range (it.addr / 4096) (pages_of it.len) (page_of command) ≡ false
kept-off space command begun it access off =
    let inside = in_range (it.addr / 4096) (pages_of it.len) (page_of command) in
    not-true inside (sym (ap (λ b. cond b (not inside) (eqb (queued_by space command) 0 && not (is_remap command (reply_of (memory space.host) command)))) access) ∙ kept-last space command begun it off)

kept-quiet : (space : Space) (command : Command) (begun : List Open) (it : Discard) → is_access command ≡ false → keeps_off_all space command (begun ++ open_of (pending_for it) ∷ []) ≡ true →
    (queued_by space command ≡ 0) × (is_remap command (reply_of (memory space.host) command) ≡ false)
kept-quiet space command begun it access off =
    let inside = in_range (it.addr / 4096) (pages_of it.len) (page_of command) in
    let none = eqb (queued_by space command) 0 in
    let moves = is_remap command (reply_of (memory space.host) command) in
    let both = sym (ap (λ b. cond b (not inside) (none && not moves)) access) ∙ kept-last space command begun it off in
    (eqb-true (queued_by space command) 0 (and_first none (not moves) both), not-true moves (and_second none (not moves) both))

-- an access leaves the events
pub seen-accessed : (calls : List Pending) (space : Space) (cpu : ℕ) (command : Command) → seen calls (accessed space cpu command) ≡ accessed (seen calls space) cpu command
seen-accessed calls space cpu command = by (access_of space command) where
  fault_more : Object → ℕ → Bool → Bool → Object
  fault_more object addr write wp = record object { faults = object.faults ++ record { message = Message.PageFault addr write wp (thread_id object cpu); cpu = cpu } ∷ [] }

  queued : (b : Bool) (addr : ℕ) (write wp : Bool) → with_unread (record space { object = cond b space.object (fault_more space.object addr write wp) }) (unread_of (map open_of calls))
      ≡ record (seen calls space) { object = cond b (seen calls space).object (fault_more (seen calls space).object addr write wp) }
  queued true addr write wp = refl
  queued false addr write wp = refl

  by : (access : Access) → seen calls (accessed_by access space cpu command) ≡ accessed_by access (seen calls space) cpu command
  by (Answered reply) = refl
  by Missing = queued (waits_fault space.object.faults (4096 * page_of command) false) (4096 * page_of command) (is_store command) false
  by Protected = queued (waits_fault space.object.faults (4096 * page_of command) true) (4096 * page_of command) true true

tries-next : {name home key : ℕ} {space : Space} {calls : List Pending} {one : Counterparts} {it : Discard} (at : Held name home key space it calls one) (cpu : ℕ) (command : Command) → is_access command ≡ true →
    keeps_off_all space command (map open_of calls ++ open_of (pending_for it) ∷ []) ≡ true → is_one space.object.features 8 ≡ false → (contains space.object.protect (page_of command) ≡ true → contains space.object.missing (page_of command) ≡ true) →
    Next name home (world_of one.kernel (at.before ++ waiting it ∷ at.later)) one (calls_written key (map open_of calls ++ open_of (pending_for it) ∷ []) []) (accessed space cpu command)
tries-next {key = key} {space = space} {calls = calls} {one = one} {it = it} at cpu command access off unnamed watched =
    let page = page_of command in
    let goes =
    accessed-logged one cpu command access at.told at.enabled (ap (λ (s : Space). is_one s.object.features 8) at.same ∙ unnamed)
    (λ h. ap (λ (s : Space). contains s.object.missing page) at.same ∙ watched (sym (ap (λ (s : Space). contains s.object.protect page) at.same) ∙ h)) in
    beside-next (calls_written key (map open_of calls ++ open_of (pending_for it) ∷ []) []) (accessed space cpu command) (accessed one.space cpu command) calls [] at goes refl (alike-held at (accessed one.space cpu command).object (accessed-alike one.space cpu command))
    (ap (dropped_by it) (seen-accessed calls one.space cpu command)
    ∙ sym (accessed-apart (seen calls one.space) (it.addr / 4096) (pages_of it.len) it.addr (it.addr + 4096 * pages_of it.len) it.cpu cpu command access (kept-off space command (map open_of calls) it access off)) ∙ ap (λ s. accessed s cpu command) at.same)
    (still-below key (key + 0) calls (omega (arith)) at.below) (omega (arith)) refl refl

-- A map call that queues no message

no-messages : (messages : List Message) → length messages ≡ 0 → messages ≡ []
no-messages [] none = refl
no-messages (message ∷ messages) none = absurd (omega (arith, none))

abbrev at_once : (home key : ℕ) → List Open → Answer → Call → Written
at_once home key begun answer call = map_written home key begun [] [] answer call

-- it is written at once, whatever a kernel would have told
issue-at-once : (home key : ℕ) (begun : List Open) (space : Space) (cpu : ℕ) (command : Command) (call : Call) → queued_by space command ≡ 0 →
    issue_written home key begun space cpu command (Some call) ≡ at_once home key begun (answer_of_reply (reply_of (memory space.host) command)) call
issue-at-once home key begun space cpu command call quiet =
    let reply = reply_of (memory space.host) command in
    ap (λ m. map_written home key begun (noted_as cpu m) (told_by space.object command reply) (answer_of_reply reply) call) (no-messages (call_messages space.object command reply) quiet)

issue-apart : (low home key : ℕ) (begun : List Open) (space : Space) (cpu : ℕ) (command : Command) (made : Option Call) → queued_by space command ≡ 0 → low < key → list_any (begins_call low) (issue_written home key begun space cpu command made).lines ≡ false
issue-apart low home key begun space cpu command None quiet less = refl
issue-apart low home key begun space cpu command (Some call) quiet less = ap (λ (w : Written). list_any (begins_call low) w.lines) (issue-at-once home key begun space cpu command call quiet) ∙ ap (λ b. b || false) (above low key less) where
  above : (low key : ℕ) → low < key → eqb key low ≡ false
  above low key h = grind (arith, nat_tests, h)

issue-beside : (home key : ℕ) (begun : List Open) (extra : Open) (space other : Space) (cpu : ℕ) (command : Command) → queued_by other command ≡ 0 → queued_by space command ≡ 0 → reply_of (memory space.host) command ≡ reply_of (memory other.host) command →
    issue_written home key (begun ++ extra ∷ []) space cpu command (map_call command) ≡ with_extra (issue_written home key begun other cpu command (map_call command)) extra
issue-beside home key begun extra space other cpu command quiet now same = by (map_call command) where
  by : (made : Option Call) → issue_written home key (begun ++ extra ∷ []) space cpu command made ≡ with_extra (issue_written home key begun other cpu command made) extra
  by None = refl
  by (Some call) =
      issue-at-once home key (begun ++ extra ∷ []) space cpu command call now
      ∙ ap (λ r. at_once home key (begun ++ extra ∷ []) (answer_of_reply r) call) same
      ∙ ap (λ w. with_extra w extra) (sym (issue-at-once home key begun other cpu command call quiet))

issue-grows : (home key : ℕ) (begun : List Open) (space : Space) (cpu : ℕ) (command : Command) (made : Option Call) → queued_by space command ≡ 0 → key ≤ (issue_written home key begun space cpu command made).key
issue-grows home key begun space cpu command None quiet = omega (arith)
issue-grows home key begun space cpu command (Some call) quiet = subst (λ (w : Written). key ≤ w.key) (sym (issue-at-once home key begun space cpu command call quiet)) (more key) where
  more : (key : ℕ) → key ≤ key + 1
  more key = omega (arith)

makes-next : {name home key : ℕ} {space : Space} {calls : List Pending} {one : Counterparts} {it : Discard} (at : Held name home key space it calls one) (cpu : ℕ) (command : Command) → is_access command ≡ false → is_followed command ≡ true →
    keeps_off_all space command (map open_of calls ++ open_of (pending_for it) ∷ []) ≡ true → IsMapping space.host.areas →
    Next name home (world_of one.kernel (at.before ++ waiting it ∷ at.later)) one (issue_written home key (map open_of calls ++ open_of (pending_for it) ∷ []) space cpu command (map_call command)) (called space cpu command)
makes-next {name = name} {home = home} {key = key} {space = space} {calls = calls} {one = one} {it = it} at cpu command access followed off mapping =
    let first = it.addr / 4096 in
    let count = pages_of it.len in
    let stop = it.addr + 4096 * count in
    let extra = open_of (pending_for it) in
    let own = one.object.space in
    let was = seen calls one.space in
    let now = kept-quiet space command (map open_of calls) it access off in
    let quiet = sym (same-queued was first count it.addr stop it.cpu command access) ∙ ap (λ s. queued_by s command) at.same ∙ now.0 in
    let same = ap (λ (s : Space). reply_of (memory s.host) command) (sym at.same) ∙ same-reply was first count command access in
    let stays = ap (is_remap command) (sym same) ∙ now.1 in
    let may : MayCall calls one key = record { below = at.below; told = at.told; enabled = at.enabled; asked = at.asked; mapping = subst (λ (s : Space). IsMapping s.host.areas) (sym at.same) mapping } in
    let writes = quiet-writes one key cpu command may access followed (sym (ap length (same-messages one.space.object (unread_of (map open_of calls)) command (reply_of (memory one.space.host) command))) ∙ quiet) in
    let written = issue_written own key (map open_of calls) was cpu command (map_call command) in
    let kept = quiet-kept was cpu command stays quiet in
    let found = some-below (λ i. is_registered one.space.object (first + i)) count at.watched in
    let left = ap (λ (s : Space). s.object) writes.same in
    let after : StaysHeld it writes.middle.object =
    record {
      watched = is-watched writes.middle first count (first + found.0) (low first found.0) (high first found.0 count found.1) (ap (λ (o : Object). is_registered o (first + found.0)) left ∙ kept.2 (first + found.0) found.2);
      enabled = ap (λ (o : Object). o.enabled) left ∙ kept.0 ∙ at.enabled;
      asked = ap (λ (o : Object). has_events o) left ∙ ap (λ n. is_one n 2 && is_one n 3 && is_one n 6) kept.1 ∙ at.asked;
    } in
    subst (λ w. Next name home (world_of one.kernel (at.before ++ waiting it ∷ at.later)) one w (called space cpu command))
    (sym (ap (λ n. issue_written n key (map open_of calls ++ extra ∷ []) space cpu command (map_call command)) at.there ∙ issue-beside own key (map open_of calls) extra space was cpu command quiet now.0 same))
    (beside-next (record written { begun = written.begun ++ extra ∷ [] }) (called space cpu command) writes.middle writes.after written.lines at writes.goes (issue-apart it.key own key (map open_of calls) was cpu command (map_call command) quiet at.low)
    after (ap (dropped_by it) writes.same ∙ sym (called-apart was first count it.addr stop it.cpu cpu command access stays quiet) ∙ ap (λ s. called s cpu command) at.same) writes.below (issue-grows own key (map open_of calls) was cpu command (map_call command) quiet) refl
    (ap (λ b. b ++ extra ∷ []) writes.begun))
  where
    low : (first i : ℕ) → first ≤ first + i
    low first i = omega (arith)

    high : (first i count : ℕ) → i < count → first + i < first + count
    high first i count h = omega (arith, h)

idle-next : {name home key : ℕ} {space : Space} {calls : List Pending} {one : Counterparts} {it : Discard} (at : Held name home key space it calls one) (new : Space) → space ≡ new →
    Next name home (world_of one.kernel (at.before ++ waiting it ∷ at.later)) one (calls_written key (map open_of calls ++ open_of (pending_for it) ∷ []) []) new
idle-next {key = key} {calls = calls} {one = one} {it = it} at new same =
    beside-next (calls_written key (map open_of calls ++ open_of (pending_for it) ∷ []) []) new one.space calls [] at (stays one one.space refl at.told) refl (alike-held at one.space.object refl) (at.same ∙ same) (still-below key (key + 0) calls (omega (arith)) at.below) (omega (arith)) refl refl

-- Each

-- its REMOVE is unread
pub held-changing : {name home key : ℕ} {space : Space} {calls : List Pending} {one : Counterparts} {it : Discard} → Held name home key space it calls one → ltb 0 (changing space.object) ≡ true
held-changing {calls = calls} {it = it} at = sym (ap (λ (s : Space). ltb 0 (changing s.object)) at.same) ∙ more (unread_of (map open_of calls)) (noted_by it) where
  more : (events : List Noted) (last : Noted) → ltb 0 (length (events ++ last ∷ [])) ≡ true
  more [] last = refl
  more (event ∷ events) last = grind (arith, nat_tests)

pub held-next : {name home key : ℕ} {space : Space} {calls : List Pending} {one : Counterparts} {it : Discard} (at : Held name home key space it calls one) (on : Descriptor) (written : Written) (new : Space) → on.object ≡ name → IsSoundSpace space →
    Kept on home key (map open_of calls ++ open_of (pending_for it) ∷ []) written space new → Next name home (world_of one.kernel (at.before ++ waiting it ∷ at.later)) one written new
held-next {name = name} {home = home} {one = one} {it = it} at on written new own sound (idle is same) = subst (λ w. Next name home (world_of one.kernel (at.before ++ waiting it ∷ at.later)) one w new) (sym is) (idle-next at new same)
held-next {name = name} {home = home} {key = key} {space = space} {calls = calls} {one = one} {it = it} at on written new own sound (makes cpu command access followed off is same mapping) =
    let start = world_of one.kernel (at.before ++ waiting it ∷ at.later) in
    subst (λ w. Next name home start one w new) (sym is)
    (subst (λ s. Next name home start one (issue_written home key (map open_of calls ++ open_of (pending_for it) ∷ []) space cpu command (map_call command)) s) (sym same) (makes-next at cpu command access followed off mapping))
held-next {name = name} {home = home} {key = key} {space = space} {calls = calls} {one = one} {it = it} at on written new own sound (tries cpu command access off is same unnamed watched) =
    let start = world_of one.kernel (at.before ++ waiting it ∷ at.later) in
    subst (λ w. Next name home start one w new) (sym is)
    (subst (λ s. Next name home start one (calls_written key (map open_of calls ++ open_of (pending_for it) ∷ []) []) s) (sym same) (tries-next at cpu command access off unnamed watched))
held-next {name = name} {home = home} {key = key} {space = space} {calls = calls} {one = one} {it = it} at on written new own sound (reads noted next is same) =
    let start = world_of one.kernel (at.before ++ waiting it ∷ at.later) in
    subst (λ w. Next name home start one w new) (sym is)
    (subst (λ s. Next name home start one (read_beside on key calls (open_of (pending_for it)) noted) s) (sym same)
    (by one.space.object.faults (unread_of (map open_of calls)) refl refl (ap (λ (s : Space). next_message s.object) at.same ∙ next)))
  where
    by : (faults events : List Noted) → one.space.object.faults ≡ faults → unread_of (map open_of calls) ≡ events → next_message (dropped_by it (seen calls one.space)).object ≡ Some noted →
        Next name home (world_of one.kernel (at.before ++ waiting it ∷ at.later)) one (read_beside on key calls (open_of (pending_for it)) noted) (record space { object = message_read space.object })
    by [] [] none nothing first =
        let mine : noted_by it ≡ noted = same_Some (noted_by it) noted (sym (λ i. next_of (none i) (nothing i ++ noted_by it ∷ [])) ∙ first) in
        subst (λ n. Next name home (world_of one.kernel (at.before ++ waiting it ∷ at.later)) one (read_beside on key calls (open_of (pending_for it)) n) (record space { object = message_read space.object })) mine
        (remove-next at on own sound none nothing)
    by [] (event ∷ events) none are first =
        read-next at on noted [] (event ∷ events) own none are (sym (λ i. next_of (none i) (are i ++ noted_by it ∷ [])) ∙ first) (λ quiet. absurd (false≢true (sym (ap is_empty are) ∙ ap (λ c. is_empty (unread_of (map open_of c))) quiet)))
    by (fault ∷ faults) events are rest first =
        let found : Some fault ≡ Some noted = sym (λ i. next_of (are i) (unread_of (map open_of calls) ++ noted_by it ∷ [])) ∙ first in
        read-next at on noted (fault ∷ faults) events own are rest found (λ quiet. is-fault one noted faults (are ∙ ap (λ n. n ∷ faults) (same_Some fault noted found)))
