-- Map calls in a log: one that unmaps or maps pages begins, and returns once its UNMAP is read.
use Rattle.std.proofs.lemmas.Bool.Decides.{nat_tests}
use Rattle.std.proofs.lemmas.Bool.{false≢true, or_from}
use Rattle.std.proofs.lemmas.Grind.{flat_map-append}
use Rattle.std.proofs.lemmas.List.Concat.{flat_map-cons}
use Rattle.std.proofs.lemmas.List.Elements.{filter-append}
use Rattle.std.proofs.lemmas.List.{append-nil, map-append, append_assoc}
use Rattle.std.proofs.lemmas.Option.{none-some, same_Some}
use Rattle.std.proofs.Common.{◌≡◌, ℕ, ◌+◌, ◌-◌, ◌*◌, ◌/◌, ◌%◌, ◌^◌, ◌<◌, ◌≤◌, ◌&&◌, ◌||◌, Bool, true, false, not, cond, eqb, ltb, Option, Some, None, List, [], ◌∷◌, ◌++◌, filter, length, map, max, arith, refl, sym, ap, subst, ◌∙◌, leb}
use Rattle.std.specs.List.{flat_map, list_any}
use Rattle.mig_base.specs.declared.TheConstants.{HIGH, HIGH_PAGE, LOW, LOW_PAGE, MAX_PAGES}
use Rattle.mig_base.specs.declared.Prot.{Prot}
use Rattle.mig_base.specs.declared.command.Command.{Command}
use Rattle.mig_base.specs.declared.command.Errno.{Errno}
use Rattle.mig_base.specs.declared.command.Place.{Place}
use Rattle.mig_base.specs.declared.command.Reply.{Reply}
use Rattle.mig_base.specs.declared.message.Message.{Message}
use Rattle.foundation.specs.Bits.{is_one}
use Rattle.mig_base.specs.Commands.{is_access}
use Rattle.mig_base.specs.Flat.{Memory, at_place, exceeds_limit, fill, first_refusal, is_mapped, is_page_start, is_unmapped, mapped_count, mmap_reply, munmap_reply, place_refusals, reply_of, zeros_with, can_grow, has_one_prot, is_bad_target, moved, mremap_place, mremap_reply, mremap_target}
use Rattle.foundation.specs.Ranges.{pages_of, rounded, lesser}
use Rattle.mig_base.specs.FreePlaces.{free_place}
use Rattle.foundation.specs.Tests.{is_empty}
use Rattle.mig_base.specs.Userfault.{Noted, is_registered, is_watched, message_read, next_of, Object as ModelObject}
use Rattle.mig_base.proofs.ReplyLemmas.{at_passed, mmap_inside, munmap_whole, same_at}
use Rattle.foundation.proofs.TestLemmas.{eqb-self, or_first, or_second, and_first, and_second}
use Rattle.mig_model.specs.Bounds.{IsMapping}
use Rattle.mig_model.specs.Host.{memory}
use Rattle.mig_model.specs.Ioctls.{has_events}
use Rattle.mig_model.specs.Space.{IsSoundSpace, Space, call_messages, called, message_if, all_queued, modes_after, remap_messages}
use Rattle.uffd_log.specs.declared.call.Call.{Call}
use Rattle.uffd_log.specs.declared.call.Call.TheVariants as call
use Rattle.uffd_log.specs.declared.call.Descriptor.{Descriptor}
use Rattle.uffd_log.specs.declared.call.Message.TheVariants as log
use Rattle.uffd_log.specs.declared.line.Answer.{Answer}
use Rattle.uffd_log.specs.declared.line.Answer.TheVariants.{Done, Value}
use Rattle.kernel_rules.specs.declared.calling.Told.{Told}
use Rattle.kernel_rules.specs.declared.calling.Untold.{Untold}
use Rattle.kernel_rules.specs.declared.fault.Fault.{Fault}
use Rattle.kernel_rules.specs.declared.object.Object.{Object}
use Rattle.kernel_rules.specs.declared.run.Made.{Made}
use Rattle.kernel_rules.specs.Faults.{sleeps_in, woken}
use Rattle.kernel_rules.specs.Ioctls.{has_untold, waked}
use Rattle.kernel_rules.specs.MapCalls.{forgotten, is_placed, may_return, numbers_without, returned, tells, unmapped, with_calling, tells_anybody}
use Rattle.kernel_rules.specs.Reads.{event_read, first_event, is_next_of, is_queued_as, message_taken, read, teller, is_same_event}
use Rattle.kernel_rules.specs.Runs as runs
use Rattle.kernel_rules.specs.Runs.{Event, Outcome, begins, begun_of, effect_at_end, ends, is_still, on_object, on_space, takes, without_begun, world_with}
use Rattle.kernel_rules.specs.State.{Kernel, allowed, is_range, of_object, set_pages}
use Rattle.kernel_laws.specs.Agreement.{Agree, AreUnread, AreUntold, Counterparts, Takes, is_message_of, message_of, messages_of, telling}
use Rattle.kernel_laws.specs.Logs.{Ended, Open, bits_of, calls_written, event_written, issue_written, lines_of_call, lines_of_calls, map_call, map_written, read_call, read_written, under_way, wake_range, without_cleared, AreExpected, is_expected, is_mremap, message_written, noted_by, read_calls, reply_written, unread_of, wake_call, with_unread}
use Rattle.kernel_laws.specs.Maps.{MapCall, answer_of_reply, failed, is_new_call, Move, called_told, moves_told, told_by}
use Rattle.kernel_laws.proofs.EventReads.{all-kept, no-faults, same-head, same-tail, takes-event, no-fault}
use Rattle.kernel_laws.proofs.FaultReads.{page-requeued, requeued, sound-requeued, takes-read}
use Rattle.kernel_laws.proofs.Kernels.{agree-woken, is-enabled}
use Rattle.kernel_laws.proofs.LogRuns.{Goes, Writes, agree-returned, allowed-is, call-ends, leads-in, read-logged, steps_in, takes-effect, then-logged, told-returned, wake-logged, Differs, stays}
use Rattle.kernel_laws.proofs.MapReplies.{by-reply, mmap-taken, munmap-done, munmap-error, munmap-taken, called_as}
use Rattle.kernel_laws.proofs.OpenCalls.{AreBelow, HasCalls, IsGood, MayWake, Pending, all-messages, apart, apart-events, apart-numbers, apart-told, begun_calls, below-last, none-begun, none-both, numbers_of, open_of, others-return, over_of, still-below, telling_of, untold-of, AreAllEvents, ArePaired, AreTelling, IsEvent, MayWakeAll, MayWakeFor, Tells, are-telling, events_all, events_of, others-apart, others-stay, seen, texts_all, told_all, unread-by, unread-last}
use Rattle.kernel_laws.proofs.Unmaps.{filtered-none, some-below, unmap-first}
use Rattle.kernel_laws.proofs.Tellings.{AreEvents, Telling, are-ranked, are_ranked, messages_in, queued-all, ranked, ranked-messages, same-event, same-ranks, tellers, untold_by, with_messages}
use Rattle.kernel_laws.proofs.Remaps.{is-remap, mremap-taken, remapped}
use Rattle.kernel_rules.specs.declared.difference.Difference.{Difference}
use Rattle.kernel_rules.specs.declared.difference.Difference.TheVariants.{MessagesOfMremap}
use Rattle.kernel_rules.specs.declared.known.Page.{Page}
use Rattle.kernel_rules.specs.declared.object.Registration.{Registration}
use Rattle.std.proofs.lemmas.List.Folds.{list_any-append}

-- read(2) of an event

-- a kernel with these calls under way
abbrev calling : Kernel → ℕ → List Pending → Kernel
calling kernel name pending =
    record kernel {
      calls = (telling_of name pending).calls;
      told = (telling_of name pending).told;
      events = (telling_of name pending).events;
      queued = [];
      untold = [];
      clears = [];
    }

is-calling : (kernel : Kernel) (name : ℕ) (pending : List Pending) → telling kernel ≡ telling_of name pending → kernel ≡ calling kernel name pending
is-calling kernel name pending told =
    λ i. record kernel { calls = (told i).calls; told = (told i).told; events = (told i).events; queued = (told i).queued; untold = (told i).untold; clears = (told i).clears }

-- a call that has these events left, of a kernel and of the model
abbrev left_with : Pending → List Telling → List Noted → Pending
left_with one unread modelled = record one { unread = unread; modelled = modelled }

-- the oldest has queued its next event
abbrev queueing : Kernel → ℕ → Pending → List Pending → Kernel
queueing kernel name one pending = record (calling kernel name (one ∷ pending)) { queued = one.key ∷ [] }

abbrev event_as : (key name : ℕ) → Telling → Untold
event_as key name one = record { key = key; rank = one.rank; object = name; message = message_of one.message }

queues-event : (kernel : Kernel) (name : ℕ) (one : Pending) (first : Telling) (rest : List Telling) (modelled : List Noted) (pending : List Pending) →
    tells (calling kernel name (left_with one (first ∷ rest) modelled ∷ pending)) one.key ≡ Some (queueing kernel name (left_with one (first ∷ rest) modelled) pending)
queues-event kernel name one first rest modelled pending =
    ap (λ b. allowed (not (not (b || list_any (λ (event : Untold). eqb event.key one.key) (untold_by one.key name rest ++ events_all name pending)) && true)) (queueing kernel name (left_with one (first ∷ rest) modelled) pending)) (eqb-self one.key)

finds-event : (kernel : Kernel) (name : ℕ) (one : Pending) (first : Telling) (rest : List Telling) (modelled : List Noted) (pending : List Pending) →
    first_event (queueing kernel name (left_with one (first ∷ rest) modelled) pending).events one.key ≡ Some (event_as one.key name first)
finds-event kernel name one first rest modelled pending =
    ap (λ b. cond b (Some (event_as one.key name first)) (first_event (untold_by one.key name rest ++ events_all name pending) one.key)) (eqb-self one.key)

tells-event : (kernel : Kernel) (name : ℕ) (one : Pending) (first : Telling) (rest : List Telling) (modelled : List Noted) (pending : List Pending) → is_same_event (message_of first.message) (message_of first.message) ≡ true →
    is_queued_as (queueing kernel name (left_with one (first ∷ rest) modelled) pending) name (message_of first.message) one.key ≡ true
tells-event kernel name one first rest modelled pending same =
    (λ i. (eqb-self one.key i || false) && is_next_of (queueing kernel name (left_with one (first ∷ rest) modelled) pending) name one.key (message_of first.message) (finds-event kernel name one first rest modelled pending i))
    ∙ (λ i. eqb-self name i && same i)

unread-left : (kernel : Kernel) (name : ℕ) (one : Pending) (first : Telling) (rest : List Telling) (modelled left : List Noted) (pending : List Pending) → are_ranked (first ∷ rest) ≡ true → list_any (λ (other : Pending). eqb other.key one.key) pending ≡ false →
    event_read (queueing kernel name (left_with one (first ∷ rest) modelled) pending) one.key (message_of first.message) (Some (event_as one.key name first)) ≡ calling kernel name (left_with one rest left ∷ pending)
unread-left kernel name one first rest modelled left pending ranked none =
    let mine = λ (other : Untold). eqb other.key one.key && eqb other.rank first.rank in
    let events = untold_by one.key name rest ++ events_all name pending in
    let others = filter (λ other. not (mine other)) events in
    let kept : others ≡ events =
    all-kept mine events
    (list_any-append mine (untold_by one.key name rest) (events_all name pending)
    ∙ or_from (list_any mine (untold_by one.key name rest)) (list_any mine (events_all name pending)) (same-ranks one.key name first.rank rest ∙ once (list_any (λ (other : Telling). eqb other.rank first.rank) rest) (are_ranked rest) ranked)
    (none-both (λ (other : Untold). eqb other.key one.key) (λ (other : Untold). eqb other.rank first.rank) (events_all name pending) (apart-events name one.key pending none))) in
    let now = calling kernel name (left_with one (first ∷ rest) modelled ∷ pending) in
    (λ i. record now {
      queued = cond (not (eqb-self one.key i)) (one.key ∷ []) [];
      events = cond (not (eqb-self one.key i && eqb-self first.rank i)) (event_as one.key name first ∷ others) others;
    })
    ∙ (λ i. record now { events = kept i })
  where
    once : (a b : Bool) → (not a && b) ≡ true → a ≡ false
    once a b h = grind (arith, nat_tests)

takes-next : (kernel : Kernel) (key name : ℕ) (object : Object) (one : Pending) (first : Telling) (rest : List Telling) (modelled left : List Noted) (pending : List Pending) → Tells (left_with one (first ∷ rest) modelled) →
    list_any (λ (other : Pending). eqb other.key one.key) pending ≡ false → AreUnread kernel.faults name object [] →
    message_taken (queueing kernel name (left_with one (first ∷ rest) modelled) pending) key None name object (message_of first.message) 0 ≡ Some (calling kernel name (left_with one rest left ∷ pending))
takes-next kernel key name object one first rest modelled left pending tells none unread =
    let now = queueing kernel name (left_with one (first ∷ rest) modelled) pending in
    let text = message_of first.message in
    let same = same-event first.message tells.events.0 in
    takes-event now key None name object text (Some (one.key, false)) (calling kernel name (left_with one rest left ∷ pending)) (no-fault text same) (no-faults kernel.faults name unread.none_queued)
    (ap (λ b. cond b (Some (one.key, false)) (teller now name text (numbers_of pending) (has_untold now name one.key))) (tells-event kernel name one first rest modelled pending same))
    (ap (λ o. Some (event_read now one.key text o)) (finds-event kernel name one first rest modelled pending) ∙ ap (λ k. Some k) (unread-left kernel name one first rest modelled left pending tells.ranks none))

-- A message of an event

event-space : (space : Space) (noted : Noted) (rest : List Noted) → space.object.faults ≡ [] → space.object.events ≡ noted ∷ rest → record space { object = message_read space.object } ≡ requeued space space.object.faults rest
event-space space noted rest none events = rw (none, events) refl

-- lines that read events of the oldest call lead to an object whose other events are unread
abbrev Rereads : (before after : List Pending) → Counterparts → List Event → Type 0
Rereads before after one lines = (rest : List Noted) × Goes before after one lines (requeued one.space one.space.object.faults rest)

then-reads : {before mid after : List Pending} (one : Counterparts) (lines more : List Event) → (first : Rereads before mid one lines) → Rereads mid after first.1.last more → Rereads before after one (lines ++ more)
then-reads {mid = mid} {after = after} one lines more first second =
    let faults = one.space.object.faults in (
      second.0,
      then-logged one lines more (requeued one.space faults first.0) (requeued one.space faults second.0) first.1
          (subst (Goes mid after first.1.last more) (ap (λ (s : Space). requeued s s.object.faults second.0) first.1.leaves) second.1),
    )

-- what a read of events needs
record MayRead (one : Counterparts) (on : Descriptor) : Type 0 where
  own : on.object ≡ one.name
  enabled : one.space.object.enabled ≡ true
  none : one.space.object.faults ≡ []

may-still : {before after : List Pending} {one : Counterparts} {on : Descriptor} {lines : List Event} → MayRead one on → (first : Rereads before after one lines) → MayRead first.1.last on
may-still may first =
    record { own = may.own ∙ sym first.1.name; enabled = ap (λ (s : Space). s.object.enabled) first.1.leaves ∙ may.enabled; none = ap (λ (s : Space). s.object.faults) first.1.leaves ∙ may.none }

tells-less : (one : Pending) (first : Telling) (rest : List Telling) (modelled left : List Noted) → Tells (left_with one (first ∷ rest) modelled) → Tells (left_with one rest left)
tells-less one first rest modelled left tells = record { ranks = more (list_any (λ (other : Telling). eqb other.rank first.rank) rest) (are_ranked rest) tells.ranks; events = tells.events.1; some = tells.some } where
  more : (a b : Bool) → (not a && b) ≡ true → b ≡ true
  more a b h = grind (arith, nat_tests)

-- one event is read
event-read : (one : Counterparts) (key : ℕ) (on : Descriptor) (oldest : Pending) (first : Telling) (rest : List Telling) (modelled left : List Noted) (pending : List Pending) →
    list_any (λ (other : Pending). eqb other.key key) (left_with oldest (first ∷ rest) modelled ∷ pending) ≡ false → AreTelling (left_with oldest (first ∷ rest) modelled ∷ pending) → MayRead one on → HasCalls (left_with oldest (first ∷ rest) modelled ∷ pending) one →
    Rereads (left_with oldest (first ∷ rest) modelled ∷ pending) (left_with oldest rest left ∷ pending) one (lines_of_call key (read_call on first.message))
unfolding on_object
event-read one key on oldest first rest modelled left pending out are may told =
    by one.space.object.events (unread-by one.name all one.space.object.events are (subst (λ k. AreUntold one.name k one.space.object.events) told one.agree.untold))
  where
    kernel : Kernel
    kernel = one.kernel

    name : ℕ
    name = one.name

    all : List Pending
    all = left_with oldest (first ∷ rest) modelled ∷ pending

    more : List Pending
    more = left_with oldest rest left ∷ pending

    ended : Ended
    ended = read_call on first.message

    made : Made
    made = record { key = key; space = 0; thread = 0; program = 0; call = ended.call; last = false }

    now : Kernel
    now = queueing kernel name (left_with oldest (first ∷ rest) modelled) pending

    after : Kernel
    after = calling kernel name more

    still : AreTelling more
    still = (are.0, tells-less oldest first rest modelled left are.1, are.2)

    queued : world_with (under_way kernel (map open_of all)) (tells kernel oldest.key) ≡ Some (under_way now (map open_of all))
    queued =
        ap (λ k. world_with (under_way kernel (map open_of all)) (tells k oldest.key)) (is-calling kernel name all told) ∙ ap (λ o. world_with (under_way kernel (map open_of all)) o) (queues-event kernel name oldest first rest modelled pending)

    takes_it : read now key None name one.object None (message_of first.message ∷ []) (Value 1) ≡ Some after
    takes_it =
        takes-read now after key None name one.object None (message_of first.message) (is-enabled one.agree ∙ may.enabled) refl
        (takes-next kernel key name one.object oldest first rest modelled left pending are.1 are.0 (subst (AreUnread kernel.faults name one.object) may.none one.agree.unread))

    taken : takes now made ended.out ≡ Some after
    taken =
        ap (λ n. of_object (now.objects n) (λ object. on_object now made n object ended.out ended.call)) may.own
        ∙ ap (λ o. of_object o (λ object. on_object now made name object ended.out ended.call)) one.agree.named
        ∙ takes_it

    telling_it : telling (returned after key) ≡ telling_of name more
    telling_it = others-stay name key more out

    by : (events : List Noted) → texts_all all ≡ map (λ (noted : Noted). message_of noted.message) events → Rereads all more one (lines_of_call key ended)
    by [] unread = absurd (false≢true (ap is_empty unread))
    by (noted ∷ unread_rest) unread = (
      unread_rest,
      record {
        steps = runs.Step.call_tells oldest.key ∷ steps_in 0 key ended;
        last = record {
          space = requeued one.space one.space.object.faults unread_rest;
          kernel = returned after key;
          name = name;
          object = one.object;
          agree = record {
            sound = sound-requeued one.space one.space.object.faults unread_rest one.agree.sound;
            named = one.agree.named;
            features = one.agree.features;
            pages = λ page. page-requeued one.space one.space.object.faults unread_rest name page (kernel.pages one.object.space page) (one.agree.pages page);
            unread = one.agree.unread;
            untold = subst (λ k. AreUntold name k unread_rest) (sym telling_it) (untold-of name more unread_rest still (same-tail (message_of first.message) (message_of noted.message) _ _ unread));
            alone = one.agree.alone;
            ranged = one.agree.ranged;
          };
        };
        whole = refl;
        leads = (
          under_way now (map open_of all),
          queued,
          (
            record { kernel = now; begun = begun_calls all ++ record { made = made; out = None; left = 0 } ∷ [] },
            (none-begun key all out, refl),
            (
              record { kernel = after; begun = begun_calls all ++ record { made = made; out = Some ended.out; left = 0 } ∷ [] },
              takes-effect all now after made ended.out out taken,
              (under_way (returned after key) (map open_of more), call-ends more after made ended.out out refl refl (others-return name key more out), refl),
            ),
          ),
        );
        leaves = refl;
        name = refl;
        home = refl;
        told = telling_it;
        differs = λ moves none h. h;
      },
    )

-- all that it has
events-read : (one : Counterparts) (key : ℕ) (on : Descriptor) (oldest : Pending) (unread : List Telling) (modelled : List Noted) (pending : List Pending) → oldest.key < key → AreBelow key pending → AreTelling (left_with oldest unread modelled ∷ pending) → MayRead one on →
    HasCalls (left_with oldest unread modelled ∷ pending) one →
    Rereads (left_with oldest unread modelled ∷ pending) (left_with oldest [] modelled ∷ pending) one (lines_of_calls key (read_calls on (messages_in unread)))
events-read one key on oldest [] modelled pending less below are may told = (one.space.object.events, stays one one.space refl told)
events-read one key on oldest (first ∷ rest) modelled pending less below are may told =
    let read = event-read one key on oldest first rest modelled modelled pending (others-apart key oldest.key pending less below) are may told in
    let still : AreTelling (left_with oldest rest modelled ∷ pending) = (are.0, tells-less oldest first rest modelled modelled are.1, are.2) in
    then-reads one (lines_of_call key (read_call on first.message)) (lines_of_calls (key + 1) (read_calls on (messages_in rest))) read
    (events-read read.1.last (key + 1) on oldest rest modelled pending (later oldest.key key less) (still-below key (key + 1) pending (omega (arith)) below) still (may-still may read) read.1.told)
  where
    later : (a b : ℕ) → a < b → a < b + 1
    later a b h = omega (arith, h)

-- The oldest call returns

or-true : (b : Bool) → (b || true) ≡ true
or-true b = grind (arith, nat_tests)

pub first-begun : (one : Pending) (pending : List Pending) → begun_of (begun_calls (one ∷ pending)) one.key ≡ Some (over_of one)
first-begun one pending = ap (λ b. cond b (Some (over_of one)) (begun_of (begun_calls pending) one.key)) (eqb-self one.key)

others-begun : (key : ℕ) (pending : List Pending) → list_any (λ (other : Pending). eqb other.key key) pending ≡ false → without_begun (begun_calls pending) key ≡ begun_calls pending
others-begun key pending none = all-kept (λ (one : runs.Begun). eqb one.made.key key) (begun_calls pending) (begun-apart key pending none) where
  begun-apart : (key : ℕ) (pending : List Pending) → list_any (λ (other : Pending). eqb other.key key) pending ≡ false → list_any (λ (one : runs.Begun). eqb one.made.key key) (begun_calls pending) ≡ false
  begun-apart key [] none = refl
  begun-apart key (one ∷ pending) none = λ i. or_first (eqb one.key key) (list_any (λ (other : Pending). eqb other.key key) pending) none i || begun-apart key pending (or_second (eqb one.key key) (list_any (λ (other : Pending). eqb other.key key) pending) none) i

pub but-first : (one : Pending) (pending : List Pending) → list_any (λ (other : Pending). eqb other.key one.key) pending ≡ false → without_begun (begun_calls (one ∷ pending)) one.key ≡ begun_calls pending
but-first one pending none =
    let left = without_begun (begun_calls pending) one.key in
    ap (λ b. cond (not b) (over_of one ∷ left) left) (eqb-self one.key) ∙ others-begun one.key pending none

own-told : (key name : ℕ) (all : List Message) → filter (λ (told : Told). not (eqb told.key key)) (tellers key name all) ≡ []
own-told key name [] = refl
own-told key name (message ∷ all) =
    let left = filter (λ (told : Told). not (eqb told.key key)) (tellers key name all) in
    ap (λ b. cond (not b) (record { key = key; object = name } ∷ left) left) (eqb-self key) ∙ own-told key name all

-- what is under way once it has returned
oldest-returned : (kernel : Kernel) (name : ℕ) (oldest : Pending) (modelled : List Noted) (pending : List Pending) → list_any (λ (other : Pending). eqb other.key oldest.key) pending ≡ false →
    telling (returned (calling kernel name (left_with oldest [] modelled ∷ pending)) oldest.key) ≡ telling_of name pending
oldest-returned kernel name oldest modelled pending none =
    let test = λ (told : Told). not (eqb told.key oldest.key) in
    let numbers : numbers_without (numbers_of (oldest ∷ pending)) oldest.key ≡ numbers_of pending =
    ap (λ b. cond (not b) (oldest.key ∷ numbers_without (numbers_of pending) oldest.key) (numbers_without (numbers_of pending) oldest.key)) (eqb-self oldest.key) ∙ all-kept (λ other. eqb other oldest.key) (numbers_of pending) (apart-numbers oldest.key pending none) in
    let told : filter test (tellers oldest.key name oldest.all ++ told_all name pending) ≡ told_all name pending =
    filter-append test (tellers oldest.key name oldest.all) (told_all name pending)
    ∙ (λ i. own-told oldest.key name oldest.all i ++ all-kept (λ (told : Told). eqb told.key oldest.key) (told_all name pending) (apart-told name oldest.key pending none) i) in
    λ i. record (telling_of name pending) { calls = numbers i; told = told i }

oldest-returns : (one : Counterparts) (oldest : Pending) (modelled : List Noted) (pending : List Pending) → AreTelling (left_with oldest [] modelled ∷ pending) → Some (open_of oldest).out ≡ effect_at_end oldest.answer (open_of oldest).out →
    HasCalls (left_with oldest [] modelled ∷ pending) one → Goes (left_with oldest [] modelled ∷ pending) pending one (ends oldest.key (open_of oldest).out ∷ []) one.space
oldest-returns one oldest modelled pending are over told =
    let all = left_with oldest [] modelled ∷ pending in
    let final = returned one.kernel oldest.key in
    let telling_it : telling final ≡ telling_of one.name pending = ap (λ k. telling (returned k oldest.key)) (is-calling one.kernel one.name all told) ∙ oldest-returned one.kernel one.name oldest modelled pending are.0 in
    let agree = one.agree in
    let unread = unread-by one.name all one.space.object.events are (subst (λ k. AreUntold one.name k one.space.object.events) told agree.untold) in
    record {
      steps = runs.Step.line (ends oldest.key (open_of oldest).out) ∷ [];
      last = record {
        space = one.space;
        kernel = final;
        name = one.name;
        object = one.object;
        agree = record {
          sound = agree.sound;
          named = agree.named;
          features = agree.features;
          pages = agree.pages;
          unread = agree.unread;
          untold = subst (λ k. AreUntold one.name k one.space.object.events) (sym telling_it) (untold-of one.name pending one.space.object.events are.2 unread);
          alone = agree.alone;
          ranged = agree.ranged;
        };
      };
      whole = refl;
      leads = (
        under_way final (map open_of pending),
        (
          over_of oldest,
          or-true _,
          first-begun oldest pending,
          ap (λ k. may_return k oldest.key) told ∙ ap (λ b. (not b && true) && true) (apart-events one.name oldest.key pending are.0),
          over,
          refl,
          ap (λ b. record { kernel = final; begun = b }) (sym (but-first oldest pending are.0)),
        ),
        refl,
      );
      leaves = refl;
      name = refl;
      home = refl;
      told = telling_it;
      differs = λ moves none h. h;
    }

-- Then the handler wakes those who sleep there

woken-range : (one : Counterparts) (start len : ℕ) → one.space.object.enabled ≡ true → is_range start len ≡ true → Takes (waked one.kernel one.name one.object start len Done) one.space one.name
woken-range one start len enabled range =
    let after = woken one.kernel (sleeps_in one.name (start / 4096) (len / 4096)) true in
    record {
      kernel = after;
      object = one.object;
      taken = (λ i. allowed ((is-enabled one.agree ∙ enabled) i && range i) after);
      agree = agree-woken (start / 4096) (len / 4096) true one.space one.kernel one.name one.object one.agree;
    }

pub range-woken : {calls : List Pending} (one : Counterparts) (key : ℕ) (on : Descriptor) (start end : ℕ) → AreBelow key calls → on.object ≡ one.name → HasCalls calls one → one.space.object.enabled ≡ true → MayWake start end →
    Goes calls calls one (lines_of_calls key (wake_range on start (end - start))) one.space
range-woken one key on start end below own told enabled wakes =
    wake-logged one key on (max start LOW) (end - start - (LOW - start)) one.space below own told (woken-range one (max start LOW) (end - start - (LOW - start)) enabled wakes)

message-woken : {calls : List Pending} (one : Counterparts) (key : ℕ) (on : Descriptor) (message : Message) → AreBelow key calls → on.object ≡ one.name → HasCalls calls one → one.space.object.enabled ≡ true → MayWakeFor message →
    Goes calls calls one (lines_of_calls key (wake_call on message)) one.space
message-woken one key on (Message.PageFault addr write wp tid) below own told enabled wakes = stays one one.space refl told
message-woken {calls = calls} one key on (Message.Remap from to len) below own told enabled wakes =
    subst (λ n. Goes calls calls one (lines_of_calls key (wake_range on from n)) one.space) (length-of from len) (range-woken one key on from (from + len) below own told enabled wakes)
  where
    length-of : (from len : ℕ) → from + len - from ≡ len
    length-of from len = omega (arith)
message-woken one key on (Message.Remove start end) below own told enabled wakes = range-woken one key on start end below own told enabled wakes
message-woken one key on (Message.Unmap start end) below own told enabled wakes = range-woken one key on start end below own told enabled wakes

-- What the model reads

-- the model's next event is read
seen-event : (calls : List Pending) (space : Space) (events : List Noted) (noted : Noted) (rest : List Noted) → space.object.faults ≡ [] → unread_of (map open_of calls) ≡ noted ∷ rest →
    with_unread (requeued space space.object.faults events) rest ≡ record (seen calls space) { object = message_read (seen calls space).object }
seen-event calls space events noted rest none unread = rw (none, unread) refl

-- of the oldest call, by what it has left
event-by : (one : Counterparts) (key : ℕ) (on : Descriptor) (oldest : Pending) (modelled : List Noted) (unread : List Telling) (pending : List Pending) → AreBelow key (left_with oldest unread modelled ∷ pending) → MayRead one on → HasCalls (left_with oldest unread modelled ∷ pending) one →
    Writes (left_with oldest unread modelled ∷ pending) one (event_written on key (map open_of (left_with oldest unread modelled ∷ pending)))
    (record (seen (left_with oldest unread modelled ∷ pending) one.space) { object = message_read (seen (left_with oldest unread modelled ∷ pending) one.space).object })
event-by one key on oldest [] unread pending below may told = absurd below.2.paired
event-by one key on oldest (noted ∷ []) [] pending below may told = absurd below.2.paired
event-by one key on oldest (noted ∷ more ∷ rest) [] pending below may told = absurd below.2.paired
event-by one key on oldest (noted ∷ []) (first ∷ unread) pending below may told =
    let all = left_with oldest (first ∷ unread) (noted ∷ []) ∷ pending in
    let are = are-telling key all below in
    let messages = messages_in (first ∷ unread) in
    let after = key + length messages in
    let reads = events-read one key on oldest (first ∷ unread) (noted ∷ []) pending below.0 below.3 are may told in
    let over : AreTelling (left_with oldest [] (noted ∷ []) ∷ pending) = (below.1, record { ranks = refl; events = tt; some = below.2.tells.some }, are.2) in
    let returns = oldest-returns reads.1.last oldest (noted ∷ []) pending over below.2.ends reads.1.told in
    let middle = requeued one.space one.space.object.faults reads.0 in
    let ended = then-logged one (lines_of_calls key (read_calls on messages)) (ends oldest.key (open_of oldest).out ∷ []) middle middle reads.1 (subst (Goes _ pending reads.1.last _) reads.1.leaves returns) in
    let later = still-below key after pending (omega (arith)) below.3 in
    let enabled = ap (λ (s : Space). s.object.enabled) ended.leaves ∙ may.enabled in
    let wakes = message-woken ended.last after on first.message later (may.own ∙ sym ended.name) ended.told enabled below.2.wakes.0 in
    record {
      after = pending;
      middle = middle;
      goes = then-logged one (lines_of_calls key (read_calls on messages) ++ ends oldest.key (open_of oldest).out ∷ []) (lines_of_calls after (wake_call on first.message)) middle middle ended (subst (Goes pending pending ended.last _) ended.leaves wakes);
      same = seen-event all one.space reads.0 noted (unread_of (map open_of pending)) may.none refl;
      begun = refl;
      below = still-below key (after + length (wake_call on first.message)) pending (omega (arith)) below.3;
    }
event-by one key on oldest (noted ∷ more ∷ rest) (first ∷ unread) pending below may told =
    let all = left_with oldest (first ∷ unread) (noted ∷ more ∷ rest) ∷ pending in
    let less = left_with oldest unread (more ∷ rest) in
    let are = are-telling key all below in
    let after = key + 1 in
    let reads = event-read one key on oldest first unread (noted ∷ more ∷ rest) (more ∷ rest) pending (apart key all below) are may told in
    let middle = requeued one.space one.space.object.faults reads.0 in
    let good : IsGood less = record { tells = tells-less oldest first unread (noted ∷ more ∷ rest) (more ∷ rest) below.2.tells; wakes = below.2.wakes.1; paired = below.2.paired; kinds = below.2.kinds.1; keeps = below.2.keeps; ends = below.2.ends } in
    let later : AreBelow key (less ∷ pending) = (below.0, below.1, good, below.3) in
    let enabled = ap (λ (s : Space). s.object.enabled) reads.1.leaves ∙ may.enabled in
    let wakes = message-woken reads.1.last after on first.message (still-below key after (less ∷ pending) (omega (arith)) later) (may.own ∙ sym reads.1.name) reads.1.told enabled below.2.wakes.0 in
    record {
      after = less ∷ pending;
      middle = middle;
      goes = then-logged one (lines_of_call key (read_call on first.message)) (lines_of_calls after (wake_call on first.message)) middle middle reads.1 (subst (Goes (less ∷ pending) (less ∷ pending) reads.1.last _) reads.1.leaves wakes);
      same = seen-event all one.space reads.0 noted (more ∷ rest ++ unread_of (map open_of pending)) may.none refl;
      begun = refl;
      below = still-below key (after + length (wake_call on first.message)) (less ∷ pending) (omega (arith)) later;
    }

-- read(2) of a page fault

-- the message of a fault
abbrev pub IsFault : Message → Type 0
IsFault (Message.PageFault addr write wp tid) = Unit {0}
IsFault message = ⊥

pub fault-by : (object : Object) (fault : Fault) (message : Message) → is_message_of object fault (message_of message) ≡ true → IsFault message
fault-by object fault (Message.PageFault addr write wp tid) is = tt
fault-by object fault (Message.Remap from to len) is = absurd (false≢true is)
fault-by object fault (Message.Remove start end) is = absurd (false≢true is)
fault-by object fault (Message.Unmap start end) is = absurd (false≢true is)

pub is-fault : (one : Counterparts) (noted : Noted) (rest : List Noted) → one.space.object.faults ≡ noted ∷ rest → IsFault noted.message
is-fault one noted rest first =
    let unread : AreUnread one.kernel.faults one.name one.object (noted ∷ rest) = subst (AreUnread one.kernel.faults one.name one.object) first one.agree.unread in
    fault-by one.object unread.on_their_way.0 noted.message unread.on_their_way.1.told

fault-written : (on : Descriptor) (key : ℕ) (begun : List Open) (message : Message) → IsFault message → message_written on key begun message ≡ calls_written key begun (read_call on message ∷ [])
fault-written on key begun (Message.PageFault addr write wp tid) is = refl
fault-written on key begun (Message.Remap from to len) is = absurd is
fault-written on key begun (Message.Remove start end) is = absurd is
fault-written on key begun (Message.Unmap start end) is = absurd is

-- a fault is read, and the events stay
seen-fault : (calls : List Pending) (space : Space) (noted : Noted) (rest : List Noted) → space.object.faults ≡ noted ∷ rest →
    seen calls (record space { object = message_read space.object }) ≡ record (seen calls space) { object = message_read (seen calls space).object }
seen-fault calls space noted rest first = rw first refl

fault-logged : {calls : List Pending} (one : Counterparts) (key : ℕ) (on : Descriptor) (noted : Noted) (rest : List Noted) → AreBelow key calls → on.object ≡ one.name → HasCalls calls one → one.space.object.enabled ≡ true → one.space.object.faults ≡ noted ∷ rest →
    Writes calls one (read_written on key (map open_of calls) (Some noted)) (record (seen calls one.space) { object = message_read (seen calls one.space).object })
fault-logged {calls = calls} one key on noted rest below own told enabled first =
    let begun = map open_of calls in
    let space = record one.space { object = message_read one.space.object } in
    subst (λ w. Writes calls one w (record (seen calls one.space) { object = message_read (seen calls one.space).object })) (sym (fault-written on key begun noted.message (is-fault one noted rest first)))
    (record {
      after = calls;
      middle = space;
      goes = read-logged one key on noted rest below own told enabled first;
      same = seen-fault calls one.space noted rest first;
      begun = refl;
      below = still-below key (key + 1) calls (omega (arith)) below;
    })

-- the model's next event is one of the oldest call, which tells no page fault
event-written : (on : Descriptor) (key : ℕ) (begun : List Open) (message : Message) → IsEvent message → message_written on key begun message ≡ event_written on key begun
event-written on key begun (Message.PageFault addr write wp tid) is = absurd is
event-written on key begun (Message.Remap from to len) is = refl
event-written on key begun (Message.Remove start end) is = refl
event-written on key begun (Message.Unmap start end) is = refl

-- it is the first that the oldest has left
first-kind : (modelled more : List Noted) (unread : List Telling) (noted : Noted) (rest : List Noted) → ArePaired modelled unread → AreAllEvents modelled → modelled ++ more ≡ noted ∷ rest → IsEvent noted.message
first-kind [] more unread noted rest paired kinds is = absurd paired
first-kind (first ∷ modelled) more unread noted rest paired kinds is = subst (λ (n : Noted). IsEvent n.message) (same-head first noted (modelled ++ more) rest is) kinds.0

event-logged : {calls : List Pending} (one : Counterparts) (key : ℕ) (on : Descriptor) (noted : Noted) (rest : List Noted) → AreBelow key calls → on.object ≡ one.name → HasCalls calls one → one.space.object.enabled ≡ true → one.space.object.faults ≡ [] →
    unread_of (map open_of calls) ≡ noted ∷ rest → Writes calls one (read_written on key (map open_of calls) (Some noted)) (record (seen calls one.space) { object = message_read (seen calls one.space).object })
event-logged {calls = []} one key on noted rest below own told enabled none events = absurd (false≢true (sym (ap is_empty events)))
event-logged {calls = oldest ∷ pending} one key on noted rest below own told enabled none events =
    let calls = oldest ∷ pending in
    let event = first-kind oldest.modelled (unread_of (map open_of pending)) oldest.unread noted rest below.2.paired below.2.kinds events in
    subst (λ w. Writes calls one w (record (seen calls one.space) { object = message_read (seen calls one.space).object })) (sym (event-written on key (map open_of calls) noted.message event))
    (event-by one key on oldest oldest.modelled oldest.unread pending below (record { own = own; enabled = enabled; none = none }) told)

-- the next message of both queues
pub message-logged : {calls : List Pending} (one : Counterparts) (key : ℕ) (on : Descriptor) (noted : Noted) (faults events : List Noted) → AreBelow key calls → on.object ≡ one.name → HasCalls calls one → one.space.object.enabled ≡ true →
    one.space.object.faults ≡ faults → unread_of (map open_of calls) ≡ events → next_of faults events ≡ Some noted → Writes calls one (read_written on key (map open_of calls) (Some noted)) (record (seen calls one.space) { object = message_read (seen calls one.space).object })
message-logged one key on noted [] [] below own told enabled faults events next = absurd (none-some noted next)
message-logged one key on noted [] (event ∷ events) below own told enabled faults is next = event-logged one key on noted events below own told enabled faults (is ∙ ap (λ n. n ∷ events) (same_Some event noted next))
message-logged one key on noted (fault ∷ faults) events below own told enabled is none next = fault-logged one key on noted faults below own told enabled (is ∙ ap (λ n. n ∷ faults) (same_Some fault noted next))

-- A map call begins

-- it is the next of a guest
abbrev pub map-call : (calls : List Pending) (one : Counterparts) (key : ℕ) → list_any (λ (one : Pending). eqb one.key key) calls ≡ false → HasCalls calls one → one.space.object.enabled ≡ true → has_events one.space.object ≡ true → MapCall
map-call calls one key none told enabled asked =
    record {
      one = one;
      key = key;
      is_new = ap (λ k. is_new_call k key) told ∙ (λ i. not (apart-numbers key calls none i) && not (apart-events one.name key calls none i) && true);
      enabled = enabled;
      asked = asked;
    }

-- the lines of one that begins, and of one that returns at once
abbrev begin_line : (home key : ℕ) → Call → Event
begin_line home key call = begins (record { key = key; space = home; thread = 0; program = 0; call = call; last = false })

-- one that has nothing to tell returns at once
pub at-once-goes : {calls : List Pending} (one : Counterparts) (home key : ℕ) (ended : Ended) (after : Kernel) (space : Space) → AreBelow key calls → HasCalls calls one →
    takes one.kernel (record { key = key; space = home; thread = 0; program = 0; call = ended.call; last = false }) ended.out ≡ Some after → is_still ended.out ≡ true → Some ended.out ≡ effect_at_end ended.out.answer ended.out → telling after ≡ telling one.kernel →
    ((moves : Bool) → AreExpected moves one.kernel → AreExpected moves after) → Agree space after one.name one.object → Goes calls calls one (begin_line home key ended.call ∷ ends key ended.out ∷ []) space
at-once-goes {calls = calls} one home key ended after space below told taken still out same differs agree =
    let now = same ∙ told in
    record {
      steps = steps_in home key ended;
      last = record { space = space; kernel = returned after key; name = one.name; object = one.object; agree = agree-returned calls space after key one.name one.object below now agree };
      whole = refl;
      leads = leads-in calls one.kernel after home key one.name ended below taken still out (ap (λ k. may_return k key) now ∙ others-return one.name key calls (apart key calls below));
      leaves = refl;
      name = refl;
      home = refl;
      told = told-returned calls after key one.name below now;
      differs = λ moves none. differs moves;
    }

-- What a call leaves that unmaps or moves pages

-- the kernel, by what it has told, with these pages, ranges and differences
abbrev pub has_told : Kernel → (key name : ℕ) → List Message → (ℕ → ℕ → Option Page) → List Registration → List Difference → Kernel
has_told kernel key name messages pages ranges differs = record (with_calling (with_messages kernel key name messages) key) { pages = pages; ranges = ranges; differs = differs }

-- such a call of a guest, what a kernel answers, what it has then to tell, and what the model has
pub record Calling (calls : List Pending) : Type 0 where
  pub one : Counterparts
  pub key : ℕ
  pub below : AreBelow key calls
  pub told : HasCalls calls one
  pub call : Call
  pub keeps : (space : Space) → without_cleared space call ≡ space
  pub answer : Answer
  pub still : is_still (record { answer = answer; messages = []; runs = [] }) ≡ true
  pub out : Some (record { answer = answer; messages = []; runs = [] }) ≡ effect_at_end answer (record { answer = answer; messages = []; runs = [] })
  pub after : Kernel
  pub object : Object
  pub space : Space
  pub taken : takes one.kernel (record { key = key; space = one.object.space; thread = 0; program = 0; call = call; last = false }) (record { answer = answer; messages = []; runs = [] }) ≡ Some after
  pub agree : Agree space after one.name object
  pub messages : List Message
  pub modelled : List Noted
  pub pages : ℕ → ℕ → Option Page
  pub ranges : List Registration
  pub differs : List Difference
  pub is : after ≡ has_told one.kernel key one.name messages pages ranges differs
  pub expected : (moves : Bool) → (moves ≡ false → is_mremap (begin_line one.object.space key call) ≡ false) → AreExpected moves one.kernel → list_any (λ difference. not (is_expected moves difference)) differs ≡ false
  pub events : AreEvents messages
  pub kinds : AreAllEvents modelled
  pub both : is_empty messages ≡ is_empty modelled
  pub paired : is_empty messages ≡ false → ArePaired modelled (ranked (length one.kernel.told) messages)
  pub wakes : MayWakeAll messages

after-home : {calls : List Pending} (it : Calling calls) → it.object.space ≡ it.one.object.space
after-home it = ap (λ (o : Object). o.space) (same_Some it.object it.one.object (sym it.agree.named ∙ ap (λ (k : Kernel). k.objects it.one.name) it.is ∙ it.one.agree.named))

one-line : (b : Bool) → (b || false) ≡ b
one-line true = refl
one-line false = refl

after-differs : {calls : List Pending} (it : Calling calls) (more : List Event) → Differs (begin_line it.one.object.space it.key it.call ∷ more) it.one.kernel it.after
after-differs it more moves none late =
    subst (AreExpected moves) (sym it.is) (it.expected moves (λ m. or_first (is_mremap (begin_line it.one.object.space it.key it.call)) (list_any is_mremap more) (none m)) late)

-- it is under way
abbrev pub pending_of : {calls : List Pending} → Calling calls → Pending
pending_of it =
    record { key = it.key; home = it.one.object.space; call = it.call; answer = it.answer; all = it.messages; unread = ranked (length it.one.kernel.told) it.messages; modelled = it.modelled }

abbrev ended_of : {calls : List Pending} → Calling calls → Ended
ended_of it = record { call = it.call; out = record { answer = it.answer; messages = []; runs = [] } }

numbers-append : (calls : List Pending) (last : Pending) → numbers_of calls ++ last.key ∷ [] ≡ numbers_of (calls ++ last ∷ [])
numbers-append calls last = sym (map-append (λ (one : Pending). one.key) calls (last ∷ []))

told-append : (name : ℕ) (calls : List Pending) (last : Pending) → told_all name calls ++ tellers last.key name last.all ≡ told_all name (calls ++ last ∷ [])
told-append name [] last = sym (append-nil (tellers last.key name last.all))
told-append name (one ∷ calls) last = append_assoc (tellers one.key name one.all) (told_all name calls) (tellers last.key name last.all) ∙ ap (λ l. tellers one.key name one.all ++ l) (told-append name calls last)

events-append : (name : ℕ) (calls : List Pending) (last : Pending) → events_all name calls ++ events_of name last ≡ events_all name (calls ++ last ∷ [])
events-append name [] last = sym (append-nil (events_of name last))
events-append name (one ∷ calls) last = append_assoc (events_of name one) (events_all name calls) (events_of name last) ∙ ap (λ l. events_of name one ++ l) (events-append name calls last)

told-after : {calls : List Pending} (it : Calling calls) → telling it.after ≡ telling_of it.one.name (calls ++ pending_of it ∷ [])
told-after {calls = calls} it =
    let name = it.one.name in
    let last = pending_of it in
    ap telling it.is
    ∙ (λ i. record (it.told i) { calls = (it.told i).calls ++ last.key ∷ []; told = (it.told i).told ++ tellers last.key name last.all; events = (it.told i).events ++ events_of name last })
    ∙ (λ i. record (telling_of name calls) { calls = numbers-append calls last i; told = told-append name calls last i; events = events-append name calls last i })

-- it has nothing to tell, and returns
quiet-after : {calls : List Pending} (it : Calling calls) → it.messages ≡ [] → telling it.after ≡ record (telling_of it.one.name calls) { calls = numbers_of calls ++ it.key ∷ [] }
quiet-after {calls = calls} it none =
    let name = it.one.name in
    ap telling it.is
    ∙ (λ i. record (it.told i) {
      calls = (it.told i).calls ++ it.key ∷ [];
      told = (it.told i).told ++ tellers it.key name (none i);
      events = (it.told i).events ++ untold_by it.key name (ranked (length it.one.kernel.told) (none i));
    })
    ∙ (λ i. record (telling_of name calls) { calls = numbers_of calls ++ it.key ∷ []; told = append-nil (told_all name calls) i; events = append-nil (events_all name calls) i })

without-last : (calls : List Pending) (name key : ℕ) → list_any (λ (one : Pending). eqb one.key key) calls ≡ false → telling (returned (record (telling_of name calls) { calls = numbers_of calls ++ key ∷ [] }) key) ≡ telling_of name calls
without-last calls name key none =
    let numbers : numbers_without (numbers_of calls ++ key ∷ []) key ≡ numbers_of calls =
    filter-append (λ other. not (eqb other key)) (numbers_of calls) (key ∷ [])
    ∙ (λ i. all-kept (λ other. eqb other key) (numbers_of calls) (apart-numbers key calls none) i ++ cond (not (eqb-self key i)) (key ∷ []) [])
    ∙ append-nil (numbers_of calls) in
    λ i. record (telling_of name calls) { calls = numbers i; told = all-kept (λ (told : Told). eqb told.key key) (told_all name calls) (apart-told name key calls none) i }

unread-before : (name key : ℕ) (calls : List Pending) (events : List Noted) → AreBelow key calls → AreUntold name (record (telling_of name calls) { calls = numbers_of calls ++ key ∷ [] }) events → texts_all calls ≡ map (λ (noted : Noted). message_of noted.message) events
unread-before name key calls events below are =
    let has = messages_of (telling_of name calls) in
    let none : has key ≡ [] = ap (λ l. map (λ (one : Untold). one.message) l ++ []) (filtered-none (λ (one : Untold). eqb one.key key) (events_all name calls) (apart-events name key calls (apart key calls below))) in
    sym (all-messages name calls (are-telling key calls below))
    ∙ sym (flat_map-append has (numbers_of calls) (key ∷ []) ∙ ap (λ l. flat_map has (numbers_of calls) ++ l) (flat_map-cons has key [] ∙ ap (λ l. l ++ []) none) ∙ append-nil (flat_map has (numbers_of calls)))
    ∙ are.same

quiet-goes : {calls : List Pending} (it : Calling calls) → it.messages ≡ [] → Goes calls calls it.one (begin_line it.one.object.space it.key it.call ∷ ends it.key (ended_of it).out ∷ []) it.space
quiet-goes {calls = calls} it none =
    let key = it.key in
    let name = it.one.name in
    let out = apart key calls it.below in
    let quiet = quiet-after it none in
    let told : telling (returned it.after key) ≡ telling_of name calls = ap (λ k. telling (returned k key)) quiet ∙ without-last calls name key out in
    let agree = it.agree in
    let unread = unread-before name key calls it.space.object.events it.below (subst (λ k. AreUntold name k it.space.object.events) quiet agree.untold) in
    record {
      steps = steps_in it.one.object.space key (ended_of it);
      last = record {
        space = it.space;
        kernel = returned it.after key;
        name = name;
        object = it.object;
        agree = record {
          sound = agree.sound;
          named = agree.named;
          features = agree.features;
          pages = agree.pages;
          unread = agree.unread;
          untold = subst (λ k. AreUntold name k it.space.object.events) (sym told) (untold-of name calls it.space.object.events (are-telling key calls it.below) unread);
          alone = agree.alone;
          ranged = agree.ranged;
        };
      };
      whole = refl;
      leads = leads-in calls it.one.kernel it.after it.one.object.space key name (ended_of it) it.below it.taken it.still it.out (ap (λ k. may_return k key) quiet ∙ others-return name key calls out);
      leaves = refl;
      name = refl;
      home = after-home it;
      told = told;
      differs = after-differs it (ends key (ended_of it).out ∷ []);
    }

pub begun-after : (calls : List Pending) (last : Pending) → begun_calls calls ++ over_of last ∷ [] ≡ begun_calls (calls ++ last ∷ [])
begun-after [] last = refl
begun-after (one ∷ calls) last = ap (λ l. over_of one ∷ l) (begun-after calls last)

told-goes : {calls : List Pending} (it : Calling calls) → Goes calls (calls ++ pending_of it ∷ []) it.one (begin_line it.one.object.space it.key it.call ∷ []) it.space
told-goes {calls = calls} it =
    let made : Made = record { key = it.key; space = it.one.object.space; thread = 0; program = 0; call = it.call; last = false } in
    let ended = ended_of it in
    let begun : runs.Begun = record { made = made; out = None; left = 0 } in
    let over : runs.Begun = record { made = made; out = Some ended.out; left = 0 } in
    let none = apart it.key calls it.below in
    record {
      steps = runs.Step.line (begins made) ∷ runs.Step.effect it.key ended.out ∷ [];
      last = record { space = it.space; kernel = it.after; name = it.one.name; object = it.object; agree = it.agree };
      whole = refl;
      leads = (
        record { kernel = it.one.kernel; begun = begun_calls calls ++ begun ∷ [] },
        (none-begun it.key calls none, refl),
        (
          record { kernel = it.after; begun = begun_calls calls ++ over ∷ [] },
          takes-effect calls it.one.kernel it.after made ended.out none it.taken,
          ap (λ (b : List runs.Begun). record { kernel = it.after; begun = b }) (begun-after calls (pending_of it)),
        ),
      );
      leaves = refl;
      name = refl;
      home = after-home it;
      told = told-after it;
      differs = after-differs it [];
    }

-- either way
pub call-writes : {calls : List Pending} (it : Calling calls) → Writes calls it.one (map_written it.one.object.space it.key (map open_of calls) it.modelled it.messages it.answer it.call) (with_unread it.space (unread_of (map open_of calls) ++ it.modelled))
call-writes {calls = calls} it = by it.messages it.modelled refl refl it.both where
  new : List Noted → Space
  new modelled = with_unread it.space (unread_of (map open_of calls) ++ modelled)

  by : (messages : List Message) (modelled : List Noted) → it.messages ≡ messages → it.modelled ≡ modelled → is_empty messages ≡ is_empty modelled → Writes calls it.one (map_written it.one.object.space it.key (map open_of calls) modelled messages it.answer it.call) (new modelled)
  by [] [] none nothing both =
      record {
        after = calls;
        middle = it.space;
        goes = quiet-goes it none;
        same = ap (with_unread it.space) (sym (append-nil (unread_of (map open_of calls))));
        begun = refl;
        below = still-below it.key (it.key + 1) calls (omega (arith)) it.below;
      }
  by [] (noted ∷ modelled) none some both = absurd (false≢true (sym both))
  by (message ∷ messages) [] some none both = absurd (false≢true both)
  by (message ∷ messages) (noted ∷ modelled) says notes both =
      let last = pending_of it in
      let rank = length it.one.kernel.told in
      let tells : Tells last = record { ranks = are-ranked rank it.messages; events = subst AreEvents (sym (ranked-messages rank it.messages)) it.events; some = ap is_empty says } in
      let good : IsGood last = record { tells = tells; wakes = subst MayWakeAll (sym (ranked-messages rank it.messages)) it.wakes; paired = it.paired (ap is_empty says); kinds = it.kinds; keeps = it.keeps; ends = it.out } in
      record {
        after = calls ++ last ∷ [];
        middle = it.space;
        goes = told-goes it;
        same = ap (with_unread it.space) (ap unread_of (map-append open_of calls (last ∷ [])) ∙ unread-last calls last ∙ ap (λ l. unread_of (map open_of calls) ++ l) notes);
        begun = (λ i. map open_of calls ++ record (open_of last) { unread = sym notes i; told = (sym says ∙ sym (ranked-messages rank it.messages)) i } ∷ []) ∙ sym (map-append open_of calls (last ∷ []));
        below = below-last it.key calls last refl good it.below;
      }

-- What a range's UFFDIO_WAKE needs

-- a registered page lies where the model may map pages
pub mapped-page : (space : Space) (first count : ℕ) → IsSoundSpace space → IsMapping space.host.areas → is_watched space.object first count ≡ true → (LOW_PAGE < first + count) × (0 < count)
mapped-page space first count sound mapping watched =
    let found = some-below (λ i. is_registered space.object (first + i)) count watched in
    let page = mapping.pages (first + found.0) (sound.mapped (first + found.0) found.2) in
    below first found.0 count page.0 found.1
  where
    below : (first i count : ℕ) → LOW_PAGE ≤ first + i → i < count → (LOW_PAGE < first + count) × (0 < count)
    below first i count low less = (omega (arith, low, less), omega (arith, less))

pub may-wake : (first count : ℕ) → LOW_PAGE < first + count → 0 < count → first + count ≤ HIGH_PAGE → MayWake (first * 4096) ((first + count) * 4096)
may-wake first count low any high =
    whole (max (first * 4096) LOW) ((first + count) * 4096 - first * 4096 - (LOW - first * 4096)) (starts first) (ends first count) (some first count low any) (fits first count low high)
  where
    starts : (first : ℕ) → max (first * 4096) LOW % 4096 ≡ 0
    starts first = omega (arith)

    ends : (first count : ℕ) → ((first + count) * 4096 - first * 4096 - (LOW - first * 4096)) % 4096 ≡ 0
    ends first count = omega (arith)

    some : (first count : ℕ) → LOW_PAGE < first + count → 0 < count → 0 < (first + count) * 4096 - first * 4096 - (LOW - first * 4096)
    some first count low any = omega (arith, low, any)

    fits : (first count : ℕ) → LOW_PAGE < first + count → first + count ≤ HIGH_PAGE → max (first * 4096) LOW + ((first + count) * 4096 - first * 4096 - (LOW - first * 4096)) ≤ 2 ^ 56
    fits first count low high = omega (arith, low, high)

    whole : (start len : ℕ) → start % 4096 ≡ 0 → len % 4096 ≡ 0 → 0 < len → start + len ≤ 2 ^ 56 → is_range start len ≡ true
    whole start len s l n e = grind (arith, nat_tests, s, l, n, e)

-- A call by its reply

abbrev begun_call : Counterparts → (key : ℕ) → Call → Made
begun_call one key call = record { key = key; space = one.object.space; thread = 0; program = 0; call = call; last = false }

abbrev answers_so : Answer → Outcome
answers_so answer = record { answer = answer; messages = []; runs = [] }

-- the model's space after it, by that of a kernel, which may have other events
pub seen-called : (space : Space) (unread : List Noted) (cpu : ℕ) (command : Command) (reply : Reply) (messages : List Message) →
    modes_after (with_unread space unread).object command reply ≡ record (modes_after space.object command reply) { events = unread } → call_messages (with_unread space unread).object command reply ≡ call_messages space.object command reply →
    with_unread (record (called_as space cpu command reply) { object = all_queued (modes_after space.object command reply) messages cpu }) (unread ++ noted_by cpu (call_messages space.object command reply))
    ≡ called_as (with_unread space unread) cpu command reply
seen-called space unread cpu command reply messages modes says =
    let object = modes_after space.object command reply in
    let own = call_messages space.object command reply in
    let after = called_as space cpu command reply in
    ap (λ o. with_unread (record after { object = o }) (unread ++ noted_by cpu own)) (queued-all object messages cpu)
    ∙ ap (λ o. record after { object = o }) (sym ((λ i. all_queued (modes i) (says i) cpu) ∙ queued-all (record object { events = unread }) own cpu))

-- a call that is done, as the log has it
pub called-writes : {calls : List Pending} (it : Calling calls) (cpu : ℕ) (command : Command) (reply : Reply) → reply_of (memory it.one.space.host) command ≡ reply →
    it.space ≡ record (called_as it.one.space cpu command reply) { object = all_queued (modes_after it.one.space.object command reply) (told_by it.one.space.object command reply) cpu } →
    it.modelled ≡ noted_by cpu (call_messages it.one.space.object command reply) → it.messages ≡ told_by it.one.space.object command reply → it.answer ≡ answer_of_reply reply →
    modes_after (seen calls it.one.space).object command reply ≡ record (modes_after it.one.space.object command reply) { events = unread_of (map open_of calls) } →
    call_messages (seen calls it.one.space).object command reply ≡ call_messages it.one.space.object command reply → told_by (seen calls it.one.space).object command reply ≡ told_by it.one.space.object command reply →
    Writes calls it.one (issue_written it.one.object.space it.key (map open_of calls) (seen calls it.one.space) cpu command (Some it.call)) (called (seen calls it.one.space) cpu command)
called-writes {calls = calls} it cpu command reply is space notes says answers modes model own =
    let unread = unread_of (map open_of calls) in
    let home = it.one.object.space in
    let begun = map open_of calls in
    let seen_space = seen calls it.one.space in
    subst (λ r. Writes calls it.one (reply_written home it.key begun seen_space.object cpu command it.call r) (called_as seen_space cpu command r)) (sym is)
    (subst (λ w. Writes calls it.one w (called_as seen_space cpu command reply)) (λ i. map_written home it.key begun ((notes ∙ ap (noted_by cpu) (sym model)) i) ((says ∙ sym own) i) (answers i) it.call)
    (subst (Writes calls it.one (map_written home it.key begun it.modelled it.messages it.answer it.call))
    ((λ i. with_unread (space i) (unread ++ notes i)) ∙ seen-called it.one.space unread cpu command reply (told_by it.one.space.object command reply) modes model) (call-writes it)))

-- The refused ones

pub refused-writes : {calls : List Pending} (one : Counterparts) (key cpu : ℕ) (command : Command) (call : Call) (errno : Errno) (after : Kernel) → AreBelow key calls → HasCalls calls one → takes one.kernel (begun_call one key call) (answers_so (failed errno)) ≡ Some after → telling after ≡ telling one.kernel →
    ((moves : Bool) → AreExpected moves one.kernel → AreExpected moves after) → Agree one.space after one.name one.object → reply_of (memory one.space.host) command ≡ Reply.Refused errno →
    call_messages (seen calls one.space).object command (Reply.Refused errno) ≡ [] → called_as (seen calls one.space) cpu command (Reply.Refused errno) ≡ seen calls one.space →
    Writes calls one (issue_written one.object.space key (map open_of calls) (seen calls one.space) cpu command (Some call)) (called (seen calls one.space) cpu command)
refused-writes {calls = calls} one key cpu command call errno after below told taken same differs agree is none kept =
    let home = one.object.space in
    let begun = map open_of calls in
    let space = seen calls one.space in
    subst (λ r. Writes calls one (reply_written home key begun space.object cpu command call r) (called_as space cpu command r)) (sym is)
    (subst (Writes calls one (reply_written home key begun space.object cpu command call (Reply.Refused errno))) (sym kept)
    (subst (λ m. Writes calls one (map_written home key begun (noted_by cpu m) (told_by space.object command (Reply.Refused errno)) (failed errno) call) space) (sym none)
    (record {
      after = calls;
      middle = one.space;
      goes = at-once-goes one home key (record { call = call; out = answers_so (failed errno) }) after one.space below told taken refl refl same differs agree;
      same = refl;
      begun = refl;
      below = still-below key (key + 1) calls (omega (arith)) below;
    })))

-- a reply is the first refusal that applies, or the answer
pub by-refusal : (P : Reply → Type 0) (refusals : List (Bool × Errno)) (answer : Reply) → ((errno : Errno) → P (Reply.Refused errno)) → P answer → P (first_refusal refusals answer)
by-refusal P [] answer refused done = done
by-refusal P (refusal ∷ refusals) answer refused done = by-first P refusal.0 refusal.1 (first_refusal refusals answer) refused (by-refusal P refusals answer refused done) where
  by-first : (P : Reply → Type 0) (test : Bool) (errno : Errno) (rest : Reply) → ((errno : Errno) → P (Reply.Refused errno)) → P rest → P (cond test (Reply.Refused errno) rest)
  by-first P true errno rest refused done = refused errno
  by-first P false errno rest refused done = done

-- One UNMAP, if there is one

unmap-events : (w : Bool) (start stop : ℕ) → AreEvents (message_if w (Message.Unmap start stop))
unmap-events true start stop = (refl, tt)
unmap-events false start stop = tt

unmap-kinds : (cpu : ℕ) (w : Bool) (start stop : ℕ) → AreAllEvents (noted_by cpu (message_if w (Message.Unmap start stop)))
unmap-kinds cpu true start stop = (tt, tt)
unmap-kinds cpu false start stop = tt

unmap-both : (cpu : ℕ) (w : Bool) (start stop : ℕ) → is_empty (message_if w (Message.Unmap start stop)) ≡ is_empty (noted_by cpu (message_if w (Message.Unmap start stop)))
unmap-both cpu true start stop = refl
unmap-both cpu false start stop = refl

unmap-paired : (cpu rank : ℕ) (w : Bool) (start stop : ℕ) → is_empty (message_if w (Message.Unmap start stop)) ≡ false → ArePaired (noted_by cpu (message_if w (Message.Unmap start stop))) (ranked rank (message_if w (Message.Unmap start stop)))
unmap-paired cpu rank true start stop some = tt
unmap-paired cpu rank false start stop some = absurd (false≢true (sym some))

unmap-wakes : (w : Bool) (start stop : ℕ) → (w ≡ true → MayWake start stop) → MayWakeAll (message_if w (Message.Unmap start stop))
unmap-wakes true start stop may = (may refl, tt)
unmap-wakes false start stop may = tt

-- a range of whole pages of the model's address space, where one is registered
pub range-wakes : (space : Space) (first count start stop : ℕ) → IsSoundSpace space → IsMapping space.host.areas → first + count ≤ HIGH_PAGE → start ≡ first * 4096 → stop ≡ (first + count) * 4096 → is_watched space.object first count ≡ true → MayWake start stop
range-wakes space first count start stop sound mapping high low end watched =
    let within = mapped-page space first count sound mapping watched in
    subst (λ n. MayWake n stop) (sym low) (subst (MayWake (first * 4096)) (sym end) (may-wake first count within.0 within.1 high))

-- a call that unmaps a range
record Unmapping (calls : List Pending) : Type 0 where
  one : Counterparts
  key : ℕ
  cpu : ℕ
  below : AreBelow key calls
  told : HasCalls calls one
  enabled : one.space.object.enabled ≡ true
  asked : has_events one.space.object ≡ true
  mapping : IsMapping one.space.host.areas
  start : ℕ
  len : ℕ
  whole : start % 4096 ≡ 0
  high : start + 4096 * pages_of len ≤ HIGH
  call : Call
  keeps : (space : Space) → without_cleared space call ≡ space
  quiet : is_mremap (begin_line one.object.space key call) ≡ false
  answer : Answer
  still : is_still (answers_so answer) ≡ true
  out : Some (answers_so answer) ≡ effect_at_end answer (answers_so answer)
  after : Kernel
  object : Object
  space : Space
  taken : takes one.kernel (begun_call one key call) (answers_so answer) ≡ Some after
  is : unmapped one.kernel key one.object.space (start / 4096) (pages_of len) ≡ after
  agree : Agree space after one.name object

calling-of : {calls : List Pending} (it : Unmapping calls) → Calling calls
calling-of {calls = calls} it =
    let one = it.one in
    let first = it.start / 4096 in
    let count = pages_of it.len in
    let stop = it.start + 4096 * count in
    let w = is_watched one.space.object first count in
    let call = map-call calls one it.key (apart it.key calls it.below) it.told it.enabled it.asked in
    record {
      one = one;
      key = it.key;
      below = it.below;
      told = it.told;
      call = it.call;
      keeps = it.keeps;
      answer = it.answer;
      still = it.still;
      out = it.out;
      after = it.after;
      object = it.object;
      space = it.space;
      taken = it.taken;
      agree = it.agree;
      messages = message_if w (Message.Unmap it.start stop);
      modelled = noted_by it.cpu (message_if w (Message.Unmap it.start stop));
      pages = set_pages one.kernel.pages one.object.space first count (λ page. None);
      ranges = one.kernel.ranges;
      differs = one.kernel.differs;
      is = sym it.is ∙ ap (λ k. forgotten (with_calling k it.key) one.object.space first count) (unmap-first call first count it.start stop (starts it.start it.whole) (stops it.start count it.whole));
      expected = λ moves none late. late;
      events = unmap-events w it.start stop;
      kinds = unmap-kinds it.cpu w it.start stop;
      both = unmap-both it.cpu w it.start stop;
      paired = unmap-paired it.cpu (length one.kernel.told) w it.start stop;
      wakes = unmap-wakes w it.start stop (λ watched. range-wakes one.space first count it.start stop one.agree.sound it.mapping (below-high it.start count it.whole it.high) (starts it.start it.whole) (stops it.start count it.whole) watched);
    }
  where
    starts : (start : ℕ) → start % 4096 ≡ 0 → start ≡ start / 4096 * 4096
    starts start whole = omega (arith, whole)

    stops : (start count : ℕ) → start % 4096 ≡ 0 → start + 4096 * count ≡ (start / 4096 + count) * 4096
    stops start count whole = omega (arith, whole)

    below-high : (start count : ℕ) → start % 4096 ≡ 0 → start + 4096 * count ≤ HIGH → start / 4096 + count ≤ HIGH_PAGE
    below-high start count whole less = omega (arith, whole, less)

-- what the guest's next command needs
pub record MayCall (calls : List Pending) (one : Counterparts) (key : ℕ) : Type 0 where
  pub below : AreBelow key calls
  pub told : HasCalls calls one
  pub enabled : one.space.object.enabled ≡ true
  pub asked : has_events one.space.object ≡ true
  pub mapping : IsMapping one.space.host.areas

-- it is written so, and both agree then
abbrev pub Issued : (calls : List Pending) → Counterparts → (key cpu : ℕ) → Command → Option Call → Type 0
Issued calls one key cpu command call = Writes calls one (issue_written one.object.space key (map open_of calls) (seen calls one.space) cpu command call) (called (seen calls one.space) cpu command)

-- munmap(2)

munmap-written : {calls : List Pending} (one : Counterparts) (key cpu addr len : ℕ) → MayCall calls one key → munmap_reply addr len ≡ Reply.Done → Issued calls one key cpu (Command.Munmap addr len) (Some (call.Munmap addr len))
unfolding on_space calling-of
munmap-written {calls = calls} one key cpu addr len may is =
    let command = Command.Munmap addr len in
    let took = munmap-taken (map-call calls one key (apart key calls may.below) may.told may.enabled may.asked) cpu addr len is in
    let it : Unmapping calls =
    record {
      one = one;
      key = key;
      cpu = cpu;
      below = may.below;
      told = may.told;
      enabled = may.enabled;
      asked = may.asked;
      mapping = may.mapping;
      start = addr;
      len = len;
      whole = munmap_whole addr len (sym is);
      high = (munmap-done addr len is).1;
      call = call.Munmap addr len;
      keeps = λ space. refl;
      quiet = refl;
      answer = Done;
      still = refl;
      out = refl;
      after = took.kernel;
      object = took.object;
      space = called one.space cpu command;
      taken = took.taken;
      is = allowed-is _ _ took.kernel took.taken;
      agree = took.agree;
    } in
    called-writes (calling-of it) cpu command Reply.Done is (by-reply one.space cpu command Reply.Done is) refl refl refl refl refl refl

munmap-writes : {calls : List Pending} (one : Counterparts) (key cpu addr len : ℕ) → MayCall calls one key → Issued calls one key cpu (Command.Munmap addr len) (Some (call.Munmap addr len))
unfolding on_space
munmap-writes {calls = calls} one key cpu addr len may =
    let command = Command.Munmap addr len in
    by-refusal (λ reply. munmap_reply addr len ≡ reply → Issued calls one key cpu command (Some (call.Munmap addr len)))
    ((not (is_page_start addr), Errno.Einval) ∷ (eqb len 0, Errno.Einval) ∷ (ltb HIGH (addr + rounded len), Errno.Einval) ∷ []) Reply.Done
    (λ errno is. refused-writes one key cpu command (call.Munmap addr len) errno one.kernel may.below may.told (ap (λ b. allowed b one.kernel) (munmap-error addr len errno is)) refl (λ moves h. h) one.agree is refl refl)
    (λ is. munmap-written one key cpu addr len may is) refl

-- mmap(2)

by-place : (P : Reply → Type 0) (found : Option ℕ) → ((errno : Errno) → P (Reply.Refused errno)) → ((start : ℕ) → P (Reply.At start)) → P (at_place found)
by-place P None refused at = refused Errno.Enomem
by-place P (Some start) refused at = at start

pub by-mmap : (memory : Memory) (len : ℕ) (prot : Prot) (place : Place) (P : Reply → Type 0) → ((errno : Errno) → P (Reply.Refused errno)) → ((start : ℕ) → P (Reply.At start)) → P (mmap_reply memory len prot place)
by-mmap memory len prot Place.Anywhere P refused at =
    by-refusal P ((eqb len 0, Errno.Einval) ∷ (ltb (HIGH - LOW) (rounded len), Errno.Enomem) ∷ (ltb (4096 * MAX_PAGES) (mapped_count memory + rounded len), Errno.Enomem) ∷ []) (at_place (free_place (is_mapped memory) (rounded len))) refused
    (by-place P (free_place (is_mapped memory) (rounded len)) refused at)
by-mmap memory len prot (Place.Fixed addr) P refused at =
    by-refusal P ((eqb len 0, Errno.Einval) ∷ (place_refusals addr (rounded len) ++ (exceeds_limit (fill memory addr (rounded len) (zeros_with prot)), Errno.Enomem) ∷ [])) (Reply.At addr) refused (at addr)
by-mmap memory len prot (Place.NoReplace addr) P refused at =
    by-refusal P
    ((eqb len 0, Errno.Einval) ∷ (place_refusals addr (rounded len) ++ (not (is_unmapped memory addr (rounded len)), Errno.Eexist) ∷ (exceeds_limit (fill memory addr (rounded len) (zeros_with prot)), Errno.Enomem) ∷ []))
    (Reply.At addr) refused (at addr)

mmap-written : {calls : List Pending} (one : Counterparts) (key cpu len : ℕ) (prot : Prot) (place : Place) (addr flags start : ℕ) → MayCall calls one key → mmap_reply (memory one.space.host) len prot place ≡ Reply.At start → is_placed addr flags start ≡ true →
    Issued calls one key cpu (Command.Mmap len prot place) (Some (call.Mmap addr len (bits_of prot) flags))
unfolding on_space calling-of
mmap-written {calls = calls} one key cpu len prot place addr flags start may is placed =
    let command = Command.Mmap len prot place in
    let took = mmap-taken (map-call calls one key (apart key calls may.below) may.told may.enabled may.asked) cpu len prot place start addr flags is placed in
    let inside = mmap_inside (memory one.space.host) len prot place start (sym is) in
    let it : Unmapping calls =
    record {
      one = one;
      key = key;
      cpu = cpu;
      below = may.below;
      told = may.told;
      enabled = may.enabled;
      asked = may.asked;
      mapping = may.mapping;
      start = start;
      len = len;
      whole = inside.whole;
      high = inside.high;
      call = call.Mmap addr len (bits_of prot) flags;
      keeps = λ space. refl;
      quiet = refl;
      answer = Value start;
      still = refl;
      out = refl;
      after = took.kernel;
      object = took.object;
      space = called one.space cpu command;
      taken = took.taken;
      is = allowed-is _ _ took.kernel (where-placed (is_placed addr flags start) _ took.kernel placed took.taken);
      agree = took.agree;
    } in
    called-writes (calling-of it) cpu command (Reply.At start) is (by-reply one.space cpu command (Reply.At start) is) refl refl refl refl refl refl
  where
    where-placed : (b : Bool) (rule : Option Kernel) (after : Kernel) → b ≡ true → cond b rule None ≡ Some after → rule ≡ Some after
    where-placed true rule after is taken = taken
    where-placed false rule after is taken = absurd (false≢true is)

mmap-writes : {calls : List Pending} (one : Counterparts) (key cpu len : ℕ) (prot : Prot) (place : Place) (addr flags : ℕ) → MayCall calls one key → ((start : ℕ) → mmap_reply (memory one.space.host) len prot place ≡ Reply.At start → is_placed addr flags start ≡ true) →
    Issued calls one key cpu (Command.Mmap len prot place) (Some (call.Mmap addr len (bits_of prot) flags))
unfolding on_space
mmap-writes {calls = calls} one key cpu len prot place addr flags may placed =
    let command = Command.Mmap len prot place in
    by-mmap (memory one.space.host) len prot place (λ reply. mmap_reply (memory one.space.host) len prot place ≡ reply → Issued calls one key cpu command (Some (call.Mmap addr len (bits_of prot) flags)))
    (λ errno is. refused-writes one key cpu command (call.Mmap addr len (bits_of prot) flags) errno one.kernel may.below may.told refl refl (λ moves h. h) one.agree is refl refl)
    (λ start is. mmap-written one key cpu len prot place addr flags start may is (placed start is)) refl

-- mremap(2)

pub by-remap : (memory : Memory) (addr old_len new_len : ℕ) (may_move : Bool) (fixed : Option ℕ) (P : Reply → Type 0) → ((errno : Errno) → P (Reply.Refused errno)) → ((target : ℕ) → P (Reply.At target)) → P (mremap_reply memory addr old_len new_len may_move fixed)
by-remap memory addr old_len new_len may_move fixed P refused at =
    by-refusal P
    ((not (is_page_start addr) || eqb old_len 0 || eqb new_len 0 || is_bad_target addr (rounded old_len) (rounded new_len) may_move fixed, Errno.Einval) ∷ (not (has_one_prot memory addr (rounded old_len)), Errno.Efault) ∷ [])
    (mremap_target memory addr (rounded old_len) (rounded new_len) may_move fixed) refused (by-target fixed)
  where
    if-refused : (b : Bool) (errno : Errno) (rest : Reply) → P rest → P (cond b (Reply.Refused errno) rest)
    if-refused true errno rest done = refused errno
    if-refused false errno rest done = done

    if-stays : (b may : Bool) (found : Option ℕ) → P (cond b (Reply.At addr) (cond may (at_place found) (Reply.Refused Errno.Enomem)))
    if-stays true may found = at addr
    if-stays false true found = by-place P found refused at
    if-stays false false found = refused Errno.Enomem

    by-target : (fixed : Option ℕ) → P (mremap_target memory addr (rounded old_len) (rounded new_len) may_move fixed)
    by-target None =
        if-refused (ltb (4096 * MAX_PAGES) (mapped_count memory - rounded old_len + rounded new_len)) Errno.Enomem (mremap_place memory addr (rounded old_len) (rounded new_len) may_move)
        (if-stays (leb (rounded new_len) (rounded old_len) || can_grow memory addr (rounded old_len) (rounded new_len)) may_move (free_place (is_mapped memory) (rounded new_len)))
    by-target (Some target) = if-refused (exceeds_limit (moved memory addr (rounded old_len) target (rounded new_len))) Errno.Enomem (Reply.At target) (at target)

-- its events, of a kernel and of the model
remap-kinds : (cpu : ℕ) (object : ModelObject) (addr count target new_count : ℕ) → AreAllEvents (noted_by cpu (remap_messages object addr count target new_count))
remap-kinds cpu object addr count target new_count =
    let from = addr / 4096 in
    let to = target / 4096 in
    by (not (eqb to from) && is_watched object to new_count) (ltb new_count count && is_watched object (from + new_count) (count - new_count)) (not (eqb to from) && is_watched object from (lesser count new_count)) _ _ _ _ _ _ _
  where
    by : (first second third : Bool) (a b c d e f g : ℕ) → AreAllEvents (noted_by cpu (message_if first (Message.Unmap a b) ++ message_if second (Message.Unmap c d) ++ message_if third (Message.Remap e f g)))
    by true true true a b c d e f g = (tt, (tt, (tt, tt)))
    by true true false a b c d e f g = (tt, (tt, tt))
    by true false true a b c d e f g = (tt, (tt, tt))
    by true false false a b c d e f g = (tt, tt)
    by false true true a b c d e f g = (tt, (tt, tt))
    by false true false a b c d e f g = (tt, tt)
    by false false true a b c d e f g = (tt, tt)
    by false false false a b c d e f g = tt

-- a kernel has one more where pages have moved
remap-pairs : (cpu rank : ℕ) (object : ModelObject) (addr count target new_count : ℕ) →
    (is_empty (moves_told object addr count target new_count) ≡ is_empty (noted_by cpu (remap_messages object addr count target new_count)))
    × (is_empty (moves_told object addr count target new_count) ≡ false → ArePaired (noted_by cpu (remap_messages object addr count target new_count)) (ranked rank (moves_told object addr count target new_count)))
remap-pairs cpu rank object addr count target new_count =
    let from = addr / 4096 in
    let to = target / 4096 in
    by (not (eqb to from) && is_watched object to new_count) (ltb new_count count && is_watched object (from + new_count) (count - new_count)) (not (eqb to from) && is_watched object from (lesser count new_count)) _ _ _ _ _ _ _ _ _
  where
    by : (first tail goes : Bool) (a b c d e f g h i : ℕ) →
        (is_empty (message_if first (Message.Unmap a b) ++ message_if goes (Message.Remap e f g) ++ message_if tail (Message.Unmap c d) ++ message_if goes (Message.Unmap h i))
        ≡ is_empty (noted_by cpu (message_if first (Message.Unmap a b) ++ message_if tail (Message.Unmap c d) ++ message_if goes (Message.Remap e f g))))
        × (is_empty (message_if first (Message.Unmap a b) ++ message_if goes (Message.Remap e f g) ++ message_if tail (Message.Unmap c d) ++ message_if goes (Message.Unmap h i)) ≡ false →
        ArePaired (noted_by cpu (message_if first (Message.Unmap a b) ++ message_if tail (Message.Unmap c d) ++ message_if goes (Message.Remap e f g)))
        (ranked rank (message_if first (Message.Unmap a b) ++ message_if goes (Message.Remap e f g) ++ message_if tail (Message.Unmap c d) ++ message_if goes (Message.Unmap h i))))
    by true true true a b c d e f g h i = (refl, λ some. tt)
    by true true false a b c d e f g h i = (refl, λ some. tt)
    by true false true a b c d e f g h i = (refl, λ some. tt)
    by true false false a b c d e f g h i = (refl, λ some. tt)
    by false true true a b c d e f g h i = (refl, λ some. tt)
    by false true false a b c d e f g h i = (refl, λ some. tt)
    by false false true a b c d e f g h i = (refl, λ some. tt)
    by false false false a b c d e f g h i = (refl, λ some. absurd (false≢true (sym some)))

wakes-append : (xs ys : List Message) → MayWakeAll xs → MayWakeAll ys → MayWakeAll (xs ++ ys)
wakes-append [] ys first second = second
wakes-append (x ∷ xs) ys first second = (first.0, wakes-append xs ys first.1 second)

wakes-if : (w : Bool) (message : Message) → (w ≡ true → MayWakeFor message) → MayWakeAll (message_if w message)
wakes-if true message may = (may refl, tt)
wakes-if false message may = tt

remap-wakes : (space : Space) (addr count target new_count : ℕ) → IsSoundSpace space → IsMapping space.host.areas → addr % 4096 ≡ 0 → target % 4096 ≡ 0 → addr / 4096 + count ≤ HIGH_PAGE → target / 4096 + new_count ≤ HIGH_PAGE → MayWakeAll (moves_told space.object addr count target new_count)
remap-wakes space addr count target new_count sound mapping whole new_whole low high =
    let from = addr / 4096 in
    let to = target / 4096 in
    let kept = lesser count new_count in
    let apart = not (eqb to from) in
    let old = range-wakes space from kept addr (addr + 4096 * kept) sound mapping (kept-high (addr / 4096) count new_count low) (starts addr whole) (stops addr kept whole) in
    let replaced = message_if (apart && is_watched space.object to new_count) (Message.Unmap target (target + 4096 * new_count)) in
    let goes = message_if (apart && is_watched space.object from kept) (Message.Remap addr target (4096 * kept)) in
    let tail = message_if (ltb new_count count && is_watched space.object (from + new_count) (count - new_count)) (Message.Unmap (addr + 4096 * new_count) (addr + 4096 * count)) in
    let last = message_if (apart && is_watched space.object from kept) (Message.Unmap addr (addr + 4096 * kept)) in
    wakes-append (replaced ++ goes ++ tail) last
    (wakes-append (replaced ++ goes) tail
    (wakes-append replaced goes
    (wakes-if (apart && is_watched space.object to new_count) (Message.Unmap target (target + 4096 * new_count))
    (λ h. range-wakes space to new_count target (target + 4096 * new_count) sound mapping high (starts target new_whole) (stops target new_count new_whole) (and_second apart (is_watched space.object to new_count) h)))
    (wakes-if (apart && is_watched space.object from kept) (Message.Remap addr target (4096 * kept)) (λ h. old (and_second apart (is_watched space.object from kept) h))))
    (wakes-if (ltb new_count count && is_watched space.object (from + new_count) (count - new_count)) (Message.Unmap (addr + 4096 * new_count) (addr + 4096 * count))
    (λ h.
    let less = less-than new_count count (and_first (ltb new_count count) (is_watched space.object (from + new_count) (count - new_count)) h) in
    range-wakes space (from + new_count) (count - new_count) (addr + 4096 * new_count) (addr + 4096 * count) sound mapping (tail-high from count new_count less low) (stops addr new_count whole) (tail-stops addr count new_count less whole)
    (and_second (ltb new_count count) (is_watched space.object (from + new_count) (count - new_count)) h))))
    (wakes-if (apart && is_watched space.object from kept) (Message.Unmap addr (addr + 4096 * kept)) (λ h. old (and_second apart (is_watched space.object from kept) h)))
  where
    starts : (start : ℕ) → start % 4096 ≡ 0 → start ≡ start / 4096 * 4096
    starts start whole = omega (arith, whole)

    stops : (start count : ℕ) → start % 4096 ≡ 0 → start + 4096 * count ≡ (start / 4096 + count) * 4096
    stops start count whole = omega (arith, whole)

    less-than : (a b : ℕ) → ltb a b ≡ true → a < b
    less-than a b h = grind (arith, nat_tests, h)

    kept-high : (from count new_count : ℕ) → from + count ≤ HIGH_PAGE → from + lesser count new_count ≤ HIGH_PAGE
    kept-high from count new_count h = grind (arith, nat_tests, h)

    tail-high : (from count new_count : ℕ) → new_count < count → from + count ≤ HIGH_PAGE → from + new_count + (count - new_count) ≤ HIGH_PAGE
    tail-high from count new_count h k = omega (arith, h, k)

    tail-stops : (addr count new_count : ℕ) → new_count < count → addr % 4096 ≡ 0 → addr + 4096 * count ≡ (addr / 4096 + new_count + (count - new_count)) * 4096
    tail-stops addr count new_count h whole = omega (arith, h, whole)

mremap-written : {calls : List Pending} (one : Counterparts) (key cpu : ℕ) (move : Move) (word target : ℕ) → MayCall calls one key → mremap_reply (memory one.space.host) move.addr move.old_len move.new_len move.may_move move.fixed ≡ Reply.At target →
    Issued calls one key cpu (Command.Mremap move.addr move.old_len move.new_len move.may_move move.fixed) (Some (call.Mremap move.addr move.old_len move.new_len move.flags word))
unfolding on_space
mremap-written {calls = calls} one key cpu move word target may is =
    let command = Command.Mremap move.addr move.old_len move.new_len move.may_move move.fixed in
    let space = one.space in
    let made = map-call calls one key (apart key calls may.below) may.told may.enabled may.asked in
    let took = mremap-taken made move cpu target is in
    let facts = is-remap made move target is in
    let from = move.addr / 4096 in
    let count = pages_of move.old_len in
    let to = target / 4096 in
    let new_count = pages_of move.new_len in
    let messages = moves_told space.object move.addr count target new_count in
    let pairs = remap-pairs cpu (length one.kernel.told) space.object move.addr count target new_count in
    let form = remapped made from count to new_count messages in
    let it : Calling calls =
    record {
      one = one;
      key = key;
      below = may.below;
      told = may.told;
      call = call.Mremap move.addr move.old_len move.new_len move.flags word;
      keeps = λ space. refl;
      answer = Value target;
      still = refl;
      out = refl;
      after = took.kernel;
      object = took.object;
      space = called_told space cpu command;
      taken = took.taken;
      agree = took.agree;
      messages = messages;
      modelled = noted_by cpu (remap_messages space.object move.addr count target new_count);
      pages = form.pages;
      ranges = form.ranges;
      differs = form.differs;
      is = sym (allowed-is _ _ took.kernel took.taken) ∙ facts.is;
      expected = λ moves none late. noted (not (eqb to from) && tells_anybody (with_messages one.kernel key one.name messages) key) moves (λ m. false≢true (sym (none m))) late;
      events = facts.events;
      kinds = remap-kinds cpu space.object move.addr count target new_count;
      both = pairs.0;
      paired = pairs.1;
      wakes = remap-wakes space move.addr count target new_count one.agree.sound may.mapping facts.whole facts.new_whole facts.ranges.low facts.ranges.high;
    } in
    called-writes it cpu command (Reply.At target) is (ap (λ r. record (called_as space cpu command r) { object = all_queued (modes_after space.object command r) (told_by space.object command r) cpu }) is) refl refl refl refl refl refl
  where
    noted : (b moves : Bool) → (moves ≡ false → ⊥) → AreExpected moves one.kernel → list_any (λ difference. not (is_expected moves difference)) (cond b (one.kernel.differs ++ MessagesOfMremap ∷ []) one.kernel.differs) ≡ false
    noted false moves may late = late
    noted true false may late = absurd (may refl)
    noted true true may late = list_any-append (λ difference. not (is_expected true difference)) one.kernel.differs (MessagesOfMremap ∷ []) ∙ ap (λ b. b || false) late

mremap-writes : {calls : List Pending} (one : Counterparts) (key cpu : ℕ) (move : Move) (word : ℕ) → MayCall calls one key →
    Issued calls one key cpu (Command.Mremap move.addr move.old_len move.new_len move.may_move move.fixed) (Some (call.Mremap move.addr move.old_len move.new_len move.flags word))
unfolding on_space
mremap-writes {calls = calls} one key cpu move word may =
    let command = Command.Mremap move.addr move.old_len move.new_len move.may_move move.fixed in
    let call_of = call.Mremap move.addr move.old_len move.new_len move.flags word in
    by-remap (memory one.space.host) move.addr move.old_len move.new_len move.may_move move.fixed
    (λ reply. mremap_reply (memory one.space.host) move.addr move.old_len move.new_len move.may_move move.fixed ≡ reply → Issued calls one key cpu command (Some call_of))
    (λ errno is. refused-writes one key cpu command call_of errno one.kernel may.below may.told refl refl (λ moves h. h) one.agree is refl refl)
    (λ target is. mremap-written one key cpu move word target may is) refl

-- Either

free-placed : (start : ℕ) → is_placed 0 0x22 start ≡ true
unfolding is_one
free-placed start = refl

fresh-placed : (addr start : ℕ) → is_placed addr 0x100022 start ≡ true
unfolding is_one
fresh-placed addr start = refl

same-place : (memory : Memory) (len : ℕ) (prot : Prot) (addr start : ℕ) → mmap_reply memory len prot (Place.Fixed addr) ≡ Reply.At start → is_placed addr 0x32 start ≡ true
same-place memory len prot addr start is =
    let told = at_passed ((eqb len 0, Errno.Einval) ∷ (place_refusals addr (rounded len) ++ (exceeds_limit (fill memory addr (rounded len) (zeros_with prot)), Errno.Enomem) ∷ [])) (Reply.At addr) start (sym is) in
    there (is_one 0x32 4) (eqb start addr) (ap (λ n. eqb n addr) (same_at start addr told.1) ∙ eqb-self addr)
  where
    there : (fixed same : Bool) → same ≡ true → (not fixed || same) ≡ true
    there fixed same is = grind (arith, nat_tests)

-- whether a command maps, unmaps or moves pages
abbrev pub maps_or_unmaps : Command → Bool
maps_or_unmaps (Command.Mmap len prot place) = true
maps_or_unmaps (Command.Munmap addr len) = true
maps_or_unmaps (Command.Mremap addr old_len new_len may_move fixed) = true
maps_or_unmaps command = false

-- no MREMAP_DONTUNMAP is among these flags
unmaps-0 : is_one 0 2 ≡ false
unfolding is_one
unmaps-0 = refl

unmaps-1 : is_one 1 2 ≡ false
unfolding is_one
unmaps-1 = refl

unmaps-2 : is_one 2 2 ≡ false
unfolding is_one
unmaps-2 = refl

unmaps-3 : is_one 3 2 ≡ false
unfolding is_one
unmaps-3 = refl

abbrev move_of : (addr old_len new_len : ℕ) (may_move : Bool) (fixed : Option ℕ) (flags : ℕ) → is_one flags 2 ≡ false → Move
move_of addr old_len new_len may_move fixed flags unmaps = record { addr = addr; old_len = old_len; new_len = new_len; may_move = may_move; fixed = fixed; flags = flags; unmaps = unmaps }

pub command-writes : {calls : List Pending} (one : Counterparts) (key cpu : ℕ) (command : Command) → MayCall calls one key → maps_or_unmaps command ≡ true → Issued calls one key cpu command (map_call command)
command-writes one key cpu (Command.Mmap len prot Place.Anywhere) may is = mmap-writes one key cpu len prot Place.Anywhere 0 0x22 may (λ start is. free-placed start)
command-writes one key cpu (Command.Mmap len prot (Place.Fixed addr)) may is = mmap-writes one key cpu len prot (Place.Fixed addr) addr 0x32 may (λ start is. same-place (memory one.space.host) len prot addr start is)
command-writes one key cpu (Command.Mmap len prot (Place.NoReplace addr)) may is = mmap-writes one key cpu len prot (Place.NoReplace addr) addr 0x100022 may (λ start is. fresh-placed addr start)
command-writes one key cpu (Command.Munmap addr len) may is = munmap-writes one key cpu addr len may
command-writes one key cpu (Command.Mremap addr old_len new_len false None) may is = mremap-writes one key cpu (move_of addr old_len new_len false None 0 unmaps-0) 0 may
command-writes one key cpu (Command.Mremap addr old_len new_len true None) may is = mremap-writes one key cpu (move_of addr old_len new_len true None 1 unmaps-1) 0 may
command-writes one key cpu (Command.Mremap addr old_len new_len false (Some target)) may is = mremap-writes one key cpu (move_of addr old_len new_len false (Some target) 2 unmaps-2) target may
command-writes one key cpu (Command.Mremap addr old_len new_len true (Some target)) may is = mremap-writes one key cpu (move_of addr old_len new_len true (Some target) 3 unmaps-3) target may
command-writes one key cpu command may is = absurd (false≢true is)

-- an access is none
pub no-map-call : (command : Command) → is_access command ≡ true → map_call command ≡ None
no-map-call (Command.Load addr width) is = refl
no-map-call (Command.Store addr width value) is = refl
no-map-call (Command.Mmap len prot place) is = absurd (false≢true is)
no-map-call (Command.Munmap addr len) is = absurd (false≢true is)
no-map-call (Command.Mremap addr old_len new_len may_move fixed) is = absurd (false≢true is)
no-map-call (Command.DontNeed addr len) is = absurd (false≢true is)

-- the three events were asked for
abbrev pub has_events_in : ℕ → Bool
has_events_in features = is_one features 2 && is_one features 3 && is_one features 6
