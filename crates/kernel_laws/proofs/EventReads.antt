-- read(2) of an event: the first map call that has anything to tell queues its next event, and it is read.
use Rattle.std.proofs.lemmas.Bool.Decides.{nat_tests}
use Rattle.std.proofs.lemmas.Bool.{eqb-true, false≢true, not-true, or_from, or_right}
use Rattle.std.proofs.lemmas.List.Concat.{flat_map-cons}
use Rattle.std.proofs.lemmas.List.{append-nil}
use Rattle.std.proofs.lemmas.List.Sums.{length-filter}
use Rattle.std.proofs.lemmas.Option.{none-some, same_Some}
use Rattle.std.proofs.Common.{◌≡◌, ℕ, zero, suc, ◌<◌, ◌+◌, ◌-◌, ◌*◌, ◌/◌, ◌&&◌, ◌||◌, Bool, true, false, not, cond, eqb, ltb, leb, Option, Some, None, List, [], ◌∷◌, ◌++◌, filter, length, map, arith, refl, sym, ap, subst, ◌∙◌}
use Rattle.std.specs.Prelude.{is_some, max, min}
use Rattle.std.specs.List.{flat_map, list_any}
use Rattle.foundation.specs.Ranges.{none_below}
use Rattle.foundation.specs.Tests.{is_empty}
use Rattle.mig_base.specs.Userfault.{Noted}
use Rattle.foundation.proofs.TestLemmas.{and_false, and_first, and_second, eqb-self, or_first, or_second}
use Rattle.mig_model.specs.Ioctls.{read_space}
use Rattle.mig_model.specs.Space.{Space}
use Rattle.mig_model.proofs.memory.Registering.{pages_again}
use Rattle.uffd_log.specs.declared.call.Message.{Message as LogMessage}
use Rattle.uffd_log.specs.declared.call.Message.TheVariants as log
use Rattle.uffd_log.specs.declared.line.Answer.TheVariants.{Value}
use Rattle.kernel_rules.specs.declared.calling.Span.{Span}
use Rattle.kernel_rules.specs.declared.calling.Told.{Told}
use Rattle.kernel_rules.specs.declared.calling.Untold.{Untold}
use Rattle.kernel_rules.specs.declared.difference.Difference.TheVariants.{RemoveOfEachArea}
use Rattle.kernel_rules.specs.declared.fault.Fault.{Fault}
use Rattle.kernel_rules.specs.declared.known.Page.{Page}
use Rattle.kernel_rules.specs.declared.object.Object.{Object}
use Rattle.kernel_rules.specs.declared.object.Registration.{Registration}
use Rattle.kernel_rules.specs.Faults.{is_unread}
use Rattle.kernel_rules.specs.Ioctls.{has_untold, is_own, span_of, tells_object}
use Rattle.kernel_rules.specs.MapCalls.{has_events, is_queued, is_told_all, numbers_without, spans_without, tells, tells_anybody, watches_in}
use Rattle.kernel_rules.specs.Reads.{event_read, event_taken, first_event, first_unread, has_room_for, is_fault, is_next_of, is_next_remove, is_queued_as, is_remove_of, is_same_event, is_whole, message_taken, read, removes_left, teller, tells_within, then_taken, unread_faults, watches_within}
use Rattle.kernel_rules.specs.State.{Kernel, allowed, noted_if, some_page}
use Rattle.kernel_laws.specs.Agreement.{AreUntold, Counterparts, Takes, are_once, have_ranks, is_of_another, message_of, messages_of, removes, telling}
use Rattle.kernel_laws.specs.Reading.{AreWatched, reads_event}
use Rattle.kernel_laws.proofs.Events.{any-weaker, untold-any}
use Rattle.kernel_laws.proofs.Kernels.{agree-noted, is-enabled}
use Rattle.kernel_laws.proofs.FaultReads.{page-requeued, requeued, sound-requeued, takes-read}

-- Lists

abbrev tail_of : {X : Type 0} → List X → List X
tail_of [] = []
tail_of (x ∷ xs) = xs

abbrev head_of : {X : Type 0} → List X → Option X
head_of [] = None
head_of (x ∷ xs) = Some x

pub same-head : {X : Type 0} (x y : X) (xs ys : List X) → x ∷ xs ≡ y ∷ ys → x ≡ y
same-head x y xs ys is = same_Some x y (ap head_of is)

pub same-tail : {X : Type 0} (x y : X) (xs ys : List X) → x ∷ xs ≡ y ∷ ys → xs ≡ ys
same-tail x y xs ys is = ap tail_of is

pub turned : (a b : ℕ) → eqb a b ≡ false → eqb b a ≡ false
turned a b h = grind (arith, nat_tests)

any-one : {X : Type 0} (p : X → Bool) (x : X) (rest : Bool) (kept : List X) (b : Bool) → p x ≡ b → rest ≡ not (is_empty kept) → (p x || rest) ≡ not (is_empty (cond b (x ∷ kept) kept))
any-one p x rest kept true is same = ap (λ b. b || rest) is
any-one p x rest kept false is same = ap (λ b. b || rest) is ∙ same

any-filter : {X : Type 0} (p : X → Bool) (xs : List X) → list_any p xs ≡ not (is_empty (filter p xs))
any-filter p [] = refl
any-filter p (x ∷ xs) = any-one p x (list_any p xs) (filter p xs) (p x) refl (any-filter p xs)

none-one : {X : Type 0} (q : X → Bool) (x : X) (kept : List X) (b : Bool) → (q x || list_any q kept) ≡ false → list_any q (cond b (x ∷ kept) kept) ≡ false
none-one q x kept true none = none
none-one q x kept false none = or_second (q x) (list_any q kept) none

pub none-filter : {X : Type 0} (p q : X → Bool) (xs : List X) → list_any q xs ≡ false → list_any q (filter p xs) ≡ false
none-filter p q [] none = refl
none-filter p q (x ∷ xs) none =
    none-one q x (filter p xs) (p x) (or_from (q x) (list_any q (filter p xs)) (or_first (q x) (list_any q xs) none) (none-filter p q xs (or_second (q x) (list_any q xs) none)))

kept-one : {X : Type 0} (x : X) (kept xs : List X) (b : Bool) → b ≡ false → kept ≡ xs → cond (not b) (x ∷ kept) kept ≡ x ∷ xs
kept-one x kept xs b is same = ap (λ b. cond (not b) (x ∷ kept) kept) is ∙ ap (λ l. x ∷ l) same

pub all-kept : {X : Type 0} (p : X → Bool) (xs : List X) → list_any p xs ≡ false → filter (λ x. not (p x)) xs ≡ xs
all-kept p [] none = refl
all-kept p (x ∷ xs) none = kept-one x (filter (λ x. not (p x)) xs) xs (p x) (or_first (p x) (list_any p xs) none) (all-kept p xs (or_second (p x) (list_any p xs) none))

-- The first call that has anything to tell

apart : (key call : ℕ) (calls : List ℕ) (b : Bool) → eqb key call ≡ b → list_any (λ other. eqb other key) calls ≡ true → list_any (λ other. eqb other call) calls ≡ false → b ≡ false
apart key call calls false is within none = refl
apart key call calls true is within none = absurd (false≢true (sym none ∙ ap (λ n. list_any (λ other. eqb other n) calls) (sym (eqb-true key call is)) ∙ within))

pub same-rest : (kernel now : Kernel) (key : ℕ) (calls : List ℕ) → list_any (λ other. eqb other key) calls ≡ false → ((other : ℕ) → eqb key other ≡ false → messages_of now other ≡ messages_of kernel other) →
    flat_map (messages_of now) calls ≡ flat_map (messages_of kernel) calls
same-rest kernel now key [] none same = refl
same-rest kernel now key (call ∷ calls) none same =
    let first = same call (turned call key (or_first (eqb call key) (list_any (λ other. eqb other key) calls) none)) in
    let rest = same-rest kernel now key calls (or_second (eqb call key) (list_any (λ other. eqb other key) calls) none) same in
    flat_map-cons (messages_of now) call calls ∙ (λ i. first i ++ rest i) ∙ sym (flat_map-cons (messages_of kernel) call calls)

record First (kernel : Kernel) (name : ℕ) (calls : List ℕ) : Type 0 where
  key : ℕ
  message : LogMessage
  rest : List LogMessage
  others : List LogMessage
  has : messages_of kernel key ≡ message ∷ rest
  within : list_any (λ other. eqb other key) calls ≡ true
  head : flat_map (messages_of kernel) calls ≡ message ∷ others
  told : (now : Kernel) → is_queued_as now name message key ≡ true → ((other : ℕ) → eqb key other ≡ false → is_queued now other ≡ false) →
      ((other : ℕ) → messages_of kernel other ≡ [] → has_untold now name other ≡ false) → teller now name message calls false ≡ Some (key, false)
  left : (now : Kernel) → messages_of now key ≡ rest → ((other : ℕ) → eqb key other ≡ false → messages_of now other ≡ messages_of kernel other) → flat_map (messages_of now) calls ≡ others

first-here : (kernel : Kernel) (name call : ℕ) (calls : List ℕ) (message : LogMessage) (rest : List LogMessage) → messages_of kernel call ≡ message ∷ rest → list_any (λ other. eqb other call) calls ≡ false → First kernel name (call ∷ calls)
first-here kernel name call calls message rest has once =
    record {
      key = call;
      message = message;
      rest = rest;
      others = rest ++ flat_map (messages_of kernel) calls;
      has = has;
      within = ap (λ b. b || list_any (λ other. eqb other call) calls) (eqb-self call);
      head = flat_map-cons (messages_of kernel) call calls ∙ ap (λ l. l ++ flat_map (messages_of kernel) calls) has;
      told = λ now queued idle untold. ap (λ b. cond b (Some (call, false)) (teller now name message calls (false || has_untold now name call))) queued;
      left = λ now after same. flat_map-cons (messages_of now) call calls ∙ (λ i. after i ++ same-rest kernel now call calls once same i);
    }

first-later : (kernel : Kernel) (name call : ℕ) (calls : List ℕ) → messages_of kernel call ≡ [] → list_any (λ other. eqb other call) calls ≡ false → First kernel name calls → First kernel name (call ∷ calls)
first-later kernel name call calls none once first =
    let key = first.key in
    let other = apart key call calls (eqb key call) refl first.within once in
    record {
      key = key;
      message = first.message;
      rest = first.rest;
      others = first.others;
      has = first.has;
      within = or_right (eqb call key) (list_any (λ other. eqb other key) calls) first.within;
      head = flat_map-cons (messages_of kernel) call calls ∙ ap (λ l. l ++ flat_map (messages_of kernel) calls) none ∙ first.head;
      told = λ now queued idle untold.
          ap (λ b. cond (b && is_next_of now name call first.message (first_event now.events call)) (Some (call, false)) (teller now name first.message calls (false || has_untold now name call))) (idle call other)
          ∙ ap (λ b. teller now name first.message calls (false || b)) (untold call none)
          ∙ first.told now queued idle untold;
      left = λ now after same. flat_map-cons (messages_of now) call calls ∙ ap (λ l. l ++ flat_map (messages_of now) calls) (same call other ∙ none) ∙ first.left now after same;
    }

some-messages : (kernel : Kernel) (call : ℕ) (calls : List ℕ) → messages_of kernel call ≡ [] → is_empty (flat_map (messages_of kernel) (call ∷ calls)) ≡ false → is_empty (flat_map (messages_of kernel) calls) ≡ false
some-messages kernel call calls none some = sym (ap is_empty (flat_map-cons (messages_of kernel) call calls ∙ ap (λ l. l ++ flat_map (messages_of kernel) calls) none)) ∙ some

first-by : (kernel : Kernel) (name call : ℕ) (calls : List ℕ) (messages : List LogMessage) → messages_of kernel call ≡ messages → list_any (λ other. eqb other call) calls ≡ false → (messages_of kernel call ≡ [] → First kernel name calls) →
    First kernel name (call ∷ calls)
first-by kernel name call calls [] is once later = first-later kernel name call calls is once (later is)
first-by kernel name call calls (message ∷ rest) is once later = first-here kernel name call calls message rest is once

first-of : (kernel : Kernel) (name : ℕ) (calls : List ℕ) → are_once calls ≡ true → is_empty (flat_map (messages_of kernel) calls) ≡ false → First kernel name calls
first-of kernel name [] once some = absurd (false≢true (sym some))
first-of kernel name (call ∷ calls) once some =
    first-by kernel name call calls (messages_of kernel call) refl (not-true (list_any (λ other. eqb other call) calls) (and_first (not (list_any (λ other. eqb other call) calls)) (are_once calls) once))
    (λ none. first-of kernel name calls (and_second (not (list_any (λ other. eqb other call) calls)) (are_once calls) once) (some-messages kernel call calls none some))

-- The next event of a call

first-one : (e : Bool) (one : Untold) (kept : List Untold) (found : Option Untold) → found ≡ head_of kept → cond e (Some one) found ≡ head_of (cond e (one ∷ kept) kept)
first-one true one kept found same = refl
first-one false one kept found same = same

next-event : (events : List Untold) (key : ℕ) → first_event events key ≡ head_of (filter (λ (one : Untold). eqb one.key key) events)
next-event [] key = refl
next-event (one ∷ events) key =
    first-one (eqb one.key key) one (filter (λ (one : Untold). eqb one.key key) events) (first_event events key) (next-event events key)

-- The events once one is read

-- an event is the one that is read
abbrev is_read : ℕ → ℕ → Untold → Bool
is_read key rank one = eqb one.key key && eqb one.rank rank

-- of the call that told it
own-left : (key : ℕ) (one first : Untold) (rest more kept : List Untold) (b : Bool) → eqb first.key key ≡ b → list_any (λ (other : Untold). eqb other.key first.key && eqb other.rank first.rank) rest ≡ false →
    (filter (λ (other : Untold). eqb other.key key) rest ≡ one ∷ more → filter (λ (other : Untold). eqb other.key key) (filter (λ other. not (is_read key one.rank other)) rest) ≡ more) →
    cond b (first ∷ filter (λ (other : Untold). eqb other.key key) rest) (filter (λ (other : Untold). eqb other.key key) rest) ≡ one ∷ more →
    filter (λ (other : Untold). eqb other.key key) (cond (not (is_read key one.rank first)) (first ∷ filter (λ other. not (is_read key one.rank other)) rest) (filter (λ other. not (is_read key one.rank other)) rest)) ≡ more
own-left key one first rest more kept true is once tells same =
    let test = λ (other : Untold). eqb other.key key in
    let left = filter (λ other. not (is_read key one.rank other)) rest in
    let rank : eqb first.rank one.rank ≡ true = ap (λ (u : Untold). eqb u.rank one.rank) (same-head first one (filter test rest) more same) ∙ eqb-self one.rank in
    let none : list_any (is_read key one.rank) rest ≡ false =
    subst (λ n. list_any (is_read key n) rest ≡ false) (ap (λ (u : Untold). u.rank) (same-head first one (filter test rest) more same))
    (subst (λ n. list_any (is_read n first.rank) rest ≡ false) (eqb-true first.key key is) once) in
    ap (λ b. filter test (cond (not b) (first ∷ left) left)) (λ i. is i && rank i) ∙ ap (filter test) (all-kept (is_read key one.rank) rest none) ∙ same-tail first one (filter test rest) more same
own-left key one first rest more kept false is once tells same =
    let test = λ (other : Untold). eqb other.key key in
    let left = filter (λ other. not (is_read key one.rank other)) rest in
    ap (λ b. filter test (cond (not (b && eqb first.rank one.rank)) (first ∷ left) left)) is ∙ ap (λ b. cond b (first ∷ filter test left) (filter test left)) is ∙ tells same

events-left : (key : ℕ) (one : Untold) (more events : List Untold) → have_ranks events ≡ true → filter (λ (other : Untold). eqb other.key key) events ≡ one ∷ more →
    filter (λ (other : Untold). eqb other.key key) (filter (λ other. not (is_read key one.rank other)) events) ≡ more
events-left key one more [] ranks same = absurd (none-some one (ap head_of same))
events-left key one more (first ∷ events) ranks same =
    let twin = list_any (λ (other : Untold). eqb other.key first.key && eqb other.rank first.rank) events in
    own-left key one first events more [] (eqb first.key key) refl (not-true twin (and_first (not twin) (have_ranks events) ranks)) (events-left key one more events (and_second (not twin) (have_ranks events) ranks)) same

-- of another call
other-one : {X : Type 0} (p : X → Bool) (x : X) (kept rest : List X) (b d : Bool) → p x ≡ b → (b ≡ true → d ≡ false) → filter p kept ≡ rest → filter p (cond (not d) (x ∷ kept) kept) ≡ cond b (x ∷ rest) rest
other-one p x kept rest true true is out same = absurd (false≢true (sym (out refl)))
other-one p x kept rest true false is out same = ap (λ b. cond b (x ∷ filter p kept) (filter p kept)) is ∙ ap (λ l. x ∷ l) same
other-one p x kept rest false true is out same = same
other-one p x kept rest false false is out same = ap (λ b. cond b (x ∷ filter p kept) (filter p kept)) is ∙ same

another : (key other rank : ℕ) (one : Untold) (b : Bool) → eqb key other ≡ false → eqb one.key other ≡ b → b ≡ true → is_read key rank one ≡ false
another key other rank one b apart is h =
    ap (λ n. eqb n key && eqb one.rank rank) (eqb-true one.key other (is ∙ h)) ∙ ap (λ b. b && eqb one.rank rank) (turned key other apart)

others-left : (key other rank : ℕ) (events : List Untold) → eqb key other ≡ false →
    filter (λ (one : Untold). eqb one.key other) (filter (λ one. not (is_read key rank one)) events) ≡ filter (λ (one : Untold). eqb one.key other) events
others-left key other rank [] apart = refl
others-left key other rank (one ∷ events) apart =
    other-one (λ (one : Untold). eqb one.key other) one (filter (λ one. not (is_read key rank one)) events) (filter (λ (one : Untold). eqb one.key other) events) (eqb one.key other) (is_read key rank one) refl
    (another key other rank one (eqb one.key other) apart refl) (others-left key other rank events apart)

rank-one : (one : Untold) (kept : List Untold) (b : Bool) → list_any (λ (other : Untold). eqb other.key one.key && eqb other.rank one.rank) kept ≡ false → have_ranks kept ≡ true → have_ranks (cond b (one ∷ kept) kept) ≡ true
rank-one one kept true none ranks = λ i. not (none i) && ranks i
rank-one one kept false none ranks = ranks

ranks-left : (p : Untold → Bool) (events : List Untold) → have_ranks events ≡ true → have_ranks (filter p events) ≡ true
ranks-left p [] ranks = refl
ranks-left p (one ∷ events) ranks =
    let test = λ (other : Untold). eqb other.key one.key && eqb other.rank one.rank in
    rank-one one (filter p events) (p one) (none-filter p test events (not-true (list_any test events) (and_first (not (list_any test events)) (have_ranks events) ranks)))
    (ranks-left p events (and_second (not (list_any test events)) (have_ranks events) ranks))

-- The ranges once one is read

span-left : (span : Span) (spans kept : List Span) (key other : ℕ) (b e : Bool) → eqb span.key key ≡ b → eqb span.key other ≡ e → (e ≡ true → b ≡ false) → span_of kept other ≡ span_of spans other →
    span_of (cond (not b) (span ∷ kept) kept) other ≡ cond e (Some span) (span_of spans other)
span-left span spans kept key other true true is same out rest = absurd (false≢true (sym (out refl)))
span-left span spans kept key other true false is same out rest = rest
span-left span spans kept key other false true is same out rest = ap (λ e. cond e (Some span) (span_of kept other)) same
span-left span spans kept key other false false is same out rest = ap (λ e. cond e (Some span) (span_of kept other)) same ∙ rest

pub spans-left : (spans : List Span) (key other : ℕ) → eqb key other ≡ false → span_of (spans_without spans key) other ≡ span_of spans other
spans-left [] key other apart = refl
spans-left (span ∷ spans) key other apart =
    span-left span spans (spans_without spans key) key other (eqb span.key key) (eqb span.key other) refl refl
    (λ h. ap (λ n. eqb n key) (eqb-true span.key other h) ∙ turned key other apart) (spans-left spans key other apart)

span-gone : (span : Span) (kept : List Span) (key : ℕ) (b : Bool) → eqb span.key key ≡ b → span_of kept key ≡ None → span_of (cond (not b) (span ∷ kept) kept) key ≡ None
span-gone span kept key true is none = none
span-gone span kept key false is none = ap (λ e. cond e (Some span) (span_of kept key)) is ∙ none

pub spans-gone : (spans : List Span) (key : ℕ) → span_of (spans_without spans key) key ≡ None
spans-gone [] key = refl
spans-gone (span ∷ spans) key = span-gone span (spans_without spans key) key (eqb span.key key) refl (spans-gone spans key)

-- What is unread once one message of the first call is

told-still : (name : ℕ) (kernel now : Kernel) (events : List Noted) (first : First kernel name kernel.calls) (key : ℕ) (b : Bool) → AreUntold name kernel events → eqb first.key key ≡ b →
    (b ≡ false → messages_of now key ≡ messages_of kernel key) → is_empty (messages_of now key) ≡ false → tells_object kernel key name ≡ true
told-still name kernel now events first key true are is same some =
    are.tells key (ap (λ n. is_empty (messages_of kernel n)) (sym (eqb-true first.key key is)) ∙ ap is_empty first.has)
told-still name kernel now events first key false are is same some = are.tells key (ap is_empty (sym (same refl)) ∙ some)

untold-left : (name : ℕ) (kernel : Kernel) (noted : Noted) (rest : List Noted) (first : First kernel name kernel.calls) (events : List Untold) (spans : List Span) (queued : List ℕ) → AreUntold name kernel (noted ∷ rest) →
    have_ranks events ≡ true → list_any (is_of_another name) events ≡ false → queued ≡ [] → messages_of (record kernel { events = events; untold = spans }) first.key ≡ first.rest →
    ((other : ℕ) → eqb first.key other ≡ false → messages_of (record kernel { events = events; untold = spans }) other ≡ messages_of kernel other) →
    AreUntold name (record kernel { events = events; untold = spans; queued = queued }) rest
untold-left name kernel noted rest first events spans queued are ranks own none after same =
    let now = record kernel { events = events; untold = spans; queued = queued } in
    record {
      same = first.left now after same ∙ same-tail first.message (message_of noted.message) first.others _ (sym first.head ∙ are.same);
      once = are.once;
      ranks = ranks;
      own = own;
      tells = λ key some. told-still name kernel now (noted ∷ rest) first key (eqb first.key key) are refl (same key) some;
      none_queued = none;
    }

-- The call queues it

none-all : {X : Type 0} (p : X → Bool) → ((x : X) → p x ≡ false) → (xs : List X) → list_any p xs ≡ false
none-all p none [] = refl
none-all p none (x ∷ xs) = λ i. none x i || none-all p none xs i

any-const : {X : Type 0} (b : Bool) (xs : List X) → list_any (λ x. b) xs ≡ true → b ≡ true
any-const b [] is = absurd (false≢true is)
any-const true (x ∷ xs) is = refl
any-const false (x ∷ xs) is = any-const false xs is

queues-it : (kernel : Kernel) (key : ℕ) (told_all : Bool) (queued : List ℕ) → queued ≡ [] → told_all ≡ false →
    allowed (not (list_any (λ other. eqb other key) queued) && not told_all) (record kernel { queued = queued ++ key ∷ [] }) ≡ Some (record kernel { queued = key ∷ [] })
queues-it kernel key told_all queued none left =
    ap (λ (q : List ℕ). allowed (not (list_any (λ other. eqb other key) q) && not told_all) (record kernel { queued = q ++ key ∷ [] })) none ∙ ap (λ b. allowed (not b) (record kernel { queued = key ∷ [] })) left

pub tells-anybody : (kernel : Kernel) (key name : ℕ) → tells_object kernel key name ≡ true → tells_anybody kernel key ≡ true
tells-anybody kernel key name is =
    any-weaker (λ (one : Told). eqb one.key key && eqb one.object name) (λ (one : Told). eqb one.key key) (λ one h. and_first (eqb one.key key) (eqb one.object name) h) kernel.told is

left-to-tell : (kernel : Kernel) (key name : ℕ) (events : List Untold) (span : Option Span) → filter (λ (one : Untold). eqb one.key key) kernel.events ≡ events → span_of kernel.untold key ≡ span →
    is_empty (map (λ (one : Untold). one.message) events ++ removes span) ≡ false → tells_object kernel key name ≡ true → is_told_all kernel key ≡ false
left-to-tell kernel key name [] None is spans some tells = absurd (false≢true (sym some))
left-to-tell kernel key name [] (Some span) is spans some tells =
    ap (λ b. not (has_events kernel key) && not b) (λ i. is_some (spans i) && tells-anybody kernel key name tells i) ∙ and_false (not (has_events kernel key))
left-to-tell kernel key name (one ∷ events) span is spans some tells =
    ap (λ b. not b && not (is_some (span_of kernel.untold key) && tells_anybody kernel key)) (any-filter (λ (one : Untold). eqb one.key key) kernel.events ∙ ap (λ l. not (is_empty l)) is)

-- The read

unread-one : (u : Bool) (fault : Fault) (kept : List Fault) (found : Option Fault) → found ≡ head_of kept → cond u (Some fault) found ≡ head_of (cond u (fault ∷ kept) kept)
unread-one true fault kept found same = refl
unread-one false fault kept found same = same

first-unread : (faults : List Fault) (name : ℕ) → first_unread faults name ≡ head_of (filter (λ (fault : Fault). eqb fault.object name && is_unread fault.phase) faults)
first-unread [] name = refl
first-unread (fault ∷ faults) name =
    unread-one (eqb fault.object name && is_unread fault.phase) fault (filter (λ (fault : Fault). eqb fault.object name && is_unread fault.phase) faults) (first_unread faults name) (first-unread faults name)

none-headed : {X : Type 0} (xs : List X) → head_of xs ≡ None → length xs ≡ 0
none-headed [] is = refl
none-headed (x ∷ xs) is = absurd (none-some x (sym is))

pub no-faults : (faults : List Fault) (name : ℕ) → first_unread faults name ≡ None → unread_faults faults name ≡ 0
no-faults faults name none =
    let test = λ (fault : Fault). eqb fault.object name && is_unread fault.phase in
    sym (length-filter test faults) ∙ none-headed (filter test faults) (sym (first-unread faults name) ∙ none)

pub takes-event : (kernel : Kernel) (key : ℕ) (reader : Option ℕ) (name : ℕ) (object : Object) (message : LogMessage) (found : Option (ℕ × Bool)) (after : Kernel) → is_fault message ≡ false → unread_faults kernel.faults name ≡ 0 →
    teller kernel name message kernel.calls false ≡ found → event_taken kernel message found ≡ Some after → message_taken kernel key reader name object message 0 ≡ Some after
takes-event kernel key reader name object (log.Fault addr flags thread) found after event none is taken = absurd (false≢true (sym event))
takes-event kernel key reader name object (log.Fork child) found after event none is taken = rw (none, is) taken
takes-event kernel key reader name object (log.Remap from to len) found after event none is taken = rw (none, is) taken
takes-event kernel key reader name object (log.Remove start end) found after event none is taken = rw (none, is) taken
takes-event kernel key reader name object (log.Unmap start end) found after event none is taken = rw (none, is) taken

pub no-fault : (message : LogMessage) → is_same_event message message ≡ true → is_fault message ≡ false
no-fault (log.Fault addr flags thread) is = absurd (false≢true is)
no-fault (log.Fork child) is = refl
no-fault (log.Remap from to len) is = refl
no-fault (log.Remove start end) is = refl
no-fault (log.Unmap start end) is = refl

-- the kernel once a call has queued its next event
abbrev queued_by : Kernel → ℕ → Kernel
queued_by kernel call = record kernel { queued = call ∷ [] }

-- the message of an event, and the rest of what is unread
taken-by : (one : Counterparts) (key : ℕ) (reader room : Option ℕ) (noted : Noted) (rest : List Noted) → AreUntold one.name (telling one.kernel) (noted ∷ rest) → (first : First (telling one.kernel) one.name one.kernel.calls) (events : List Untold) (spans : List Span) →
    one.space.object.enabled ≡ true → has_room_for 1 room ≡ true → is_told_all one.kernel first.key ≡ false → is_fault first.message ≡ false →
    is_next_of (queued_by one.kernel first.key) one.name first.key first.message (first_event one.kernel.events first.key) ≡ true →
    event_read (queued_by one.kernel first.key) first.key first.message (first_event one.kernel.events first.key)
    ≡ record one.kernel { queued = numbers_without (first.key ∷ []) first.key; events = events; untold = spans } →
    have_ranks events ≡ true → list_any (is_of_another one.name) events ≡ false → messages_of (record (telling one.kernel) { events = events; untold = spans }) first.key ≡ first.rest →
    ((other : ℕ) → eqb first.key other ≡ false → messages_of (record (telling one.kernel) { events = events; untold = spans }) other ≡ messages_of (telling one.kernel) other) →
    Takes (reads_event one first.key key reader room noted.message) (requeued one.space one.space.object.faults rest) one.name
taken-by one key reader room noted rest are first events spans enabled fits left event next read_is ranks own after same =
    let kernel = one.kernel in
    let name = one.name in
    let call = first.key in
    let agree = one.agree in
    let now = queued_by kernel call in
    let gone : numbers_without (call ∷ []) call ≡ [] = ap (λ b. cond (not b) (call ∷ []) []) (eqb-self call) in
    let inner : Kernel = record kernel { queued = numbers_without (call ∷ []) call; events = events; untold = spans } in
    let apart = not (is_whole first.message (span_of kernel.clears call)) in
    let new = noted_if apart RemoveOfEachArea inner in
    let queued_as : is_queued_as now name first.message call ≡ true = λ i. (eqb-self call i || false) && next i in
    let told = first.told now queued_as (λ other h. ap (λ b. b || false) h) (λ other h. untold-any name (telling kernel) (noted ∷ rest) other are ∙ ap (λ l. not (is_empty l)) h) in
    let took : message_taken now key reader name one.object first.message 0 ≡ Some new =
    takes-event now key reader name one.object first.message (Some (call, false)) new event (no-faults kernel.faults name agree.unread.none_queued) told (ap (λ k. Some (noted_if apart RemoveOfEachArea k)) read_is) in
    let is : first.message ≡ message_of noted.message = same-head first.message (message_of noted.message) first.others _ (sym first.head ∙ are.same) in
    record {
      kernel = new;
      object = one.object;
      taken = ap (λ o. then_taken o (λ queued. read queued key reader name one.object room (message_of noted.message ∷ []) (Value 1))) (queues-it kernel call (is_told_all kernel call) kernel.queued are.none_queued left)
          ∙ takes-read now new key reader name one.object room (message_of noted.message) (is-enabled agree ∙ enabled) fits (subst (λ m. message_taken now key reader name one.object m 0 ≡ Some new) is took);
      agree = agree-noted apart RemoveOfEachArea (requeued one.space one.space.object.faults rest) inner name one.object
          (record {
            sound = sound-requeued one.space one.space.object.faults rest agree.sound;
            named = agree.named;
            features = agree.features;
            unread = agree.unread;
            pages = λ page. page-requeued one.space one.space.object.faults rest name page (kernel.pages one.object.space page) (agree.pages page);
            untold = untold-left name (telling kernel) noted rest first events spans (numbers_without (call ∷ []) call) are ranks own gone after same;
            alone = agree.alone;
            ranged = agree.ranged;
          });
    }

-- An event of a list

own-both : (object same : Bool) → not (object && same) ≡ false → (object ≡ true) × (same ≡ true)
own-both object same h = (grind (arith, nat_tests), grind (arith, nat_tests))

own-next : (name key : ℕ) (events : List Untold) (next : Untold) (more : List Untold) → list_any (is_of_another name) events ≡ false → filter (λ (one : Untold). eqb one.key key) events ≡ next ∷ more →
    (eqb next.object name ≡ true) × (is_same_event next.message next.message ≡ true)
own-next name key events next more own is =
    let none = sym (ap (list_any (is_of_another name)) is) ∙ none-filter (λ (one : Untold). eqb one.key key) (is_of_another name) events own in
    own-both (eqb next.object name) (is_same_event next.message next.message) (or_first (is_of_another name next) (list_any (is_of_another name) more) none)

event-next : (one : Counterparts) (key : ℕ) (reader room : Option ℕ) (noted : Noted) (rest : List Noted) → (are : AreUntold one.name (telling one.kernel) (noted ∷ rest)) (first : First (telling one.kernel) one.name one.kernel.calls) (next : Untold) (more : List Untold) →
    one.space.object.enabled ≡ true → has_room_for 1 room ≡ true → is_told_all one.kernel first.key ≡ false → filter (λ (event : Untold). eqb event.key first.key) one.kernel.events ≡ next ∷ more →
    Takes (reads_event one first.key key reader room noted.message) (requeued one.space one.space.object.faults rest) one.name
event-next one key reader room noted rest are first next more enabled fits left is =
    let kernel = one.kernel in
    let call = first.key in
    let messages = λ (events : List Untold). map (λ (event : Untold). event.message) events ++ removes (span_of kernel.untold call) in
    let same : next.message ∷ messages more ≡ first.message ∷ first.rest = sym (ap messages is) ∙ first.has in
    let message = same-head next.message first.message (messages more) first.rest same in
    let mine = own-next one.name call kernel.events next more are.own is in
    let found : first_event kernel.events call ≡ Some next = next-event kernel.events call ∙ ap head_of is in
    let events = filter (λ event. not (is_read call next.rank event)) kernel.events in
    taken-by one key reader room noted rest are first events kernel.untold enabled fits left
    (subst (λ m. is_fault m ≡ false) message (no-fault next.message mine.1))
    (ap (is_next_of (queued_by kernel call) one.name call first.message) found ∙ (λ i. mine.0 i && (sym (ap (is_same_event next.message) message) ∙ mine.1) i))
    (ap (event_read (queued_by kernel call) call first.message) found)
    (ranks-left (λ event. not (is_read call next.rank event)) kernel.events are.ranks)
    (none-filter (λ event. not (is_read call next.rank event)) (is_of_another one.name) kernel.events are.own)
    (ap messages (events-left call next more kernel.events are.ranks is) ∙ same-tail next.message first.message (messages more) first.rest same)
    (λ other apart. ap (λ l. map (λ (event : Untold). event.message) l ++ removes (span_of kernel.untold other)) (others-left call other next.rank kernel.events apart))

-- The REMOVE of a range

some-count : (kernel : Kernel) (space first count : ℕ) (test : Page → Bool) → some_page kernel space first count test ≡ true → 0 < count
unfolding none_below
some-count kernel space first zero test is = absurd (false≢true is)
some-count kernel space first (suc count) test is = omega (arith)

no-count : (kernel : Kernel) (space first count : ℕ) (test : Page → Bool) → count ≡ 0 → some_page kernel space first count test ≡ false
unfolding none_below
no-count kernel space first count test is = ap (λ n. some_page kernel space first n test) is

below : (a b first end : ℕ) → 0 < min a end - max b first → ltb first end ≡ true
below a b first end some = less first end (omega (arith, some)) where
  less : (first end : ℕ) → first < end → ltb first end ≡ true
  less first end h = grind (arith, nat_tests)

nothing-below : (a b first : ℕ) → min a first - max b first ≡ 0
nothing-below a b first = omega (arith)

some-range : (kernel : Kernel) (name space first end : ℕ) (range : Registration) → (eqb range.object name && watches_in kernel space first end range) ≡ true → ltb first end ≡ true
some-range kernel name space first end range is =
    let pages = some_page kernel space (max range.first first) (min (range.first + range.count) end - max range.first first) (λ page. eqb page.object range.object) in
    below (range.first + range.count) range.first first end
    (some-count kernel space (max range.first first) (min (range.first + range.count) end - max range.first first) (λ page. eqb page.object range.object)
    (and_second (is_own range.object range) pages (and_second (eqb range.object name) (watches_in kernel space first end range) is)))

watched-below : (kernel : Kernel) (name space first end : ℕ) → watches_within kernel name space first end ≡ true → ltb first end ≡ true
watched-below kernel name space first end is =
    any-const (ltb first end) kernel.ranges
    (any-weaker (λ (range : Registration). eqb range.object name && watches_in kernel space first end range) (λ range. ltb first end) (λ range h. some-range kernel name space first end range h) kernel.ranges is)

told-nowhere : (kernel : Kernel) (key space first : ℕ) → tells_within kernel key space first first ≡ false
told-nowhere kernel key space first =
    none-all _ (λ (range : Registration).
    ap (λ b. tells_object kernel key range.object && (is_own range.object range && b))
    (no-count kernel space (max range.first first) (min (range.first + range.count) first - max range.first first) (λ page. eqb page.object range.object) (nothing-below (range.first + range.count) range.first first))
    ∙ ap (λ b. tells_object kernel key range.object && b) (and_false (is_own range.object range)) ∙ and_false (tells_object kernel key range.object)) kernel.ranges

six : (a b c d e f : Bool) → a ≡ true → b ≡ true → c ≡ true → d ≡ true → e ≡ false → f ≡ true → (a && b && c && d && not e && f) ≡ true
six a b c d e f ha hb hc hd he hf = grind (arith, nat_tests)

at-most-self : (n : ℕ) → leb n n ≡ true
at-most-self n = grind (arith, nat_tests)

-- the REMOVE of a span, as a log has it
abbrev pub remove_of : Span → LogMessage
remove_of span = log.Remove (4096 * span.first) (4096 * span.end)

pub is-remove : (kernel : Kernel) (name call : ℕ) (span : Span) → tells_object kernel call name ≡ true → watches_within kernel name span.space span.first span.end ≡ true →
    is_remove_of kernel name call (4096 * span.first / 4096) (4096 * span.end / 4096) span ≡ true
is-remove kernel name call span tells watched =
    (λ i. is_remove_of kernel name call (pages_again span.first i) (pages_again span.end i) span)
    ∙ six (leb span.first span.first) (ltb span.first span.end) (leb span.end span.end) (tells_object kernel call name) (tells_within kernel call span.space span.first span.first) (watches_within kernel name span.space span.first span.end)
    (at-most-self span.first) (watched-below kernel name span.space span.first span.end watched) (at-most-self span.end) tells (told-nowhere kernel call span.space span.first) watched

pub removed : (kernel : Kernel) (call : ℕ) (span : Span) → removes_left kernel call (remove_of span) (Some span) ≡ spans_without kernel.untold call
removed kernel call span =
    ap (λ n. spans_without kernel.untold call ++ cond (tells_within kernel call span.space n span.end) (record span { first = n } ∷ []) []) (pages_again span.end)
    ∙ ap (λ b. spans_without kernel.untold call ++ cond b (record span { first = span.end } ∷ []) []) (told-nowhere kernel call span.space span.end)
    ∙ append-nil (spans_without kernel.untold call)

remove-next : (one : Counterparts) (key : ℕ) (reader room : Option ℕ) (noted : Noted) (rest : List Noted) → (are : AreUntold one.name (telling one.kernel) (noted ∷ rest)) (first : First (telling one.kernel) one.name one.kernel.calls) (span : Span) →
    one.space.object.enabled ≡ true → has_room_for 1 room ≡ true → is_told_all one.kernel first.key ≡ false → filter (λ (event : Untold). eqb event.key first.key) one.kernel.events ≡ [] → span_of one.kernel.untold first.key ≡ Some span →
    watches_within one.kernel one.name span.space span.first span.end ≡ true → tells_object one.kernel first.key one.name ≡ true → Takes (reads_event one first.key key reader room noted.message) (requeued one.space one.space.object.faults rest) one.name
remove-next one key reader room noted rest are first span enabled fits left is spans watched tells =
    let kernel = one.kernel in
    let call = first.key in
    let now = queued_by kernel call in
    let same : remove_of span ∷ [] ≡ first.message ∷ first.rest = sym (λ i. map (λ (event : Untold). event.message) (is i) ++ removes (spans i)) ∙ first.has in
    let message = same-head (remove_of span) first.message [] first.rest same in
    let found : first_event kernel.events call ≡ None = next-event kernel.events call ∙ ap head_of is in
    taken-by one key reader room noted rest are first kernel.events (spans_without kernel.untold call) enabled fits left (ap is_fault (sym message))
    (ap (is_next_of now one.name call first.message) found
    ∙ (λ i. is_next_remove now one.name call (sym message i) (spans i))
    ∙ is-remove now one.name call span tells watched)
    (ap (event_read now call first.message) found
    ∙ ap (λ (left : List Span). record kernel { queued = numbers_without (call ∷ []) call; untold = left }) (ap (λ m. removes_left now call m (span_of kernel.untold call)) (sym message) ∙ ap (removes_left now call (remove_of span)) spans ∙ removed now call span))
    are.ranks are.own
    ((λ i. map (λ (event : Untold). event.message) (is i) ++ removes (spans-gone kernel.untold call i)) ∙ same-tail (remove_of span) first.message [] first.rest same)
    (λ other apart. ap (λ s. map (λ (event : Untold). event.message) (filter (λ (event : Untold). eqb event.key other) kernel.events) ++ removes s) (spans-left kernel.untold call other apart))

-- The first of both

event-by : (one : Counterparts) (key : ℕ) (reader room : Option ℕ) (noted : Noted) (rest : List Noted) → (are : AreUntold one.name (telling one.kernel) (noted ∷ rest)) (first : First (telling one.kernel) one.name one.kernel.calls) (events : List Untold) (span : Option Span) →
    one.space.object.enabled ≡ true → AreWatched one → has_room_for 1 room ≡ true → filter (λ (event : Untold). eqb event.key first.key) one.kernel.events ≡ events → span_of one.kernel.untold first.key ≡ span →
    Takes (reads_event one first.key key reader room noted.message) (requeued one.space one.space.object.faults rest) one.name
event-by one key reader room noted rest are first events span enabled watched fits is spans =
    let some : is_empty (messages_of (telling one.kernel) first.key) ≡ false = ap is_empty first.has in
    let tells = are.tells first.key some in
    let left = left-to-tell one.kernel first.key one.name events span is spans (sym (λ i. is_empty (map (λ (event : Untold). event.message) (is i) ++ removes (spans i))) ∙ some) tells in
    by events span is spans left some tells
  where
    by : (events : List Untold) (span : Option Span) → filter (λ (event : Untold). eqb event.key first.key) one.kernel.events ≡ events → span_of one.kernel.untold first.key ≡ span → is_told_all one.kernel first.key ≡ false →
        is_empty (messages_of (telling one.kernel) first.key) ≡ false → tells_object one.kernel first.key one.name ≡ true → Takes (reads_event one first.key key reader room noted.message) (requeued one.space one.space.object.faults rest) one.name
    by [] None is spans left some tells = absurd (false≢true (sym some ∙ (λ i. is_empty (map (λ (event : Untold). event.message) (is i) ++ removes (spans i)))))
    by [] (Some span) is spans left some tells = remove-next one key reader room noted rest are first span enabled fits left is spans (watched first.key span spans) tells
    by (next ∷ more) span is spans left some tells = event-next one key reader room noted rest are first next more enabled fits left is

pub event-taken : (one : Counterparts) (key : ℕ) (reader room : Option ℕ) (noted : Noted) (rest : List Noted) → one.space.object.enabled ≡ true → one.space.object.events ≡ noted ∷ rest → AreWatched one → has_room_for 1 room ≡ true →
    (call : ℕ) × Takes (reads_event one call key reader room noted.message) (requeued one.space one.space.object.faults rest) one.name
event-taken one key reader room noted rest enabled events watched fits =
    let are : AreUntold one.name (telling one.kernel) (noted ∷ rest) = subst (AreUntold one.name (telling one.kernel)) events one.agree.untold in
    let first = first-of (telling one.kernel) one.name one.kernel.calls are.once (ap is_empty are.same) in
    (first.key, event-by one key reader room noted rest are first _ _ enabled watched fits refl refl)

pub read-event : (space : Space) (noted : Noted) (rest : List Noted) → space.object.enabled ≡ true → space.object.faults ≡ [] → space.object.events ≡ noted ∷ rest → read_space space ≡ requeued space space.object.faults rest
read-event space noted rest enabled none events = rw (enabled, none, events) refl
