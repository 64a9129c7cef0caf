-- Map calls under way, each with events that are unread: what a kernel has to tell then, and what a log has of them.
use Rattle.std.proofs.lemmas.Bool.Decides.{nat_tests}
use Rattle.std.proofs.lemmas.Bool.{false≢true, or_from}
use Rattle.std.proofs.lemmas.List.Concat.{flat_map-cons}
use Rattle.std.proofs.lemmas.List.Elements.{filter-append}
use Rattle.std.proofs.lemmas.List.Folds.{list_any-append}
use Rattle.std.proofs.lemmas.List.{append-nil, append_assoc}
use Rattle.std.proofs.Common.{◌≡◌, ℕ, ◌+◌, ◌-◌, ◌<◌, ◌≤◌, ◌&&◌, ◌||◌, Bool, true, false, not, cond, eqb, Some, None, List, [], ◌∷◌, ◌++◌, filter, map, max, arith, refl, sym, ap, ◌∙◌}
use Rattle.std.specs.List.{flat_map, list_any}
use Rattle.mig_base.specs.declared.TheConstants.{LOW}
use Rattle.mig_base.specs.declared.message.Message.{Message}
use Rattle.foundation.specs.Tests.{is_empty}
use Rattle.mig_base.specs.Userfault.{Noted}
use Rattle.foundation.proofs.TestLemmas.{eqb-self, or_first, or_second}
use Rattle.uffd_log.specs.declared.call.Call.{Call}
use Rattle.uffd_log.specs.declared.call.Message.{Message as LogMessage}
use Rattle.uffd_log.specs.declared.line.Answer.{Answer}
use Rattle.kernel_rules.specs.declared.calling.Told.{Told}
use Rattle.kernel_rules.specs.declared.calling.Untold.{Untold}
use Rattle.kernel_rules.specs.Ioctls.{tells_object}
use Rattle.kernel_rules.specs.MapCalls.{may_return, returned}
use Rattle.kernel_rules.specs.Runs as runs
use Rattle.kernel_rules.specs.Runs.{begun_of, effect_at_end, without_begun}
use Rattle.kernel_rules.specs.State.{Kernel, fresh_kernel, is_range}
use Rattle.kernel_laws.specs.Agreement.{AreUntold, Counterparts, are_once, have_ranks, is_of_another, message_of, messages_of, telling}
use Rattle.mig_model.specs.Space.{Space}
use Rattle.kernel_laws.specs.Logs.{Open, under_way, unread_of, with_unread, without_cleared}
use Rattle.kernel_laws.proofs.EventReads.{all-kept, same-rest}
use Rattle.kernel_laws.proofs.Tellings.{AreEvents, Telling, are_ranked, messages_in, no-events, no-told, of-this, own-events, ranks-before, tellers, texts_of, untold-in, untold_by}
use Rattle.kernel_laws.proofs.Unmaps.{filtered-none}

-- a call of an address space, its answer, all that it had to tell, what of it a kernel has unread, and what the model has
pub record Pending : Type 0 where
  pub key : ℕ
  pub home : ℕ
  pub call : Call
  pub answer : Answer
  pub all : List Message
  pub unread : List Telling
  pub modelled : List Noted

abbrev pub open_of : Pending → Open
open_of one =
    record {
      made = record { key = one.key; space = one.home; thread = 0; program = 0; call = one.call; last = false };
      out = record { answer = one.answer; messages = []; runs = [] };
      unread = one.modelled;
      told = messages_in one.unread;
    }

abbrev pub events_of : ℕ → Pending → List Untold
events_of name one = untold_by one.key name one.unread

abbrev pub events_all : ℕ → List Pending → List Untold
events_all name [] = []
events_all name (one ∷ pending) = events_of name one ++ events_all name pending

abbrev pub told_all : ℕ → List Pending → List Told
told_all name [] = []
told_all name (one ∷ pending) = tellers one.key name one.all ++ told_all name pending

-- as a log has them
abbrev pub texts_all : List Pending → List LogMessage
texts_all [] = []
texts_all (one ∷ pending) = texts_of (messages_in one.unread) ++ texts_all pending

abbrev pub numbers_of : List Pending → List ℕ
numbers_of pending = map (λ (one : Pending). one.key) pending

-- what a kernel has to tell
abbrev pub telling_of : ℕ → List Pending → Kernel
telling_of name pending = record fresh_kernel { calls = numbers_of pending; told = told_all name pending; events = events_all name pending }

-- these calls are under way at a kernel, and no others
abbrev pub HasCalls : List Pending → Counterparts → Type 0
HasCalls pending one = telling one.kernel ≡ telling_of one.name pending

-- the space of the model, by that of a kernel, with these calls under way
abbrev pub seen : List Pending → Space → Space
seen pending space = with_unread space (unread_of (map open_of pending))

-- the part of a range that the model may have mapped is one of whole pages
abbrev pub MayWake : (start end : ℕ) → Type 0
MayWake start end = is_range (max start LOW) (end - start - (LOW - start)) ≡ true

-- of the range of an event
abbrev pub MayWakeFor : Message → Type 0
MayWakeFor (Message.PageFault addr write wp tid) = Unit {0}
MayWakeFor (Message.Remap from to len) = MayWake from (from + len)
MayWakeFor (Message.Remove start end) = MayWake start end
MayWakeFor (Message.Unmap start end) = MayWake start end

abbrev pub MayWakeAll : List Message → Type 0
MayWakeAll [] = Unit {0}
MayWakeAll (message ∷ messages) = MayWakeFor message × MayWakeAll messages

-- where the model has one event left, a kernel has one at least, and where the model has more it has as many at least
abbrev pub ArePaired : List Noted → List Telling → Type 0
ArePaired [] tellings = ⊥
ArePaired (noted ∷ []) [] = ⊥
ArePaired (noted ∷ []) (one ∷ tellings) = Unit {0}
ArePaired (noted ∷ more ∷ rest) [] = ⊥
ArePaired (noted ∷ more ∷ rest) (one ∷ tellings) = ArePaired (more ∷ rest) tellings

-- an event is no page fault
abbrev pub IsEvent : Message → Type 0
IsEvent (Message.PageFault addr write wp tid) = ⊥
IsEvent message = Unit {0}

abbrev pub AreAllEvents : List Noted → Type 0
AreAllEvents [] = Unit {0}
AreAllEvents (noted ∷ rest) = IsEvent noted.message × AreAllEvents rest

-- what it tells: each event has a rank of its own, and is one that a map call tells the object
pub record Tells (one : Pending) : Type 0 where
  pub ranks : are_ranked one.unread ≡ true
  pub events : AreEvents (messages_in one.unread)
  pub some : is_empty one.all ≡ false

-- its UFFDIO_WAKE is of whole pages, it is to clear no page, and it was not interrupted
pub record IsGood (one : Pending) : Type 0 where
  pub tells : Tells one
  pub wakes : MayWakeAll (messages_in one.unread)
  pub paired : ArePaired one.modelled one.unread
  pub kinds : AreAllEvents one.modelled
  pub keeps : (space : Space) → without_cleared space one.call ≡ space
  pub ends : Some (open_of one).out ≡ effect_at_end one.answer (open_of one).out

-- the calls have numbers of their own, and tell so
abbrev pub AreTelling : List Pending → Type 0
AreTelling [] = Unit {0}
AreTelling (one ∷ pending) = (list_any (λ (other : Pending). eqb other.key one.key) pending ≡ false) × Tells one × AreTelling pending

-- the calls have numbers of their own, below this one
abbrev pub AreBelow : ℕ → List Pending → Type 0
AreBelow key [] = Unit {0}
AreBelow key (one ∷ pending) = (one.key < key) × (list_any (λ (other : Pending). eqb other.key one.key) pending ≡ false) × IsGood one × AreBelow key pending

pub are-telling : (key : ℕ) (pending : List Pending) → AreBelow key pending → AreTelling pending
are-telling key [] below = tt
are-telling key (one ∷ pending) below = (below.1, below.2.tells, are-telling key pending below.3)

-- Lists

any-map : {X Y : Type 0} (p : Y → Bool) (f : X → Y) (xs : List X) → list_any p (map f xs) ≡ list_any (λ x. p (f x)) xs
any-map p f [] = refl
any-map p f (x ∷ xs) = ap (λ b. p (f x) || b) (any-map p f xs)

pub none-both : {X : Type 0} (p q : X → Bool) (xs : List X) → list_any p xs ≡ false → list_any (λ x. p x && q x) xs ≡ false
none-both p q [] none = refl
none-both p q (x ∷ xs) none = λ i. or_first (p x) (list_any p xs) none i && q x || none-both p q xs (or_second (p x) (list_any p xs) none) i

-- Numbers

less-apart : (a b : ℕ) → a < b → eqb a b ≡ false
less-apart a b h = grind (arith, nat_tests, h)

more-apart : (a b : ℕ) → a < b → eqb b a ≡ false
more-apart a b h = grind (arith, nat_tests, h)

pub apart : (key : ℕ) (pending : List Pending) → AreBelow key pending → list_any (λ (one : Pending). eqb one.key key) pending ≡ false
apart key [] below = refl
apart key (one ∷ pending) below = λ i. less-apart one.key key below.0 i || apart key pending below.3 i

pub others-apart : (key number : ℕ) (pending : List Pending) → number < key → AreBelow key pending → (eqb number key || list_any (λ (one : Pending). eqb one.key key) pending) ≡ false
others-apart key number pending less below = λ i. less-apart number key less i || apart key pending below i

pub still-below : (key more : ℕ) (pending : List Pending) → key ≤ more → AreBelow key pending → AreBelow more pending
still-below key more [] less below = tt
still-below key more (one ∷ pending) less below = (lower one.key key more below.0 less, below.1, below.2, still-below key more pending less below.3) where
  lower : (a b c : ℕ) → a < b → b ≤ c → a < c
  lower a b c h k = omega (arith, h, k)

pub below-last : (key : ℕ) (pending : List Pending) (last : Pending) → last.key ≡ key → IsGood last → AreBelow key pending → AreBelow (key + 1) (pending ++ last ∷ [])
below-last key [] last is good below = (next last.key key is, refl, good, tt) where
  next : (a key : ℕ) → a ≡ key → a < key + 1
  next a key is = omega (arith, is)
below-last key (one ∷ pending) last is good below = (
  lower one.key key below.0,
  list_any-append (λ (other : Pending). eqb other.key one.key) pending (last ∷ [])
      ∙ (λ i. below.1 i || ((ap (λ n. eqb n one.key) is ∙ more-apart one.key key below.0) i || false)),
  below.2,
  below-last key pending last is good below.3,
)
  where
    lower : (a key : ℕ) → a < key → a < key + 1
    lower a key h = omega (arith, h)

-- A call of another number

pub apart-numbers : (key : ℕ) (pending : List Pending) → list_any (λ (one : Pending). eqb one.key key) pending ≡ false → list_any (λ other. eqb other key) (numbers_of pending) ≡ false
apart-numbers key pending none = any-map (λ other. eqb other key) (λ (one : Pending). one.key) pending ∙ none

pub apart-events : (name key : ℕ) (pending : List Pending) → list_any (λ (one : Pending). eqb one.key key) pending ≡ false → list_any (λ (one : Untold). eqb one.key key) (events_all name pending) ≡ false
apart-events name key [] none = refl
apart-events name key (one ∷ pending) none =
    let test = λ (one : Untold). eqb one.key key in
    let others = list_any (λ (other : Pending). eqb other.key key) pending in
    list_any-append test (events_of name one) (events_all name pending)
    ∙ or_from (list_any test (events_of name one)) (list_any test (events_all name pending)) (no-events one.key name key one.unread (or_first (eqb one.key key) others none)) (apart-events name key pending (or_second (eqb one.key key) others none))

pub apart-told : (name key : ℕ) (pending : List Pending) → list_any (λ (one : Pending). eqb one.key key) pending ≡ false → list_any (λ (one : Told). eqb one.key key) (told_all name pending) ≡ false
apart-told name key [] none = refl
apart-told name key (one ∷ pending) none =
    let test = λ (one : Told). eqb one.key key in
    let others = list_any (λ (other : Pending). eqb other.key key) pending in
    list_any-append test (tellers one.key name one.all) (told_all name pending)
    ∙ or_from (list_any test (tellers one.key name one.all)) (list_any test (told_all name pending)) (no-told one.key name key one.all (or_first (eqb one.key key) others none)) (apart-told name key pending (or_second (eqb one.key key) others none))

-- it may return, and the others are still under way
pub others-return : (name key : ℕ) (pending : List Pending) → list_any (λ (one : Pending). eqb one.key key) pending ≡ false → may_return (telling_of name pending) key ≡ true
others-return name key pending none = ap (λ b. (not b && true) && true) (apart-events name key pending none)

pub others-stay : (name key : ℕ) (pending : List Pending) → list_any (λ (one : Pending). eqb one.key key) pending ≡ false → telling (returned (telling_of name pending) key) ≡ telling_of name pending
others-stay name key pending none =
    λ i. record (telling_of name pending) {
      calls = all-kept (λ other. eqb other key) (numbers_of pending) (apart-numbers key pending none) i;
      told = all-kept (λ (one : Told). eqb one.key key) (told_all name pending) (apart-told name key pending none) i;
    }

-- What is unread

abbrev texts : List Untold → List LogMessage
texts events = map (λ (one : Untold). one.message) events

own-message : (name : ℕ) (one : Pending) (pending : List Pending) → list_any (λ (other : Pending). eqb other.key one.key) pending ≡ false → messages_of (telling_of name (one ∷ pending)) one.key ≡ texts_of (messages_in one.unread)
own-message name one pending none =
    let test = λ (other : Untold). eqb other.key one.key in
    let events = events_all name pending in
    (λ i. texts (filter-append test (events_of name one) events i) ++ [])
    ∙ (λ i. texts (own-events one.key name one.unread i ++ filtered-none test events (apart-events name one.key pending none) i) ++ [])
    ∙ (λ i. texts (append-nil (events_of name one) i) ++ [])
    ∙ append-nil (texts (events_of name one))
    ∙ untold-in one.key name one.unread

other-messages : (name other : ℕ) (one : Pending) (pending : List Pending) → eqb one.key other ≡ false → messages_of (telling_of name (one ∷ pending)) other ≡ messages_of (telling_of name pending) other
other-messages name other one pending none =
    let test = λ (event : Untold). eqb event.key other in
    (λ i. texts (filter-append test (events_of name one) (events_all name pending) i) ++ [])
    ∙ (λ i. texts (filtered-none test (events_of name one) (no-events one.key name other one.unread none) i ++ filter test (events_all name pending)) ++ [])

pub all-messages : (name : ℕ) (pending : List Pending) → AreTelling pending → flat_map (messages_of (telling_of name pending)) (numbers_of pending) ≡ texts_all pending
all-messages name [] are = refl
all-messages name (one ∷ pending) are =
    let f = messages_of (telling_of name (one ∷ pending)) in
    let rest =
    same-rest (telling_of name pending) (telling_of name (one ∷ pending)) one.key (numbers_of pending) (apart-numbers one.key pending are.0) (λ other out. other-messages name other one pending out)
    ∙ all-messages name pending are.2 in
    flat_map-cons f one.key (numbers_of pending) ∙ (λ i. own-message name one pending are.0 i ++ rest i)

once : (pending : List Pending) → AreTelling pending → are_once (numbers_of pending) ≡ true
once [] are = refl
once (one ∷ pending) are = λ i. not (apart-numbers one.key pending are.0 i) && once pending are.2 i

ranks : (name : ℕ) (pending : List Pending) → AreTelling pending → have_ranks (events_all name pending) ≡ true
ranks name [] are = refl
ranks name (one ∷ pending) are = ranks-before one.key name one.unread (events_all name pending) are.1.ranks (ranks name pending are.2) (apart-events name one.key pending are.0)

own : (name : ℕ) (pending : List Pending) → AreTelling pending → list_any (is_of_another name) (events_all name pending) ≡ false
own name [] are = refl
own name (one ∷ pending) are =
    list_any-append (is_of_another name) (events_of name one) (events_all name pending)
    ∙ or_from (list_any (is_of_another name) (events_of name one)) (list_any (is_of_another name) (events_all name pending)) (of-this one.key name one.unread are.1.events) (own name pending are.2)

tells-first : (name key number : ℕ) (all : List Message) (rest : List Told) → is_empty all ≡ false → eqb number key ≡ true → list_any (λ (one : Told). eqb one.key key && eqb one.object name) (tellers number name all ++ rest) ≡ true
tells-first name key number [] rest some is = absurd (false≢true (sym some))
tells-first name key number (message ∷ all) rest some is = λ i. is i && eqb-self name i || list_any (λ (one : Told). eqb one.key key && eqb one.object name) (tellers number name all ++ rest)

tells-by : (name key : ℕ) (one : Pending) (pending : List Pending) (b : Bool) → Tells one → eqb one.key key ≡ b → (b ≡ false → tells_object (telling_of name pending) key name ≡ true) → tells_object (telling_of name (one ∷ pending)) key name ≡ true
tells-by name key one pending true tells is rest = tells-first name key one.key one.all (told_all name pending) tells.some is
tells-by name key one pending false tells is rest =
    let test = λ (one : Told). eqb one.key key && eqb one.object name in
    list_any-append test (tellers one.key name one.all) (told_all name pending) ∙ ap (λ b. list_any test (tellers one.key name one.all) || b) (rest refl) ∙ or-true (list_any test (tellers one.key name one.all))
  where
    or-true : (b : Bool) → (b || true) ≡ true
    or-true b = grind (arith, nat_tests)

tells : (name key : ℕ) (pending : List Pending) → AreTelling pending → is_empty (messages_of (telling_of name pending) key) ≡ false → tells_object (telling_of name pending) key name ≡ true
tells name key [] are some = absurd (false≢true (sym some))
tells name key (one ∷ pending) are some =
    tells-by name key one pending (eqb one.key key) are.1 refl (λ out. tells name key pending are.2 (ap is_empty (sym (other-messages name key one pending out)) ∙ some))

pub untold-of : (name : ℕ) (pending : List Pending) (events : List Noted) → AreTelling pending → texts_all pending ≡ map (λ (noted : Noted). message_of noted.message) events → AreUntold name (telling_of name pending) events
untold-of name pending events are is =
    record {
      same = all-messages name pending are ∙ is;
      once = once pending are;
      ranks = ranks name pending are;
      own = own name pending are;
      tells = λ key some. tells name key pending are some;
      none_queued = refl;
    }

-- both ways
pub unread-by : (name : ℕ) (pending : List Pending) (events : List Noted) → AreTelling pending → AreUntold name (telling_of name pending) events → texts_all pending ≡ map (λ (noted : Noted). message_of noted.message) events
unread-by name pending events are untold = sym (all-messages name pending are) ∙ untold.same

-- what the model has unread, with one more call
pub unread-last : (calls : List Pending) (last : Pending) → unread_of (map open_of calls ++ open_of last ∷ []) ≡ unread_of (map open_of calls) ++ last.modelled
unread-last [] last = append-nil last.modelled
unread-last (one ∷ calls) last = ap (λ l. one.modelled ++ l) (unread-last calls last) ∙ sym (append_assoc one.modelled (unread_of (map open_of calls)) last.modelled)

-- What has begun

-- one that has begun, and taken effect
abbrev pub over_of : Pending → runs.Begun
over_of one = record { made = (open_of one).made; out = Some (open_of one).out; left = 0 }

-- the calls that have begun
abbrev pub begun_calls : List Pending → List runs.Begun
begun_calls pending = (under_way fresh_kernel (map open_of pending)).begun

pub none-begun : (key : ℕ) (pending : List Pending) → list_any (λ (one : Pending). eqb one.key key) pending ≡ false → begun_of (begun_calls pending) key ≡ None
none-begun key [] none = refl
none-begun key (one ∷ pending) none =
    ap (λ b. cond b (Some (over_of one)) (begun_of (begun_calls pending) key)) (or_first (eqb one.key key) (list_any (λ (one : Pending). eqb one.key key) pending) none)
    ∙ none-begun key pending (or_second (eqb one.key key) (list_any (λ (one : Pending). eqb one.key key) pending) none)

pub last-begun : (key : ℕ) (pending : List Pending) (last : runs.Begun) → last.made.key ≡ key → list_any (λ (one : Pending). eqb one.key key) pending ≡ false → begun_of (begun_calls pending ++ last ∷ []) key ≡ Some last
last-begun key [] last is none = ap (λ b. cond b (Some last) None) (ap (λ n. eqb n key) is ∙ eqb-self key)
last-begun key (one ∷ pending) last is none =
    ap (λ b. cond b (Some (over_of one)) (begun_of (begun_calls pending ++ last ∷ []) key)) (or_first (eqb one.key key) (list_any (λ (one : Pending). eqb one.key key) pending) none)
    ∙ last-begun key pending last is (or_second (eqb one.key key) (list_any (λ (one : Pending). eqb one.key key) pending) none)

pub but-last : (key : ℕ) (pending : List Pending) (last : runs.Begun) → last.made.key ≡ key → list_any (λ (one : Pending). eqb one.key key) pending ≡ false → without_begun (begun_calls pending ++ last ∷ []) key ≡ begun_calls pending
but-last key [] last is none = ap (λ b. cond (not b) (last ∷ []) []) (ap (λ n. eqb n key) is ∙ eqb-self key)
but-last key (one ∷ pending) last is none =
    let rest = list_any (λ (one : Pending). eqb one.key key) pending in
    let left = without_begun (begun_calls pending ++ last ∷ []) key in
    ap (λ b. cond (not b) (over_of one ∷ left) left) (or_first (eqb one.key key) rest none) ∙ ap (λ l. over_of one ∷ l) (but-last key pending last is (or_second (eqb one.key key) rest none))
