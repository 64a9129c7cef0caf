-- A kernel whose object agrees with that of a space: it knows of no page whether it is present, and each unread event is of a call of its own.
use Rattle.std.proofs.Common.{◌≡◌, ℕ, ◌+◌, ◌<◌, ◌≤◌, ◌^◌, ◌&&◌, ◌||◌, Bool, true, false, not, cond, eqb, ltb, Some, None, List, [], ◌∷◌, ◌++◌, filter, map, arith, refl, sym, ap, subst, ◌∙◌}
use Rattle.std.proofs.lemmas.Bool.Decides.{nat_tests}
use Rattle.std.proofs.lemmas.Bool.{false≢true, or_from}
use Rattle.std.proofs.lemmas.List.Concat.{flat_map-cons}
use Rattle.std.proofs.lemmas.List.{append-nil}
use Rattle.std.specs.FinSet.{contains}
use Rattle.std.specs.List.{flat_map, list_any}
use Rattle.mig_base.specs.declared.message.Message.{Message}
use Rattle.foundation.specs.Tests.{is_empty}
use Rattle.mig_base.specs.Userfault.{Noted, is_registered}
use Rattle.foundation.proofs.TestLemmas.{eqb-self}
use Rattle.mig_base.specs.declared.TheConstants.{HIGH_PAGE}
use Rattle.mig_model.specs.Space.{IsSoundSpace, Space}
use Rattle.mig_model.proofs.memory.IoctlLemmas.{below_high}
use Rattle.kernel_rules.specs.declared.calling.Told.{Told}
use Rattle.kernel_rules.specs.declared.calling.Untold.{Untold}
use Rattle.kernel_rules.specs.declared.known.Page.{Page}
use Rattle.kernel_rules.specs.declared.known.Presence.TheVariants.{Unknown}
use Rattle.kernel_rules.specs.declared.object.Object.{Object}
use Rattle.kernel_rules.specs.Reads.{is_same_event}
use Rattle.kernel_rules.specs.State.{Kernel, fresh_kernel}
use Rattle.kernel_laws.specs.Agreement.{AgreesAt, AreUnmapsAndRemaps, AreUnread, AreUntold, Counterparts, are_once, features_of, has_page, have_ranks, is_of_another, is_unmap_or_remap, message_of, messages_of, telling}

-- The calls of unread events, numbered from a number on

calls_of : ℕ → List Noted → List ℕ
calls_of key [] = []
calls_of key (noted ∷ rest) = key ∷ calls_of (key + 1) rest

told_of : ℕ → List Noted → List Told
told_of key [] = []
told_of key (noted ∷ rest) = record { key = key; object = 0 } ∷ told_of (key + 1) rest

events_of : ℕ → List Noted → List Untold
events_of key [] = []
events_of key (noted ∷ rest) = record { key = key; rank = 0; object = 0; message = message_of noted.message } ∷ events_of (key + 1) rest

above : (key other : ℕ) → other < key → (eqb key other ≡ false) × (other < key + 1)
above key other low = (grind (arith, nat_tests, low), omega (arith, low))

-- an earlier number is that of none of them
no-call : (key other : ℕ) (noted : List Noted) → other < key → list_any (λ one. eqb one other) (calls_of key noted) ≡ false
unfolding calls_of
no-call key other [] low = refl
no-call key other (noted ∷ rest) low =
    let both = above key other low in
    or_from (eqb key other) (list_any (λ one. eqb one other) (calls_of (key + 1) rest)) both.0 (no-call (key + 1) other rest both.1)

no-event : (key other rank : ℕ) (noted : List Noted) → other < key → list_any (λ (one : Untold). eqb one.key other && eqb one.rank rank) (events_of key noted) ≡ false
unfolding events_of
no-event key other rank [] low = refl
no-event key other rank (noted ∷ rest) low =
    let both = above key other low in
    or_from (eqb key other && eqb 0 rank) (list_any (λ (one : Untold). eqb one.key other && eqb one.rank rank) (events_of (key + 1) rest)) (ap (λ b. b && eqb 0 rank) both.0) (no-event (key + 1) other rank rest both.1)

none-of : (key other : ℕ) (noted : List Noted) → other < key → filter (λ (one : Untold). eqb one.key other) (events_of key noted) ≡ []
unfolding events_of
none-of key other [] low = refl
none-of key other (noted ∷ rest) low =
    let both = above key other low in
    let left = filter (λ (one : Untold). eqb one.key other) (events_of (key + 1) rest) in
    ap (λ b. cond b (record { key = key; rank = 0; object = 0; message = message_of noted.message } ∷ left) left) both.0 ∙ none-of (key + 1) other rest both.1

below-next : (key : ℕ) → key < key + 1
below-next key = omega (arith)

once-of : (key : ℕ) (noted : List Noted) → are_once (calls_of key noted) ≡ true
unfolding calls_of
once-of key [] = refl
once-of key (noted ∷ rest) = λ i. not (no-call (key + 1) key rest (below-next key) i) && once-of (key + 1) rest i

ranks-of : (key : ℕ) (noted : List Noted) → have_ranks (events_of key noted) ≡ true
unfolding events_of
ranks-of key [] = refl
ranks-of key (noted ∷ rest) = λ i. not (no-event (key + 1) key 0 rest (below-next key) i) && ranks-of (key + 1) rest i

same-self : (message : Message) → is_unmap_or_remap message ≡ true → is_same_event (message_of message) (message_of message) ≡ true
same-self message is = grind (arith, nat_tests, eqb-self)

own-of : (key : ℕ) (noted : List Noted) → AreUnmapsAndRemaps noted → list_any (is_of_another 0) (events_of key noted) ≡ false
unfolding events_of
own-of key [] are = refl
own-of key (noted ∷ rest) are = λ i. not (same-self noted.message are.0 i) || own-of (key + 1) rest are.1 i

-- a call with an event tells the object
tells-one : (key other : ℕ) (told : Bool) (one : Untold) (left : List Untold) (b : Bool) → eqb key other ≡ b → (is_empty left ≡ false → told ≡ true) → is_empty (cond b (one ∷ left) left) ≡ false → (eqb key other && eqb 0 0 || told) ≡ true
tells-one key other told one left true is tells some = ap (λ b. b && true || told) is
tells-one key other told one left false is tells some = ap (λ b. b && true || told) is ∙ tells some

tells-of : (key other : ℕ) (noted : List Noted) → is_empty (filter (λ (one : Untold). eqb one.key other) (events_of key noted)) ≡ false →
    list_any (λ (one : Told). eqb one.key other && eqb one.object 0) (told_of key noted) ≡ true
unfolding events_of told_of
tells-of key other [] some = absurd (false≢true (sym some))
tells-of key other (noted ∷ rest) some =
    tells-one key other (list_any (λ (one : Told). eqb one.key other && eqb one.object 0) (told_of (key + 1) rest)) (record { key = key; rank = 0; object = 0; message = message_of noted.message })
    (filter (λ (one : Untold). eqb one.key other) (events_of (key + 1) rest)) (eqb key other) refl (tells-of (key + 1) other rest) some

-- what the calls have to tell
told-by : (kernel : Kernel) (key : ℕ) (noted : List Noted) → ((other : ℕ) → key ≤ other → messages_of kernel other ≡ map (λ (one : Untold). one.message) (filter (λ (one : Untold). eqb one.key other) (events_of key noted))) →
    flat_map (messages_of kernel) (calls_of key noted) ≡ map (λ (one : Noted). message_of one.message) noted
unfolding calls_of events_of
told-by kernel key [] has = refl
told-by kernel key (noted ∷ rest) has =
    let one : Untold = record { key = key; rank = 0; object = 0; message = message_of noted.message } in
    let left = λ (other : ℕ). filter (λ (event : Untold). eqb event.key other) (events_of (key + 1) rest) in
    let messages = λ (events : List Untold). map (λ (event : Untold). event.message) events in
    let first : messages_of kernel key ≡ message_of noted.message ∷ [] =
    has key (at-most key) ∙ ap (λ b. messages (cond b (one ∷ left key) (left key))) (eqb-self key) ∙ ap (λ l. message_of noted.message ∷ messages l) (none-of (key + 1) key rest (below-next key)) in
    flat_map-cons (messages_of kernel) key (calls_of (key + 1) rest)
    ∙ (λ i. first i ++ told-by kernel (key + 1) rest (λ other high. has other (lower key other high) ∙ ap (λ b. messages (cond b (one ∷ left other) (left other))) (apart key other high)) i)
  where
    at-most : (n : ℕ) → n ≤ n
    at-most n = omega (arith)

    lower : (n other : ℕ) → n + 1 ≤ other → n ≤ other
    lower n other h = omega (arith, h)

    apart : (n other : ℕ) → n + 1 ≤ other → eqb n other ≡ false
    apart n other h = grind (arith, nat_tests, h)

-- The kernel

object_of : Space → Object
object_of space = record { space = 0; program = 0; waits = false; features = features_of space.object.enabled space.object.features; puts = false }

page_of : Space → ℕ → Page
page_of space page =
    record { object = 0; missing = contains space.object.missing page; protect = contains space.object.protect page; presence = Unknown; guarded = contains space.protected page; put = false; freed = false; minor = false }

kernel_of : Space → Kernel
kernel_of space =
    record fresh_kernel {
      calls = calls_of 0 space.object.events;
      told = told_of 0 space.object.events;
      events = events_of 0 space.object.events;
      ranges = record { object = 0; first = 0; count = 2 ^ 52 } ∷ [];
      objects = λ name. Some (object_of space);
      pages = λ other page. cond (is_registered space.object page) (Some (page_of space page)) None;
    }

agrees : (space : Space) (page : ℕ) (b : Bool) → is_registered space.object page ≡ b → AgreesAt space 0 page (cond b (Some (page_of space page)) None)
unfolding page_of
agrees space page true is =
    record { object = refl; missing = refl; protect = refl; registered = is; absent = λ h. absurd (false≢true h); present = λ h. absurd (false≢true h); whole = refl; plain = refl; guarded = λ h. h }
agrees space page false is = is

untold-of : (space : Space) → AreUnmapsAndRemaps space.object.events → AreUntold 0 (telling (kernel_of space)) space.object.events
unfolding kernel_of
untold-of space are =
    let events = events_of 0 space.object.events in
    record {
      same = told-by (telling (kernel_of space)) 0 space.object.events (λ other high. append-nil (map (λ (one : Untold). one.message) (filter (λ (one : Untold). eqb one.key other) events)));
      once = once-of 0 space.object.events;
      ranks = ranks-of 0 space.object.events;
      own = own-of 0 space.object.events are;
      tells = λ key some.
          tells-of 0 key space.object.events
          (filled (filter (λ (one : Untold). eqb one.key key) events) (sym (ap is_empty (append-nil (map (λ (one : Untold). one.message) (filter (λ (one : Untold). eqb one.key key) events)))) ∙ some));
      none_queued = refl;
    }
  where
    filled : (events : List Untold) → is_empty (map (λ (one : Untold). one.message) events) ≡ false → is_empty events ≡ false
    filled [] some = some
    filled (one ∷ events) some = refl

-- each page lies in its range
everywhere : (page : ℕ) → ltb page HIGH_PAGE ≡ true → list_any (has_page 0 page) (record { object = 0; first = 0; count = 2 ^ 52 } ∷ []) ≡ true
everywhere page below = grind (arith, nat_tests)

pub counterpart : (space : Space) → IsSoundSpace space → space.object.faults ≡ [] → AreUnmapsAndRemaps space.object.events → (one : Counterparts) × (one.space ≡ space)
unfolding kernel_of object_of
counterpart space sound none are = (
  record {
    space = space;
    kernel = kernel_of space;
    name = 0;
    object = object_of space;
    agree = record {
      sound = sound;
      named = refl;
      features = refl;
      unread = subst (AreUnread [] 0 (object_of space)) (sym none) (record { on_their_way = tt; none_queued = refl });
      pages = λ page. agrees space page (is_registered space.object page) refl;
      untold = untold-of space are;
      alone = refl;
      ranged = λ page h. everywhere page (below_high space page sound (sound.mapped page h));
    };
  },
  refl,
)
