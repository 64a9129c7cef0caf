-- The events of a map call, as a kernel has them to tell: in their order, by ranks.
use Rattle.std.proofs.lemmas.Bool.Decides.{nat_tests}
use Rattle.std.proofs.lemmas.Bool.{false≢true, or_from}
use Rattle.std.proofs.lemmas.List.Folds.{list_any-append}
use Rattle.std.proofs.lemmas.List.{append-nil, append_assoc}
use Rattle.std.proofs.Common.{◌≡◌, ℕ, suc, ◌<◌, ◌≤◌, ◌+◌, ◌&&◌, ◌||◌, Bool, true, false, not, cond, eqb, List, [], ◌∷◌, ◌++◌, filter, length, map, arith, refl, sym, ap, ◌∙◌}
use Rattle.std.specs.List.{list_any}
use Rattle.mig_base.specs.declared.message.Message.{Message}
use Rattle.mig_base.specs.Userfault.{Noted, Object, event_queued}
use Rattle.foundation.proofs.TestLemmas.{eqb-self, or_first, or_second}
use Rattle.mig_model.specs.Space.{all_queued, message_if}
use Rattle.uffd_log.specs.declared.call.Message.{Message as LogMessage}
use Rattle.kernel_rules.specs.declared.calling.Told.{Told}
use Rattle.kernel_rules.specs.declared.calling.Untold.{Untold}
use Rattle.kernel_rules.specs.MapCalls.{with_events}
use Rattle.kernel_rules.specs.Reads.{is_same_event}
use Rattle.kernel_rules.specs.State.{Kernel}
use Rattle.kernel_laws.specs.Agreement.{have_ranks, is_of_another, is_unmap_or_remap, message_of}
use Rattle.kernel_laws.specs.Logs.{noted_by}

-- an event of a call, with its rank
pub record Telling : Type 0 where
  pub rank : ℕ
  pub message : Message

-- these messages, ranked from a number on
abbrev pub ranked : ℕ → List Message → List Telling
ranked rank [] = []
ranked rank (message ∷ messages) = record { rank = rank; message = message } ∷ ranked (suc rank) messages

-- the events that a call has to tell an object
abbrev pub untold_by : (key name : ℕ) → List Telling → List Untold
untold_by key name [] = []
untold_by key name (one ∷ tellings) = record { key = key; rank = one.rank; object = name; message = message_of one.message } ∷ untold_by key name tellings

-- what was noted of them when they were queued
abbrev pub tellers : (key name : ℕ) → List Message → List Told
tellers key name [] = []
tellers key name (message ∷ messages) = record { key = key; object = name } ∷ tellers key name messages

-- messages, as a log has them
abbrev pub texts_of : List Message → List LogMessage
texts_of messages = map message_of messages

-- a kernel with a call that has these messages to tell an object
abbrev pub with_messages : Kernel → (key name : ℕ) → List Message → Kernel
with_messages kernel key name messages =
    record kernel { told = kernel.told ++ tellers key name messages; events = kernel.events ++ untold_by key name (ranked (length kernel.told) messages) }

-- One after another

ranked-append : (rank : ℕ) (xs ys : List Message) → ranked rank (xs ++ ys) ≡ ranked rank xs ++ ranked (rank + length xs) ys
ranked-append rank [] ys = ap (λ n. ranked n ys) (none rank) where
  none : (rank : ℕ) → rank ≡ rank + 0
  none rank = omega (arith)
ranked-append rank (x ∷ xs) ys = ap (λ l. record { rank = rank; message = x } ∷ l) (ranked-append (suc rank) xs ys ∙ ap (λ n. ranked (suc rank) xs ++ ranked n ys) (next rank (length xs))) where
  next : (rank n : ℕ) → suc rank + n ≡ rank + suc n
  next rank n = omega (arith)

untold-append : (key name : ℕ) (xs ys : List Telling) → untold_by key name (xs ++ ys) ≡ untold_by key name xs ++ untold_by key name ys
untold-append key name [] ys = refl
untold-append key name (x ∷ xs) ys = ap (λ l. record { key = key; rank = x.rank; object = name; message = message_of x.message } ∷ l) (untold-append key name xs ys)

tellers-append : (key name : ℕ) (xs ys : List Message) → tellers key name (xs ++ ys) ≡ tellers key name xs ++ tellers key name ys
tellers-append key name [] ys = refl
tellers-append key name (x ∷ xs) ys = ap (λ l. record { key = key; object = name } ∷ l) (tellers-append key name xs ys)

length-tellers : (key name : ℕ) (xs : List Message) → length (tellers key name xs) ≡ length xs
length-tellers key name [] = refl
length-tellers key name (x ∷ xs) = ap suc (length-tellers key name xs)

length-told : (told : List Told) (key name : ℕ) (xs : List Message) → length (told ++ tellers key name xs) ≡ length told + length xs
length-told [] key name xs = length-tellers key name xs ∙ none (length xs) where
  none : (n : ℕ) → n ≡ 0 + n
  none n = omega (arith)
length-told (one ∷ told) key name xs = ap suc (length-told told key name xs) ∙ next (length told) (length xs) where
  next : (a b : ℕ) → suc (a + b) ≡ suc a + b
  next a b = omega (arith)

pub more-messages : (kernel : Kernel) (key name : ℕ) (xs ys : List Message) → with_messages (with_messages kernel key name xs) key name ys ≡ with_messages kernel key name (xs ++ ys)
more-messages kernel key name xs ys =
    let rank = length kernel.told in
    let told : (kernel.told ++ tellers key name xs) ++ tellers key name ys ≡ kernel.told ++ tellers key name (xs ++ ys) =
    append_assoc kernel.told (tellers key name xs) (tellers key name ys) ∙ ap (λ l. kernel.told ++ l) (sym (tellers-append key name xs ys)) in
    let events : (kernel.events ++ untold_by key name (ranked rank xs)) ++ untold_by key name (ranked (length (kernel.told ++ tellers key name xs)) ys) ≡ kernel.events ++ untold_by key name (ranked rank (xs ++ ys)) =
    append_assoc kernel.events (untold_by key name (ranked rank xs)) (untold_by key name (ranked (length (kernel.told ++ tellers key name xs)) ys))
    ∙ ap (λ n. kernel.events ++ (untold_by key name (ranked rank xs) ++ untold_by key name (ranked n ys))) (length-told kernel.told key name xs)
    ∙ ap (λ l. kernel.events ++ l) (sym (ap (untold_by key name) (ranked-append rank xs ys) ∙ untold-append key name (ranked rank xs) (ranked (rank + length xs) ys))) in
    λ i. record kernel { told = told i; events = events i }

-- the rule for one message, which the object gets or nobody
pub by-name : (kernel : Kernel) (key name : ℕ) (message : Message) (w : Bool) → with_events kernel key (message_of message) (cond w (name ∷ []) []) ≡ with_messages kernel key name (message_if w message)
by-name kernel key name message true = refl
by-name kernel key name message false = λ i. record kernel { told = sym (append-nil kernel.told) i; events = sym (append-nil kernel.events) i }

pub queued-all : (object : Object) (messages : List Message) (cpu : ℕ) → all_queued object messages cpu ≡ record object { events = object.events ++ noted_by cpu messages }
queued-all object [] cpu = λ i. record object { events = sym (append-nil object.events) i }
queued-all object (message ∷ messages) cpu =
    queued-all (event_queued object message cpu) messages cpu ∙ (λ i. record object { events = append_assoc object.events (record { message = message; cpu = cpu } ∷ []) (noted_by cpu messages) i })

pub noted-texts : (cpu : ℕ) (messages : List Message) → map (λ (noted : Noted). message_of noted.message) (noted_by cpu messages) ≡ texts_of messages
noted-texts cpu [] = refl
noted-texts cpu (message ∷ messages) = ap (λ l. message_of message ∷ l) (noted-texts cpu messages)

-- Of a call, and of no other

pub own-events : (key name : ℕ) (tellings : List Telling) → filter (λ (one : Untold). eqb one.key key) (untold_by key name tellings) ≡ untold_by key name tellings
own-events key name [] = refl
own-events key name (one ∷ tellings) =
    let event : Untold = record { key = key; rank = one.rank; object = name; message = message_of one.message } in
    let rest = filter (λ (other : Untold). eqb other.key key) (untold_by key name tellings) in
    ap (λ b. cond b (event ∷ rest) rest) (eqb-self key) ∙ ap (λ l. event ∷ l) (own-events key name tellings)

pub no-events : (key name other : ℕ) (tellings : List Telling) → eqb key other ≡ false → list_any (λ (one : Untold). eqb one.key other) (untold_by key name tellings) ≡ false
no-events key name other [] apart = refl
no-events key name other (one ∷ tellings) apart = λ i. apart i || no-events key name other tellings apart i

pub no-told : (key name other : ℕ) (messages : List Message) → eqb key other ≡ false → list_any (λ (one : Told). eqb one.key other) (tellers key name messages) ≡ false
no-told key name other [] apart = refl
no-told key name other (message ∷ messages) apart = λ i. apart i || no-told key name other messages apart i

-- Ranks

-- no rank is twice among these
abbrev pub are_ranked : List Telling → Bool
are_ranked [] = true
are_ranked (one ∷ tellings) = not (list_any (λ (other : Telling). eqb other.rank one.rank) tellings) && are_ranked tellings

above : (low rank : ℕ) (messages : List Message) → low < rank → list_any (λ (other : Telling). eqb other.rank low) (ranked rank messages) ≡ false
above low rank [] less = refl
above low rank (message ∷ messages) less = λ i. other low rank less i || above low (suc rank) messages (later low rank less) i where
  other : (low rank : ℕ) → low < rank → eqb rank low ≡ false
  other low rank h = grind (arith, nat_tests, h)

  later : (low rank : ℕ) → low < rank → low < suc rank
  later low rank h = omega (arith, h)

pub are-ranked : (rank : ℕ) (messages : List Message) → are_ranked (ranked rank messages) ≡ true
are-ranked rank [] = refl
are-ranked rank (message ∷ messages) = λ i. not (above rank (suc rank) messages (next rank) i) && are-ranked (suc rank) messages i where
  next : (rank : ℕ) → rank < suc rank
  next rank = omega (arith)

pub same-ranks : (key name rank : ℕ) (tellings : List Telling) → list_any (λ (other : Untold). eqb other.key key && eqb other.rank rank) (untold_by key name tellings) ≡ list_any (λ (other : Telling). eqb other.rank rank) tellings
same-ranks key name rank [] = refl
same-ranks key name rank (one ∷ tellings) = λ i. eqb-self key i && eqb one.rank rank || same-ranks key name rank tellings i

have-ranks : (key name : ℕ) (tellings : List Telling) → are_ranked tellings ≡ true → have_ranks (untold_by key name tellings) ≡ true
have-ranks key name [] ranks = refl
have-ranks key name (one ∷ tellings) ranks =
    let twin = list_any (λ (other : Telling). eqb other.rank one.rank) tellings in
    λ i. not ((same-ranks key name one.rank tellings ∙ first twin (are_ranked tellings) ranks) i) && have-ranks key name tellings (second twin (are_ranked tellings) ranks) i
  where
    first : (a b : Bool) → (not a && b) ≡ true → a ≡ false
    first a b h = grind (arith, nat_tests)

    second : (a b : Bool) → (not a && b) ≡ true → b ≡ true
    second a b h = grind (arith, nat_tests)

-- no other call has an event of that rank
other-ranks : (key name other rank : ℕ) (tellings : List Telling) → eqb key other ≡ false → list_any (λ (one : Untold). eqb one.key other && eqb one.rank rank) (untold_by key name tellings) ≡ false
other-ranks key name other rank [] apart = refl
other-ranks key name other rank (one ∷ tellings) apart = λ i. apart i && eqb one.rank rank || other-ranks key name other rank tellings apart i

-- after the events of other calls
pub ranks-after : (key name : ℕ) (tellings : List Telling) (events : List Untold) → are_ranked tellings ≡ true → have_ranks events ≡ true → list_any (λ (one : Untold). eqb one.key key) events ≡ false → have_ranks (events ++ untold_by key name tellings) ≡ true
ranks-after key name tellings [] ranked ranks none = have-ranks key name tellings ranked
ranks-after key name tellings (first ∷ events) ranked ranks none =
    let test = λ (other : Untold). eqb other.key first.key && eqb other.rank first.rank in
    let twin = list_any test events in
    let rest = untold_by key name tellings in
    both (list_any test (events ++ rest)) (have_ranks (events ++ rest))
    (list_any-append test events rest
    ∙ or_from twin (list_any test rest) (once twin (have_ranks events) ranks) (other-ranks key name first.key first.rank tellings (turned first.key key (or_first (eqb first.key key) (list_any (λ (one : Untold). eqb one.key key) events) none))))
    (ranks-after key name tellings events ranked (more twin (have_ranks events) ranks) (or_second (eqb first.key key) (list_any (λ (one : Untold). eqb one.key key) events) none))
  where
    once : (a b : Bool) → (not a && b) ≡ true → a ≡ false
    once a b h = grind (arith, nat_tests)

    more : (a b : Bool) → (not a && b) ≡ true → b ≡ true
    more a b h = grind (arith, nat_tests)

    both : (a b : Bool) → a ≡ false → b ≡ true → (not a && b) ≡ true
    both a b ha hb = grind (arith, nat_tests)

    turned : (a b : ℕ) → eqb a b ≡ false → eqb b a ≡ false
    turned a b h = grind (arith, nat_tests, h)

-- before them
pub ranks-before : (key name : ℕ) (tellings : List Telling) (events : List Untold) → are_ranked tellings ≡ true → have_ranks events ≡ true → list_any (λ (one : Untold). eqb one.key key) events ≡ false → have_ranks (untold_by key name tellings ++ events) ≡ true
ranks-before key name [] events ranked ranks none = ranks
ranks-before key name (one ∷ tellings) events ranked ranks none =
    let test = λ (other : Untold). eqb other.key key && eqb other.rank one.rank in
    let twin = list_any (λ (other : Telling). eqb other.rank one.rank) tellings in
    both (list_any test (untold_by key name tellings ++ events)) (have_ranks (untold_by key name tellings ++ events))
    (list_any-append test (untold_by key name tellings) events
    ∙ or_from (list_any test (untold_by key name tellings)) (list_any test events) (same-ranks key name one.rank tellings ∙ once twin (are_ranked tellings) ranked) (none-both events none))
    (ranks-before key name tellings events (more twin (are_ranked tellings) ranked) ranks none)
  where
    once : (a b : Bool) → (not a && b) ≡ true → a ≡ false
    once a b h = grind (arith, nat_tests)

    more : (a b : Bool) → (not a && b) ≡ true → b ≡ true
    more a b h = grind (arith, nat_tests)

    both : (a b : Bool) → a ≡ false → b ≡ true → (not a && b) ≡ true
    both a b ha hb = grind (arith, nat_tests)

    none-both : (events : List Untold) → list_any (λ (other : Untold). eqb other.key key) events ≡ false → list_any (λ (other : Untold). eqb other.key key && eqb other.rank one.rank) events ≡ false
    none-both [] none = refl
    none-both (event ∷ events) none =
        λ i. or_first (eqb event.key key) (list_any (λ (other : Untold). eqb other.key key) events) none i && eqb event.rank one.rank || none-both events (or_second (eqb event.key key) (list_any (λ (other : Untold). eqb other.key key) events) none) i

-- Messages of map calls that unmap and move

-- each is one
abbrev pub AreEvents : List Message → Type 0
AreEvents [] = Unit {0}
AreEvents (message ∷ messages) = (is_unmap_or_remap message ≡ true) × AreEvents messages

pub same-event : (message : Message) → is_unmap_or_remap message ≡ true → is_same_event (message_of message) (message_of message) ≡ true
same-event (Message.PageFault addr write wp tid) is = absurd (false≢true is)
same-event (Message.Remap from to len) is = λ i. eqb-self from i && eqb-self to i && eqb-self len i
same-event (Message.Remove start end) is = absurd (false≢true is)
same-event (Message.Unmap start end) is = λ i. eqb-self start i && eqb-self end i

abbrev pub messages_in : List Telling → List Message
messages_in [] = []
messages_in (one ∷ tellings) = one.message ∷ messages_in tellings

pub untold-in : (key name : ℕ) (tellings : List Telling) → map (λ (one : Untold). one.message) (untold_by key name tellings) ≡ texts_of (messages_in tellings)
untold-in key name [] = refl
untold-in key name (one ∷ tellings) = ap (λ l. message_of one.message ∷ l) (untold-in key name tellings)

pub ranked-messages : (rank : ℕ) (messages : List Message) → messages_in (ranked rank messages) ≡ messages
ranked-messages rank [] = refl
ranked-messages rank (message ∷ messages) = ap (λ l. message ∷ l) (ranked-messages (suc rank) messages)

pub untold-texts : (key name rank : ℕ) (messages : List Message) → map (λ (one : Untold). one.message) (untold_by key name (ranked rank messages)) ≡ texts_of messages
untold-texts key name rank messages = untold-in key name (ranked rank messages) ∙ ap texts_of (ranked-messages rank messages)

-- they are the object's
pub of-this : (key name : ℕ) (tellings : List Telling) → AreEvents (messages_in tellings) → list_any (is_of_another name) (untold_by key name tellings) ≡ false
of-this key name [] are = refl
of-this key name (one ∷ tellings) are = λ i. not (eqb-self name i && same-event one.message are.0 i) || of-this key name tellings are.1 i
