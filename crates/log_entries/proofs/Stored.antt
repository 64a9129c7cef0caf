-- What the slots of a store are, once its tables have grown or a slot was added or replaced.
use Rattle.std.proofs.Common.{◌≡◌, ◌∙◌, ℕ, ◌+◌, ◌<◌, ◌≤◌, zero, suc, Bool, List, [], ◌∷◌, ◌++◌, Some, None, Result, Ok, Err, refl, sym, ap, subst, length, take, drop, get_or, append_assoc, arith, length-append, length-drop}
use Rattle.std.proofs.lemmas.List.{drop-append-le, get_or_append_left, map-append, take-append-le}
use Rattle.std.proofs.lemmas.List.Elements.{All-push, All-set}
use Rattle.std.proofs.lemmas.Option.{get_or_from_slice_get, slice_get_within}
use Rattle.std.proofs.Math.ListN.{set}
use Rattle.std.specs.Prelude.{slice_get, OnErr, OnOk}
use Rattle.foundation.specs.declared.NoMemory.{NoMemory}
use Rattle.uffd_log.specs.declared.call.Message.{Message}
use Rattle.uffd_log.specs.declared.line.Answer.{Answer}
use Rattle.uffd_log.specs.declared.line.Answer.TheVariants as answer
use Rattle.kernel_rules.specs.declared.run.Run.{Run}
use Rattle.kernel_rules.specs.declared.run.Made.{Made}
use Rattle.kernel_rules.specs.Runs.{Event, begins, ends}
use Rattle.log_entries.specs.declared.slot.Slot.{Slot}
use Rattle.log_entries.specs.declared.slot.Slot.TheVariants as slot
use Rattle.log_entries.specs.declared.tables.Span.{Span}
use Rattle.log_entries.specs.declared.tables.Tables.{Tables}
use Rattle.log_entries.specs.Shapes.{made_with}
use Rattle.log_entries.specs.Stores.{event_in, events_in, no_shape, part_of, settled_at, settled_event, AreIn, IsGrown, IsIn, IsLonger, IsPart}

longer_trans : {X : Type 0} (xs ys zs : List X) → IsLonger xs ys → IsLonger ys zs → IsLonger xs zs
longer_trans {X} xs ys zs a b = (a.0 ++ b.0, b.1 ∙ ap (λ (l : List X). l ++ b.0) a.1 ∙ append_assoc xs a.0 b.0)

longer_get : {X : Type 0} (xs ys : List X) (n : ℕ) (d : X) → IsLonger xs ys → n < length xs → get_or ys n d ≡ get_or xs n d
longer_get {X} xs ys n d a few = ap (λ (l : List X). get_or l n d) a.1 ∙ get_or_append_left xs a.0 d n few

more_up_to : {X : Type 0} (xs more : List X) (n : ℕ) → n ≤ length xs → n ≤ length (xs ++ more)
more_up_to {X} xs more n few = omega (arith, few, length-append {A = X} xs more)

longer_up_to : {X : Type 0} (xs ys : List X) (n : ℕ) → IsLonger xs ys → n ≤ length xs → n ≤ length ys
longer_up_to {X} xs ys n a few = subst (λ (l : List X). n ≤ length l) (sym a.1) (more_up_to xs a.0 n few)

part_more : {X : Type 0} (span : Span) (xs more : List X) → IsPart span xs → part_of span (xs ++ more) ≡ part_of span xs
part_more {X} span xs more is =
    let first : span.first ≤ length xs = omega (arith, is) in
    let count : span.count ≤ length (drop span.first xs) = omega (arith, is, length-drop {A = X} span.first xs) in
    ap (λ (l : List X). take span.count l) (drop-append-le span.first xs more first) ∙ take-append-le span.count (drop span.first xs) more count

longer_part : {X : Type 0} (span : Span) (xs ys : List X) → IsLonger xs ys → IsPart span xs → part_of span ys ≡ part_of span xs
longer_part {X} span xs ys a is = ap (λ (l : List X). part_of span l) a.1 ∙ part_more span xs a.0 is

-- the end of a call, once its answer, its messages and its runs of pages are in the tables
pub ended_event : (a m r : Tables) (key n : ℕ) (read found : Span) (x : Answer) (messages : List Message) (runs : List Run) → IsGrown a m → IsGrown m r → slice_get a.answers.items n ≡ Some x → IsPart read m.messages.items
    → part_of read m.messages.items ≡ messages → part_of found r.runs.items ≡ runs → event_in r (slot.Ends key n read found) ≡ ends key (record { answer = x; messages = messages; runs = runs })
ended_event a m r key n read found x messages runs first second x_is is messages_are runs_are =
    let ending : Answer → List Message → List Run → Event = λ y k l. ends key (record { answer = y; messages = k; runs = l }) in
    let same_answer = longer_get a.answers.items r.answers.items n answer.Done (longer_trans a.answers.items m.answers.items r.answers.items first.answers second.answers) (slice_get_within a.answers.items n x x_is)
    ∙ get_or_from_slice_get a.answers.items n x answer.Done x_is
    in
    let same_messages = longer_part read m.messages.items r.messages.items second.messages is ∙ messages_are in
    ap (λ (y : Answer). ending y (part_of read r.messages.items) (part_of found r.runs.items)) same_answer ∙ ap (λ (k : List Message). ending x k (part_of found r.runs.items)) same_messages
    ∙ ap (λ (l : List Run). ending x messages l) runs_are

-- Slots, where tables have grown

in_grown : (old new : Tables) (one : Slot) → IsGrown old new → IsIn old one → IsIn new one
in_grown old new (slot.Begins key shape to from) grown is = longer_up_to old.shapes.items new.shapes.items (suc shape) grown.shapes is
in_grown old new (slot.Ends key a read found) grown is = (
  longer_up_to old.answers.items new.answers.items (suc a) grown.answers is.0,
  longer_up_to old.messages.items new.messages.items (read.first + read.count) grown.messages is.1,
  longer_up_to old.runs.items new.runs.items (found.first + found.count) grown.runs is.2,
)

event_grown : (old new : Tables) (one : Slot) → IsGrown old new → IsIn old one → event_in new one ≡ event_in old one
event_grown old new (slot.Begins key shape to from) grown is =
    ap (λ (m : Made). begins (made_with m key to from)) (longer_get old.shapes.items new.shapes.items shape no_shape grown.shapes is)
event_grown old new (slot.Ends key a read found) grown is =
    let ending : Answer → List Message → List Run → Event = λ y k l. ends key (record { answer = y; messages = k; runs = l }) in
    ap (λ (y : Answer). ending y (part_of read new.messages.items) (part_of found new.runs.items)) (longer_get old.answers.items new.answers.items a answer.Done grown.answers is.0)
    ∙ ap (λ (k : List Message). ending (get_or old.answers.items a answer.Done) k (part_of found new.runs.items)) (longer_part read old.messages.items new.messages.items grown.messages is.1)
    ∙ ap (λ (l : List Run). ending (get_or old.answers.items a answer.Done) (part_of read old.messages.items) l) (longer_part found old.runs.items new.runs.items grown.runs is.2)

pub all_grown : (old new : Tables) (slots : List Slot) → IsGrown old new → AreIn old slots → AreIn new slots
all_grown old new slots grown are = λ k d few. in_grown old new (get_or slots k d) grown (are k d few)

rest_in : (tables : Tables) (one : Slot) (slots : List Slot) → AreIn tables (one ∷ slots) → AreIn tables slots
rest_in tables one slots are = λ k d few. are (suc k) d (omega (arith, few))

first_in : (tables : Tables) (one : Slot) (slots : List Slot) → AreIn tables (one ∷ slots) → IsIn tables one
first_in tables one slots are = are 0 one (omega arith)

events_grown : (old new : Tables) (slots : List Slot) → IsGrown old new → AreIn old slots → events_in new slots ≡ events_in old slots
events_grown old new [] grown are = refl
events_grown old new (one ∷ slots) grown are =
    ap (λ (e : Event). e ∷ events_in new slots) (event_grown old new one grown (first_in old one slots are))
    ∙ ap (λ (es : List Event). event_in old one ∷ es) (events_grown old new slots grown (rest_in old one slots are))

-- the events of a store are the same where room was refused
pub kept_err : (old new : Tables) (slots : List Slot) (events : List Event) (result : Result Unit NoMemory) → IsGrown old new → AreIn old slots → events_in old slots ≡ events → OnErr result (events_in new slots ≡ events)
kept_err old new slots events (Ok u) grown are is = tt
kept_err old new slots events (Err e) grown are is = events_grown old new slots grown are ∙ is

-- A slot is added, unless room was refused

pub added_in : (old new : Tables) (slots after : List Slot) (one : Slot) (result : Result Unit NoMemory) → IsGrown old new → AreIn old slots → IsIn new one
    → OnOk result (after ≡ slots ++ one ∷ []) → OnErr result (after ≡ slots) → AreIn new after
added_in old new slots after one (Ok u) grown are is added same =
    subst (λ (l : List Slot). AreIn new l) (sym added) (All-push (IsIn new) slots one (all_grown old new slots grown are) is)
added_in old new slots after one (Err e) grown are is added same = subst (λ (l : List Slot). AreIn new l) (sym same) (all_grown old new slots grown are)

pub added_ok : (old new : Tables) (slots after : List Slot) (one : Slot) (events : List Event) (event : Event) (result : Result Unit NoMemory) → IsGrown old new → AreIn old slots → events_in old slots ≡ events
    → event_in new one ≡ event → OnOk result (after ≡ slots ++ one ∷ []) → OnOk result (events_in new after ≡ events ++ event ∷ [])
added_ok old new slots after one events event (Err e) grown are was is added = tt
added_ok old new slots after one events event (Ok u) grown are was is added =
    ap (λ (l : List Slot). events_in new l) added ∙ map-append (event_in new) slots (one ∷ []) ∙ ap (λ (l : List Event). l ++ event_in new one ∷ []) (events_grown old new slots grown are ∙ was)
    ∙ ap (λ (e : Event). events ++ e ∷ []) is

pub added_err : (old new : Tables) (slots after : List Slot) (events : List Event) (result : Result Unit NoMemory) → IsGrown old new → AreIn old slots → events_in old slots ≡ events → OnErr result (after ≡ slots)
    → OnErr result (events_in new after ≡ events)
added_err old new slots after events (Ok u) grown are was same = tt
added_err old new slots after events (Err e) grown are was same = ap (λ (l : List Slot). events_in new l) same ∙ events_grown old new slots grown are ∙ was

-- A slot is looked at, or replaced

pub in_at : (tables : Tables) (slots : List Slot) (at : ℕ) (one : Slot) → AreIn tables slots → slice_get slots at ≡ Some one → IsIn tables one
in_at tables slots at one are is = subst (λ (s : Slot). IsIn tables s) (get_or_from_slice_get slots at one one is) (are at one (slice_get_within slots at one is))

pub set_in : (old new : Tables) (slots : List Slot) (at : ℕ) (one : Slot) → IsGrown old new → AreIn old slots → IsIn new one → AreIn new (set slots at one)
set_in old new slots at one grown are is = All-set (IsIn new) slots at one is (all_grown old new slots grown are)

set_events : (tables : Tables) (slots : List Slot) (at space : ℕ) (last : Bool) (one after : Slot) → slice_get slots at ≡ Some one → event_in tables after ≡ settled_event (event_in tables one) space last
    → events_in tables (set slots at after) ≡ settled_at (events_in tables slots) at space last
set_events tables [] at space last one after here is = absurd (cc)
set_events tables (x ∷ slots) zero space last one after here is =
    let same : x ≡ one = cc in
    ap (λ (e : Event). e ∷ events_in tables slots) (is ∙ ap (λ (s : Slot). settled_event (event_in tables s) space last) (sym same))
set_events tables (x ∷ slots) (suc at) space last one after here is = ap (λ (es : List Event). event_in tables x ∷ es) (set_events tables slots at space last one after here is)

pub settled_set : (old new : Tables) (slots : List Slot) (at space : ℕ) (last : Bool) (one after : Slot) (events : List Event) → IsGrown old new → AreIn old slots → events_in old slots ≡ events → slice_get slots at ≡ Some one
    → event_in new after ≡ settled_event (event_in old one) space last → events_in new (set slots at after) ≡ settled_at events at space last
settled_set old new slots at space last one after events grown are was here is =
    set_events new slots at space last one after here (is ∙ ap (λ (e : Event). settled_event e space last) (sym (event_grown old new one grown (in_at old slots at one are here))))
    ∙ ap (λ (es : List Event). settled_at es at space last) (events_grown old new slots grown are ∙ was)

unsettled : (slots : List Slot) (tables : Tables) (at space : ℕ) (last : Bool) → slice_get slots at ≡ None → events_in tables slots ≡ settled_at (events_in tables slots) at space last
unsettled [] tables at space last is = refl
unsettled (one ∷ slots) tables zero space last is = absurd (cc)
unsettled (one ∷ slots) tables (suc at) space last is = ap (λ (es : List Event). event_in tables one ∷ es) (unsettled slots tables at space last is)

pub settled_none : (tables : Tables) (slots : List Slot) (events : List Event) (at space : ℕ) (last : Bool) → slice_get slots at ≡ None → events_in tables slots ≡ events → events ≡ settled_at events at space last
settled_none tables slots events at space last is was = subst (λ (es : List Event). es ≡ settled_at es at space last) was (unsettled slots tables at space last is)
