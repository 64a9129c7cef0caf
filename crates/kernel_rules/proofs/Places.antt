-- What tables of a run hold after a step.
use Rattle.std.proofs.Common.{◌≡◌, ◌∙◌, ℕ, Bool, Bor, true, false, List, [], ◌∷◌, ◌++◌, Option, Some, None, Result, Ok, Err, refl, sym, ap, subst, length}
use Rattle.std.proofs.lemmas.Option.{slice_get-map, slice_get_past, slice_get_read}
use Rattle.std.specs.Slice.{IsItemAt}
use Rattle.std.specs.Prelude.{◌==◌, ◌&&◌, is_some, map, option_map, slice_get, IfOk}
use Rattle.foundation.specs.declared.NoMemory.{NoMemory}
use Rattle.uffd_log.specs.declared.line.Answer.{Answer}
use Rattle.kernel_rules.specs.declared.certify.BegunCall.{BegunCall}
use Rattle.kernel_rules.specs.declared.certify.WorldTable.{WorldTable}
use Rattle.kernel_rules.specs.declared.kernel_table.KernelTable.{KernelTable}
use Rattle.kernel_rules.specs.declared.run.Made.{Made}
use Rattle.kernel_rules.specs.declared.run.Move.{Move}
use Rattle.kernel_rules.specs.declared.run.Move.TheVariants as move
use Rattle.kernel_rules.specs.Certified.{Place, begun_at, effected, ended_at, entered, find_of, is_ended_by, lined, moved, moved_by, next_taken, others_than, outcome_in, protected_by, read_on, ruled, seen_at}
use Rattle.kernel_rules.specs.Faults.{leaves, queues, sees}
use Rattle.kernel_rules.specs.MapCalls.{clears, drops, may_return, returned, tells}
use Rattle.kernel_rules.specs.Held.{kernel_of}
use Rattle.kernel_rules.specs.declared.run.Entry.{Entry}
use Rattle.kernel_rules.specs.Runs.{Event, all_left, event_of, none_left, takes, refuses, starts}
use Rattle.kernel_rules.specs.State.{Kernel, allowed}
use Rattle.kernel_rules.specs.Worlds.{if_made, place_of}

-- a call begins
pub begun_made : (old new : WorldTable) (made : Made) → is_some (find_of old.begun.items made.key) ≡ false → new.begun.items ≡ old.begun.items ++ record { made = made; at = None; left = 0 } ∷ []
    → new ≡ record old { begun = new.begun } → begun_at (place_of old) made ≡ Some (place_of new)
begun_made old new made fresh added same =
    let p : place_of new ≡ record (place_of old) { begun = old.begun.items ++ record { made = made; at = None; left = 0 } ∷ [] } = ap place_of same ∙ ap (λ b. record (place_of old) { begun = b }) added in
    rw fresh (ap (λ (q : Place). Some q) (sym p))

pub begun_twice : (table : WorldTable) (made : Made) → is_some (find_of table.begun.items made.key) ≡ true → begun_at (place_of table) made ≡ None
begun_twice table made found = rw found refl

-- a call ends
pub ended_made : (old new : WorldTable) (key : ℕ) (answer : Answer) (one : BegunCall) → find_of old.begun.items key ≡ Some one
    → (may_return (kernel_of old.kernel) key && (is_ended_by one.at answer old.next && one.left == 0)) ≡ true → kernel_of new.kernel ≡ returned (kernel_of old.kernel) key
    → new.begun.items ≡ others_than key old.begun.items → new ≡ record old { kernel = new.kernel; begun = new.begun } → ended_at (place_of old) key answer (find_of old.begun.items key) ≡ Some (place_of new)
ended_made old new key answer one found may over left same =
    let p : place_of new ≡ record (place_of old) { kernel = returned (kernel_of old.kernel) key; begun = others_than key old.begun.items } =
    ap place_of same ∙ ap (λ b. record (place_of old) { kernel = kernel_of new.kernel; begun = b }) left
    ∙ ap (λ k. record (place_of old) { kernel = k; begun = others_than key old.begun.items }) over in
    rw (found, may) (ap (λ (q : Place). Some q) (sym p))

pub ended_unfit : (table : WorldTable) (key : ℕ) (answer : Answer) (one : BegunCall) → find_of table.begun.items key ≡ Some one
    → (may_return (kernel_of table.kernel) key && (is_ended_by one.at answer table.next && one.left == 0)) ≡ false → ended_at (place_of table) key answer (find_of table.begun.items key) ≡ None
ended_unfit table key answer one found unfit = rw (found, unfit) refl

-- the next line is read
pub line_made : (old mid : WorldTable) (one : Option Event) (event : Event) (made : Bool) → one ≡ Some event → entered (place_of old) event ≡ if_made made (place_of mid) → made ≡ true
    → lined (place_of old) one ≡ Some (read_on (place_of mid))
line_made old mid one event made here is holds = rw (here, is, holds) refl

pub line_refused : (old mid : WorldTable) (one : Option Event) (event : Event) (made : Bool) → one ≡ Some event → entered (place_of old) event ≡ if_made made (place_of mid) → made ≡ false
    → lined (place_of old) one ≡ None
line_refused old mid one event made here is fails = rw (here, is, fails) refl

-- a step by a rule of the kernel
pub rule_made : (old : WorldTable) (table : KernelTable) (rule : Option Kernel) (made : Bool) → rule ≡ allowed made (kernel_of table)
    → ruled (place_of old) rule ≡ if_made made (place_of (record old { kernel = table }))
rule_made old table rule true is = rw is refl
rule_made old table rule false is = rw is refl

-- the same of a move
pub rule_step : (old : WorldTable) (table : KernelTable) (rule : Option Kernel) (place : Option Place) (result : Result Bool NoMemory) → place ≡ ruled (place_of old) rule
    → IfOk result (λ made. rule ≡ allowed made (kernel_of table)) → IfOk result (λ ok. place ≡ if_made ok (place_of (record old { kernel = table })))
rule_step old table rule place (Err e) is made = tt
rule_step old table rule place (Ok made) is steps = is ∙ rule_made old table rule made steps

-- the same of a move that changes the kernel of a table
pub kernel_step : (old new : WorldTable) (rule : Option Kernel) (place : Option Place) (result : Result Bool NoMemory) → place ≡ ruled (place_of old) rule → new ≡ record old { kernel = new.kernel }
    → IfOk result (λ made. rule ≡ allowed made (kernel_of new.kernel)) → IfOk result (λ ok. place ≡ if_made ok (place_of new))
kernel_step old new rule place result is same steps = subst (λ (t : WorldTable). IfOk result (λ ok. place ≡ if_made ok (place_of t))) (sym same) (rule_step old new.kernel rule place result is steps)

-- moves by what they are
pub line_moved : (seen : Option Event) (place : Place) (step : Move) → step ≡ move.Line → moved_by seen place step ≡ lined place seen
unfolding moved_by
line_moved seen place step is = rw is refl

pub effect_moved : (seen : Option Event) (place : Place) (step : Move) (key at : ℕ) → step ≡ move.Effect key at
    → moved_by seen place step ≡ effected takes none_left place key at (find_of place.begun key) (outcome_in seen)
unfolding moved_by
effect_moved seen place step key at is = rw is refl

pub refuses_moved : (seen : Option Event) (place : Place) (step : Move) (key at : ℕ) → step ≡ move.Refuses key at
    → moved_by seen place step ≡ effected refuses none_left place key at (find_of place.begun key) (outcome_in seen)
unfolding moved_by
refuses_moved seen place step key at is = rw is refl

pub starts_moved : (seen : Option Event) (place : Place) (step : Move) (key at : ℕ) → step ≡ move.Starts key at
    → moved_by seen place step ≡ effected starts all_left place key at (find_of place.begun key) (outcome_in seen)
unfolding moved_by
starts_moved seen place step key at is = rw is refl

pub reads_moved : (seen : Option Event) (place : Place) (step : Move) (key at : ℕ) → step ≡ move.Reads key at
    → moved_by seen place step ≡ next_taken place key at (find_of place.begun key) (outcome_in seen)
unfolding moved_by
reads_moved seen place step key at is = rw is refl

pub sees_moved : (seen : Option Event) (place : Place) (step : Move) (thread object page flags : ℕ) → step ≡ move.Sees thread object page flags
    → moved_by seen place step ≡ ruled place (sees place.kernel thread object page flags)
unfolding moved_by
sees_moved seen place step thread object page flags is = rw is refl

pub queues_moved : (seen : Option Event) (place : Place) (step : Move) (thread : ℕ) → step ≡ move.Queues thread → moved_by seen place step ≡ ruled place (queues place.kernel thread)
unfolding moved_by
queues_moved seen place step thread is = rw is refl

pub leaves_moved : (seen : Option Event) (place : Place) (step : Move) (thread : ℕ) → step ≡ move.Leaves thread → moved_by seen place step ≡ ruled place (leaves place.kernel thread)
unfolding moved_by
leaves_moved seen place step thread is = rw is refl

pub tells_moved : (seen : Option Event) (place : Place) (step : Move) (key : ℕ) → step ≡ move.Tells key → moved_by seen place step ≡ ruled place (tells place.kernel key)
unfolding moved_by
tells_moved seen place step key is = rw is refl

pub clears_moved : (seen : Option Event) (place : Place) (step : Move) (key : ℕ) → step ≡ move.Clears key → moved_by seen place step ≡ ruled place (clears place.kernel key)
unfolding moved_by
clears_moved seen place step key is = rw is refl

pub drops_moved : (seen : Option Event) (place : Place) (step : Move) (object page : ℕ) → step ≡ move.Drops object page → moved_by seen place step ≡ ruled place (drops place.kernel object page)
unfolding moved_by
drops_moved seen place step object page is = rw is refl

pub protects_moved : (seen : Option Event) (place : Place) (step : Move) (key page : ℕ) → step ≡ move.Protects key page
    → moved_by seen place step ≡ ruled place (protected_by place.kernel (find_of place.begun key) page)
unfolding moved_by
protects_moved seen place step key page is = rw is refl

-- the event of an entry of a log
lent_event : (log : List Entry) (at : ℕ) (seen : Option (Bor Entry)) → IsItemAt log at seen → slice_get (map event_of log) at ≡ option_map (λ (e : Bor Entry). event_of e.now) seen
lent_event log at None lends = slice_get-map event_of log at ∙ ap (option_map event_of) (slice_get_past log at lends.3)
lent_event log at (Some one) lends = slice_get-map event_of log at ∙ ap (option_map event_of) (slice_get_read log (length log) at one.now refl lends.3.0 lends.1)

-- a move of a run, by the entry that it looks at
pub moved_seen : (log : List Entry) (place : Place) (step : Move) (at : ℕ) (seen : Option (Bor Entry)) → at ≡ seen_at place.next step → IsItemAt log at seen
    → moved (map event_of log) place step ≡ moved_by (option_map (λ (e : Bor Entry). event_of e.now) seen) place step
moved_seen log place step at seen at_is lends =
    ap (λ (e : Option Event). moved_by e place step) (ap (λ (n : ℕ). slice_get (map event_of log) n) (sym at_is) ∙ lent_event log at seen lends)
