-- What a checker of runs does: a function of a log and of a run. That what it finds is a run of the log is a law (`certify`).
use Rattle.std.specs.Prelude.{◌≡◌, ℕ, ◌+◌, ◌-◌, ◌==◌, ◌&&◌, Bool, false, if◌then◌else◌, Option, Some, None, is_some, not, option_map, option_to_list, List, [], ◌∷◌, ◌++◌, filter, length, slice_get}
use Rattle.uffd_log.specs.declared.line.Answer.{Answer}
use Rattle.uffd_log.specs.declared.line.Answer.TheVariants.{Interrupted}
use Rattle.kernel_rules.specs.declared.certify.BegunCall.{BegunCall}
use Rattle.kernel_rules.specs.declared.run.Made.{Made}
use Rattle.kernel_rules.specs.declared.run.Move.{Move}
use Rattle.kernel_rules.specs.declared.run.Move.TheVariants as move
use Rattle.kernel_rules.specs.Faults.{sees, queues, leaves}
use Rattle.kernel_rules.specs.MapCalls.{clears, drops, may_return, returned, tells}
use Rattle.kernel_rules.specs.Runs.{Event, Outcome, Step, World, all_left, begins, call_clears, call_protects, call_tells, effect, ends, is_still, line, none_left, page_drops, protects_first, read_starts, read_takes, refusal, refuses, starts, takes, takes_next, thread_leaves, thread_queues, thread_sees, IsRun}
use Rattle.kernel_rules.specs.State.{Kernel, fresh_kernel}

-- The run that moves are

-- the outcome of an event, if a call ends there
abbrev pub outcome_in : Option Event → Option Outcome
outcome_in None = None
outcome_in (Some (begins made)) = None
outcome_in (Some (ends key out)) = Some out

-- the step of a move, where `next` is the next event of the log
abbrev pub step_of : List Event → ℕ → Move → Option Step
step_of log next move.Line = option_map line (slice_get log next)
step_of log next (move.Effect key at) = option_map (effect key) (outcome_in (slice_get log at))
step_of log next (move.Refuses key at) = option_map (refusal key) (outcome_in (slice_get log at))
step_of log next (move.Sees thread object page flags) = Some (thread_sees thread object page flags)
step_of log next (move.Queues thread) = Some (thread_queues thread)
step_of log next (move.Leaves thread) = Some (thread_leaves thread)
step_of log next (move.Tells key) = Some (call_tells key)
step_of log next (move.Clears key) = Some (call_clears key)
step_of log next (move.Drops object page) = Some (page_drops object page)
step_of log next (move.Protects key page) = Some (call_protects key page)
step_of log next (move.Starts key at) = option_map (read_starts key) (outcome_in (slice_get log at))
step_of log next (move.Reads key at) = Some (read_takes key)

-- the next event after a move
abbrev pub next_after : ℕ → Move → ℕ
next_after next move.Line = next + 1
next_after next _ = next

-- the steps of a run
abbrev pub steps_of : List Event → ℕ → List Move → List Step
steps_of log next [] = []
steps_of log next (move ∷ moves) = option_to_list (step_of log next move) ++ steps_of log (next_after next move) moves

-- the run is one of the log, with this kernel at its end
abbrev pub IsCertified : List Event → List Move → Kernel → Type 0
IsCertified log run kernel = (last : World) × IsRun log (steps_of log 0 run) last × (last.kernel ≡ kernel)

-- What the checker has, and what becomes of it

-- a kernel, the calls that have begun and not ended, each with the place of its ending once it has taken effect and the number of messages
-- that it has left, and the place of the next event
pub record Place : Type 0 where
  pub kernel : Kernel
  pub begun : List BegunCall
  pub next : ℕ

-- nothing has happened
abbrev pub fresh_place : Place
fresh_place = record { kernel = fresh_kernel; begun = []; next = 0 }

-- a call that has begun, by its number
abbrev pub find_of : List BegunCall → ℕ → Option BegunCall
find_of [] key = None
find_of (one ∷ others) key = if one.made.key == key then Some one else find_of others key

-- the calls that have begun but this one
abbrev pub others_than : ℕ → List BegunCall → List BegunCall
others_than key calls = filter (λ (one : BegunCall). not (one.made.key == key)) calls

-- whether a call has taken effect with the ending at this place
abbrev pub is_with : Option ℕ → ℕ → Bool
is_with None next = false
is_with (Some at) next = at == next

-- whether a call has taken effect with the ending of the event where it ends: one that was interrupted has had no effect
abbrev pub is_ended_by : Option ℕ → Answer → ℕ → Bool
is_ended_by at Interrupted next = not (is_some at)
is_ended_by at _ next = is_with at next

-- a call begins, if none of its number is under way
abbrev pub begun_at : Place → Made → Option Place
begun_at place made =
    if is_some (find_of place.begun made.key) then None else Some (record place { begun = place.begun ++ record { made = made; at = None; left = 0 } ∷ [] })

-- a call ends, if it has begun and has taken effect so, and all its messages
abbrev pub ended_at : Place → ℕ → Answer → Option BegunCall → Option Place
ended_at place key answer None = None
ended_at place key answer (Some one) =
    if may_return place.kernel key && (is_ended_by one.at answer place.next && one.left == 0)
    then Some (record place { kernel = returned place.kernel key; begun = others_than key place.begun })
    else None

-- the line of an event
abbrev pub entered : Place → Event → Option Place
entered place (begins made) = begun_at place made
entered place (ends key out) = if is_still out then ended_at place key out.answer (find_of place.begun key) else None

-- one event more is read
abbrev pub read_on : Place → Place
read_on place = record place { next = place.next + 1 }

-- the next line, if there is one
abbrev pub lined : Place → Option Event → Option Place
lined place None = None
lined place (Some one) = option_map read_on (entered place one)

-- a call has taken effect, and stays begun, with the place of its ending and the number of messages that it has left
abbrev pub affected : Place → ℕ → ℕ → Made → ℕ → Option Kernel → Option Place
affected place key at made left None = None
affected place key at made left (Some kernel) =
    Some (record place { kernel = kernel; begun = others_than key place.begun ++ record { made = made; at = Some at; left = left } ∷ [] })

-- a call takes effect with an outcome, by a rule, if it has begun and has not taken effect
abbrev pub effected : (Kernel → Made → Outcome → Option Kernel) → (Outcome → ℕ) → Place → ℕ → ℕ → Option BegunCall → Option Outcome → Option Place
effected rule left place key at None out = None
effected rule left place key at (Some one) None = None
effected rule left place key at (Some one) (Some out) = if is_some one.at then None else affected place key at one.made (left out) (rule place.kernel one.made out)

-- a read that has begun to take the messages of an outcome takes the next
abbrev pub next_taken : Place → ℕ → ℕ → Option BegunCall → Option Outcome → Option Place
next_taken place key at None out = None
next_taken place key at (Some one) None = None
next_taken place key at (Some one) (Some out) =
    if is_with one.at at then affected place key at one.made (one.left - 1) (takes_next place.kernel one.made one.left out) else None

-- the place with another kernel, if a rule has one
abbrev pub ruled : Place → Option Kernel → Option Place
ruled place None = None
ruled place (Some kernel) = Some (record place { kernel = kernel })

-- a call that has begun protects a page, before it takes effect
abbrev pub protected_by : Kernel → Option BegunCall → ℕ → Option Kernel
protected_by kernel None page = None
protected_by kernel (Some one) page = protects_first kernel one.made (is_some one.at) page

-- the place of the event that a move looks at: where its call ends if one takes effect, else the next
abbrev pub seen_at : ℕ → Move → ℕ
seen_at next (move.Effect key at) = at
seen_at next (move.Refuses key at) = at
seen_at next (move.Starts key at) = at
seen_at next (move.Reads key at) = at
seen_at next _ = next

-- a move by the event that it looks at, if the rules allow it
unfoldable pub moved_by : Option Event → Place → Move → Option Place
moved_by seen place move.Line = lined place seen
moved_by seen place (move.Effect key at) = effected takes none_left place key at (find_of place.begun key) (outcome_in seen)
moved_by seen place (move.Refuses key at) = effected refuses none_left place key at (find_of place.begun key) (outcome_in seen)
moved_by seen place (move.Starts key at) = effected starts all_left place key at (find_of place.begun key) (outcome_in seen)
moved_by seen place (move.Reads key at) = next_taken place key at (find_of place.begun key) (outcome_in seen)
moved_by seen place (move.Sees thread object page flags) = ruled place (sees place.kernel thread object page flags)
moved_by seen place (move.Queues thread) = ruled place (queues place.kernel thread)
moved_by seen place (move.Leaves thread) = ruled place (leaves place.kernel thread)
moved_by seen place (move.Tells key) = ruled place (tells place.kernel key)
moved_by seen place (move.Clears key) = ruled place (clears place.kernel key)
moved_by seen place (move.Drops object page) = ruled place (drops place.kernel object page)
moved_by seen place (move.Protects key page) = ruled place (protected_by place.kernel (find_of place.begun key) page)

-- a move of a run of a log
abbrev pub moved : List Event → Place → Move → Option Place
moved log place move = moved_by (slice_get log (seen_at place.next move)) place move

-- one move after another, if the first is made
abbrev pub then_moved : Option Place → (Place → Option Place) → Option Place
then_moved None rest = None
then_moved (Some place) rest = rest place

-- moves in turn
abbrev pub moved_all : List Event → Place → List Move → Option Place
moved_all log place [] = Some place
moved_all log place (move ∷ moves) = then_moved (moved log place move) (λ next. moved_all log next moves)

-- moves lead from the beginning to this place
abbrev pub IsReached : List Event → Place → Type 0
IsReached log place = (run : List Move) × (moved_all log fresh_place run ≡ Some place)

-- the kernel at the end of a log, if each event was read
abbrev pub at_end : List Event → Option Place → Option Kernel
at_end log None = None
at_end log (Some place) = if place.next == length log then Some place.kernel else None

-- the kernel to which a run leads, if the checker finds that it is one of the log
unfoldable pub certified : List Event → List Move → Option Kernel
certified log run = at_end log (moved_all log fresh_place run)
