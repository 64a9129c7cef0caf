-- What the checker finds is a run of the log.
use Rattle.std.proofs.Common.{◌≡◌, ◌∙◌, ℕ, zero, suc, Bool, true, false, List, [], ◌∷◌, ◌++◌, Option, Some, None, refl, sym, ap, subst, length, take, append_assoc}
use Rattle.std.specs.Prelude.{is_some, ◌-◌, ◌==◌, ◌&&◌, if◌then◌else◌, not, filter_map, map, option_map, option_to_list, slice_get}
use Rattle.std.proofs.lemmas.Bool.{eq-eqb, eqb-true, ne_eqb}
use Rattle.std.proofs.lemmas.List.{append-nil, map-append}
use Rattle.std.proofs.Math.Numerals.{add-one}
use Rattle.std.proofs.Math.Seq.{take-length}
use Rattle.std.proofs.lemmas.List.Elements.{filter_map-append}
use Rattle.foundation.proofs.TestLemmas.{and_first, and_second}
use Rattle.uffd_log.specs.declared.line.Answer.{Answer}
use Rattle.uffd_log.specs.declared.line.Answer.TheVariants.{Interrupted}
use Rattle.kernel_rules.specs.declared.certify.BegunCall.{BegunCall}
use Rattle.kernel_rules.specs.declared.run.Made.{Made}
use Rattle.kernel_rules.specs.declared.run.Move.{Move}
use Rattle.kernel_rules.specs.declared.run.Move.TheVariants as move
use Rattle.kernel_rules.specs.Certified.{Place, affected, at_end, certified, effected, ended_at, entered, find_of, fresh_place, is_ended_by, is_with, lined, moved, moved_all, moved_by, next_after, next_taken, others_than, outcome_in, protected_by, read_on, ruled, step_of, steps_of, then_moved, IsCertified}
use Rattle.kernel_rules.specs.Faults.{sees, queues, leaves}
use Rattle.kernel_rules.specs.MapCalls.{clears, drops, may_return, returned, tells}
use Rattle.kernel_rules.specs.Runs.{IsClean, Begun, Outcome, Step, World, Event, all_left, begins, begun_of, call_clears, call_protects, call_tells, effect, effect_at_end, effect_by, ends, is_still, line, line_of, lines_of, none_left, page_drops, protect_of, protects_first, read_starts, read_takes, refusal, refuses, starts, takes, takes_next, thread_leaves, thread_queues, thread_sees, without_begun, world_with, IsStep, Leads}
use Rattle.kernel_rules.specs.State.{Kernel}
use Rattle.kernel_rules.specs.Held.{kernel_of}
use Rattle.kernel_rules.specs.Worlds.{if_made}
use Rattle.kernel_rules.specs.declared.kernel_table.KernelTable.{KernelTable}

-- The world of a place

-- the outcome with which a call has taken effect, by the place of its ending in a log
abbrev pub out_of : List Event → Option ℕ → Option Outcome
out_of log None = None
out_of log (Some at) = outcome_in (slice_get log at)

-- a call that has begun
abbrev pub begun_in : List Event → BegunCall → Begun
begun_in log call = record { made = call.made; out = out_of log call.at; left = call.left }

abbrev pub world_of : List Event → Place → World
world_of log place = record { kernel = place.kernel; begun = map (begun_in log) place.begun }

found_in : (log : List Event) (calls : List BegunCall) (key : ℕ) → begun_of (map (begun_in log) calls) key ≡ option_map (begun_in log) (find_of calls key)
found_in log [] key = refl
found_in log (one ∷ calls) key =
    elim (one.made.key == key) as (λ b. (if b then Some (begun_in log one) else begun_of (map (begun_in log) calls) key) ≡ option_map (begun_in log) (if b then Some one else find_of calls key)) [
      | true ↦ refl
      | false ↦ found_in log calls key
    ]

without_in : (log : List Event) (calls : List BegunCall) (key : ℕ) → without_begun (map (begun_in log) calls) key ≡ map (begun_in log) (others_than key calls)
without_in log [] key = refl
without_in log (one ∷ calls) key =
    elim (one.made.key == key) as (λ b. (if not b then begun_in log one ∷ without_begun (map (begun_in log) calls) key else without_begun (map (begun_in log) calls) key)
    ≡ map (begun_in log) (if not b then one ∷ others_than key calls else others_than key calls)) [
      | true ↦ without_in log calls key
      | false ↦ ap (λ xs. begun_in log one ∷ xs) (without_in log calls key)
    ]

-- one more event of a log
taken_more : (log : List Event) (n : ℕ) (x : Event) → slice_get log n ≡ Some x → take (suc n) log ≡ take n log ++ x ∷ []
taken_more [] n x h = cc
taken_more (y ∷ log) zero x h = let e : y ≡ x = cc in rw e refl
taken_more (y ∷ log) (suc n) x h = ap (λ es. y ∷ es) (taken_more log n x h)

-- Moves

-- a move that leads from one place to another is a step of a run
pub record Advance (log : List Event) (old : Place) (step : Move) (new : Place) : Type 0 where
  pub made : Step
  pub is : step_of log old.next step ≡ Some made
  pub leads : IsStep (world_of log old) made (world_of log new)
  pub lines : take new.next log ≡ take old.next log ++ option_to_list (line_of made)
  pub next : new.next ≡ next_after old.next step

begin_advances : (log : List Event) (old : Place) (made : Made) → find_of old.begun made.key ≡ None → slice_get log old.next ≡ Some (begins made)
    → Advance log old move.Line (read_on (record old { begun = old.begun ++ record { made = made; at = None; left = 0 } ∷ [] }))
begin_advances log old made fresh here =
    record {
      made = line (begins made);
      is = ap (option_map line) here;
      leads = (
        found_in log old.begun made.key ∙ ap (option_map (begun_in log)) fresh,
        ap (λ (b : List Begun). record (world_of log old) { begun = b }) (map-append (begun_in log) old.begun (record { made = made; at = None; left = 0 } ∷ [])),
      );
      lines = rw add-one (taken_more log old.next (begins made) here);
      next = refl;
    }

ended_out : (log : List Event) (answer : Answer) (at : Option ℕ) (next of : ℕ) (out : Outcome) → slice_get log next ≡ Some (ends of out) → is_ended_by at answer next ≡ true
    → out_of log at ≡ effect_at_end answer out
ended_out log Interrupted None next of out here ended = refl
ended_out log Interrupted (Some at) next of out here ended = cc
ended_out log _ (Some at) next of out here ended = rw (eqb-true at next ended, here) refl
ended_out log _ None next of out here ended = cc

end_advances : (log : List Event) (old : Place) (key : ℕ) (one : BegunCall) (out : Outcome) → is_still out ≡ true → find_of old.begun key ≡ Some one → slice_get log old.next ≡ Some (ends key out)
    → (may_return old.kernel key && (is_ended_by one.at out.answer old.next && one.left == 0)) ≡ true
    → Advance log old move.Line (read_on (record old { kernel = returned old.kernel key; begun = others_than key old.begun }))
end_advances log old key one out still found here may =
    record {
      made = line (ends key out);
      is = ap (option_map line) here;
      leads = (
        begun_in log one,
        still,
        found_in log old.begun key ∙ ap (option_map (begun_in log)) found,
        and_first _ _ may,
        ended_out log out.answer one.at old.next key out here (and_first _ _ (and_second (may_return old.kernel key) _ may)),
        eqb-true one.left 0 (and_second (is_ended_by one.at out.answer old.next) _ (and_second (may_return old.kernel key) _ may)),
        ap (λ (b : List Begun). record { kernel = returned old.kernel key; begun = b }) (sym (without_in log old.begun key)),
      );
      lines = rw add-one (taken_more log old.next (ends key out) here);
      next = refl;
    }

still_advances : (log : List Event) (old new : Place) (key : ℕ) (out : Outcome) → is_still out ≡ true → slice_get log old.next ≡ Some (ends key out)
    → option_map read_on (ended_at old key out.answer (find_of old.begun key)) ≡ Some new → Advance log old move.Line new
still_advances log old new key out still here is =
    elim (find_of old.begun key) as (λ o. find_of old.begun key ≡ o → option_map read_on (ended_at old key out.answer o) ≡ Some new → Advance log old move.Line new) [
      | None ↦ λ e h. absurd cc
      | Some one ↦ λ e h.
          elim (may_return old.kernel key && (is_ended_by one.at out.answer old.next && one.left == 0)) as (λ b. (may_return old.kernel key && (is_ended_by one.at out.answer old.next && one.left == 0)) ≡ b
          → option_map read_on (if b then Some (record old { kernel = returned old.kernel key; begun = others_than key old.begun }) else None) ≡ Some new → Advance log old move.Line new) [
            | false ↦ λ may i. absurd cc
            | true ↦ λ may i.
                let same : read_on (record old { kernel = returned old.kernel key; begun = others_than key old.begun }) ≡ new = cc in
                subst (λ (p : Place). Advance log old move.Line p) same (end_advances log old key one out still e here may)
          ] refl h
    ] refl is

event_advances : (log : List Event) (old new : Place) (one : Event) → slice_get log old.next ≡ Some one → option_map read_on (entered old one) ≡ Some new → Advance log old move.Line new
event_advances log old new (begins made) here is =
    elim (find_of old.begun made.key) as (λ o. find_of old.begun made.key ≡ o → option_map read_on (if is_some o then None else Some (record old { begun = old.begun ++ record { made = made; at = None; left = 0 } ∷ [] })) ≡ Some new
    → Advance log old move.Line new) [
      | Some one ↦ λ e h. absurd cc
      | None ↦ λ e h.
          let same : read_on (record old { begun = old.begun ++ record { made = made; at = None; left = 0 } ∷ [] }) ≡ new = cc in
          subst (λ (p : Place). Advance log old move.Line p) same (begin_advances log old made e here)
    ] refl is
event_advances log old new (ends key out) here is =
    elim (is_still out) as (λ s. is_still out ≡ s → option_map read_on (if s then ended_at old key out.answer (find_of old.begun key) else None) ≡ Some new → Advance log old move.Line new) [
      | false ↦ λ still h. absurd cc
      | true ↦ λ still h. still_advances log old new key out still here h
    ] refl is

line_advances : (log : List Event) (old new : Place) (one : Option Event) → slice_get log old.next ≡ one → lined old one ≡ Some new → Advance log old move.Line new
line_advances log old new None here is = absurd cc
line_advances log old new (Some one) here is = event_advances log old new one here is

-- the step of a move by which a call takes effect, by a rule
pub record IsEffect (log : List Event) (old : Place) (key at : ℕ) (rule : Kernel → Made → Outcome → Option Kernel) (left : Outcome → ℕ) (step : Move) (made : Outcome → Step) : Type 0 where
  pub is : (out : Outcome) → outcome_in (slice_get log at) ≡ Some out → step_of log old.next step ≡ Some (made out)
  pub leads : (out : Outcome) (after : World) → effect_by rule left (world_of log old) (begun_of (world_of log old).begun key) key out ≡ Some after → IsStep (world_of log old) (made out) after
  pub silent : (out : Outcome) → line_of (made out) ≡ None
  pub next : next_after old.next step ≡ old.next

effect_advances : (log : List Event) (old : Place) (key at : ℕ) (rule : Kernel → Made → Outcome → Option Kernel) (left : Outcome → ℕ) (step : Move) (made : Outcome → Step) (one : BegunCall) (out : Outcome) (kernel : Kernel) → IsEffect log old key at rule left step made
    → find_of old.begun key ≡ Some one → one.at ≡ None → outcome_in (slice_get log at) ≡ Some out → rule old.kernel one.made out ≡ Some kernel
    → Advance log old step (record old { kernel = kernel; begun = others_than key old.begun ++ record { made = one.made; at = Some at; left = left out } ∷ [] })
effect_advances log old key at rule left step made one out kernel by found none here took =
    record {
      made = made out;
      is = by.is out here;
      leads = by.leads out (world_of log (record old { kernel = kernel; begun = others_than key old.begun ++ record { made = one.made; at = Some at; left = left out } ∷ [] })) (rw (
        found_in log old.begun key,
        found,
        none,
        took,
        map-append (begun_in log) (others_than key old.begun) (record { made = one.made; at = Some at; left = left out } ∷ []),
        here,
        without_in log old.begun key,
      ) refl);
      lines = rw (by.silent out) (sym (append-nil (take old.next log)));
      next = sym by.next;
    }

out_advances : (log : List Event) (old new : Place) (key at : ℕ) (rule : Kernel → Made → Outcome → Option Kernel) (left : Outcome → ℕ) (step : Move) (made : Outcome → Step) (one : BegunCall) (out : Option Outcome) → IsEffect log old key at rule left step made
    → find_of old.begun key ≡ Some one → outcome_in (slice_get log at) ≡ out → effected rule left old key at (Some one) out ≡ Some new → Advance log old step new
out_advances log old new key at rule left step made one None by found here is = absurd cc
out_advances log old new key at rule left step made one (Some out) by found here is =
    elim one.at as (λ o. one.at ≡ o → (if is_some o then None else affected old key at one.made (left out) (rule old.kernel one.made out)) ≡ Some new → Advance log old step new) [
      | Some n ↦ λ e h. absurd cc
      | None ↦ λ e h.
          elim (rule old.kernel one.made out) as (λ k. rule old.kernel one.made out ≡ k → affected old key at one.made (left out) k ≡ Some new → Advance log old step new) [
            | None ↦ λ took i. absurd cc
            | Some kernel ↦ λ took i.
                let same : (record old { kernel = kernel; begun = others_than key old.begun ++ record { made = one.made; at = Some at; left = left out } ∷ [] }) ≡ new = cc in
                subst (λ (p : Place). Advance log old step p) same (effect_advances log old key at rule left step made one out kernel by found e here took)
          ] refl h
    ] refl is

call_advances : (log : List Event) (old new : Place) (key at : ℕ) (rule : Kernel → Made → Outcome → Option Kernel) (left : Outcome → ℕ) (step : Move) (made : Outcome → Step) (one : Option BegunCall) → IsEffect log old key at rule left step made
    → find_of old.begun key ≡ one → effected rule left old key at one (outcome_in (slice_get log at)) ≡ Some new → Advance log old step new
call_advances log old new key at rule left step made None by found is = absurd cc
call_advances log old new key at rule left step made (Some one) by found is = out_advances log old new key at rule left step made one (outcome_in (slice_get log at)) by found refl is

-- a step by a rule of the kernel, of which no line speaks
rule_advances : (log : List Event) (old new : Place) (step : Move) (made : Step) (rule : Option Kernel) → step_of log old.next step ≡ Some made → next_after old.next step ≡ old.next → line_of made ≡ None
    → ((after : World) → world_with (world_of log old) rule ≡ Some after → IsStep (world_of log old) made after) → ruled old rule ≡ Some new → Advance log old step new
rule_advances log old new step made None made_is same silent steps is = absurd cc
rule_advances log old new step made (Some kernel) made_is same silent steps is =
    let new_is : (record old { kernel = kernel }) ≡ new = cc in
    subst (λ (p : Place). Advance log old step p) new_is
    (record {
      made = made;
      is = made_is;
      leads = steps (world_of log (record old { kernel = kernel })) refl;
      lines = rw silent (sym (append-nil (take old.next log)));
      next = sym same;
    })

-- a call protects a page in a world as at its place
protect_found : (log : List Event) (old : Place) (page : ℕ) (after : World) (one : Option BegunCall) → world_with (world_of log old) (protected_by old.kernel one page) ≡ Some after
    → protect_of (world_of log old) (option_map (begun_in log) one) page ≡ Some after
protect_found log old page after None h = absurd cc
protect_found log old page after (Some one) h =
    elim one.at as (λ at. world_with (world_of log old) (protects_first old.kernel one.made (is_some at) page) ≡ Some after
    → world_with (world_of log old) (protects_first old.kernel one.made (is_some (out_of log at)) page) ≡ Some after) [
      | None ↦ λ e. e
      | Some n ↦ λ e. absurd cc
    ] h

protect_in : (log : List Event) (old : Place) (key page : ℕ) (after : World) → world_with (world_of log old) (protected_by old.kernel (find_of old.begun key) page) ≡ Some after
    → protect_of (world_of log old) (begun_of (world_of log old).begun key) page ≡ Some after
protect_in log old key page after h = ap (λ o. protect_of (world_of log old) o page) (found_in log old.begun key) ∙ protect_found log old page after (find_of old.begun key) h

-- a read takes its next message in a world as at its place
read_advances : (log : List Event) (old : Place) (key at : ℕ) (one : BegunCall) (out : Outcome) (kernel : Kernel) → find_of old.begun key ≡ Some one → one.at ≡ Some at
    → outcome_in (slice_get log at) ≡ Some out → takes_next old.kernel one.made one.left out ≡ Some kernel
    → Advance log old (move.Reads key at) (record old { kernel = kernel; begun = others_than key old.begun ++ record { made = one.made; at = Some at; left = one.left - 1 } ∷ [] })
read_advances log old key at one out kernel found with here took =
    record {
      made = read_takes key;
      is = refl;
      leads = rw (
        found_in log old.begun key,
        found,
        with,
        here,
        took,
        map-append (begun_in log) (others_than key old.begun) (record { made = one.made; at = Some at; left = one.left - 1 } ∷ []),
        here,
        without_in log old.begun key,
      ) refl;
      lines = sym (append-nil (take old.next log));
      next = refl;
    }

next_advances : (log : List Event) (old new : Place) (key at : ℕ) (one : Option BegunCall) (out : Option Outcome) → find_of old.begun key ≡ one → outcome_in (slice_get log at) ≡ out
    → next_taken old key at one out ≡ Some new → Advance log old (move.Reads key at) new
next_advances log old new key at None out found here is = absurd cc
next_advances log old new key at (Some one) None found here is = absurd cc
next_advances log old new key at (Some one) (Some out) found here is =
    elim (is_with one.at at) as (λ b. is_with one.at at ≡ b → (if b then affected old key at one.made (one.left - 1) (takes_next old.kernel one.made one.left out) else None) ≡ Some new
    → Advance log old (move.Reads key at) new) [
      | false ↦ λ with h. absurd cc
      | true ↦ λ with h.
          elim (takes_next old.kernel one.made one.left out) as (λ k. takes_next old.kernel one.made one.left out ≡ k → affected old key at one.made (one.left - 1) k ≡ Some new
          → Advance log old (move.Reads key at) new) [
            | None ↦ λ took i. absurd cc
            | Some kernel ↦ λ took i.
                let same : (record old { kernel = kernel; begun = others_than key old.begun ++ record { made = one.made; at = Some at; left = one.left - 1 } ∷ [] }) ≡ new = cc in
                subst (λ (p : Place). Advance log old (move.Reads key at) p) same (read_advances log old key at one out kernel found (with_at one.at at with) here took)
          ] refl h
    ] refl is
  where
    with_at : (o : Option ℕ) (at : ℕ) → is_with o at ≡ true → o ≡ Some at
    with_at None at h = absurd cc
    with_at (Some n) at h = ap (λ m. Some m) (eqb-true n at h)

advances : (log : List Event) (old new : Place) (step : Move) → moved log old step ≡ Some new → Advance log old step new
unfolding moved_by
advances log old new move.Line is = line_advances log old new (slice_get log old.next) refl is
advances log old new (move.Effect key at) is =
    call_advances log old new key at takes none_left (move.Effect key at) (effect key) (find_of old.begun key)
    (record { is = λ out here. ap (option_map (effect key)) here; leads = λ out after h. h; silent = λ out. refl; next = refl }) refl is
advances log old new (move.Refuses key at) is =
    call_advances log old new key at refuses none_left (move.Refuses key at) (refusal key) (find_of old.begun key)
    (record { is = λ out here. ap (option_map (refusal key)) here; leads = λ out after h. h; silent = λ out. refl; next = refl }) refl is
advances log old new (move.Starts key at) is =
    call_advances log old new key at starts all_left (move.Starts key at) (read_starts key) (find_of old.begun key)
    (record { is = λ out here. ap (option_map (read_starts key)) here; leads = λ out after h. h; silent = λ out. refl; next = refl }) refl is
advances log old new (move.Reads key at) is = next_advances log old new key at (find_of old.begun key) (outcome_in (slice_get log at)) refl refl is
advances log old new (move.Sees thread object page flags) is =
    rule_advances log old new (move.Sees thread object page flags) (thread_sees thread object page flags) (sees old.kernel thread object page flags) refl refl refl (λ after h. h) is
advances log old new (move.Queues thread) is = rule_advances log old new (move.Queues thread) (thread_queues thread) (queues old.kernel thread) refl refl refl (λ after h. h) is
advances log old new (move.Tells key) is = rule_advances log old new (move.Tells key) (call_tells key) (tells old.kernel key) refl refl refl (λ after h. h) is
advances log old new (move.Clears key) is = rule_advances log old new (move.Clears key) (call_clears key) (clears old.kernel key) refl refl refl (λ after h. h) is
advances log old new (move.Drops object page) is = rule_advances log old new (move.Drops object page) (page_drops object page) (drops old.kernel object page) refl refl refl (λ after h. h) is
advances log old new (move.Protects key page) is =
    rule_advances log old new (move.Protects key page) (call_protects key page) (protected_by old.kernel (find_of old.begun key) page) refl refl refl
    (protect_in log old key page) is
advances log old new (move.Leaves thread) is = rule_advances log old new (move.Leaves thread) (thread_leaves thread) (leaves old.kernel thread) refl refl refl (λ after h. h) is

-- Runs

-- moves that lead from one place to another are steps of a run, with the lines in between
pub record Led (log : List Event) (old : Place) (run : List Move) (new : Place) : Type 0 where
  pub leads : Leads (world_of log old) (steps_of log old.next run) (world_of log new)
  pub lines : take new.next log ≡ take old.next log ++ lines_of (steps_of log old.next run)

one_line : (step : Step) → lines_of (step ∷ []) ≡ option_to_list (line_of step)
one_line step = elim (line_of step) as (λ o. filter_map (λ (s : Step). o) (step ∷ []) ≡ option_to_list o) [ Some event ↦ refl | None ↦ refl ]

one_more : (made : Step) (others : List Step) → option_to_list (line_of made) ++ lines_of others ≡ lines_of (made ∷ others)
one_more made others = sym (filter_map-append line_of (made ∷ []) others ∙ ap (λ es. es ++ lines_of others) (one_line made))

led_more : (log : List Event) (old mid new : Place) (step : Move) (run : List Move) → Advance log old step mid → Led log mid run new → Led log old (step ∷ run) new
led_more log old mid new step run first rest =
    let steps : steps_of log old.next (step ∷ run) ≡ first.made ∷ steps_of log mid.next run = rw (first.is, ← first.next) refl in
    record {
      leads = subst (λ (ss : List Step). Leads (world_of log old) ss (world_of log new)) (sym steps) (world_of log mid, first.leads, rest.leads);
      lines =
          rest.lines ∙ ap (λ es. es ++ lines_of (steps_of log mid.next run)) first.lines
          ∙ append_assoc (take old.next log) (option_to_list (line_of first.made)) (lines_of (steps_of log mid.next run))
          ∙ ap (λ es. take old.next log ++ es) (one_more first.made (steps_of log mid.next run))
          ∙ ap (λ ss. take old.next log ++ lines_of ss) (sym steps);
    }

leads_all : (log : List Event) (old new : Place) (run : List Move) → moved_all log old run ≡ Some new → Led log old run new
leads_all log old new [] is =
    let same : old ≡ new = cc in
    record { leads = ap (world_of log) same; lines = ap (λ (p : Place). take p.next log) (sym same) ∙ sym (append-nil (take old.next log)) }
leads_all log old new (step ∷ run) is =
    elim (moved log old step) as (λ o. moved log old step ≡ o → then_moved o (λ next. moved_all log next run) ≡ Some new → Led log old (step ∷ run) new) [
      | None ↦ λ e h. absurd cc
      | Some mid ↦ λ e h. led_more log old mid new step run (advances log old mid step e) (leads_all log mid new run h)
    ] refl is

ended_run : (log : List Event) (run : List Move) (last : Place) (kernel : Kernel) → moved_all log fresh_place run ≡ Some last → at_end log (Some last) ≡ Some kernel → IsCertified log run kernel
ended_run log run last kernel moves is =
    elim (last.next == length log) as (λ b. (last.next == length log) ≡ b → (if b then Some last.kernel else None) ≡ Some kernel → IsCertified log run kernel) [
      | false ↦ λ e h. absurd cc
      | true ↦ λ e h.
          let led : Led log fresh_place run last = leads_all log fresh_place last run moves in
          let all : take last.next log ≡ log = rw (eqb-true last.next (length log) e) (take-length log) in
          (world_of log last, record { whole = sym led.lines ∙ all; leads = led.leads }, cc)
    ] refl is

-- the law of the checker
pub certified_run : (log : List Event) (run : List Move) (kernel : Kernel) → certified log run ≡ Some kernel → IsCertified log run kernel
unfolding certified
certified_run log run kernel is =
    elim (moved_all log fresh_place run) as (λ o. moved_all log fresh_place run ≡ o → at_end log o ≡ Some kernel → IsCertified log run kernel) [
      | None ↦ λ e h. absurd cc
      | Some last ↦ λ e h. ended_run log run last kernel e h
    ] refl is

-- A run that is made move by move

then_some : (o : Option Place) → then_moved o (λ next. Some next) ≡ o
then_some None = refl
then_some (Some next) = refl

-- one move more, where it leads if it is made
pub moved_more : (log : List Event) (first mid : Place) (run : List Move) (step : Move) (after : Option Place) → moved_all log first run ≡ Some mid → moved log mid step ≡ after
    → moved_all log first (run ++ step ∷ []) ≡ after
moved_more log first mid [] step after at is =
    let same : first ≡ mid = cc in
    then_some (moved log first step) ∙ ap (λ (p : Place). moved log p step) same ∙ is
moved_more log first mid (one ∷ run) step after at is =
    elim (moved log first one) as (λ o. then_moved o (λ next. moved_all log next run) ≡ Some mid → then_moved o (λ next. moved_all log next (run ++ step ∷ [])) ≡ after) [
      | None ↦ λ h. absurd cc
      | Some next ↦ λ h. moved_more log next mid run step after h is
    ] at

-- Tables of a run

-- the kernel to which the moves of a table lead
pub certified_some : (log : List Event) (run : List Move) (first last : Place) (made : Bool) → first ≡ fresh_place → moved_all log first run ≡ if_made made last → made ≡ true → last.next ≡ length log
    → certified log run ≡ Some last.kernel
unfolding certified
certified_some log run first last made fresh moves all end = rw (← fresh, moves, all, eq-eqb last.next (length log) end) refl

-- a run that is not made
pub certified_none : (log : List Event) (run : List Move) (first last : Place) (made : Bool) → first ≡ fresh_place → moved_all log first run ≡ if_made made last → made ≡ false → certified log run ≡ None
unfolding certified
certified_none log run first last made fresh moves fails = rw (← fresh, moves, fails) refl

-- a run that ends before the log
pub certified_short : (log : List Event) (run : List Move) (first last : Place) (made : Bool) → first ≡ fresh_place → moved_all log first run ≡ if_made made last → made ≡ true → (last.next ≡ length log → ⊥)
    → certified log run ≡ None
unfolding certified
certified_short log run first last made fresh moves all short = rw (← fresh, moves, all, ne_eqb last.next (length log) short) refl

-- a run of a table says that the log may be a kernel's, with its differences
pub certified_clean : (log : List Event) (run : List Move) (table : KernelTable) → certified log run ≡ Some (kernel_of table) → IsClean log table.differs.items
unfolding kernel_of
certified_clean log run table is = let found : IsCertified log run (kernel_of table) = certified_run log run (kernel_of table) is in (steps_of log 0 run, found.0, found.1, ap (λ (k : Kernel). k.differs) found.2)
