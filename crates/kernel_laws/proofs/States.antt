-- A node between two steps, beside a kernel that has run its log so far; and its run to the end, step by step.
use Rattle.std.proofs.lemmas.Bool.{false≢true}
use Rattle.std.proofs.lemmas.List.Elements.{filter_map-append}
use Rattle.std.proofs.lemmas.List.{map-append}
use Rattle.std.proofs.Common.{◌≡◌, ℕ, ◌<◌, ◌+◌, ◌/◌, ◌||◌, true, false, eqb, Some, List, [], ◌∷◌, ◌++◌, map, refl, sym, ap, subst, ◌∙◌}
use Rattle.std.specs.Prelude.{if◌then◌else◌}
use Rattle.std.specs.List.{list_any}
use Rattle.std.proofs.lemmas.List.Folds.{list_any-append}
use Rattle.mig_base.specs.declared.schedule.Step.{Step}
use Rattle.foundation.specs.Ranges.{pages_of}
use Rattle.foundation.specs.Tests.{is_empty}
use Rattle.mig_base.specs.Userfault.{is_watched}
use Rattle.foundation.proofs.TestLemmas.{or_first}
use Rattle.mig_model.specs.Ioctls.{has_events}
use Rattle.mig_model.specs.Migration.{World, next}
use Rattle.mig_model.specs.Space.{Space}
use Rattle.uffd_log.specs.declared.call.Message.TheVariants as log
use Rattle.kernel_rules.specs.MapCalls.{all_cleared, clearing, with_all_told, with_clearing}
use Rattle.kernel_rules.specs.Runs as runs
use Rattle.kernel_rules.specs.Runs.{Leads, effect_of, line_of, lines_of, on_space, takes, world_with}
use Rattle.kernel_laws.specs.Agreement.{Counterparts, telling}
use Rattle.kernel_laws.specs.Logs.{AreFollowed, IsFollowed, IsLogged, IsQuiet, Node, Open, Written, at_rest, cleared, have_mremap, log_of, modelled, space_after, under_way, unread_of, with_unread, without_cleared}
use Rattle.kernel_laws.proofs.Beside.{has_key, own-found, own-without, world_of}
use Rattle.kernel_laws.proofs.Clearing.{untold-remove}
use Rattle.kernel_laws.proofs.DiscardRuns.{Discard, dropped_by, noted_by, pending_for, starts, stops, waiting}
use Rattle.kernel_laws.proofs.FaultReads.{page-requeued, requeued, sound-requeued}
use Rattle.kernel_laws.proofs.LogRuns.{AreAll, Differs, both-differ, first-of, leads-append}
use Rattle.kernel_laws.proofs.OpenCalls.{AreBelow, HasCalls, Pending, begun_calls, open_of, over_of, seen, unread-last}
use Rattle.kernel_laws.proofs.MapRuns.{map-call}
use Rattle.kernel_laws.proofs.Unmaps.{new-call, remove-tells}

-- no MADV_DONTNEED is under way: the kernel's object agrees with the node's, but for the events of calls under way
pub record Free (name home key : ℕ) (space : Space) (calls : List Pending) (one : Counterparts) : Type 0 where
  pub same : seen calls one.space ≡ space
  pub told : HasCalls calls one
  pub below : AreBelow key calls
  pub own : name ≡ one.name
  pub there : home ≡ one.object.space

-- one is, among these that have begun: the kernel's object agrees with what the node's would be without it
pub record Held (name home key : ℕ) (space : Space) (it : Discard) (calls : List Pending) (one : Counterparts) : Type 0 where
  pub before : List runs.Begun
  pub later : List runs.Begun
  pub is : begun_calls calls ≡ before ++ later
  pub none : list_any (has_key it.key) (before ++ later) ≡ false
  pub same : dropped_by it (seen calls one.space) ≡ space
  pub told : HasCalls calls one
  pub below : AreBelow key calls
  pub low : it.key < key
  pub own : name ≡ one.name
  pub there : home ≡ one.object.space
  pub its : it.home ≡ home
  pub watched : is_watched one.space.object (it.addr / 4096) (pages_of it.len) ≡ true
  pub enabled : one.space.object.enabled ≡ true
  pub asked : has_events one.space.object ≡ true

pub data State (name home key : ℕ) (space : Space) : Type 0 where
  free : (calls : List Pending) → (one : Counterparts) → Free name home key space calls one → State name home key space
  held : (it : Discard) → (calls : List Pending) → (one : Counterparts) → Held name home key space it calls one → State name home key space

abbrev pub counterpart : {name home key : ℕ} {space : Space} → State name home key space → Counterparts
counterpart (free calls one at) = one
counterpart (held it calls one at) = one

-- the calls under way in the log
abbrev pub log_begun : {name home key : ℕ} {space : Space} → State name home key space → List Open
log_begun (free calls one at) = map open_of calls
log_begun (held it calls one at) = map open_of calls ++ open_of (pending_for it) ∷ []

-- the kernel, and the calls that have begun
abbrev pub run_world : {name home key : ℕ} {space : Space} → State name home key space → runs.World
run_world (free calls one at) = under_way one.kernel (map open_of calls)
run_world (held it calls one at) = world_of one.kernel (at.before ++ waiting it ∷ at.later)

-- a part of a log leads from a world to a state
pub record Next (name home : ℕ) (start : runs.World) (one : Counterparts) (written : Written) (space : Space) : Type 0 where
  pub state : State name home written.key space
  pub begun : written.begun ≡ log_begun state
  pub steps : List runs.Step
  pub whole : lines_of steps ≡ written.lines
  pub leads : Leads start steps (run_world state)
  pub differs : Differs written.lines one.kernel (counterpart state).kernel

-- and one to its end
pub record Ends (name : ℕ) (start : runs.World) (one : Counterparts) (log : Written) (space : Space) : Type 0 where
  pub steps : List runs.Step
  pub last : Counterparts
  pub whole : lines_of steps ≡ log.lines
  pub leads : Leads start steps (under_way last.kernel log.begun)
  pub leaves : modelled last.space log.begun ≡ space
  pub own : name ≡ last.name
  pub quiet : log.begun ≡ [] → IsQuiet last.kernel
  pub differs : Differs log.lines one.kernel last.kernel

-- The end

none-cleared : (key : ℕ) (calls : List Pending) (space : Space) → AreBelow key calls → cleared space (map open_of calls) ≡ space
none-cleared key [] space below = refl
none-cleared key (one ∷ calls) space below = ap (λ s. cleared s (map open_of calls)) (below.2.keeps space) ∙ none-cleared key calls space below.3

quiet-by : (calls : List Pending) (one : Counterparts) → map open_of calls ≡ [] → HasCalls calls one → IsQuiet one.kernel
quiet-by [] one none told = told
quiet-by (pending ∷ calls) one none told = absurd (false≢true (ap is_empty none))

pub ends-free : (name home key : ℕ) (space : Space) (calls : List Pending) (one : Counterparts) → (at : Free name home key space calls one) → Ends name (under_way one.kernel (map open_of calls)) one (record { lines = []; key = key; begun = map open_of calls }) space
ends-free name home key space calls one at =
    record {
      steps = [];
      last = one;
      whole = refl;
      leads = refl;
      leaves = none-cleared key calls (seen calls one.space) at.below ∙ at.same;
      own = at.own;
      quiet = λ none. quiet-by calls one none at.told;
      differs = λ moves none h. h;
    }

cleared-both : (space : Space) (begun more : List Open) → cleared space (begun ++ more) ≡ cleared (cleared space begun) more
cleared-both space [] more = refl
cleared-both space (one ∷ begun) more = cleared-both (without_cleared space one.made.call) begun more

pub any-begun : (key : ℕ) (calls : List Pending) → list_any (λ (one : Pending). eqb one.key key) calls ≡ list_any (has_key key) (begun_calls calls)
any-begun key [] = refl
any-begun key (one ∷ calls) = ap (λ b. eqb one.key key || b) (any-begun key calls)

some-last : {X : Type 0} (xs : List X) (x : X) → is_empty (xs ++ x ∷ []) ≡ false
some-last [] x = refl
some-last (first ∷ xs) x = refl

-- its MADV_DONTNEED takes effect, and its REMOVE waits
pub ends-held : (name home key : ℕ) (space : Space) (it : Discard) (calls : List Pending) (one : Counterparts) → (at : Held name home key space it calls one) →
    Ends name (world_of one.kernel (at.before ++ waiting it ∷ at.later)) one (record { lines = []; key = key; begun = map open_of calls ++ open_of (pending_for it) ∷ [] }) space
unfolding on_space
ends-held name home key space it calls one at =
    let kernel = one.kernel in
    let p = pending_for it in
    let over = over_of p in
    let first = it.addr / 4096 in
    let count = pages_of it.len in
    let own = one.object.space in
    let none : list_any (λ (one : Pending). eqb one.key it.key) calls ≡ false = any-begun it.key calls ∙ ap (list_any (has_key it.key)) at.is ∙ at.none in
    let call = map-call calls one it.key none at.told at.enabled at.asked in
    let told = λ (names : List ℕ). if is_empty names then all_cleared kernel own first count false else with_clearing (with_all_told kernel it.key names) it.key own first count false in
    let after = told (one.name ∷ []) in
    let taken : takes kernel over.made over_out ≡ Some after =
    it.takes kernel ∙ (λ i. Some (clearing kernel it.key ((at.its ∙ at.there) i) first count false)) ∙ ap (λ names. Some (told names)) (remove-tells call first count true at.watched) in
    let events = one.space.object.events ++ noted_by it ∷ [] in
    let agree = one.agree in
    let before = sym (list_any-append (has_key it.key) at.before at.later) ∙ at.none in
    record {
      steps = runs.Step.effect it.key over_out ∷ [];
      last = record {
        space = requeued one.space one.space.object.faults events;
        kernel = after;
        name = one.name;
        object = one.object;
        agree = record {
          sound = sound-requeued one.space one.space.object.faults events agree.sound;
          named = agree.named;
          features = agree.features;
          pages = λ page. page-requeued one.space one.space.object.faults events one.name page (kernel.pages own page) (agree.pages page);
          unread = agree.unread;
          untold = untold-remove one.name (telling kernel) it.key own first (first + count) one.space.object.events (noted_by it) (new-call (telling kernel) it.key call.is_new) agree.untold
              (λ i. log.Remove (starts it.addr it.whole i) (stops it.addr count it.whole i));
          alone = agree.alone;
          ranged = agree.ranged;
        };
      };
      whole = refl;
      leads = (
        world_of after (begun_calls calls ++ over ∷ []),
        ap (λ o. effect_of (world_of kernel (at.before ++ waiting it ∷ at.later)) o it.key over_out)
            (own-found (waiting it) at.before at.later (or_first (list_any (has_key it.key) at.before) (list_any (has_key it.key) at.later) before))
            ∙ (λ i. world_with (world_of kernel ((own-without (waiting it) at.before at.later at.none ∙ sym at.is) i ++ over ∷ [])) (taken i)),
        ap (world_of after) (sym (map-append over_open (map open_of calls) (open_of p ∷ []))),
      );
      leaves = ap (λ l. cleared (with_unread one.space l) (map open_of calls ++ open_of p ∷ [])) (unread-last calls p)
          ∙ cleared-both (with_unread one.space (unread_of (map open_of calls) ++ noted_by it ∷ [])) (map open_of calls) (open_of p ∷ [])
          ∙ ap (λ s. without_cleared s p.call) (none-cleared key calls (with_unread one.space (unread_of (map open_of calls) ++ noted_by it ∷ [])) at.below) ∙ at.same;
      own = at.own;
      quiet = λ nothing. absurd (false≢true (sym (some-last (map open_of calls) (open_of p)) ∙ ap is_empty nothing));
      differs = λ moves none h. h;
    }
  where
    over_out : runs.Outcome
    over_out = (open_of (pending_for it)).out

    over_open : Open → runs.Begun
    over_open o = record { made = o.made; out = Some o.out; left = 0 }

pub ends-at : (name home key : ℕ) (space : Space) (state : State name home key space) → Ends name (run_world state) (counterpart state) (record { lines = []; key = key; begun = log_begun state }) space
ends-at name home key space (free calls one at) = ends-free name home key space calls one at
ends-at name home key space (held it calls one at) = ends-held name home key space it calls one at

-- Every list of steps

pub next-ends : (name home : ℕ) (start : runs.World) (one : Counterparts) (written log : Written) (space last : Space) → (first : Next name home start one written space) → Ends name (run_world first.state) (counterpart first.state) log last →
    Ends name start one (record log { lines = written.lines ++ log.lines }) last
next-ends name home start one written log space last first rest =
    record {
      steps = first.steps ++ rest.steps;
      last = rest.last;
      whole = filter_map-append line_of first.steps rest.steps ∙ (λ i. first.whole i ++ rest.whole i);
      leads = leads-append start (run_world first.state) (under_way rest.last.kernel log.begun) first.steps rest.steps first.leads rest.leads;
      leaves = rest.leaves;
      own = rest.own;
      quiet = rest.quiet;
      differs = both-differ written.lines log.lines one.kernel (counterpart first.state).kernel rest.last.kernel first.differs rest.differs;
    }

pub every-ends : (node : Node) (name home : ℕ) (holds : World → Type 0) →
    ((world : World) (key : ℕ) (state : State name home key (node.space world)) (step : Step) → holds world → holds (next world step) → IsFollowed (node.space world) (log_begun state) world step →
    Next name home (run_world state) (counterpart state) (node.writes key (log_begun state) world step) (node.space (next world step))) →
    (world : World) (key : ℕ) (state : State name home key (node.space world)) (steps : List Step) → AreAll holds world steps → AreFollowed node key (log_begun state) world steps →
    Ends name (run_world state) (counterpart state) (log_of node key (log_begun state) world steps) (space_after node world steps)
every-ends node name home holds moves world key state [] all followed = ends-at name home key (node.space world) state
every-ends node name home holds moves world key state (step ∷ steps) all followed =
    let new = next world step in
    let written = node.writes key (log_begun state) world step in
    let first = moves world key state step all.0 (first-of holds new steps all.1) followed.0 in
    let rest = every-ends node name home holds moves new written.key first.state steps all.1 (subst (λ begun. AreFollowed node written.key begun new steps) first.begun followed.1) in
    next-ends name home (run_world state) (counterpart state) written (log_of node written.key written.begun new steps) (node.space new) (space_after node new steps) first
    (subst (λ begun. Ends name (run_world first.state) (counterpart first.state) (log_of node written.key begun new steps) (space_after node new steps)) (sym first.begun) rest)

-- from a kernel at rest on
pub logged-from : (one : Counterparts) (name : ℕ) (log : Written) (space : Space) → name ≡ one.name → Ends name (at_rest one.kernel) one log space → IsLogged one log space
logged-from one name log space same ends =
    record { steps = ends.steps; last = ends.last; whole = ends.whole; leads = ends.leads; leaves = ends.leaves; name = sym ends.own ∙ same; quiet = ends.quiet; differs = λ before. ends.differs (have_mremap log.lines) (λ none. none) before }
