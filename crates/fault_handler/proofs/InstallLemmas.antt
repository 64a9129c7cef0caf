-- The step that installs a copy.
use Rattle.std.proofs.Common.{◌≡◌, ℕ, ◌*◌, Bool, true, false, not, ◌||◌, Option, Some, None, List, [], ◌∷◌, drop, refl, sym, ap, ◌∙◌, cond, eqb, arith}
use Rattle.std.proofs.lemmas.Bool.Decides.{nat_tests}
use Rattle.std.specs.Prelude.{Ok, Result}
use Rattle.std.specs.Cmp.{nat_cmp_total, unsigned_tied}
use Rattle.std.specs.FinMap as finmap
use Rattle.std.specs.FinMap.{contains_key, get, get-remove}
use Rattle.std.specs.FinSet.{contains}
use Rattle.mig_base.specs.declared.effect.Effect.{Effect}
use Rattle.mig_base.specs.declared.refusal.Refusal.{Refusal}
use Rattle.mig_model.specs.Cpus.{Cpus, all_woken}
use Rattle.mig_model.specs.Destination.{Destination, copy_dropped, install_by, installed_at, settled}
use Rattle.mig_model.specs.DestinationSteps.{install}
use Rattle.mig_model.specs.Effects.{install_effect}
use Rattle.mig_model.specs.Guest.{counted, is_forgotten, is_present}
use Rattle.mig_model.specs.Ioctls.{installed}
use Rattle.mig_model.specs.GuestSteps.{when_quiet}
use Rattle.mig_model.specs.NodeSteps.{acted, and_then, first_of, in_phase, unless}
use Rattle.mig_model.specs.Owed.{Owed, home, without_request}
use Rattle.mig_model.specs.Space.{IsSoundSpace, Space}
use Rattle.mig_base.specs.Userfault.{changing}
use Rattle.mig_model.specs.Wire.{Copy}
use Rattle.mig_model.proofs.memory.Facts.{eqb-self}
use Rattle.fault_handler.specs.Order.{IsInOrder, IsReady}
use Rattle.fault_handler.proofs.ReadyLemmas.{pairs_now, ready_installed, settled_now}

-- The step

-- the copy that is installed, or why none is
abbrev pub next_copy : Destination → Result Copy Refusal
next_copy node = in_phase node.has_run (when_quiet node.guest (first_of node.arrivals))

-- the copy of a page of the source, at its place in the destination
pub record IsFirst (node : Destination) (origin : ℕ) : Type 0 where
  pub copy : Copy
  pub rest : List Copy
  pub is : node.arrivals ≡ copy ∷ rest
  pub same : copy.page ≡ origin
  pub run : node.has_run ≡ true
  pub quiet : changing node.guest.space.object ≡ 0

pub some_arrival : (node : Destination) (origin : ℕ) → and_then (next_copy node) (λ copy. Ok copy.page) ≡ Ok origin → IsFirst node origin
unfolding unless
some_arrival node origin accepted = by node.arrivals refl accepted
  where
    by : (arrivals : List Copy) → node.arrivals ≡ arrivals → and_then (next_copy (record node { arrivals = arrivals })) (λ copy. Ok copy.page) ≡ Ok origin → IsFirst node origin
    by [] is h = absurd (grind arith)
    by (copy ∷ rest) is h = record { copy = copy; rest = rest; is = is; same = grind arith; run = grind arith; quiet = grind arith }

made_by : (node : Destination) (copy : Copy) (rest : List Copy) → node.has_run ≡ true → changing node.guest.space.object ≡ 0 → node.arrivals ≡ copy ∷ rest →
    install node ≡ acted (install_effect (home node.owed copy.page) copy.page) (install_by (home node.owed copy.page) node copy rest)
unfolding unless
made_by node copy rest run quiet waits = grind (arith, nat_tests)

pub install_done : (node new : Destination) (effect : Effect) (origin : ℕ) (there : Option ℕ) (first : IsFirst node origin) → there ≡ home node.owed origin → effect ≡ install_effect there origin → new ≡ install_by there node first.copy first.rest →
    install node ≡ acted effect new
install_done node new effect origin there first found reported is =
    let at = found ∙ ap (home node.owed) (sym first.same) in
    let effects : effect ≡ install_effect (home node.owed first.copy.page) first.copy.page = reported ∙ ap (λ o. install_effect o origin) at ∙ ap (install_effect (home node.owed first.copy.page)) (sym first.same) in
    rw (effects, is ∙ ap (λ o. install_by o node first.copy first.rest) at) (made_by node first.copy first.rest first.run first.quiet first.is)

rest_is : (arrivals rest : List Copy) (copy : Copy) → arrivals ≡ copy ∷ rest → drop 1 arrivals ≡ rest
rest_is arrivals rest copy is = ap (drop 1) is

-- a copy is dropped
pub dropped_is : (node was : Destination) (origin count : ℕ) (arrivals : List Copy) (first : IsFirst node origin) → was ≡ node → arrivals ≡ drop 1 was.arrivals → count ≡ counted was.dropped 1 →
    record was { arrivals = arrivals; dropped = count } ≡ copy_dropped node first.rest
dropped_is node was origin count arrivals first same left counting = rw (left, counting, same, rest_is node.arrivals first.rest first.copy first.is) refl

-- a copy is installed
pub installed_is : (node was : Destination) (space : Space) (cpus : Cpus) (owed : Owed) (requests : List ℕ) (arrivals : List Copy) (origin page count : ℕ) (first : IsFirst node origin) → was ≡ node →
    space ≡ installed was.guest.space page 1 (λ i. first.copy.bytes) false → cpus ≡ all_woken (λ q. eqb q page) was.guest.cpus → owed ≡ finmap.remove was.owed page → requests ≡ without_request was.requests origin →
    arrivals ≡ first.rest → count ≡ counted was.installed 1 →
    record was { guest = record { space = space; cpus = cpus }; owed = owed; requests = requests; arrivals = arrivals; installed = count } ≡ installed_at node first.copy first.rest page
installed_is node was space cpus owed requests arrivals origin page count first same put woken settles ended left counting = rw (put, woken, settles, ended, left, counting, same, ← first.same) refl

-- What is known of the page of a copy

-- the page is registered, and missing
pub record IsVacant (space : Space) (page : ℕ) : Type 0 where
  pub watched : is_forgotten space page ≡ false
  pub missing : is_present space page ≡ false

pub vacant : (space : Space) (owed : Owed) (page origin : ℕ) → IsSoundSpace space → changing space.object ≡ 0 → IsReady space owed → get owed page ≡ Some origin → IsVacant space page
vacant space owed page origin sound quiet ready pair =
    let both = pairs_now space owed page origin quiet ready pair in
    record { watched = by (contains_key space.host.areas page) (contains space.object.missing page) (contains space.object.protect page) (sound.mapped page) both.0; missing = both.1 }
  where
    by : (mapped watched protect : Bool) → ((watched || protect) ≡ true → mapped ≡ true) → watched ≡ true → (not mapped || not (watched || protect)) ≡ false
    by mapped watched protect sound is = grind arith

pub installed_order : (has_run : Bool) (space new : Space) (owed now : Owed) (page : ℕ) (bytes : List ℕ) → changing space.object ≡ 0 → new ≡ installed space page 1 (λ i. bytes) false → now ≡ finmap.remove owed page → IsInOrder has_run space owed → IsInOrder has_run new now
installed_order has_run space new owed now page bytes quiet is settles old = record { ready = λ run. rw (is, settles) (ready_installed space owed page bytes quiet (old.ready run)) }

without_it : (owed : Owed) (page : ℕ) → get (finmap.remove owed page) page ≡ None
without_it owed page = get-remove nat_cmp_total owed page page ∙ ap (λ b. cond b None (get owed page)) (unsigned_tied page page ∙ eqb-self page)

-- the pair of the copy, which ends
pub pair_ends : (node new : Destination) (page origin : ℕ) (copy : Copy) (rest : List Copy) → changing node.guest.space.object ≡ 0 → get node.owed page ≡ Some origin → new ≡ installed_at node copy rest page → (settled node page ≡ Some origin) × (settled new page ≡ None)
pair_ends node new page origin copy rest quiet pair is = (
  settled_now node.guest.space.object.events (get node.owed) page quiet ∙ pair,
  ap (λ (n : Destination). settled n page) is ∙ settled_now node.guest.space.object.events (get (finmap.remove node.owed page)) page quiet ∙ without_it node.owed page,
)

-- the addresses of an effect tell its pages
pub same_pages : (page origin other same : ℕ) → Effect.Installed (4096 * page) (4096 * origin) ≡ Effect.Installed (4096 * other) (4096 * same) → (page ≡ other) × (origin ≡ same)
same_pages page origin other same h =
    let first : 4096 * page ≡ 4096 * other = cc in
    let second : 4096 * origin ≡ 4096 * same = cc in
    (omega arith, omega arith)
