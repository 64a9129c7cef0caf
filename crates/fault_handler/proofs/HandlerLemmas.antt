-- The steps of the destination's handler.
use Rattle.std.proofs.Common.{◌≡◌, ℕ, ◌+◌, ◌-◌, ◌*◌, ◌^◌, min, Bool, true, false, Option, Some, None, List, [], ◌∷◌, refl, sym, ap, ◌∙◌, subst, unwrap_or, eqb, drop, inl, inr, ◌⊎◌, arith}
use Rattle.std.proofs.lemmas.Bool.Decides.{nat_tests}
use Rattle.std.specs.Prelude.{Ok, Err, Result}
use Rattle.std.specs.FinMap.{get}
use Rattle.std.specs.Option.{option_map}
use Rattle.mig_base.specs.declared.message.Message.{Message}
use Rattle.foundation.specs.declared.TheConstants.{PAGE_SIZE}
use Rattle.mig_base.specs.declared.effect.Effect.{Effect}
use Rattle.mig_base.specs.declared.refusal.Refusal.{Refusal}
use Rattle.mig_model.specs.Cpus.{Cpus, all_woken}
use Rattle.mig_model.specs.Destination.{Destination, act_frames, destination_act, destination_act_by, destination_acted, destination_acted_by, destination_read, settled}
use Rattle.mig_model.specs.DestinationSteps.{act, read}
use Rattle.mig_base.specs.Acts.{act_effect}
use Rattle.mig_model.specs.Effects.{read_effect}
use Rattle.mig_base.specs.declared.act.Act.{Act}
use Rattle.mig_model.specs.Guest.{Fault, Guest, counted, fault_count, held_after, in_bytes, is_forgotten, is_present, read_guest, rest_held, zero_installed}
use Rattle.mig_model.specs.GuestSteps.{when_quiet}
use Rattle.mig_model.specs.NodeSteps.{acted, and_then, first_of, in_phase, sent, unless}
use Rattle.mig_model.specs.Owed.{Owed, owed_table_after}
use Rattle.mig_model.specs.Space.{Space}
use Rattle.mig_base.specs.Userfault.{Noted, changing, next_message}
use Rattle.mig_model.specs.Wire.{Frame}
use Rattle.guest.specs.Guests.{guest_with}
use Rattle.uffd_ioctl.specs.Lent.{IsLent}
use Rattle.fault_handler.specs.Order.{HasPages, IsInOrder}
use Rattle.mig_model.proofs.memory.Facts.{counted_is}
use Rattle.fault_handler.proofs.PageLemmas.{read_paged}
use Rattle.fault_handler.proofs.ReadyLemmas.{ready_read, ready_zeroed, settled_now, settled_read}

-- whether it runs
pub run_of : (has_run : Bool) → ◌≡◌ {A = Result (Unit {0}) Refusal} (in_phase has_run (Ok tt)) (Ok tt) → has_run ≡ true
run_of true ok = refl
run_of false ok = absurd (cc)

-- Reading a message

-- the message that waits
pub record IsNext (next : Option Noted) (message : Message) : Type 0 where
  pub noted : Noted
  pub is : next ≡ Some noted
  pub same : noted.message ≡ message

pub some_next : (next : Option Noted) (message : Message) → option_map (λ noted. noted.message) next ≡ Some message → IsNext next message
some_next None message h = absurd (let other : None ≡ Some message = h in cc)
some_next (Some noted) message h = record { noted = noted; is = refl; same = let same : Some noted.message ≡ Some message = h in cc }

read_by : (node : Destination) (noted : Noted) → node.has_run ≡ true → next_message node.guest.space.object ≡ Some noted → read node ≡ acted (read_effect node.guest.cpus noted.cpu noted.message) (destination_read node noted)
read_by node noted run next = grind arith

pub read_done : (node new : Destination) (effect : Effect) (noted : Noted) → node.has_run ≡ true → next_message node.guest.space.object ≡ Some noted → effect ≡ read_effect node.guest.cpus noted.cpu noted.message → new ≡ destination_read node noted →
    read node ≡ acted effect new
read_done node new effect noted run next reported is = rw (reported, is) (read_by node noted run next)

pub read_effect_is : (message other : Message) (effect same : Effect) → ◌≡◌ {A = Option (Message × Effect)} (Some (message, effect)) (Some (other, same)) → effect ≡ same
read_effect_is message other effect same h = ap (λ (o : Option (Message × Effect)). (unwrap_or o (message, effect)).1) h

-- the message that waits is noted: its fault is held, or it is applied to the owed table
pub record IsNoted (node was : Destination) : Type 0 where
  pub noted : Noted
  pub next : next_message node.guest.space.object ≡ Some noted
  pub is : was ≡ record node { held = held_after node.held noted.message; owed = owed_table_after noted.message node.owed }

pub noted_next : (node was : Destination) (message : Message) (held : List Fault) (owed : Owed) → option_map (λ noted. noted.message) (next_message node.guest.space.object) ≡ Some message → was ≡ record node { held = held; owed = owed } →
    held ≡ held_after node.held message → owed ≡ owed_table_after message node.owed → IsNoted node was
noted_next node was message held owed waits is holds applied =
    let next = some_next (next_message node.guest.space.object) message waits in
    record { noted = next.noted; next = next.is; is = is ∙ rw (holds, applied) (ap (λ m. record node { held = held_after node.held m; owed = owed_table_after m node.owed }) (sym next.same)) }

pub noted_waits : (node was : Destination) (noting : IsNoted node was) → next_message was.guest.space.object ≡ Some noting.noted
noted_waits node was noting = ap (λ (n : Destination). next_message n.guest.space.object) noting.is ∙ noting.next

-- a message that is read is the one that waits
pub none_waits : (next : Option Noted) → option_map {U = Message} (λ noted. noted.message) next ≡ None → next ≡ None
none_waits None h = refl
none_waits (Some noted) h = absurd (let other : Some noted.message ≡ None = h in cc)

-- what is read, part by part
pub read_is : (node was : Destination) (noting : IsNoted node was) (space : Space) (cpus : Cpus) (more faults : ℕ) (message : Message) → guest_with space cpus ≡ read_guest was.guest noting.noted.cpu noting.noted.message → message ≡ noting.noted.message → more ≡ fault_count message →
    faults ≡ min (was.faults + more) (2 ^ 64 - 1) → record was { guest = record { space = space; cpus = cpus }; faults = faults } ≡ destination_read node noting.noted
read_is node was noting space cpus more faults message guest same counting count = rw (guest, count, counted_is, counting, same, noting.is) refl

pub noted_order : (node was : Destination) (noting : IsNoted node was) (space : Space) → space ≡ (read_guest was.guest noting.noted.cpu noting.noted.message).space → IsLent space → IsInOrder node.has_run node.guest.space node.owed → IsInOrder was.has_run space was.owed
noted_order node was noting space is lent old =
    let noted = noting.noted in
    let read = is ∙ ap (λ (n : Destination). (read_guest n.guest noted.cpu noted.message).space) noting.is in
    subst (λ (n : Destination). IsInOrder n.has_run space n.owed) (sym noting.is)
    (record { ready = λ run. rw read (ready_read node.guest node.owed noted noting.next (subst IsLent read lent) (old.ready run)) })

pub noted_paged : (node was : Destination) (noting : IsNoted node was) → HasPages node.owed node.requests → HasPages was.owed was.requests
noted_paged node was noting old = subst (λ (n : Destination). HasPages n.owed n.requests) (sym noting.is) (read_paged noting.noted.message node.owed _ node.requests refl old)

pub settled_done : (node new : Destination) (noted : Noted) (page : ℕ) → next_message node.guest.space.object ≡ Some noted → node.has_run ≡ true → IsInOrder node.has_run node.guest.space node.owed → new ≡ destination_read node noted → settled new page ≡ settled node page
settled_done node new noted page next run old is = ap (λ (n : Destination). settled n page) is ∙ settled_read node.guest node.owed noted page next (old.ready run)

-- Resolving a fault

-- the fault that is resolved, or why none is
abbrev pub next_fault : Destination → Result Fault Refusal
next_fault node = in_phase node.has_run (when_quiet node.guest (first_of node.held))

-- the fault, at its place in the destination
pub record IsFirstHeld (node : Destination) (fault : Fault) : Type 0 where
  pub rest : List Fault
  pub is : node.held ≡ fault ∷ rest
  pub run : node.has_run ≡ true
  pub quiet : changing node.guest.space.object ≡ 0

pub first_held : (node : Destination) (fault : Fault) → next_fault node ≡ Ok fault → IsFirstHeld node fault
unfolding unless
first_held node fault accepted = by node.held refl accepted
  where
    by : (held : List Fault) → node.held ≡ held → next_fault (record node { held = held }) ≡ Ok fault → IsFirstHeld node fault
    by [] is h = absurd (grind arith)
    by (first ∷ rest) is h =
        let same : first ≡ fault = grind arith in
        record { rest = rest; is = is ∙ ap (λ f. f ∷ rest) same; run = grind arith; quiet = grind arith }

-- the fault that waits first is the one that is resolved
pub same_first : (node : Destination) (fault first : Fault) (rest : List Fault) → next_fault node ≡ Ok first → node.held ≡ fault ∷ rest → first ≡ fault
unfolding unless
same_first node fault first rest next waits = grind (arith, nat_tests)

-- memory is no reason why there is none
pub next_lacks : (node : Destination) → next_fault node ≡ Err Refusal.NoMemory → ⊥
unfolding unless
next_lacks node is = by node.held refl is
  where
    by : (held : List Fault) → node.held ≡ held → next_fault (record node { held = held }) ≡ Err Refusal.NoMemory → ⊥
    by [] waits is = grind arith
    by (fault ∷ rest) waits is = grind arith

-- the step, by that fault
act_by : (node : Destination) (next : Result Fault Refusal) → next_fault node ≡ next →
    act node ≡ and_then next (λ fault. sent (act_effect (destination_act node fault) (PAGE_SIZE * fault.page)) (act_frames (destination_act node fault) node) (destination_acted node fault))
act_by node next is = grind arith

pub act_done : (node new : Destination) (effect : Effect) (frames : List Frame) (fault : Fault) (act_made : Act) → next_fault node ≡ Ok fault → act_made ≡ destination_act node fault → effect ≡ act_effect act_made (4096 * fault.page) →
    frames ≡ act_frames act_made node → new ≡ destination_acted_by act_made node fault.page → act node ≡ sent effect frames new
act_done node new effect frames fault act_made next same reported sends is = rw (reported, sends, is, same) (act_by node (Ok fault) next)

-- what is known of a page that becomes zeros
pub record IsMissing (space : Space) (owed : Owed) (page : ℕ) : Type 0 where
  pub watched : is_forgotten space page ≡ false
  pub missing : is_present space page ≡ false
  pub nothing : get owed page ≡ None

zeroed_missing : (space : Space) (owed : Owed) (page : ℕ) → destination_act_by (is_forgotten space page) (is_present space page) (get owed page) ≡ Act.Zeroed → IsMissing space owed page
zeroed_missing space owed page is =
    let all = by (is_forgotten space page) (is_present space page) (get owed page) is in
    record { watched = all.0; missing = all.1.0; nothing = all.1.1 }
  where
    by : (forgotten present : Bool) (o : Option ℕ) → destination_act_by forgotten present o ≡ Act.Zeroed → (forgotten ≡ false) × ((present ≡ false) × (o ≡ None))
    by true present o h = absurd (let other : Act.Forgot ≡ Act.Zeroed = h in cc)
    by false true o h = absurd (let other : Act.Woke ≡ Act.Zeroed = h in cc)
    by false false (Some origin) h = absurd (let other : Act.Requested origin ≡ Act.Zeroed = h in cc)
    by false false None h = (refl, (refl, refl))

-- The destination after a fault

rest_is : (held : List Fault) → drop 1 held ≡ rest_held held
rest_is [] = refl
rest_is (fault ∷ rest) = refl

-- the page has become zeros
pub zeroed_is : (node was : Destination) (space : Space) (cpus : Cpus) (held : List Fault) (number page : ℕ) → was ≡ record node { guest = record node.guest { space = space } } → number ≡ page → space ≡ zero_installed node.guest.space page →
    cpus ≡ all_woken (λ q. eqb q number) was.guest.cpus → held ≡ drop 1 was.held → record was { guest = record { space = was.guest.space; cpus = cpus }; held = held } ≡ destination_acted_by Act.Zeroed node page
zeroed_is node was space cpus held number page same at is woken rest = rw (woken, rest, same, is, rest_is, at) refl

-- its sleepers are woken
pub woken_is : (node was : Destination) (cpus : Cpus) (held : List Fault) (number page : ℕ) (act : Act) → was ≡ node → number ≡ page → cpus ≡ all_woken (λ q. eqb q number) was.guest.cpus → held ≡ drop 1 was.held →
    (act ≡ Act.Woke) ⊎ ((act ≡ Act.Forgot) ⊎ (act ≡ Act.Unprotected)) → record was { guest = record { space = was.guest.space; cpus = cpus }; held = held } ≡ destination_acted_by act node page
woken_is node was cpus held number page act same at woken rest (inl is) = rw (is, woken, rest, rest_is, at, same) refl
woken_is node was cpus held number page act same at woken rest (inr (inl is)) = rw (is, woken, rest, rest_is, at, same) refl
woken_is node was cpus held number page act same at woken rest (inr (inr is)) = rw (is, woken, rest, rest_is, at, same) refl

-- a destination whose page has become zeros is in order
pub zeroed_order : (has_run : Bool) (space new : Space) (owed : Owed) (page : ℕ) → changing space.object ≡ 0 → get owed page ≡ None → new ≡ zero_installed space page → IsInOrder has_run space owed → IsInOrder has_run new owed
zeroed_order has_run space new owed page quiet nothing is old = record { ready = λ run. rw is (ready_zeroed space owed page quiet nothing (old.ready run)) }

pub missing_at : (node was : Destination) (fault : Fault) → was ≡ node → destination_act node fault ≡ Act.Zeroed → IsMissing was.guest.space was.owed fault.page
missing_at node was fault same is = zeroed_missing was.guest.space was.owed fault.page (ap (λ (n : Destination). destination_act n fault) same ∙ is)

-- the effect that reports a page of zeros: the page was owed nothing, and was missing
pub zeroed_tells : (node : Destination) (fault : Fault) (effect : Effect) (page : ℕ) → changing node.guest.space.object ≡ 0 → effect ≡ act_effect (destination_act node fault) (4096 * fault.page) → effect ≡ Effect.Zeroed (4096 * page) →
    (settled node page ≡ None) × (is_present node.guest.space page ≡ false)
zeroed_tells node fault effect page quiet is zeroed =
    let both = by (destination_act node fault) (4096 * fault.page) (sym is ∙ zeroed) in
    let same : fault.page ≡ page = let at = both.1 in omega (arith, at) in
    let missing = subst (λ q. IsMissing node.guest.space node.owed q) same (zeroed_missing node.guest.space node.owed fault.page both.0) in
    (settled_now node.guest.space.object.events (get node.owed) page quiet ∙ missing.nothing, missing.missing)
  where
    by : (act : Act) (addr : ℕ) → act_effect act addr ≡ Effect.Zeroed (4096 * page) → (act ≡ Act.Zeroed) × (addr ≡ 4096 * page)
    by Act.Unprotected addr h = absurd (let other : Effect.Unprotected addr ≡ Effect.Zeroed (4096 * page) = h in cc)
    by Act.Zeroed addr h = (refl, let same : Effect.Zeroed addr ≡ Effect.Zeroed (4096 * page) = h in cc)
    by Act.Woke addr h = absurd (let other : Effect.Woke addr ≡ Effect.Zeroed (4096 * page) = h in cc)
    by Act.Forgot addr h = absurd (let other : Effect.Forgot addr ≡ Effect.Zeroed (4096 * page) = h in cc)
    by (Act.Requested origin) addr h = absurd (let other : Effect.Requested (4096 * origin) addr ≡ Effect.Zeroed (4096 * page) = h in cc)
