-- Two processes that are not settled can become so: the destination loses its channel and notices it, and then changes to the next one, until
-- it has the last. Neither node changes, but for the phase of the destination.
use Rattle.std.proofs.Common.{◌≡◌, ◌⊎◌, inl, inr, ℕ, ◌||◌, Bool, true, false, not, List, [], ◌∷◌, ◌++◌, Option, Some, None, refl, sym, ap, subst, ◌∙◌}
use Rattle.std.specs.Prelude.{Result, Ok, Err}
use Rattle.std.proofs.lemmas.Bool.{false≢true}
use Rattle.mig_base.specs.declared.effect.Effect.{Effect}
use Rattle.mig_base.specs.declared.phase.DestPhase.{DestPhase}
use Rattle.mig_base.specs.declared.refusal.Refusal.{Refusal}
use Rattle.mig_base.specs.declared.schedule.Side.{Side}
use Rattle.mig_base.specs.declared.schedule.Step.{Step}
use Rattle.mig_model.specs.Destination.{Destination, destination_paused, install_by, is_dest_paused}
use Rattle.mig_model.specs.DestinationSteps as destination
use Rattle.mig_model.specs.Effects.{install_effect}
use Rattle.mig_model.specs.GuestSteps.{when_quiet}
use Rattle.mig_model.specs.NodeSteps.{acted, and_then, first_of, in_phase, rest_of}
use Rattle.mig_model.specs.Source.{Source, is_under_way}
use Rattle.mig_model.specs.Owed.{home}
use Rattle.mig_model.specs.Wire.{Copy}
use Rattle.mig_laws.specs.Nodes.{map_ok}
use Rattle.mig_laws.specs.Processes.{Channel, Event, IsSettled, IsThere, Processes}
use Rattle.mig_laws.specs.Replacements.{AreChanges, Change, IsChange}
use Rattle.mig_laws.specs.Sides.{Did, acts, destination_line, destination_step}
use Rattle.mig_laws.proofs.Replaced.{notice}

pub changes-append : (cpus : ℕ) (old mid new : Processes) (changes more : List Change) → AreChanges cpus old changes mid → AreChanges cpus mid more new → AreChanges cpus old (changes ++ more) new
changes-append cpus old mid new [] more is last = subst (λ now. AreChanges cpus now more new) is last
changes-append cpus old mid new (change ∷ changes) more is last = (is.0, is.1, changes-append cpus is.0 mid new changes more is.2 last)

-- changes that enter no command
abbrev pub AreSilent : List Change → Type 0
AreSilent [] = Unit {0}
AreSilent (Change.Happens Event.LosesThere ∷ changes) = AreSilent changes
AreSilent (Change.Happens Event.Joins ∷ changes) = AreSilent changes
AreSilent (Change.Happens (Event.There line) ∷ changes) = (line ≡ notice) × AreSilent changes
AreSilent (change ∷ changes) = ⊥

-- changes after which they are settled
pub record Settles (cpus : ℕ) (old : Processes) : Type 0 where
  pub changes : List Change
  pub new : Processes
  pub are : AreChanges cpus old changes new
  pub silent : AreSilent changes
  pub settled : IsSettled new
  pub source_is : new.source ≡ old.source
  pub destination_is : new.destination ≡ record old.destination { phase = new.destination.phase }

abbrev settles-now : (cpus : ℕ) (old : Processes) → IsSettled old → Settles cpus old
settles-now cpus old settled = record { changes = []; new = old; are = refl; silent = tt; settled = settled; source_is = refl; destination_is = refl }

abbrev settles-then : (cpus : ℕ) (old : Processes) (change : Change) (mid : Processes) → IsChange cpus old change mid → mid.source ≡ old.source → mid.destination ≡ record old.destination { phase = mid.destination.phase } → (rest : Settles cpus mid) → AreSilent (change ∷ rest.changes) → Settles cpus old
settles-then cpus old change mid is source destination rest silent =
    record {
      changes = change ∷ rest.changes;
      new = rest.new;
      are = (mid, is, rest.are);
      silent = silent;
      settled = rest.settled;
      source_is = rest.source_is ∙ source;
      destination_is = rest.destination_is ∙ ap (λ (node : Destination). record node { phase = rest.new.destination.phase }) destination;
    }

abbrev processes : Source → Bool → Bool → Destination → Channel → List Channel → Processes
processes source here there node first later = record { source = source; destination = node; first = first; later = later; here = here; there = there }

-- a paused destination changes to the next channel and, where there is another one, loses that as well
joins-all : (cpus : ℕ) (source : Source) (here : Bool) (node : Destination) (first next : Channel) (later : List Channel) → is_dest_paused node.phase ≡ true → Settles cpus (processes source here false node first (next ∷ later))
joins-all cpus source here node first next [] paused =
    let now = processes source here true node next [] in
    settles-then cpus (processes source here false node first (next ∷ [])) (Change.Happens Event.Joins) now (record { lost = refl; paused = paused; next = next; rest = []; opened = refl; is = refl }) refl refl
    (settles-now cpus now (record { joined = refl; under_way = refl })) tt
joins-all cpus source here node first next (other ∷ later) paused =
    let now = processes source here true node next (other ∷ later) in
    let rest = joins-all cpus source here node next other later paused in
    settles-then cpus (processes source here false node first (next ∷ other ∷ later)) (Change.Happens Event.Joins) now (record { lost = refl; paused = paused; next = next; rest = other ∷ later; opened = refl; is = refl }) refl refl
    (settles-then cpus now (Change.Happens Event.LosesThere) (processes source here false node next (other ∷ later)) (record { used = refl; is = refl }) refl refl rest rest.silent) rest.silent

abbrev noticed : Destination → Did Destination
noticed node = record { effect = Effect.Noticed Side.Destination; frames = []; urgent = []; entries = []; node = destination_paused node }

notices : (cpus : ℕ) (source : Source) (here paused : Bool) (node : Destination) (first next : Channel) (later : List Channel) → is_dest_paused node.phase ≡ paused → Settles cpus (processes source here false node first (next ∷ later))
notices cpus source here true node first next later is = joins-all cpus source here node first next later is
notices cpus source here false node first next later is =
    let old = processes source here false node first (next ∷ later) in
    let new = processes source here false (destination_paused node) first (next ∷ later) in
    let gives : destination_line node notice ≡ Ok (noticed node) = ap (λ b. acts (in_phase (not b) (acted (Effect.Noticed Side.Destination) (destination_paused node)))) is in
    let line : IsThere old notice new = (noticed node, gives, record { may = refl; forward = first.forward; takes = refl; urgent = first.urgent; takes_urgent = refl; is = refl }) in
    let rest = joins-all cpus source here (destination_paused node) first next later refl in
    settles-then cpus old (Change.Happens (Event.There notice)) new line refl refl rest (refl, rest.silent)

-- the destination has lost its last channel, in a migration that is not under way
abbrev pub IsLeft : Processes → Type 0
IsLeft old = (old.there ≡ false) × (old.later ≡ []) × (is_under_way old.source ≡ false)

settles-last : (cpus : ℕ) (source : Source) (here there may : Bool) (node : Destination) (first : Channel) → (there || is_under_way source) ≡ may → Settles cpus (processes source here there node first []) ⊎ IsLeft (processes source here there node first [])
settles-last cpus source here there true node first is = inl (settles-now cpus (processes source here there node first []) (record { joined = refl; under_way = is }))
settles-last cpus source here true false node first is = absurd (false≢true (sym is))
settles-last cpus source here false false node first is = inr (refl, refl, is)

settles-by : (cpus : ℕ) (source : Source) (here there : Bool) (node : Destination) (first : Channel) (later : List Channel) → Settles cpus (processes source here there node first later) ⊎ IsLeft (processes source here there node first later)
settles-by cpus source here there node first [] = settles-last cpus source here there (there || is_under_way source) node first refl
settles-by cpus source here true node first (next ∷ later) =
    let rest = notices cpus source here (is_dest_paused node.phase) node first next later refl in
    inl (settles-then cpus (processes source here true node first (next ∷ later)) (Change.Happens Event.LosesThere) (processes source here false node first (next ∷ later)) (record { used = refl; is = refl }) refl refl rest rest.silent)
settles-by cpus source here false node first (next ∷ later) = inl (notices cpus source here (is_dest_paused node.phase) node first next later refl)

pub settles : (cpus : ℕ) (old : Processes) → Settles cpus old ⊎ IsLeft old
settles cpus old = settles-by cpus old.source old.here old.there old.destination old.first old.later

-- The phase of a destination does not matter to Install

abbrev pub at_phase : DestPhase → Did Destination → Did Destination
at_phase phase did = record did { node = record did.node { phase = phase } }

put-phase : (phase : DestPhase) (o : Option ℕ) (node : Destination) (copy : Copy) (rest : List Copy) → install_by o (record node { phase = phase }) copy rest ≡ record (install_by o node copy rest) { phase = phase }
put-phase phase None node copy rest = refl
put-phase phase (Some page) node copy rest = refl

put-copy : (phase : DestPhase) (node : Destination) (o : ℕ → Option ℕ) (rest : List Copy) (first : Result Copy Refusal) →
    acts (and_then first (λ copy. acted (install_effect (o copy.page) copy.page) (install_by (o copy.page) (record node { phase = phase }) copy rest)))
    ≡ map_ok (at_phase phase) (acts (and_then first (λ copy. acted (install_effect (o copy.page) copy.page) (install_by (o copy.page) node copy rest))))
put-copy phase node o rest (Ok copy) = ap (λ (now : Destination). acts (acted (install_effect (o copy.page) copy.page) now)) (put-phase phase (o copy.page) node copy rest)
put-copy phase node o rest (Err refusal) = refl

put-run : (phase : DestPhase) (node : Destination) (run : Bool) (first : Result Copy Refusal) →
    acts (in_phase run (and_then first (λ copy. acted (install_effect (home node.owed copy.page) copy.page) (install_by (home node.owed copy.page) (record node { phase = phase }) copy (rest_of node.arrivals)))))
    ≡ map_ok (at_phase phase) (acts (in_phase run (and_then first (λ copy. acted (install_effect (home node.owed copy.page) copy.page) (install_by (home node.owed copy.page) node copy (rest_of node.arrivals))))))
put-run phase node true first = put-copy phase node (λ page. home node.owed page) (rest_of node.arrivals) first
put-run phase node false first = refl

pub install-phase : (phase : DestPhase) (node : Destination) (did : Did Destination) → destination_step node Step.Install ≡ Ok did → destination_step (record node { phase = phase }) Step.Install ≡ Ok (at_phase phase did)
install-phase phase node did gives = put-run phase node node.has_run (when_quiet node.guest (first_of node.arrivals)) ∙ ap (map_ok (at_phase phase)) gives
