-- Whatever happens to two processes, some world has their nodes, but for the phase of the destination, and what they entered.
use Rattle.std.proofs.Common.{◌≡◌, ◌⊎◌, inl, inr, ℕ, Bool, true, false, not, List, [], ◌∷◌, ◌++◌, map, append_assoc, refl, sym, ap, subst, ◌∙◌}
use Rattle.std.proofs.lemmas.Bool.{false≢true}
use Rattle.std.proofs.lemmas.List.{append-nil}
use Rattle.mig_base.specs.declared.command.Entry.{Entry}
use Rattle.mig_base.specs.declared.phase.DestPhase.{DestPhase}
use Rattle.mig_base.specs.declared.schedule.Step.{Step}
use Rattle.mig_model.specs.Destination.{Destination, first_destination, is_dest_paused}
use Rattle.mig_model.specs.Migration.{World, after_steps, first_world_with}
use Rattle.mig_model.specs.Source.{Source, first_source}
use Rattle.mig_laws.specs.Orders.{Pair, first_pair, step_of}
use Rattle.mig_laws.specs.Processes.{AreEvents, Channel, Event, Processes, first_processes, log_here, log_there, logged_here, logged_there}
use Rattle.mig_laws.specs.Replacements.{AreChanges, Change, last_log, newcomer_log, source_log}
use Rattle.mig_laws.specs.Sides.{Line, destination_after, destination_entries, destination_line, source_entries}
use Rattle.mig_laws.proofs.GrownOrders.{Leads, down, on}
use Rattle.mig_laws.proofs.LeftAlone.{Follows, follow, silent}
use Rattle.mig_laws.proofs.LogNodes.{left}
use Rattle.mig_laws.proofs.OrderRuns.{run_of_logs}
use Rattle.mig_laws.proofs.Replaced.{entries-append, notice}
use Rattle.mig_laws.proofs.ReplacedRuns.{stands, world-of-last}
use Rattle.mig_laws.proofs.Settling.{AreSilent, IsLeft, Settles, changes-append, settles}
use Rattle.mig_laws.proofs.TwoProcesses.{SimBy, events-sim, first-sim, not-empty}

pub record IsHeld (cpus epoch rounds : ℕ) (here last : List Line) (source : Source) (destination : Destination) : Type 0 where
  pub steps : List Step
  pub phase : DestPhase
  pub source_is : (after_steps (first_world_with cpus epoch rounds) steps).source ≡ source
  pub destination_is : (after_steps (first_world_with cpus epoch rounds) steps).destination ≡ record destination { phase = phase }
  pub transcript_is : (after_steps (first_world_with cpus epoch rounds) steps).transcript ≡ source_entries (first_source cpus epoch rounds) here ++ destination_entries (first_destination cpus) last

-- Processes that can still be settled

source-append : (changes more : List Change) → source_log (changes ++ more) ≡ source_log changes ++ source_log more
source-append [] more = refl
source-append (Change.Happens event ∷ changes) more = ap (λ lines. logged_here event ++ lines) (source-append changes more) ∙ sym (append_assoc (logged_here event) (source_log changes) (source_log more))
source-append (Change.Replaced epoch ∷ changes) more = source-append changes more

source-silent : (more : List Change) → AreSilent more → source_log more ≡ []
source-silent [] are = refl
source-silent (Change.Happens Event.LosesThere ∷ more) are = source-silent more are
source-silent (Change.Happens Event.Joins ∷ more) are = source-silent more are
source-silent (Change.Happens (Event.There line) ∷ more) are = source-silent more are.1
source-silent (Change.Happens (Event.Here line) ∷ more) are = absurd are
source-silent (Change.Happens Event.Opens ∷ more) are = absurd are
source-silent (Change.Happens Event.LosesHere ∷ more) are = absurd are
source-silent (Change.Replaced epoch ∷ more) are = absurd are

last-append : (lines : List Line) (changes more : List Change) → last_log lines (changes ++ more) ≡ last_log (last_log lines changes) more
last-append lines [] more = refl
last-append lines (Change.Happens event ∷ changes) more = last-append (lines ++ logged_there event) changes more
last-append lines (Change.Replaced epoch ∷ changes) more = last-append (newcomer_log epoch) changes more

-- a notice enters nothing
noticed-silent : (cpus : ℕ) (lines : List Line) (line : Line) → line ≡ notice → destination_entries (first_destination cpus) (lines ++ line ∷ []) ≡ destination_entries (first_destination cpus) lines
noticed-silent cpus lines line is =
    let node = destination_after (first_destination cpus) lines in
    entries-append (first_destination cpus) lines (line ∷ []) ∙ ap (λ one. destination_entries (first_destination cpus) lines ++ destination_entries node (one ∷ [])) is
    ∙ ap (λ entries. destination_entries (first_destination cpus) lines ++ (entries ++ [])) (silent node (not (is_dest_paused node.phase))) ∙ append-nil (destination_entries (first_destination cpus) lines)

last-silent : (cpus : ℕ) (lines : List Line) (more : List Change) → AreSilent more → destination_entries (first_destination cpus) (last_log lines more) ≡ destination_entries (first_destination cpus) lines
last-silent cpus lines [] are = refl
last-silent cpus lines (Change.Happens Event.LosesThere ∷ more) are = last-silent cpus (lines ++ []) more are ∙ ap (destination_entries (first_destination cpus)) (append-nil lines)
last-silent cpus lines (Change.Happens Event.Joins ∷ more) are = last-silent cpus (lines ++ []) more are ∙ ap (destination_entries (first_destination cpus)) (append-nil lines)
last-silent cpus lines (Change.Happens (Event.There line) ∷ more) are = last-silent cpus (lines ++ line ∷ []) more are.1 ∙ noticed-silent cpus lines line are.0
last-silent cpus lines (Change.Happens (Event.Here line) ∷ more) are = absurd are
last-silent cpus lines (Change.Happens Event.Opens ∷ more) are = absurd are
last-silent cpus lines (Change.Happens Event.LosesHere ∷ more) are = absurd are
last-silent cpus lines (Change.Replaced epoch ∷ more) are = absurd are

held-settled : (cpus epoch rounds : ℕ) (changes : List Change) (full : Processes) → AreChanges cpus (first_processes cpus epoch rounds) changes full → Settles cpus full → IsHeld cpus epoch rounds (source_log changes) (last_log [] changes) full.source full.destination
held-settled cpus epoch rounds changes full are calm =
    let more = calm.changes in
    let last = world-of-last cpus epoch rounds (changes ++ more) calm.new (changes-append cpus (first_processes cpus epoch rounds) full calm.new changes more are calm.are) calm.settled in
    let here = source-append changes more ∙ ap (λ lines. source_log changes ++ lines) (source-silent more calm.silent) ∙ append-nil (source_log changes) in
    let there = ap (destination_entries (first_destination cpus)) (last-append [] changes more) ∙ last-silent cpus (last_log [] changes) more calm.silent in
    record {
      steps = last.world.steps;
      phase = calm.new.destination.phase;
      source_is = last.world.source_is ∙ calm.source_is;
      destination_is = last.world.destination_is ∙ calm.destination_is;
      transcript_is = last.transcript_is ∙ (λ i. source_entries (first_source cpus epoch rounds) (here i) ++ there i);
    }

-- A destination that is left

-- the world of an order
of-order : (cpus epoch rounds : ℕ) (here there : List Line) (pair : Pair) (destination : Destination) (entries : List Entry) → Leads (first_pair cpus epoch rounds) here there pair → pair.destination ≡ record destination { phase = pair.destination.phase } → pair.at_destination ≡ entries →
    (last : List Line) → entries ≡ destination_entries (first_destination cpus) last → IsHeld cpus epoch rounds here last pair.source destination
of-order cpus epoch rounds here there pair destination entries leads is told last same =
    let run = run_of_logs cpus epoch rounds leads.turns leads.effects pair leads.are in
    let logs = left (first_pair cpus epoch rounds) leads.turns leads.effects pair leads.are in
    record {
      steps = map step_of leads.turns;
      phase = pair.destination.phase;
      source_is = ap (λ (w : World). w.source) run.world;
      destination_is = ap (λ (w : World). w.destination) run.world ∙ is;
      transcript_is =
          ap (λ (w : World). w.transcript) run.world ∙ (λ i. logs.at_source i ++ told i)
          ∙ (λ i. source_entries (first_source cpus epoch rounds) (leads.here_is i) ++ same i);
    }

held-by : (cpus epoch rounds : ℕ) (here there : List Line) (source : Source) (destination : Destination) (channel : Channel) (later : List Channel) (uses reads : Bool) (last : List Line) → SimBy (first_pair cpus epoch rounds) here there source destination channel later uses reads →
    reads ≡ false → later ≡ [] → destination_entries (first_destination cpus) there ≡ destination_entries (first_destination cpus) last → IsHeld cpus epoch rounds here last source destination
held-by cpus epoch rounds here there source destination channel later uses true last m lost none entered = absurd (false≢true (sym lost))
held-by cpus epoch rounds here there source destination channel (next ∷ later) uses false last m lost none entered = absurd (not-empty next later none)
held-by cpus epoch rounds here there source destination channel [] uses false last (inl m) lost none entered =
    let pair = down m.at destination m.said m.told in
    let logs = left (first_pair cpus epoch rounds) m.leads.turns m.leads.effects pair m.leads.are in
    let held = of-order cpus epoch rounds m.done there pair destination m.told m.leads refl refl last (logs.at_destination ∙ ap (destination_entries (first_destination cpus)) m.leads.there_is ∙ entered) in
    subst (λ log. IsHeld cpus epoch rounds log last source destination) (sym (m.is ∙ ap (λ w. m.done ++ w) m.ahead.2 ∙ append-nil m.done))
    (subst (λ node. IsHeld cpus epoch rounds m.done last node destination) (sym m.ahead.1) held)
held-by cpus epoch rounds here there source destination channel [] uses false last (inr waits) lost none entered =
    let start : Follows (first_pair cpus epoch rounds) here source waits.said waits.at waits.told = record { channel = channel; other = waits.at; done = waits.done; leads = waits.leads; twins = refl } in
    let node = destination_after waits.at waits.waiting in
    let entries = waits.told ++ destination_entries waits.at waits.waiting in
    let follows = follow (first_pair cpus epoch rounds) here source waits.said waits.at waits.told waits.waiting start waits.alone in
    let pair = on follows.channel source follows.other waits.said entries in
    let logs = left (first_pair cpus epoch rounds) waits.leads.turns waits.leads.effects (on channel source waits.at waits.said waits.told) waits.leads.are in
    let told = logs.at_destination ∙ ap (destination_entries (first_destination cpus)) waits.leads.there_is in
    let at = logs.destination ∙ ap (destination_after (first_destination cpus)) waits.leads.there_is in
    let all : entries ≡ destination_entries (first_destination cpus) there =
    (λ i. told i ++ destination_entries (at i) waits.waiting) ∙ sym (entries-append (first_destination cpus) waits.done waits.waiting) ∙ ap (destination_entries (first_destination cpus)) (sym waits.is) in
    let same : follows.other ≡ record destination { phase = follows.other.phase } =
    sym (ap (λ (one : Destination). record one { phase = follows.other.phase }) follows.twins) ∙ ap (λ (one : Destination). record one { phase = follows.other.phase }) (sym waits.now) in
    of-order cpus epoch rounds here follows.done pair destination entries follows.leads same refl last (all ∙ entered)

pub held : (cpus epoch rounds : ℕ) (changes : List Change) (full : Processes) → AreChanges cpus (first_processes cpus epoch rounds) changes full → Settles cpus full ⊎ IsLeft full → IsHeld cpus epoch rounds (source_log changes) (last_log [] changes) full.source full.destination
held cpus epoch rounds changes full are (inl calm) = held-settled cpus epoch rounds changes full are calm
held cpus epoch rounds changes full are (inr lost) =
    let stand = stands cpus epoch rounds changes full are in
    let held = held-by cpus epoch rounds (log_here stand.events) (log_there stand.events) full.source full.destination full.first full.later full.here full.there (last_log [] changes)
    (events-sim (first_pair cpus epoch rounds) [] [] (first_processes cpus epoch rounds) stand.events full stand.are (first-sim cpus epoch rounds)) lost.0 lost.1 stand.entered in
    subst (λ log. IsHeld cpus epoch rounds log (last_log [] changes) full.source full.destination) stand.here_is held

pub any-held : (cpus epoch rounds : ℕ) (changes : List Change) (full : Processes) → AreChanges cpus (first_processes cpus epoch rounds) changes full → IsHeld cpus epoch rounds (source_log changes) (last_log [] changes) full.source full.destination
any-held cpus epoch rounds changes full are = held cpus epoch rounds changes full are (settles cpus full)

-- The same of events

events-are : (cpus : ℕ) (old new : Processes) (events : List Event) → AreEvents old events new → AreChanges cpus old (map (λ event. Change.Happens event) events) new
events-are cpus old new [] is = is
events-are cpus old new (event ∷ events) is = (is.0, is.1, events-are cpus is.0 new events is.2)

source-happens : (events : List Event) → source_log (map (λ event. Change.Happens event) events) ≡ log_here events
source-happens [] = refl
source-happens (event ∷ events) = ap (λ lines. logged_here event ++ lines) (source-happens events)

last-happens : (lines : List Line) (events : List Event) → last_log lines (map (λ event. Change.Happens event) events) ≡ lines ++ log_there events
last-happens lines [] = sym (append-nil lines)
last-happens lines (event ∷ events) = last-happens (lines ++ logged_there event) events ∙ append_assoc lines (logged_there event) (log_there events)

pub events-held : (cpus epoch rounds : ℕ) (events : List Event) (full : Processes) → AreEvents (first_processes cpus epoch rounds) events full → IsHeld cpus epoch rounds (log_here events) (log_there events) full.source full.destination
events-held cpus epoch rounds events full are =
    subst (λ log. IsHeld cpus epoch rounds (log_here events) log full.source full.destination) (last-happens [] events)
    (subst (λ log. IsHeld cpus epoch rounds log (last_log [] (map (λ event. Change.Happens event) events)) full.source full.destination) (source-happens events)
    (any-held cpus epoch rounds (map (λ event. Change.Happens event) events) full (events-are cpus (first_processes cpus epoch rounds) full events are)))
