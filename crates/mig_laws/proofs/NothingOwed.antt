-- A destination that has lost its last channel once the migration is not under way is owed no page, so it puts no copy.
use Rattle.std.proofs.Common.{◌≡◌, ◌⊎◌, inl, inr, ℕ, ◌&&◌, Bool, true, false, not, cond, List, [], ◌∷◌, map, Option, Some, None, refl, sym, ap, subst, ◌∙◌}
use Rattle.std.specs.Prelude.{Result, Ok, Err, ok_or}
use Rattle.std.specs.Cmp.{nat_cmp_total}
use Rattle.std.specs.Ordering.{nat_cmp}
use Rattle.std.specs.FinMap as finmap
use Rattle.std.specs.FinMap.{get, get-empty}
use Rattle.std.proofs.lemmas.Bool.{false≢true}
use Rattle.mig_base.specs.declared.act.Act.{Act}
use Rattle.mig_base.specs.declared.effect.Effect.{Effect}
use Rattle.mig_base.specs.declared.phase.SourcePhase.{SourcePhase}
use Rattle.mig_base.specs.declared.refusal.Refusal.{Refusal}
use Rattle.mig_base.specs.declared.schedule.Side.{Side}
use Rattle.mig_base.specs.declared.schedule.Step.{Step}
use Rattle.mig_base.specs.Userfault.{Noted, next_message}
use Rattle.mig_model.specs.Destination.{Destination, act_frames, destination_act, destination_acted, destination_acted_by, destination_paused, destination_read, install_by, is_dest_paused}
use Rattle.mig_model.specs.Effects.{install_effect, read_effect}
use Rattle.mig_model.specs.Guest.{Fault}
use Rattle.mig_model.specs.GuestSteps.{Tried, issue, retry, when_quiet}
use Rattle.mig_model.specs.Invariant.{IsSoundWorld, SwitchedAt}
use Rattle.mig_model.specs.Migration.{World, after_steps, first_world_with}
use Rattle.mig_model.specs.NodeSteps.{acted, and_then, first_of, in_phase, rest_of, sent}
use Rattle.mig_model.specs.Owed.{home}
use Rattle.mig_model.specs.Source.{Source, is_released, is_source_idle, is_under_way}
use Rattle.mig_model.specs.Wire.{Copy}
use Rattle.mig_model.proofs.owed.SettledLemmas.{get-owed_table_after, home_tells, none-after}
use Rattle.mig_model.proofs.steps.EveryStep.{kept-reached}
use Rattle.mig_model.proofs.transcript.PromiseLemmas.{is_alone}
use Rattle.mig_laws.specs.Orders.{Pair, first_pair, step_of}
use Rattle.mig_laws.specs.Orders as orders
use Rattle.mig_laws.specs.Processes.{Channel, Processes, first_processes, log_here, log_there}
use Rattle.mig_laws.specs.Replacements.{AreChanges, Change, last_log, source_log}
use Rattle.mig_laws.specs.Sides.{Did, Line, acts, destination_after, destination_line, destination_step, node_by, sends, tries}
use Rattle.mig_laws.proofs.GrownOrders.{Leads, down, on}
use Rattle.mig_laws.proofs.LinesAlone.{IsDestinationAlone}
use Rattle.mig_laws.proofs.OrderRuns.{run_of_logs}
use Rattle.mig_laws.proofs.ReplacedRuns.{stands}
use Rattle.mig_laws.proofs.Settling.{IsLeft}
use Rattle.mig_laws.proofs.TwoProcesses.{SimBy, events-sim, first-sim, not-empty, reached-of}

abbrev pub OwesNone : Destination → Type 0
OwesNone node = (page : ℕ) → get node.owed page ≡ None

-- Lines that need no channel keep it so

some-none : (page : ℕ) → Some page ≡ None → ⊥
some-none page is = cc

either-none : (b : Bool) (o : Option ℕ) → o ≡ None → cond b None o ≡ None
either-none true o none = refl
either-none false o none = none

none-put : (o : Option ℕ) (node : Destination) (copy : Copy) (rest : List Copy) → OwesNone node → OwesNone (install_by o node copy rest)
none-put None node copy rest none q = none q
none-put (Some page) node copy rest none q = finmap.get-remove nat_cmp_total node.owed page q ∙ either-none _ (get node.owed q) (none q)

none-acted : (act : Act) (node : Destination) (page : ℕ) → OwesNone node → OwesNone (destination_acted_by act node page)
none-acted Act.Zeroed node page none = none
none-acted (Act.Requested origin) node page none = none
none-acted Act.Woke node page none = none
none-acted Act.Forgot node page none = none
none-acted Act.Unprotected node page none = none

of-tries : (node : Destination) (step : Result Tried Refusal) → OwesNone node → OwesNone (node_by node (tries (λ guest. record node { guest = guest }) step))
of-tries node (Ok tried) none = none
of-tries node (Err refusal) none = none

of-read : (node : Destination) (run : Bool) (found : Result Noted Refusal) → OwesNone node →
    OwesNone (node_by node (acts (in_phase run (and_then found (λ noted. acted (read_effect node.guest.cpus noted.cpu noted.message) (destination_read node noted))))))
of-read node true (Ok noted) none = λ q. get-owed_table_after noted.message node.owed q ∙ none-after noted.message (get node.owed) none q
of-read node true (Err refusal) none = none
of-read node false found none = none

of-act : (node : Destination) (run : Bool) (found : Result Fault Refusal) (effect : Fault → Effect) → OwesNone node →
    OwesNone (node_by node (sends (in_phase run (and_then found (λ fault. sent (effect fault) (act_frames (destination_act node fault) node) (destination_acted node fault))))))
of-act node true (Ok fault) effect none = none-acted (destination_act node fault) node fault.page none
of-act node true (Err refusal) effect none = none
of-act node false found effect none = none

of-install : (node : Destination) (run : Bool) (found : Result Copy Refusal) → OwesNone node →
    OwesNone (node_by node (acts (in_phase run (and_then found (λ copy. acted (install_effect (home node.owed copy.page) copy.page) (install_by (home node.owed copy.page) node copy (rest_of node.arrivals)))))))
of-install node true (Ok copy) none = none-put (home node.owed copy.page) node copy (rest_of node.arrivals) none
of-install node true (Err refusal) none = none
of-install node false found none = none

of-pause : (node : Destination) (may : Bool) → OwesNone node → OwesNone (node_by node (acts (in_phase may (acted (Effect.Noticed Side.Destination) (destination_paused node)))))
of-pause node true none = none
of-pause node false none = none

of-line : (node : Destination) (line : Line) → orders.is_alone line ≡ true → OwesNone node → OwesNone (node_by node (destination_line node line))
of-line node (Line.Made (Step.Issue cpu command)) alone none = of-tries node (issue node.guest node.has_run cpu command) none
of-line node (Line.Made (Step.Retry cpu)) alone none = of-tries node (retry node.guest node.has_run cpu) none
of-line node (Line.Made Step.DestRead) alone none = of-read node node.has_run (ok_or (next_message node.guest.space.object) Refusal.NothingThere) none
of-line node (Line.Made Step.DestAct) alone none = of-act node node.has_run (when_quiet node.guest (first_of node.held)) _ none
of-line node (Line.Made Step.Install) alone none = of-install node node.has_run (when_quiet node.guest (first_of node.arrivals)) none
of-line node (Line.Made (Step.Notice Side.Destination)) alone none = of-pause node (not (is_dest_paused node.phase)) none
of-line node (Line.Made (Step.Notice Side.Source)) alone none = none
of-line node (Line.Made _) alone none = none
of-line node (Line.Took sent) alone none = absurd (false≢true alone)
of-line node (Line.TookUrgent sent) alone none = absurd (false≢true alone)

of-lines : (node : Destination) (lines : List Line) → IsDestinationAlone node lines → OwesNone node → OwesNone (destination_after node lines)
of-lines node [] are none = none
of-lines node (line ∷ lines) are none = of-lines (node_by node (destination_line node line)) lines are.2 (of-line node line are.0 none)

-- A migration that has not begun, or is complete, owes no page

has_not_run : (ran : Bool) (w : World) → IsSoundWorld w → w.source.phase ≡ SourcePhase.Idle → w.destination.has_run ≡ ran → w.destination.owed ≡ finmap.empty
has_not_run false w kept idle ran = (kept.owing.not_run ran).0
has_not_run true w kept idle ran = absurd (false≢true (sym (subst (λ phase. SwitchedAt phase w.source.switched) idle kept.phases.source_phase) ∙ kept.phases.ran_after_switch ran))

none-by : (from : SourcePhase) (w : World) → IsSoundWorld w → w.source.phase ≡ from → (not (is_source_idle from) && not (is_released from)) ≡ false → w.destination.owed ≡ finmap.empty
none-by SourcePhase.Idle w kept is under_way = has_not_run w.destination.has_run w kept is refl
none-by SourcePhase.Released w kept is under_way = (is_alone w kept (ap is_released is)).none_owed
none-by SourcePhase.Precopy w kept is under_way = absurd (false≢true (sym under_way))
none-by SourcePhase.Stopped w kept is under_way = absurd (false≢true (sym under_way))
none-by SourcePhase.Paused w kept is under_way = absurd (false≢true (sym under_way))

of-order : (cpus epoch rounds : ℕ) (here there : List Line) (pair : Pair) → Leads (first_pair cpus epoch rounds) here there pair → is_under_way pair.source ≡ false → OwesNone pair.destination
of-order cpus epoch rounds here there pair leads under_way =
    let run = run_of_logs cpus epoch rounds leads.turns leads.effects pair leads.are in
    let steps = map step_of leads.turns in
    let w = after_steps (first_world_with cpus epoch rounds) steps in
    let source_is : w.source ≡ pair.source = ap (λ (now : World). now.source) run.world in
    let destination_is : w.destination ≡ pair.destination = ap (λ (now : World). now.destination) run.world in
    let none = none-by w.source.phase w (kept-reached w (reached-of cpus epoch rounds steps)) refl (ap is_under_way source_is ∙ under_way) in
    subst OwesNone destination_is (λ page. ap (λ owed. get owed page) none ∙ get-empty nat_cmp page)

-- The destination that is left

of-left : (cpus epoch rounds : ℕ) (here there : List Line) (source : Source) (destination : Destination) (channel : Channel) (later : List Channel) (uses reads : Bool) → SimBy (first_pair cpus epoch rounds) here there source destination channel later uses reads →
    reads ≡ false → later ≡ [] → is_under_way source ≡ false → OwesNone destination
of-left cpus epoch rounds here there source destination channel later uses true m lost none under_way = absurd (false≢true (sym lost))
of-left cpus epoch rounds here there source destination channel (next ∷ later) uses false m lost none under_way = absurd (not-empty next later none)
of-left cpus epoch rounds here there source destination channel [] uses false (inl m) lost none under_way =
    of-order cpus epoch rounds m.done there (down m.at destination m.said m.told) m.leads (ap is_under_way (sym m.ahead.1) ∙ under_way)
of-left cpus epoch rounds here there source destination channel [] uses false (inr waits) lost none under_way =
    subst OwesNone (sym waits.now) (of-lines waits.at waits.waiting waits.alone (of-order cpus epoch rounds here waits.done (on channel source waits.at waits.said waits.told) waits.leads under_way))

pub nothing-owed : (cpus epoch rounds : ℕ) (changes : List Change) (new : Processes) → AreChanges cpus (first_processes cpus epoch rounds) changes new → IsLeft new → OwesNone new.destination
nothing-owed cpus epoch rounds changes new are left =
    let stand = stands cpus epoch rounds changes new are in
    of-left cpus epoch rounds (log_here stand.events) (log_there stand.events) new.source new.destination new.first new.later new.here new.there
    (events-sim (first_pair cpus epoch rounds) [] [] (first_processes cpus epoch rounds) stand.events new stand.are (first-sim cpus epoch rounds)) left.0 left.1 left.2

-- It puts no copy

abbrev effect_of : Effect → Result (Did Destination) Refusal → Effect
effect_of other (Ok did) = did.effect
effect_of other (Err refusal) = other

-- an effect that says where a copy was put
abbrev is_put : Effect → Bool
is_put (Effect.Installed addr origin) = true
is_put effect = false

not-put : (o : Option ℕ) (node : Destination) (copy : Copy) (other : Effect) → OwesNone node → home node.owed copy.page ≡ o → is_put other ≡ false →
    is_put (effect_of other (acts (acted (install_effect o copy.page) (install_by o node copy (rest_of node.arrivals))))) ≡ false
not-put None node copy other none found is = refl
not-put (Some page) node copy other none found is = absurd (some-none copy.page (sym (home_tells node.owed copy.page page found) ∙ none page))

not-put-by : (node : Destination) (run : Bool) (first : Result Copy Refusal) → OwesNone node →
    is_put (effect_of Effect.Broken (acts (in_phase run (and_then first (λ copy. acted (install_effect (home node.owed copy.page) copy.page) (install_by (home node.owed copy.page) node copy (rest_of node.arrivals))))))) ≡ false
not-put-by node true (Ok copy) none = not-put (home node.owed copy.page) node copy Effect.Broken none refl refl
not-put-by node true (Err refusal) none = refl
not-put-by node false first none = refl

pub puts-none : (node : Destination) (did : Did Destination) (addr origin : ℕ) → OwesNone node → destination_step node Step.Install ≡ Ok did → did.effect ≡ Effect.Installed addr origin → ⊥
puts-none node did addr origin none gives effect =
    false≢true (sym (not-put-by node node.has_run (when_quiet node.guest (first_of node.arrivals)) none) ∙ ap (λ given. is_put (effect_of Effect.Broken given)) gives ∙ ap is_put effect)
