-- Two drivers as the two nodes of a world, and what is proved of every world as a law of what the drivers have.
use Rattle.std.proofs.Common.{◌≡◌, ◌⊎◌, inl, inr, ℕ, ◌/◌, Bool, true, false, cond, List, [], ◌++◌, map, refl, sym, ap, subst, ◌∙◌}
use Rattle.std.specs.Prelude.{Ok}
use Rattle.std.specs.FinMap.{contains_key, get}
use Rattle.mig_base.specs.Flat.{IsFlatRun, memory_of}
use Rattle.mig_base.specs.declared.command.Entry.{Entry}
use Rattle.mig_base.specs.declared.effect.Effect.{Effect}
use Rattle.mig_base.specs.declared.schedule.Step.{Step}
use Rattle.mig_model.specs.Destination.{Destination, settled}
use Rattle.mig_model.specs.Host.{memory}
use Rattle.mig_model.specs.Migration.{World, after_steps, answer, first_world_with, made, next}
use Rattle.mig_model.specs.Source.{Source, is_released, space_of}
use Rattle.mig_model.specs.Space.{Space}
use Rattle.mig_model.specs.Whereabouts.{current_by}
use Rattle.mig_model.specs.Wire.{is_zeros}
use Rattle.mig_model.proofs.invariant.DestinationAct.{install_put_next}
use Rattle.mig_model.proofs.steps.EveryStep.{kept-reached}
use Rattle.mig_model.proofs.steps.StepPromises.{destination_zeroed, source_zeroed}
use Rattle.mig_model.proofs.transcript.PromiseLemmas.{is_alone}
use Rattle.mig_laws.specs.Drivers.{AreDeeds, Deed, Drivers, HasAlone, HoldBytes, IsDoneHere, IsDoneThere, IsPutRight, entries_of, change_of, first_drivers, no_byte, seen_by, there_after}
use Rattle.mig_laws.specs.Drivers as drivers
use Rattle.mig_laws.specs.Processes.{IsSettled, Processes, first_processes}
use Rattle.mig_laws.specs.Replacements.{AreChanges, Change, last_log, source_log}
use Rattle.mig_laws.specs.Sides.{Did, Line, destination_line, destination_step, source_line, source_step}
use Rattle.mig_laws.specs.Worlds.{destination_under, effect_under, source_under}
use Rattle.mig_laws.proofs.ChangedRuns.{first-under}
use Rattle.mig_laws.proofs.AcceptedSteps.{next-made, outcome-made}
use Rattle.mig_laws.proofs.FilledRuns.{AreWholeProcesses, Ran, deeds-run, drivers_of}
use Rattle.mig_laws.proofs.HeldDestination.{line-there, there_of}
use Rattle.mig_laws.proofs.SideForms.{destination-own, destination_done, destination_gives, source-own, source_done, source_gives}
use Rattle.mig_laws.proofs.EnteredLines.{answered, bytes_here, bytes_there, did_entered, line-here-entered, line-there-entered, there-entered}
use Rattle.mig_laws.proofs.HeldGuests.{none_waits}
use Rattle.mig_laws.proofs.HeldWorlds.{any-held}
use Rattle.mig_laws.proofs.ReplacedRuns.{IsWorldOfLast, world-of-last}
use Rattle.mig_laws.proofs.NothingOwed.{nothing-owed, puts-none}
use Rattle.mig_laws.proofs.Settling.{IsLeft, Settles, at_phase, changes-append, install-phase, settles}
use Rattle.mig_laws.proofs.TwoProcesses.{reached-of}
use Rattle.mig_laws.proofs.WholePages.{none_whole}

-- The first drivers

pub first-of : (cpus epoch rounds : ℕ) → first_drivers cpus epoch rounds ≡ drivers_of (first_processes cpus epoch rounds) [] []
first-of cpus epoch rounds =
    let world = first-under no_byte cpus epoch rounds in
    λ i.
    record {
      nodes = record (first_processes cpus epoch rounds) { source = (sym world i).source; destination = (sym world i).destination };
      here = record (drivers.none_held cpus) { waits = sym (none_waits cpus) i };
      there = record (drivers.none_there cpus) { held = record (drivers.none_held cpus) { waits = sym (none_waits cpus) i } };
    }

pub first-whole : (cpus epoch rounds : ℕ) → AreWholeProcesses (first_processes cpus epoch rounds)
first-whole cpus epoch rounds =
    record { source = none_whole; destination = record { memory = none_whole; kept = none_whole; arrivals = tt }; first = record { forward = tt; urgent = tt }; later = tt }

pub filled-first : (cpus epoch rounds : ℕ) (deeds : List Deed) (new : Drivers) → AreDeeds cpus (first_drivers cpus epoch rounds) deeds new → Ran cpus (first_processes cpus epoch rounds) [] [] (map change_of deeds) new
filled-first cpus epoch rounds deeds new are =
    deeds-run cpus (first_processes cpus epoch rounds) [] [] deeds new (first-whole cpus epoch rounds) refl (subst (λ first. AreDeeds cpus first deeds new) (first-of cpus epoch rounds) are)

-- the bytes of the drivers of two processes are theirs
pub holds-of : (full : Processes) (said heard : List Entry) → HoldBytes (drivers_of full said heard) full.source full.destination
holds-of full said heard = record { source = refl; destination = refl; here = refl; there = refl; kept = refl; came = refl; waits_here = refl; waits_there = refl }

pub holds : (full : Processes) (said heard : List Entry) (new : Drivers) → new ≡ drivers_of full said heard → HoldBytes new full.source full.destination
holds full said heard new is = subst (λ d. HoldBytes d full.source full.destination) (sym is) (holds-of full said heard)

-- Their world

pub settled-of : (full : Processes) (said heard : List Entry) (new : Drivers) → new ≡ drivers_of full said heard → IsSettled new.nodes → IsSettled full
settled-of full said heard new is settled =
    let there = subst (λ (d : Drivers). IsSettled d.nodes) is settled in
    record { joined = there.joined; under_way = there.under_way }

pub world-of-deeds : (cpus epoch rounds : ℕ) (deeds : List Deed) (new : Drivers) (are : AreDeeds cpus (first_drivers cpus epoch rounds) deeds new) → IsSettled new.nodes →
    let ran = filled-first cpus epoch rounds deeds new are in
    IsWorldOfLast cpus epoch rounds (source_log (map change_of deeds)) (last_log [] (map change_of deeds)) ran.last.source ran.last.destination
world-of-deeds cpus epoch rounds deeds new are settled =
    let ran = filled-first cpus epoch rounds deeds new are in
    world-of-last cpus epoch rounds (map change_of deeds) ran.last ran.are (settled-of ran.last _ _ new ran.new_is settled)

pub is-world : (cpus epoch rounds : ℕ) (deeds : List Deed) (new : Drivers) → AreDeeds cpus (first_drivers cpus epoch rounds) deeds new → IsSettled new.nodes → (steps : List Step) × drivers.IsWorldOf cpus epoch rounds deeds new steps
is-world cpus epoch rounds deeds new are settled =
    let ran = filled-first cpus epoch rounds deeds new are in
    let last = world-of-deeds cpus epoch rounds deeds new are settled in
    let world = last.world in
    let held = holds ran.last _ _ new ran.new_is in (
      world.steps,
      record {
        earlier = last.earlier;
        here = world.here_is;
        there = world.there_is;
        bytes = subst (λ node. HoldBytes new node (after_steps (first_world_with cpus epoch rounds) world.steps).destination) (sym world.source_is)
            (subst (λ node. HoldBytes new ran.last.source node) (sym world.destination_is) held);
        transcript = last.transcript_is ∙ sym (ap entries_of ran.new_is);
      },
    )

-- The headline

pub record IsHeadline (new : Drivers) : Type 0 where
  pub flat : IsFlatRun (entries_of new)
  pub seen : memory (seen_by new) ≡ memory_of (entries_of new)
  pub alone : is_released new.nodes.source.phase ≡ true → HasAlone new

pub headline-of : (cpus epoch rounds : ℕ) (deeds : List Deed) (new : Drivers) → AreDeeds cpus (first_drivers cpus epoch rounds) deeds new → IsHeadline new
headline-of cpus epoch rounds deeds new are =
    let ran = filled-first cpus epoch rounds deeds new are in
    let all = any-held cpus epoch rounds (map change_of deeds) ran.last ran.are in
    let w = after_steps (first_world_with cpus epoch rounds) all.steps in
    let kept = kept-reached w (reached-of cpus epoch rounds all.steps) in
    let seen = ap memory (λ i. current_by (sym all.destination_is i).has_run (sym all.destination_is i).guest.space.host (sym all.source_is i).guest.space.host (settled (sym all.destination_is i)))
    ∙ kept.memory.holds ∙ ap memory_of all.transcript_is in
    subst IsHeadline (sym ran.new_is)
    (record {
      flat = subst IsFlatRun all.transcript_is kept.memory.flat;
      seen = seen;
      alone = λ released.
          let alone = is_alone w kept (ap (λ (node : Source). is_released node.phase) all.source_is ∙ released) in
          record {
            memory_is = ap (λ (node : Destination). memory node.guest.space.host) (sym all.destination_is) ∙ alone.holds ∙ ap memory_of all.transcript_is;
            none_here = ap (λ (node : Source). node.guest.space.host.bytes) (sym all.source_is) ∙ ap (λ (space : Space). space.host.bytes) alone.alone;
            none_owed = ap (λ (node : Destination). node.owed) (sym all.destination_is) ∙ alone.none_owed;
            none_came = ap (λ (node : Destination). node.arrivals) (sym all.destination_is) ∙ alone.none_arrived;
          };
    })

-- Pages that are put

put_word : (b : Bool) (a addr origin : ℕ) → cond b (Effect.SentZero a) (Effect.SentPage a) ≡ Effect.Installed addr origin → Effect.SentPage a ≡ Effect.Installed addr origin
put_word true a addr origin is = absurd cc
put_word false a addr origin is = is

took_word : (b : Bool) (a addr origin : ℕ) → cond b (Effect.TookZero a) (Effect.TookPage a) ≡ Effect.Installed addr origin → Effect.TookPage a ≡ Effect.Installed addr origin
took_word true a addr origin is = absurd cc
took_word false a addr origin is = is

-- an effect that says where a copy was put is the same without bytes
installed-entered : (bytes : ℕ → List ℕ) (effect : Effect) (addr origin : ℕ) → effect_under no_byte bytes effect ≡ Effect.Installed addr origin → effect ≡ Effect.Installed addr origin
installed-entered bytes (Effect.SentPage a) addr origin is = put_word (is_zeros (map no_byte (bytes a))) a addr origin is
installed-entered bytes (Effect.TookPage a) addr origin is = took_word (is_zeros (map no_byte (bytes a))) a addr origin is
installed-entered bytes (Effect.Answered cpu reply) addr origin is = absurd cc
installed-entered bytes (Effect.ReadLast event cpu reply) addr origin is = absurd cc
installed-entered bytes _ addr origin is = is

zeroed_word : (b : Bool) (a addr : ℕ) → cond b (Effect.SentZero a) (Effect.SentPage a) ≡ Effect.Zeroed addr → Effect.SentPage a ≡ Effect.Zeroed addr
zeroed_word true a addr is = absurd cc
zeroed_word false a addr is = is

zeroed_took : (b : Bool) (a addr : ℕ) → cond b (Effect.TookZero a) (Effect.TookPage a) ≡ Effect.Zeroed addr → Effect.TookPage a ≡ Effect.Zeroed addr
zeroed_took true a addr is = absurd cc
zeroed_took false a addr is = is

-- and one that says where a page was made zeros
zeroed-entered : (bytes : ℕ → List ℕ) (effect : Effect) (addr : ℕ) → effect_under no_byte bytes effect ≡ Effect.Zeroed addr → effect ≡ Effect.Zeroed addr
zeroed-entered bytes (Effect.SentPage a) addr is = zeroed_word (is_zeros (map no_byte (bytes a))) a addr is
zeroed-entered bytes (Effect.TookPage a) addr is = zeroed_took (is_zeros (map no_byte (bytes a))) a addr is
zeroed-entered bytes (Effect.Answered cpu reply) addr is = absurd cc
zeroed-entered bytes (Effect.ReadLast event cpu reply) addr is = absurd cc
zeroed-entered bytes _ addr is = is

-- what the node with all bytes does by a line of the destination
record IsAnsweredThere (full : Processes) (heard : List Entry) (line : Line) (bare : Did Destination) : Type 0 where
  did : Did Destination
  gives : destination_line full.destination line ≡ Ok did
  effect_is : bare.effect ≡ effect_under no_byte (bytes_there line) did.effect
  there_is : there_after line bare.effect (destination_under no_byte full.destination) (there_of full.destination heard) ≡ there_of did.node (heard ++ did.entries)

made-there : (full : Processes) (said heard : List Entry) (step : Step) (new : Drivers) → AreWholeProcesses full → (is : IsDoneThere (drivers_of full said heard) (Line.Made step) new) → IsAnsweredThere full heard (Line.Made step) is.did
made-there full said heard step new whole is =
    let line = Line.Made step in
    let given = answered (did_entered (destination_under no_byte) (bytes_there line)) (destination_line full.destination line) is.did
    (sym (line-there-entered full.destination whole.destination.memory line tt) ∙ is.gives) in
    let kept = line-there full.destination line heard given.0 whole.destination tt given.1 in
    record {
      did = given.0;
      gives = given.1;
      effect_is = ap (λ (d : Did Destination). d.effect) given.2;
      there_is = ap (λ (d : Did Destination). there_after line d.effect (destination_under no_byte full.destination) (there_of full.destination heard)) given.2
          ∙ there-entered line (bytes_there line) given.0.effect full.destination (there_of full.destination heard) ∙ kept.there;
    }

-- the answer of a world to a step that its destination makes
answer-there : (world : World) (node : Destination) (step : Step) (did : Did Destination) → world.destination ≡ node → answer world step ≡ destination_gives world (destination_step world.destination step) → destination_step node step ≡ Ok did →
    answer world step ≡ made did.effect (destination_done world did)
answer-there world node step did is own gives = own ∙ ap (destination_gives world) (ap (λ n. destination_step n step) is ∙ gives)

-- the destination installs a copy, and the processes can still be settled
put-of : (cpus epoch rounds : ℕ) (changes : List Change) (full : Processes) (said heard : List Entry) → AreChanges cpus (first_processes cpus epoch rounds) changes full → AreWholeProcesses full → Settles cpus full → (new : Drivers) →
    (is : IsDoneThere (drivers_of full said heard) (Line.Made Step.Install) new) (addr origin : ℕ) → is.did.effect ≡ Effect.Installed addr origin → IsPutRight (drivers_of full said heard) new addr origin
put-of cpus epoch rounds changes full said heard are whole calm new is addr origin effect =
    let phase = calm.new.destination.phase in
    let world = (world-of-last cpus epoch rounds (changes ++ calm.changes) calm.new (changes-append cpus (first_processes cpus epoch rounds) full calm.new changes calm.changes are calm.are) calm.settled).world in
    let w = after_steps (first_world_with cpus epoch rounds) world.steps in
    let given = made-there full said heard Step.Install new whole is in
    let did = at_phase phase given.did in
    let told = installed-entered (bytes_there (Line.Made Step.Install)) given.did.effect addr origin (sym given.effect_is ∙ effect) in
    let node_is : w.destination ≡ record full.destination { phase = phase } = world.destination_is ∙ calm.destination_is in
    let answers = answer-there w (record full.destination { phase = phase }) Step.Install did node_is (destination-own w Step.Install refl) (install-phase phase full.destination given.did given.gives) in
    let put = install_put_next w addr origin (kept-reached w (reached-of cpus epoch rounds world.steps)) (outcome-made w Step.Install did.effect (destination_done w did) answers ∙ ap (λ e. Ok e) told) in
    let after : next w Step.Install ≡ destination_done w did = next-made w Step.Install did.effect (destination_done w did) answers in
    record {
      missing = ap (λ (node : Destination). contains_key node.guest.space.host.bytes (addr / 4096)) (sym node_is) ∙ put.missing;
      bytes =
          ap (λ (d : Drivers). get d.there.held.pages (addr / 4096)) is.is ∙ ap (λ (t : drivers.There). get t.held.pages (addr / 4096)) given.there_is
          ∙ ap (λ (v : World). get v.destination.guest.space.host.bytes (addr / 4096)) (sym after) ∙ sym put.source
          ∙ ap (λ (node : Source). get (space_of node).host.bytes (origin / 4096)) (world.source_is ∙ calm.source_is);
      present =
          ap (λ (d : Drivers). contains_key d.there.held.pages (addr / 4096)) is.is
          ∙ ap (λ (t : drivers.There). contains_key t.held.pages (addr / 4096)) given.there_is
          ∙ ap (λ (v : World). contains_key v.destination.guest.space.host.bytes (addr / 4096)) (sym after) ∙ put.present;
    }

put-right : (cpus epoch rounds : ℕ) (changes : List Change) (full : Processes) (said heard : List Entry) → AreChanges cpus (first_processes cpus epoch rounds) changes full → AreWholeProcesses full → Settles cpus full ⊎ IsLeft full → (new : Drivers) →
    (is : IsDoneThere (drivers_of full said heard) (Line.Made Step.Install) new) (addr origin : ℕ) → is.did.effect ≡ Effect.Installed addr origin → IsPutRight (drivers_of full said heard) new addr origin
put-right cpus epoch rounds changes full said heard are whole (inl calm) new is addr origin effect = put-of cpus epoch rounds changes full said heard are whole calm new is addr origin effect
put-right cpus epoch rounds changes full said heard are whole (inr left) new is addr origin effect =
    let given = made-there full said heard Step.Install new whole is in
    let told = installed-entered (bytes_there (Line.Made Step.Install)) given.did.effect addr origin (sym given.effect_is ∙ effect) in
    absurd (puts-none full.destination given.did addr origin (nothing-owed cpus epoch rounds changes full are left) given.gives told)

pub puts-right : (cpus epoch rounds : ℕ) (deeds : List Deed) (old new : Drivers) (addr origin : ℕ) (is : IsDoneThere old (Line.Made Step.Install) new) → AreDeeds cpus (first_drivers cpus epoch rounds) deeds old → is.did.effect ≡ Effect.Installed addr origin →
    IsPutRight old new addr origin
puts-right cpus epoch rounds deeds old new addr origin is are =
    let ran = filled-first cpus epoch rounds deeds old are in
    let right = put-right cpus epoch rounds (map change_of deeds) ran.last _ _ ran.are ran.whole (settles cpus ran.last) in
    subst (λ (from : Drivers). (now : Drivers) (done : IsDoneThere from (Line.Made Step.Install) now) (at of : ℕ) → done.did.effect ≡ Effect.Installed at of → IsPutRight from now at of) (sym ran.new_is) right new is addr origin

-- Pages of zeros. Where they are put, the node alone decides: any world that has it will do

zeroed-right : (full : Processes) (said heard : List Entry) → AreWholeProcesses full → (new : Drivers) →
    (is : IsDoneThere (drivers_of full said heard) (Line.Made Step.DestAct) new) (addr : ℕ) → is.did.effect ≡ Effect.Zeroed addr → contains_key full.destination.guest.space.host.bytes (addr / 4096) ≡ false
zeroed-right full said heard whole new is addr effect =
    let w : World = record (first_world_with 0 0 0) { destination = full.destination } in
    let given = made-there full said heard Step.DestAct new whole is in
    let told = zeroed-entered (bytes_there (Line.Made Step.DestAct)) given.did.effect addr (sym given.effect_is ∙ effect) in
    let answers = answer-there w full.destination Step.DestAct given.did refl (destination-own w Step.DestAct refl) given.gives in
    (destination_zeroed w addr (outcome-made w Step.DestAct given.did.effect (destination_done w given.did) answers ∙ ap (λ e. Ok e) told)).missing

pub zeroes-right : (cpus epoch rounds : ℕ) (deeds : List Deed) (old new : Drivers) (addr : ℕ) (is : IsDoneThere old (Line.Made Step.DestAct) new) → AreDeeds cpus (first_drivers cpus epoch rounds) deeds old → is.did.effect ≡ Effect.Zeroed addr →
    contains_key old.there.held.pages (addr / 4096) ≡ false
zeroes-right cpus epoch rounds deeds old new addr is are =
    let ran = filled-first cpus epoch rounds deeds old are in
    let right = zeroed-right ran.last _ _ ran.whole in
    subst (λ (from : Drivers). (now : Drivers) (done : IsDoneThere from (Line.Made Step.DestAct) now) (at : ℕ) → done.did.effect ≡ Effect.Zeroed at → contains_key from.there.held.pages (at / 4096) ≡ false) (sym ran.new_is) right new is addr

zeroed_here-right : (full : Processes) (said heard : List Entry) → AreWholeProcesses full → (new : Drivers) →
    (is : IsDoneHere (drivers_of full said heard) (Line.Made Step.SourceAct) new) (addr : ℕ) → is.did.effect ≡ Effect.Zeroed addr → contains_key full.source.guest.space.host.bytes (addr / 4096) ≡ false
zeroed_here-right full said heard whole new is addr effect =
    let w : World = record (first_world_with 0 0 0) { source = full.source } in
    let line = Line.Made Step.SourceAct in
    let given = answered (did_entered (source_under no_byte) (bytes_here full.source line)) (source_line full.source line) is.did (sym (line-here-entered full.source whole.source line) ∙ is.gives) in
    let told = zeroed-entered (bytes_here full.source line) given.0.effect addr (sym (ap (λ (d : Did Source). d.effect) given.2) ∙ effect) in
    let answers : answer w Step.SourceAct ≡ made given.0.effect (source_done w given.0) = source-own w Step.SourceAct refl ∙ ap (source_gives w) given.1 in
    (source_zeroed w addr (outcome-made w Step.SourceAct given.0.effect (source_done w given.0) answers ∙ ap (λ e. Ok e) told)).missing

pub zeroes_here-right : (cpus epoch rounds : ℕ) (deeds : List Deed) (old new : Drivers) (addr : ℕ) (is : IsDoneHere old (Line.Made Step.SourceAct) new) → AreDeeds cpus (first_drivers cpus epoch rounds) deeds old → is.did.effect ≡ Effect.Zeroed addr →
    contains_key old.here.pages (addr / 4096) ≡ false
zeroes_here-right cpus epoch rounds deeds old new addr is are =
    let ran = filled-first cpus epoch rounds deeds old are in
    let right = zeroed_here-right ran.last _ _ ran.whole in
    subst (λ (from : Drivers). (now : Drivers) (done : IsDoneHere from (Line.Made Step.SourceAct) now) (at : ℕ) → done.did.effect ≡ Effect.Zeroed at → contains_key from.here.pages (at / 4096) ≡ false) (sym ran.new_is) right new is addr
