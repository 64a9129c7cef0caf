-- The source begins a migration, or a round of pre-copy, and keeps what every world keeps.
use Rattle.std.proofs.Common.{◌≡◌, ◌≢◌, ◌⊎◌, ◌≤◌, ℕ, ◌+◌, ◌<◌, ◌&&◌, Bool, true, false, cond, not, ltb, List, [], ◌∷◌, ◌++◌, refl, sym, ap, ◌∙◌, subst, inl, arith, is_some}
use Rattle.std.specs.Ordering.{nat_cmp}
use Rattle.std.specs.FinMap as finmap
use Rattle.std.specs.FinMap.{FinMap, get, contains_key, get-empty}
use Rattle.std.specs.FinSet.{contains}
use Rattle.std.proofs.lemmas.Bool.Decides.{nat_tests}
use Rattle.std.proofs.lemmas.Bool.{lt-ltb, and_from, or_right}
use Rattle.mig_base.specs.declared.phase.DestPhase.{DestPhase}
use Rattle.mig_base.specs.declared.phase.SourcePhase.{SourcePhase}
use Rattle.mig_base.specs.declared.TheConstants.{HIGH_PAGE}
use Rattle.foundation.specs.Ranges.{in_range}
use Rattle.mig_base.proofs.SetLemmas.{member_below}
use Rattle.mig_model.specs.Space.{Space, IsSoundSpace}
use Rattle.mig_model.specs.Guest.{is_present}
use Rattle.mig_model.specs.Wire.{Sent}
use Rattle.mig_model.specs.Wire.Frame.{Advise}
use Rattle.mig_model.specs.Migration.{World}
use Rattle.mig_model.proofs.steps.StepWorlds.{after_round, after_start}
use Rattle.mig_model.specs.Whereabouts.{is_unread, copies_of, kept_by}
use Rattle.mig_model.specs.Invariant.{IsSoundWorld, AreSoundEpochs, Wires, PrecopyWires, SwitchedAt, EpochAt, AreOf, AreWhole, flow_after}
use Rattle.mig_model.specs.Invariant.Flow.{BeforeAdvise}
use Rattle.mig_model.proofs.memory.IoctlLemmas.{IsSoundSpace-registered}
use Rattle.mig_model.proofs.invariant.SourceKept.{no_page_absurd, source_holds, IsNext, renewed, IsChanged, CopiesStay, never_idle, has_not_run}
use Rattle.mig_model.proofs.owed.SourceCalls.{registered_below}
use Rattle.mig_model.specs.Cpus.{is_idle}
use Rattle.mig_model.specs.Log.{no_pages}
use Rattle.mig_model.specs.Source.{Source, all_registered, for_both, is_precopy, is_source_idle, not_clean, source_started, space_of}
use Rattle.mig_model.specs.Destination.{Destination}
use Rattle.mig_model.proofs.invariant.WireLemmas.{fits-more, flight_up}
use Rattle.mig_model.proofs.memory.Facts.{none_absurd, and_true, owed_is_present}

-- The source makes rounds of pre-copy

pub precopy_unswitched : (phase : SourcePhase) (switched : Bool) → is_precopy phase ≡ true → SwitchedAt phase switched → switched ≡ false
precopy_unswitched phase switched h at = grind (arith, nat_tests)

pub precopy_started : (phase : SourcePhase) → is_precopy phase ≡ true → is_source_idle phase ≡ false
precopy_started phase h = grind (arith, nat_tests)

pub watched_below : (space : Space) (page : ℕ) → IsSoundSpace space → contains space.object.protect page ≡ true → ltb page HIGH_PAGE ≡ true
watched_below space page sound h = lt-ltb page HIGH_PAGE (registered_below space page sound (or_right (contains space.object.missing page) (contains space.object.protect page) h))

-- Every mapped page is registered

registered_modes : (space : Space) → ((page : ℕ) → contains space.object.missing page ≡ contains space.object.protect page) → (all_registered space).object.missing ≡ (all_registered space).object.protect
registered_modes space both = grind (arith, nat_tests)

registered_now : (low test missing protect : Bool) → low ≡ true → test ≡ true → (low && cond (test && not (missing && protect)) true protect) ≡ true
registered_now low test missing protect low_ is = grind arith

whole_range : (page : ℕ) → page < HIGH_PAGE → in_range 0 HIGH_PAGE page ≡ true
whole_range page h = grind (arith, nat_tests)

pub mapped_registered : (space : Space) (page : ℕ) → IsSoundSpace space → contains_key space.host.areas page ≡ true → contains (all_registered space).object.protect page ≡ true
mapped_registered space page sound mapped = grind (arith, nat_tests, member_below, and_from)

pub present_mapped : (space : Space) (page : ℕ) → IsSoundSpace space → is_present space page ≡ true → contains_key space.host.areas page ≡ true
present_mapped space page sound h = grind (arith, nat_tests)

-- Round

round_changed : (world : World) → IsSoundWorld world → is_precopy world.source.phase ≡ true → world.source.switched ≡ false →
    IsChanged world.source (record world.source.guest { space = all_registered (space_of world.source) }) world.source.log.clean (not_clean world.source) world.transcript
round_changed world kept precopy unswitched = grind (arith, nat_tests, has_not_run, IsSoundSpace-registered, registered_modes, never_idle, precopy_started, owed_is_present, present_mapped, CopiesStay, member_below, watched_below, and_true, registered_now, lt-ltb, and_from, whole_range)

pub kept-round : (world : World) → IsSoundWorld world → is_precopy world.source.phase ≡ true → IsSoundWorld (after_round world)
kept-round world kept precopy = grind (arith, nat_tests, has_not_run, round_changed)

-- Start

-- nothing is in flight before a migration
record IsQuiet (to : DestPhase) (forward back : List Sent) : Type 0 where
  not_advised : to ≡ DestPhase.Idle
  forward_none : forward ≡ []
  back_none : back ≡ []

idle_wires : (from : SourcePhase) (source : Source) (destination : Destination) (forward back urgent : List Sent) → from ≡ SourcePhase.Idle → Wires (record source { phase = from }) destination forward back urgent → IsQuiet destination.phase forward back
idle_wires from source destination forward back urgent idle wires = grind (arith, nat_tests)

no_copy : {A : Type 0} (kept : FinMap nat_cmp (List ℕ)) (page : ℕ) → kept ≡ finmap.empty → contains_key kept page ≡ true → A
no_copy kept page none h = none_absurd (sym (ap is_some (ap (λ m. get m page) none ∙ get-empty nat_cmp page)) ∙ h)

abbrev start_wire : World → List Sent
start_wire world = world.forward.frames ++ record { epoch = world.source.epoch + 1; frame = Advise } ∷ []

start_wires : (to : DestPhase) (source : Source) (destination : Destination) (wire back : List Sent) (epoch : ℕ) → to ≡ DestPhase.Idle → wire ≡ record { epoch = epoch; frame = Advise } ∷ [] → back ≡ [] → source.log.clean ≡ no_pages →
    destination.kept ≡ finmap.empty → PrecopyWires source (record destination { phase = to }) wire back
start_wires to source destination wire back epoch not_advised one none clean kept =
    subst (λ p. PrecopyWires source (record destination { phase = p }) wire back) (sym not_advised) (
      ap (flow_after BeforeAdvise) one,
      none,
      record {
        clean_copy = λ page h u. no_page_absurd source.log.clean page clean h;
        copies_sent = λ page h. no_copy destination.kept page kept (sym (ap (λ w. contains_key (kept_by destination.kept w) page) one) ∙ h);
      },
    )

started_next : (world : World) → IsSoundWorld world → world.source.phase ≡ SourcePhase.Idle → world.source.switched ≡ false → world.up ≡ true → IsQuiet world.destination.phase world.forward.frames world.back.frames →
    IsNext world (source_started world.source) (start_wire world) world.transcript
started_next world kept idle unswitched up quiet =
    let source = world.source in
    let space = space_of source in
    let before = kept.pushing.before_switch unswitched in
    let empty = kept.precopy.idle_source idle in
    let ended = kept.pushing.ended_before in
    let epochs = kept.epochs.not_ahead in
    let one : start_wire world ≡ record { epoch = source.epoch + 1; frame = Advise } ∷ [] = ap (λ w. w ++ record { epoch = source.epoch + 1; frame = Advise } ∷ []) quiet.forward_none in
    let next : Source = source_started source in
    let new : World = record world { source = next; forward = record world.forward { frames = start_wire world } } in
    let bare = has_not_run world kept unswitched in
    let holds = source_holds world kept bare in
    let sound = IsSoundSpace-registered space 0 HIGH_PAGE for_both kept.spaces.source_space in
    let modes = λ (page : ℕ). ap (λ s. contains s page) (registered_modes space kept.spaces.both_modes) in
    let unended : next.end_epoch ≢ next.epoch ⊎ (next.phase ≡ SourcePhase.Idle) = inl (λ e. absurd (omega (arith, ended, e))) in
    let early : next.end_epoch ≤ next.epoch = omega (arith, ended) in
    let fresh : world.up ≡ true → next.phase ≡ SourcePhase.Paused → next.end_epoch ≢ next.epoch = λ u paused. absurd (cc) in
    let begun = never_idle next.phase (space_of next) source.log.clean source.log.todo source.log.sent refl in
    let whole = subst (λ w. AreWhole (copies_of w)) (sym one) tt in
    let protected : (page : ℕ) → contains source.log.clean page ≡ true → is_unread (space_of next).object.events page ≡ false → contains (space_of next).protected page ≡ true = λ page h u. no_page_absurd source.log.clean page empty.0 h in
    let sendable : (page : ℕ) → contains source.log.todo page ≡ true → is_unread (space_of next).object.events page ≡ false → (is_present (space_of next) page ≡ true) × (contains (space_of next).object.protect page ≡ true) = λ page h u. no_page_absurd source.log.todo page empty.1 h in
    let flight = flight_up new up (λ ran. none_absurd (sym bare ∙ ran))
    (start_wires world.destination.phase next world.destination (start_wire world) world.back.frames next.epoch quiet.not_advised one quiet.back_none empty.0 (kept.copies.kept_advised quiet.not_advised)) in
    let at : AreSoundEpochs next.epoch world.destination.phase world.destination.epoch (start_wire world) world.back.frames world.up =
    record {
      forward_epoch = subst (AreOf next.epoch) (sym one) (refl, tt);
      back_epoch = subst (AreOf next.epoch) (sym quiet.back_none) tt;
      not_ahead = omega (arith, epochs);
      epoch_at = λ h. subst (λ p. EpochAt p world.destination.epoch next.epoch) (sym quiet.not_advised) tt;
    } in
    let held = fits-more world.forward.frames world.forward.held next.epoch (Advise ∷ []) kept.held.forward_held in
    assumption

-- nothing is in flight before Start
pub idle_forward : (world : World) → IsSoundWorld world → is_source_idle world.source.phase ≡ true → world.forward.frames ≡ []
idle_forward world kept is_idle = grind (arith, nat_tests)

pub idle_back : (world : World) → IsSoundWorld world → is_source_idle world.source.phase ≡ true → world.back.frames ≡ []
idle_back world kept is_idle = grind (arith, nat_tests)

pub kept-start : (world : World) → IsSoundWorld world → is_source_idle world.source.phase ≡ true → IsSoundWorld (after_start world)
kept-start world kept is_idle = grind (arith, nat_tests, renewed, has_not_run, started_next, idle_wires)
