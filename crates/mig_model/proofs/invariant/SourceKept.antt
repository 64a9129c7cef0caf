-- What a step of a source that has not stopped has to keep, and that its handler keeps it: a message is read, a fault is worked.
use Rattle.std.proofs.Common.{◌≡◌, ◌≢◌, ℕ, ◌≤◌, Bool, true, false, Option, Some, None, List, [], refl, sym, ap, ◌∙◌, ◌⊎◌, arith, cond, get_or, unwrap_or, ◌&&◌, not, ltb}
use Rattle.std.specs.Ordering.{nat_cmp}
use Rattle.std.specs.FinMap as finmap
use Rattle.std.specs.FinMap.{FinMap, get, get-empty, contains_key}
use Rattle.std.specs.FinSet.{FinSet, contains, contains-empty, remove, contains-retain, nat_cmp-IsAntisymmetric}
use Rattle.mig_base.specs.declared.phase.DestPhase.{DestPhase}
use Rattle.mig_base.specs.declared.phase.SourcePhase.{SourcePhase}
use Rattle.mig_base.specs.declared.command.Entry.{Entry}
use Rattle.mig_base.specs.Flat.{IsFlatRun, memory_of}
use Rattle.mig_model.specs.Host.{Host, memory}
use Rattle.mig_model.specs.Space.{Space, IsSoundSpace, fresh_space}
use Rattle.mig_base.specs.declared.act.Act.{Act}
use Rattle.mig_model.specs.Guest.{Guest, is_present, Fault, is_changed_by, read_guest, zero_installed, is_forgotten}
use Rattle.mig_model.specs.Wire.{Sent}
use Rattle.mig_model.specs.Migration.{World, next}
use Rattle.mig_model.proofs.steps.StepWorlds.{after_source_act, after_source_read}
use Rattle.mig_model.specs.Whereabouts.{AreFaithful, is_unread, copies_of, current_by, current_host}
use Rattle.mig_model.specs.Invariant.{IsSoundWorld, IsSoundFlight, AreSoundEpochs, Wires, AreWholeEvents, AreWhole, RanAt, SwitchedAt, HeldFits}
use Rattle.mig_model.specs.Log.{no_pages, present, unchanged}
use Rattle.mig_model.specs.Source.{Source, is_source_idle, space_of, source_act, source_act_by, source_acted_by}
use Rattle.mig_model.specs.Destination.{Destination, settled}
use Rattle.mig_model.proofs.memory.Facts.{none_absurd, missing_none, only_one, some_either}
use Rattle.std.proofs.lemmas.Bool.Decides.{nat_tests}
use Rattle.std.proofs.lemmas.Bool.{false≢true, or_left, and_parts, false_from_ne_true, not-true, eqb-true}
use Rattle.mig_base.specs.declared.cpu_state.CpuState.{CpuState}
use Rattle.mig_base.specs.declared.TheConstants.{HIGH_PAGE}
use Rattle.mig_base.specs.declared.message.Message.{Message}
use Rattle.mig_base.specs.declared.message.Message.TheVariants.{PageFault}
use Rattle.mig_base.specs.Bytes.{zero_page}
use Rattle.foundation.specs.Ranges.{in_range}
use Rattle.mig_base.proofs.ByteLemmas.{length-zero_page, get_or-zero_page}
use Rattle.mig_base.proofs.SetLemmas.{member_below, member_removed}
use Rattle.mig_base.specs.Userfault.{Noted, Object, next_message, message_read}
use Rattle.mig_model.specs.Ioctls.{protected_in}
use Rattle.mig_base.specs.declared.act.Act.TheVariants.{Unprotected, Zeroed}
use Rattle.mig_model.proofs.memory.IoctlLemmas.{IsSoundSpace-read, IsSoundSpace-protected, IsSoundSpace-installed, get-put_pages}
use Rattle.mig_model.proofs.invariant.DestinationAct.{get-put_one, byte_of, memory-reads}

pub no_page_absurd : {A : Type 0} (set : FinSet nat_cmp) (page : ℕ) → set ≡ no_pages → contains set page ≡ true → A
no_page_absurd set page none h = none_absurd (sym (ap (λ s. contains s page) none ∙ contains-empty nat_cmp page) ∙ h)

-- A world whose source, forward wire and transcript have changed before the switch

-- a source that has not started watches nothing and has sent nothing
abbrev pub IdleEmpty : SourcePhase → Space → (clean todo sent : FinSet nat_cmp) → Type 0
IdleEmpty from space clean todo sent =
    from ≡ SourcePhase.Idle → (clean ≡ no_pages) × (todo ≡ no_pages) × (sent ≡ no_pages) × (space.object.events ≡ []) × ((page : ℕ) → contains space.object.missing page ≡ false)

pub never_idle : (from : SourcePhase) (space : Space) (clean todo sent : FinSet nat_cmp) → is_source_idle from ≡ false → IdleEmpty from space clean todo sent
never_idle from space clean todo sent started idle = none_absurd (sym started ∙ ap is_source_idle idle)

pub record IsNext (world : World) (source : Source) (forward : List Sent) (transcript : List Entry) : Type 0 where
  pub flat : IsFlatRun transcript
  pub holds : memory (space_of source).host ≡ memory_of transcript
  pub space : IsSoundSpace (space_of source)
  pub modes : (page : ℕ) → contains (space_of source).object.missing page ≡ contains (space_of source).object.protect page
  pub events : AreWholeEvents (space_of source).object.events
  pub phase : SwitchedAt source.phase source.switched
  pub unswitched : source.switched ≡ false
  pub remaining : source.remaining ≡ no_pages
  pub unended : source.end_epoch ≢ source.epoch ⊎ (source.phase ≡ SourcePhase.Idle)
  pub before : source.end_epoch ≤ source.epoch
  pub fresh : world.up ≡ true → source.phase ≡ SourcePhase.Paused → source.end_epoch ≢ source.epoch
  pub idle : IdleEmpty source.phase (space_of source) source.log.clean source.log.todo source.log.sent
  pub protected : (page : ℕ) → contains source.log.clean page ≡ true → is_unread (space_of source).object.events page ≡ false → contains (space_of source).protected page ≡ true
  pub sendable : (page : ℕ) → contains source.log.todo page ≡ true → is_unread (space_of source).object.events page ≡ false → (is_present (space_of source) page ≡ true) × (contains (space_of source).object.protect page ≡ true)
  pub whole : AreWhole (copies_of forward)
  pub flight : IsSoundFlight source world.destination forward world.back.frames world.urgent.frames world.up
  pub epochs : AreSoundEpochs source.epoch world.destination.phase world.destination.epoch forward world.back.frames world.up
  pub held : HeldFits forward world.forward.held

pub current_before : (ran : Bool) (here there : Host) (owed : ℕ → Option ℕ) → ran ≡ false → current_by ran here there owed ≡ there
current_before ran here there owed h = grind arith

-- the memory of the source is the guest's
pub source_holds : (world : World) → IsSoundWorld world → world.destination.has_run ≡ false → memory (space_of world.source).host ≡ memory_of world.transcript
source_holds world kept bare = grind (arith, nat_tests)

nothing_owed : {A : Type 0} (owed : FinMap nat_cmp ℕ) (page origin : ℕ) → owed ≡ finmap.empty → get owed page ≡ Some origin → A
nothing_owed owed page origin none h = let e : None ≡ Some origin = sym (ap (λ m. get m page) none ∙ get-empty nat_cmp page) ∙ h in absurd (cc)

released_switched : {A : Type 0} (phase : SourcePhase) (switched : Bool) → SwitchedAt phase switched → switched ≡ false → phase ≡ SourcePhase.Released → A
released_switched phase switched at h e = grind (arith, nat_tests)

pub renewed : (world : World) (source : Source) (forward : List Sent) (transcript : List Entry) → IsSoundWorld world → world.destination.has_run ≡ false → IsNext world source forward transcript →
    IsSoundWorld (record world { source = source; forward = record world.forward { frames = forward }; transcript = transcript })
renewed world source forward transcript kept bare next =
    let new : World = record world { source = source; forward = record world.forward { frames = forward }; transcript = transcript } in
    let holds : memory (current_host new) ≡ memory_of transcript = ap memory (current_before world.destination.has_run world.destination.guest.space.host (space_of source).host (settled world.destination) bare) ∙ next.holds in
    let ran_after_switch : new.destination.has_run ≡ true → source.switched ≡ true = λ h. none_absurd (sym bare ∙ h) in
    let source_quiet : source.switched ≡ true → (space_of source).object.events ≡ [] = λ h. none_absurd (sym next.unswitched ∙ h) in
    let remaining_present : (page : ℕ) → contains source.remaining page ≡ true → is_present (space_of source) page ≡ true = λ page h. no_page_absurd source.remaining page next.remaining h in
    let released_empty : source.phase ≡ SourcePhase.Released → (space_of source ≡ fresh_space) × (source.remaining ≡ no_pages) = λ h. released_switched source.phase source.switched next.phase next.unswitched h in
    let origins_present : (page origin : ℕ) → get new.destination.owed page ≡ Some origin → is_present (space_of source) origin ≡ true = λ page origin h. nothing_owed world.destination.owed page origin (kept.owing.not_run bare).0 h in
    let arrivals_faithful : new.destination.has_run ≡ true → AreFaithful (space_of source).host.bytes new.destination.arrivals = λ h. none_absurd (sym bare ∙ h) in
    assumption

-- A step that changes the guest and the sets of pages alone

abbrev pub with_parts : Source → Guest → FinSet nat_cmp → FinSet nat_cmp → List Fault → ℕ → ℕ → Source
with_parts source guest clean todo held rounds faults = record source { guest = guest; log = record source.log { clean = clean; todo = todo; held = held }; rounds = rounds; faults = faults }

-- a page that is clean afterwards, unless an unread event has changed it, was so before, with the same bytes
abbrev pub CopiesStay : Source → Guest → FinSet nat_cmp → Type 0
CopiesStay source guest clean =
    (page : ℕ) → contains clean page ≡ true → is_unread guest.space.object.events page ≡ false
    → (contains source.log.clean page ≡ true) × (is_unread (space_of source).object.events page ≡ false) × (get guest.space.host.bytes page ≡ get (space_of source).host.bytes page)

pub record IsChanged (source : Source) (guest : Guest) (clean todo : FinSet nat_cmp) (transcript : List Entry) : Type 0 where
  pub flat : IsFlatRun transcript
  pub holds : memory guest.space.host ≡ memory_of transcript
  pub space : IsSoundSpace guest.space
  pub modes : (page : ℕ) → contains guest.space.object.missing page ≡ contains guest.space.object.protect page
  pub events : AreWholeEvents guest.space.object.events
  pub idle : IdleEmpty source.phase guest.space clean todo source.log.sent
  pub protected : (page : ℕ) → contains clean page ≡ true → is_unread guest.space.object.events page ≡ false → contains guest.space.protected page ≡ true
  pub sendable : (page : ℕ) → contains todo page ≡ true → is_unread guest.space.object.events page ≡ false → (is_present guest.space page ≡ true) × (contains guest.space.object.protect page ≡ true)
  pub copies : CopiesStay source guest clean

-- before the switch the destination has not run: while the source is paused, it is paused too, or has answered Resume
wires_changed : (from : SourcePhase) (to : DestPhase) (source : Source) (guest : Guest) (clean todo : FinSet nat_cmp) (held : List Fault) (rounds faults : ℕ) (destination : Destination) (forward back urgent : List Sent) →
    RanAt to destination.has_run destination.ended → destination.has_run ≡ false → (destination.ended ≡ true → destination.has_run ≡ true) → SwitchedAt from source.switched → source.switched ≡ false →
    CopiesStay source guest clean → Wires (record source { phase = from }) (record destination { phase = to }) forward back urgent →
    Wires (with_parts (record source { phase = from }) guest clean todo held rounds faults) (record destination { phase = to }) forward back urgent
wires_changed from to source guest clean todo held rounds faults destination forward back urgent ran bare after at unswitched stay wires = grind (arith, nat_tests)

pub changed : (world : World) (guest : Guest) (clean todo : FinSet nat_cmp) (held : List Fault) (rounds faults : ℕ) (transcript : List Entry) → IsSoundWorld world → world.destination.has_run ≡ false → world.source.switched ≡ false →
    IsChanged world.source guest clean todo transcript →
    IsSoundWorld (record world { source = with_parts world.source guest clean todo held rounds faults; transcript = transcript })
changed world guest clean todo held rounds faults transcript kept bare unswitched new =
    let source = world.source in
    let before = kept.pushing.before_switch unswitched in
    let faithful : world.destination.has_run ≡ true → AreFaithful guest.space.host.bytes (copies_of world.forward.frames) = λ h. none_absurd (sym bare ∙ h) in
    let wires = λ (up : world.up ≡ true).
    wires_changed source.phase world.destination.phase source guest clean todo held rounds faults world.destination world.forward.frames world.back.frames world.urgent.frames
    kept.phases.destination_phase bare kept.phases.ended_after_run kept.phases.source_phase unswitched new.copies (kept.flight.wires up) in
    renewed world (with_parts source guest clean todo held rounds faults) world.forward.frames transcript kept bare (assumption)

-- The tests of both steps

-- a destination has run only once the source has stopped
pub has_not_run : (world : World) → IsSoundWorld world → world.source.switched ≡ false → world.destination.has_run ≡ false
has_not_run world kept unswitched = false_from_ne_true world.destination.has_run (λ h. false≢true (sym unswitched ∙ kept.phases.ran_after_switch h))

pub in_one_is : (page q : ℕ) → in_range page 1 q ≡ true → q ≡ page
in_one_is page q h = eqb-true q page (sym (only_one page q) ∙ h)

-- A page of zeros at a missing page changes nothing that the guest reads

zero_bytes : (here : Bool) (o : Option (List ℕ)) (i : ℕ) → (here ≡ true → o ≡ None) → get_or (unwrap_or (cond here (Some zero_page) o) []) i 0 ≡ get_or (unwrap_or o []) i 0
zero_bytes here o i h = grind (arith, nat_tests, get_or-zero_page)

-- A message is read

record IsRead (object new : Object) (message : Message) : Type 0 where
  missing : new.missing ≡ object.missing
  protect : new.protect ≡ object.protect
  right : AreWholeEvents object.events → AreWholeEvents new.events
  unread : (page : ℕ) → is_changed_by message page ≡ false → is_unread new.events page ≡ false → is_unread object.events page ≡ false

member_unchanged : (s : FinSet nat_cmp) (message : Message) (page : ℕ) → contains (unchanged s message) page ≡ true → (contains s page ≡ true) × (is_changed_by message page ≡ false)
member_unchanged s message page h =
    let both = and_parts (contains s page) (not (is_changed_by message page))
    (sym (contains-retain s (λ q. not (is_changed_by message q)) page (λ x e. ap (λ q. not (is_changed_by message q)) (sym (nat_cmp-IsAntisymmetric page x e)))) ∙ h) in
    (both.0, not-true (is_changed_by message page) both.1)

read_changed : (world : World) (noted : Noted) (processors : List CpuState) → IsSoundWorld world → world.source.switched ≡ false → is_source_idle world.source.phase ≡ false →
    next_message (space_of world.source).object ≡ Some noted →
    IsChanged world.source (record { space = record (space_of world.source) { object = message_read (space_of world.source).object }; cpus = processors })
    (unchanged world.source.log.clean noted.message) (unchanged world.source.log.todo noted.message) world.transcript
read_changed world noted processors kept unswitched started next = grind (arith, nat_tests, has_not_run, IsSoundSpace-read, never_idle, member_unchanged)

-- whatever the message is
read_by_message : (world : World) (noted : Noted) (message : Message) → IsSoundWorld world → world.source.switched ≡ false → is_source_idle world.source.phase ≡ false → next_message (space_of world.source).object ≡ Some noted →
    IsChanged world.source (read_guest world.source.guest noted.cpu message) (unchanged world.source.log.clean noted.message) (unchanged world.source.log.todo noted.message) world.transcript
read_by_message world noted (PageFault addr write wp tid) kept unswitched started next = read_changed world noted _ kept unswitched started next
read_by_message world noted _ kept unswitched started next = read_changed world noted _ kept unswitched started next

pub kept-source_read : (world : World) (noted : Noted) → IsSoundWorld world → next_message (space_of world.source).object ≡ Some noted → is_source_idle world.source.phase ≡ false → world.source.switched ≡ false → IsSoundWorld (after_source_read world noted)
kept-source_read world noted kept is started unswitched =
    changed world (read_guest world.source.guest noted.cpu noted.message) (unchanged world.source.log.clean noted.message) (unchanged world.source.log.todo noted.message) _ world.source.rounds _ world.transcript
    kept (has_not_run world kept unswitched) unswitched (read_by_message world noted noted.message kept unswitched started is)

-- A fault is worked

-- a page that is not forgotten is mapped, and registered in both modes
record IsWatched (space : Space) (page : ℕ) : Type 0 where
  mapped : contains_key space.host.areas page ≡ true
  protect : contains space.object.protect page ≡ true

is_watched : (space : Space) (page : ℕ) → contains space.object.missing page ≡ contains space.object.protect page → is_forgotten space page ≡ false → IsWatched space page
is_watched space page both h = grind (arith, nat_tests)

unprotected_is : (forgotten present protected : Bool) → source_act_by forgotten present protected ≡ Unprotected → forgotten ≡ false
unprotected_is forgotten present protected h = grind (arith, nat_tests)

zeroed_is : (forgotten present protected : Bool) → source_act_by forgotten present protected ≡ Zeroed → (forgotten ≡ false) × (present ≡ false)
zeroed_is forgotten present protected h = grind arith

-- nothing but processors and held faults has changed
same_changed : (world : World) (processors : List CpuState) → IsSoundWorld world → world.source.switched ≡ false →
    IsChanged world.source (record { space = space_of world.source; cpus = processors }) world.source.log.clean world.source.log.todo world.transcript
same_changed world processors kept unswitched = grind (arith, nat_tests)

protected_below : (space : Space) (page : ℕ) → IsSoundSpace space → contains space.protected page ≡ true → ltb page HIGH_PAGE ≡ true
protected_below space page sound h = grind (arith, nat_tests)

unprotected_changed : (world : World) (page : ℕ) (processors : List CpuState) → IsSoundWorld world → world.source.switched ≡ false → is_source_idle world.source.phase ≡ false → IsWatched (space_of world.source) page →
    IsChanged world.source (record { space = protected_in (space_of world.source) page 1 false; cpus = processors }) (remove world.source.log.clean page) world.source.log.todo world.transcript
unprotected_changed world page processors kept unswitched started watched = grind (arith, nat_tests, member_removed, has_not_run, IsSoundSpace-protected, in_one_is, never_idle, member_below, protected_below, not-true)

zeroed_changed : (world : World) (page : ℕ) (processors : List CpuState) → IsSoundWorld world → world.source.switched ≡ false → is_source_idle world.source.phase ≡ false → IsWatched (space_of world.source) page →
    is_present (space_of world.source) page ≡ false →
    IsChanged world.source (record { space = zero_installed (space_of world.source) page; cpus = processors }) world.source.log.clean world.source.log.todo world.transcript
zeroed_changed world page processors kept unswitched started watched missing = grind (arith, nat_tests, in_one_is, length-zero_page, none_absurd, missing_none, source_holds, has_not_run, IsSoundSpace-installed, never_idle, member_below, protected_below, or_left, memory-reads, byte_of, get-put_one, zero_bytes, eqb-true, get-put_pages, some_either)

-- Every act

acted : (world : World) (fault : Fault) (act : Act) → IsSoundWorld world → world.source.switched ≡ false → is_source_idle world.source.phase ≡ false → source_act world.source fault ≡ act →
    IsSoundWorld (record world { source = source_acted_by act world.source fault.page })
acted world fault Unprotected kept unswitched started is =
    let space = space_of world.source in
    let watched = is_watched space fault.page (kept.spaces.both_modes fault.page) (unprotected_is _ _ _ is) in
    changed world _ _ _ _ world.source.rounds world.source.faults world.transcript kept (has_not_run world kept unswitched) unswitched (unprotected_changed world fault.page _ kept unswitched started watched)
acted world fault Zeroed kept unswitched started is =
    let space = space_of world.source in
    let told = zeroed_is (is_forgotten space fault.page) (is_present space fault.page) (contains space.protected fault.page && fault.wp) is in
    let watched = is_watched space fault.page (kept.spaces.both_modes fault.page) told.0 in
    changed world _ _ _ _ world.source.rounds world.source.faults world.transcript kept (has_not_run world kept unswitched) unswitched (zeroed_changed world fault.page _ kept unswitched started watched told.1)
acted world fault _ kept unswitched started is = grind (arith, nat_tests, changed, has_not_run, same_changed)

pub kept-source_act : (world : World) (fault : Fault) → IsSoundWorld world → is_source_idle world.source.phase ≡ false → world.source.switched ≡ false → IsSoundWorld (after_source_act world fault)
kept-source_act world fault kept started unswitched = acted world fault (source_act world.source fault) kept unswitched started refl
