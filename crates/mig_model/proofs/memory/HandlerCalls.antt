-- Where a step zeroes, unprotects, protects, installs or registers, the call of the userfault object is accepted and does just that.
use Rattle.std.proofs.Common.{◌≡◌, ℕ, ◌*◌, ◌&&◌, ◌||◌, Bool, true, false, not, ltb, Option, Some, None, List, ◌∷◌, refl, sym, ap, ◌∙◌, subst, length, if◌then◌else◌, IsOk, ◌<◌, ◌≤◌, ◌-◌, ◌+◌, arith}
use Rattle.std.proofs.lemmas.Bool.Decides.{nat_tests}
use Rattle.std.specs.Prelude.{Ok}
use Rattle.std.specs.Ordering.{nat_cmp}
use Rattle.std.specs.FinMap.{contains_key, get}
use Rattle.std.specs.FinSet.{contains, contains-empty}
use Rattle.std.proofs.lemmas.Bool.{or_left, or_right}
use Rattle.mig_base.specs.declared.TheConstants.{HIGH_PAGE}
use Rattle.mig_base.specs.declared.Run.{Run}
use Rattle.mig_base.specs.declared.effect.Effect.{Effect}
use Rattle.mig_base.specs.declared.schedule.Step.{Step}
use Rattle.mig_base.specs.declared.command.Errno.TheVariants.{Einval}
use Rattle.mig_base.specs.declared.wake.Wake.TheVariants.{Nobody, Range}
use Rattle.foundation.specs.Bits.{is_one}
use Rattle.mig_base.specs.Bytes.{zero_page}
use Rattle.foundation.specs.Ranges.{none_below, in_range}
use Rattle.mig_base.specs.Sets.{pages_where, run_length}
use Rattle.mig_base.proofs.BitLemmas.{zero_is_no_one}
use Rattle.foundation.proofs.RangeLemmas.{least_below_tells}
use Rattle.mig_base.proofs.SetLemmas.{nothing_below, member_run, run_length-some}
use Rattle.mig_model.specs.Host.{Host, IsSound}
use Rattle.mig_base.specs.Userfault.{Object, enabled_with, fresh_object, has_modes, is_registered}
use Rattle.mig_model.specs.Space.{Space, IsSoundSpace, fresh_space}
use Rattle.mig_model.specs.Ioctls.{all_features, event_features, handshake_error, handshaken, has_unknown, installed, is_feature, mode_of, protected_in, registered_in}
use Rattle.mig_base.specs.declared.act.Act.{Act}
use Rattle.mig_model.specs.Guest.{is_forgotten, is_present, Guest, resolved, Fault}
use Rattle.mig_base.specs.declared.act.Act.TheVariants.{Unprotected, Zeroed, Woke, Forgot}
use Rattle.mig_model.specs.Log.{least_of, no_pages}
use Rattle.mig_model.specs.Owed.{home, settled_by}
use Rattle.mig_model.specs.Wire.{Copy, Frame, Sent, is_zeros}
use Rattle.mig_model.specs.Source.{bytes_of, for_both, is_precopy, source_act, source_act_by, source_acted_by, space_of}
use Rattle.mig_model.specs.Destination.{assembled, destination_act, destination_act_by, destination_acted_by, for_missing, install_by}
use Rattle.mig_model.specs.Migration.{World, next, outcome}
use Rattle.mig_base.specs.Acts.{act_effect}
use Rattle.mig_model.specs.Effects.{frame_effect, install_effect}
use Rattle.mig_model.proofs.steps.StepWorlds.{after_deliver, after_install, after_source_act}
use Rattle.mig_model.specs.SourceSteps.{run_bound}
use Rattle.mig_model.specs.Whereabouts.{AreFaithful, is_unread}
use Rattle.mig_model.specs.Invariant.{IsSoundWorld}
use Rattle.mig_model.specs.Bounds.{IsMapping, IsPage}
use Rattle.mig_model.specs.Handlers.{AreRegistered, AreRunsOf, AreWatched, IsCopy, IsWake, IsWriteProtect, IsZeroPage}
use Rattle.mig_model.proofs.invariant.Bounded.{IsBounded, bounded-next, has_memory}
use Rattle.mig_model.proofs.memory.Facts.{and_left, no_event, no_page}
use Rattle.mig_model.proofs.invariant.FaultPages.{AreHeldPages, HasFaultsInside}
use Rattle.mig_model.proofs.invariant.OpenObjects.{IsOpen, idle_unreleased}
use Rattle.mig_model.proofs.memory.PageCalls.{IsCalled, copy_made, page_woken, wake_made, range_protect_made, write_protect_made, zero_page_made}
use Rattle.mig_model.proofs.transcript.PromiseLemmas.{destination_zero, source_zero}
use Rattle.mig_model.proofs.memory.Registering.{CanRegister, areas_registered, every_registered, left_new, registered_by}
use Rattle.mig_model.proofs.owed.SettledLemmas.{home_tells}
use Rattle.mig_model.proofs.invariant.SourceRounds.{precopy_unswitched}
use Rattle.mig_model.proofs.steps.StepCases.{holds-made}
use Rattle.mig_model.proofs.steps.StepLemmas.{holds-effect, leaves-ok}
use Rattle.mig_model.proofs.steps.StepPromises.{told_zeroed}

-- Pages that a handler has not forgotten

not_forgotten : (space : Space) (page : ℕ) → is_forgotten space page ≡ false → (contains_key space.host.areas page ≡ true) × (is_registered space.object page ≡ true)
not_forgotten space page h = grind (arith, nat_tests)

source_served : (gone here protected : Bool) → source_act_by gone here protected ≡ Zeroed → gone ≡ false
source_served gone here protected h = grind (arith, nat_tests)

source_cleared : (gone here protected : Bool) → source_act_by gone here protected ≡ Unprotected → protected ≡ true
source_cleared gone here protected h = grind (arith, nat_tests)

destination_served : (gone here : Bool) (owed : Option ℕ) → destination_act_by gone here owed ≡ Zeroed → gone ≡ false
destination_served gone here owed h = grind (arith, nat_tests)

told_unprotected : (act : Act) (a b : ℕ) → act_effect act a ≡ Effect.Unprotected b → (act ≡ Unprotected) × (a ≡ b)
told_unprotected act a b h = grind (arith, nat_tests)

-- the object of a source that runs its processors
source_open : (cpus : ℕ) (world : World) → IsBounded cpus world → world.source.switched ≡ false → IsOpen (space_of world.source).object all_features
source_open cpus world all unswitched = grind (arith, nat_tests)

-- The source's handler

pub source_zeroes : (cpus : ℕ) (world : World) (addr : ℕ) → IsBounded cpus world → outcome world Step.SourceAct ≡ Ok (Effect.Zeroed addr) → IsZeroPage world.source.guest (next world Step.SourceAct).source.guest addr
source_zeroes cpus world addr all answered =
    holds-effect (λ effect new. effect ≡ Effect.Zeroed addr → IsZeroPage world.source.guest new.source.guest addr) world Step.SourceAct (Effect.Zeroed addr)
    (holds-made _ world Step.SourceAct (λ fault rest is started unswitched quiet h.
    let space = space_of world.source in
    let told = told_zeroed (source_act world.source fault) (4096 * fault.page) addr h in
    let there = not_forgotten space fault.page (source_served (is_forgotten space fault.page) (is_present space fault.page) _ told.0) in
    let made = zero_page_made world.source.guest fault.page (record { enabled = (source_open cpus world all unswitched).enabled; quiet = quiet; inside = all.mapped.pages fault.page there.0 }) there.0 there.1 (source_zero world fault told.0) in
    subst (λ a. IsZeroPage world.source.guest (after_source_act world fault).source.guest a) told.1
    (subst (λ act. IsZeroPage world.source.guest (source_acted_by act world.source fault.page).guest (4096 * fault.page)) (sym told.0) made))) answered refl

pub source_unprotects : (cpus : ℕ) (world : World) (addr : ℕ) → IsBounded cpus world → outcome world Step.SourceAct ≡ Ok (Effect.Unprotected addr) →
    IsWriteProtect world.source.guest (next world Step.SourceAct).source.guest addr 4096 0 (Range addr 4096)
source_unprotects cpus world addr all answered =
    holds-effect (λ effect new. effect ≡ Effect.Unprotected addr → IsWriteProtect world.source.guest new.source.guest addr 4096 0 (Range addr 4096)) world Step.SourceAct (Effect.Unprotected addr)
    (holds-made _ world Step.SourceAct (λ fault rest is started unswitched quiet h.
    let space = space_of world.source in
    let sound = all.ready.kept.spaces.source_space in
    let told = told_unprotected (source_act world.source fault) (4096 * fault.page) addr h in
    let guarded = and_left (contains space.protected fault.page) fault.wp (source_cleared (is_forgotten space fault.page) (is_present space fault.page) _ told.0) in
    let watched = sound.watched fault.page guarded in
    let mapped = sound.mapped fault.page (or_right (contains space.object.missing fault.page) (contains space.object.protect fault.page) watched) in
    let made = write_protect_made world.source.guest (resolved world.source.guest fault.page (protected_in space fault.page 1 false)) fault.page 0 false
    (record { enabled = (source_open cpus world all unswitched).enabled; quiet = quiet; inside = all.mapped.pages fault.page mapped }) watched refl (zero_is_no_one 0) refl (page_woken world.source.guest fault.page (protected_in space fault.page 1 false)) in
    subst (λ a. IsWriteProtect world.source.guest (after_source_act world fault).source.guest a 4096 0 (Range a 4096)) told.1
    (subst (λ act. IsWriteProtect world.source.guest (source_acted_by act world.source fault.page).guest (4096 * fault.page) 4096 0 (Range (4096 * fault.page) 4096)) (sym told.0) made))) answered refl

-- a fault for which nothing is to be done: the sleepers of its page are woken
told_woke : (act : Act) (a b : ℕ) → act_effect act a ≡ Effect.Woke b → (act ≡ Woke) × (a ≡ b)
told_woke act a b h = grind (arith, nat_tests)

told_forgot : (act : Act) (a b : ℕ) → act_effect act a ≡ Effect.Forgot b → (act ≡ Forgot) × (a ≡ b)
told_forgot act a b h = grind (arith, nat_tests)

held_page : (held : List Fault) (fault : Fault) (rest : List Fault) → held ≡ fault ∷ rest → AreHeldPages held → IsPage fault.page
held_page held fault rest is are = (subst AreHeldPages is are).0

pub source_wakes : (cpus : ℕ) (world : World) (addr : ℕ) → IsBounded cpus world → HasFaultsInside world → outcome world Step.SourceAct ≡ Ok (Effect.Woke addr) → IsWake world.source.guest (next world Step.SourceAct).source.guest addr
source_wakes cpus world addr all faults answered =
    holds-effect (λ effect new. effect ≡ Effect.Woke addr → IsWake world.source.guest new.source.guest addr) world Step.SourceAct (Effect.Woke addr)
    (holds-made _ world Step.SourceAct (λ fault rest is started unswitched quiet h.
    let told = told_woke (source_act world.source fault) (4096 * fault.page) addr h in
    let made = wake_made world.source.guest fault.page (source_open cpus world all unswitched).enabled (held_page world.source.log.held fault rest is faults.source_held) in
    subst (λ a. IsWake world.source.guest (after_source_act world fault).source.guest a) told.1
    (subst (λ act. IsWake world.source.guest (source_acted_by act world.source fault.page).guest (4096 * fault.page)) (sym told.0) made))) answered refl

pub source_forgets : (cpus : ℕ) (world : World) (addr : ℕ) → IsBounded cpus world → HasFaultsInside world → outcome world Step.SourceAct ≡ Ok (Effect.Forgot addr) → IsWake world.source.guest (next world Step.SourceAct).source.guest addr
source_forgets cpus world addr all faults answered =
    holds-effect (λ effect new. effect ≡ Effect.Forgot addr → IsWake world.source.guest new.source.guest addr) world Step.SourceAct (Effect.Forgot addr)
    (holds-made _ world Step.SourceAct (λ fault rest is started unswitched quiet h.
    let told = told_forgot (source_act world.source fault) (4096 * fault.page) addr h in
    let made = wake_made world.source.guest fault.page (source_open cpus world all unswitched).enabled (held_page world.source.log.held fault rest is faults.source_held) in
    subst (λ a. IsWake world.source.guest (after_source_act world fault).source.guest a) told.1
    (subst (λ act. IsWake world.source.guest (source_acted_by act world.source fault.page).guest (4096 * fault.page)) (sym told.0) made))) answered refl

pub destination_wakes : (cpus : ℕ) (world : World) (addr : ℕ) → IsBounded cpus world → HasFaultsInside world → outcome world Step.DestAct ≡ Ok (Effect.Woke addr) → IsWake world.destination.guest (next world Step.DestAct).destination.guest addr
destination_wakes cpus world addr all faults answered =
    holds-effect (λ effect new. effect ≡ Effect.Woke addr → IsWake world.destination.guest new.destination.guest addr) world Step.DestAct (Effect.Woke addr)
    (holds-made _ world Step.DestAct (λ fault rest is ran quiet h.
    let told = told_woke (destination_act world.destination fault) (4096 * fault.page) addr h in
    let made = wake_made world.destination.guest fault.page (all.opened.destination ran).enabled (held_page world.destination.held fault rest is faults.destination_held) in
    subst (λ a. IsWake world.destination.guest (destination_acted_by (destination_act world.destination fault) world.destination fault.page).guest a) told.1
    (subst (λ act. IsWake world.destination.guest (destination_acted_by act world.destination fault.page).guest (4096 * fault.page)) (sym told.0) made))) answered refl

pub destination_forgets : (cpus : ℕ) (world : World) (addr : ℕ) → IsBounded cpus world → HasFaultsInside world → outcome world Step.DestAct ≡ Ok (Effect.Forgot addr) → IsWake world.destination.guest (next world Step.DestAct).destination.guest addr
destination_forgets cpus world addr all faults answered =
    holds-effect (λ effect new. effect ≡ Effect.Forgot addr → IsWake world.destination.guest new.destination.guest addr) world Step.DestAct (Effect.Forgot addr)
    (holds-made _ world Step.DestAct (λ fault rest is ran quiet h.
    let told = told_forgot (destination_act world.destination fault) (4096 * fault.page) addr h in
    let made = wake_made world.destination.guest fault.page (all.opened.destination ran).enabled (held_page world.destination.held fault rest is faults.destination_held) in
    subst (λ a. IsWake world.destination.guest (destination_acted_by (destination_act world.destination fault) world.destination fault.page).guest a) told.1
    (subst (λ act. IsWake world.destination.guest (destination_acted_by act world.destination fault.page).guest (4096 * fault.page)) (sym told.0) made))) answered refl

-- Send

pub some_bound : (count : ℕ) → 0 < run_bound count
some_bound count = grind (arith, nat_tests)

pub last_in : (first number : ℕ) → 0 < number → in_range first number (first + (number - 1)) ≡ true
last_in first number h = grind (arith, nat_tests)

pub first_in : (first number : ℕ) → 0 < number → in_range first number first ≡ true
first_in first number h = grind (arith, nat_tests)

pub end_below : (first number : ℕ) → 0 < number → first + (number - 1) < HIGH_PAGE → first + number ≤ HIGH_PAGE
end_below first number h l = omega (arith, h, l)

pub one_is_protect : is_one 1 0 ≡ true
unfolding is_one
one_is_protect = refl

told_page : (zeros : Bool) (a b : ℕ) → (if zeros then Effect.SentZero a else Effect.SentPage a) ≡ Effect.SentPage b → a ≡ b
told_page zeros a b h = grind (arith, nat_tests)

told_zero : (zeros : Bool) (a b : ℕ) → (if zeros then Effect.SentZero a else Effect.SentPage a) ≡ Effect.SentZero b → a ≡ b
told_zero zeros a b h = grind (arith, nat_tests)

-- the page that is sent is protected, as it is found
sent_protected : (cpus : ℕ) (world : World) (page : ℕ) → IsBounded cpus world → least_of world.source.log.todo ≡ Some page → is_precopy world.source.phase ≡ true → ltb 0 (length (space_of world.source).object.events) ≡ false →
    IsWriteProtect world.source.guest (record world.source.guest { space = protected_in (space_of world.source) page 1 true }) (4096 * page) 4096 1 Nobody
sent_protected cpus world page all found precopy quiet =
    let space = space_of world.source in
    let kept = all.ready.kept in
    let unswitched = precopy_unswitched world.source.phase world.source.switched precopy kept.phases.source_phase in
    let watched =
    (kept.precopy.todo_sendable unswitched page (least_below_tells (contains world.source.log.todo) HIGH_PAGE page found) (ap (λ events. is_unread events page) (no_event space.object.events quiet))).1 in
    let mapped = kept.spaces.source_space.mapped page (or_right (contains space.object.missing page) (contains space.object.protect page) watched) in
    write_protect_made world.source.guest (record world.source.guest { space = protected_in space page 1 true }) page 1 true (record { enabled = (source_open cpus world all unswitched).enabled; quiet = quiet; inside = all.mapped.pages page mapped }) watched refl one_is_protect refl refl

pub page_protected : (cpus : ℕ) (world : World) (addr : ℕ) → IsBounded cpus world → outcome world Step.Send ≡ Ok (Effect.SentPage addr) → IsWriteProtect world.source.guest (next world Step.Send).source.guest addr 4096 1 Nobody
page_protected cpus world addr all answered =
    holds-effect (λ effect new. effect ≡ Effect.SentPage addr → IsWriteProtect world.source.guest new.source.guest addr 4096 1 Nobody) world Step.Send (Effect.SentPage addr)
    (holds-made _ world Step.Send (λ page is precopy up quiet h.
    subst (λ a. IsWriteProtect world.source.guest (record world.source.guest { space = protected_in (space_of world.source) page 1 true }) a 4096 1 Nobody) (told_page (is_zeros (bytes_of world.source page)) (4096 * page) addr h) (sent_protected cpus world page all is precopy quiet)))
    answered refl

pub zero_protected : (cpus : ℕ) (world : World) (addr : ℕ) → IsBounded cpus world → outcome world Step.Send ≡ Ok (Effect.SentZero addr) → IsWriteProtect world.source.guest (next world Step.Send).source.guest addr 4096 1 Nobody
zero_protected cpus world addr all answered =
    holds-effect (λ effect new. effect ≡ Effect.SentZero addr → IsWriteProtect world.source.guest new.source.guest addr 4096 1 Nobody) world Step.Send (Effect.SentZero addr)
    (holds-made _ world Step.Send (λ page is precopy up quiet h.
    subst (λ a. IsWriteProtect world.source.guest (record world.source.guest { space = protected_in (space_of world.source) page 1 true }) a 4096 1 Nobody) (told_zero (is_zeros (bytes_of world.source page)) (4096 * page) addr h) (sent_protected cpus world page all is precopy quiet)))
    answered refl

-- the pages of a run are protected together, as they are found
run_watched : (world : World) (first bound : ℕ) → IsSoundWorld world → is_precopy world.source.phase ≡ true → ltb 0 (length (space_of world.source).object.events) ≡ false → (q : ℕ) → in_range first (run_length world.source.log.todo first bound) q ≡ true →
    contains (space_of world.source).object.protect q ≡ true
run_watched world first bound kept precopy quiet q h = grind (arith, nat_tests, member_run, no_event)

abbrev run_guest : World → ℕ → ℕ → Guest
run_guest world first number = record world.source.guest { space = protected_in (space_of world.source) first number true }

sent_run_protected : (cpus : ℕ) (world : World) (first bound : ℕ) → IsBounded cpus world → least_of world.source.log.todo ≡ Some first → 0 < bound → is_precopy world.source.phase ≡ true → ltb 0 (length (space_of world.source).object.events) ≡ false →
    let number = run_length world.source.log.todo first bound in
    IsWriteProtect world.source.guest (run_guest world first number) (4096 * first) (4096 * number) 1 Nobody
sent_run_protected cpus world first bound all found some precopy quiet =
    let space = space_of world.source in
    let kept = all.ready.kept in
    let todo = world.source.log.todo in
    let number = run_length todo first bound in
    let more = run_length-some todo first bound (least_below_tells (contains todo) HIGH_PAGE first found) some in
    let watched = run_watched world first bound kept precopy quiet in
    let inside : (q : ℕ) → in_range first number q ≡ true → IsPage q = λ q h. all.mapped.pages q (kept.spaces.source_space.mapped q (or_right (contains space.object.missing q) (contains space.object.protect q) (watched q h))) in
    let unswitched = precopy_unswitched world.source.phase world.source.switched precopy kept.phases.source_phase in
    range_protect_made world.source.guest (run_guest world first number) first number 1 true (source_open cpus world all unswitched).enabled quiet more (inside first (first_in first number more)).0
    (end_below first number more (inside (first + (number - 1)) (last_in first number more)).1) watched refl one_is_protect refl refl

told_run : (a b m n : ℕ) → Effect.SentRun a m ≡ Effect.SentRun b n → (a ≡ b) × (m ≡ n)
told_run a b m n h = (cc, cc)

pub run_protected : (cpus : ℕ) (world : World) (count addr pages : ℕ) → IsBounded cpus world → outcome world (Step.SendRun count) ≡ Ok (Effect.SentRun addr pages) →
    IsWriteProtect world.source.guest (next world (Step.SendRun count)).source.guest addr (4096 * pages) 1 Nobody
run_protected cpus world count addr pages all answered =
    holds-effect (λ effect new. effect ≡ Effect.SentRun addr pages → IsWriteProtect world.source.guest new.source.guest addr (4096 * pages) 1 Nobody) world (Step.SendRun count) (Effect.SentRun addr pages)
    (holds-made _ world (Step.SendRun count) (λ first number is many precopy up quiet h.
    let told = told_run (4096 * first) addr number pages h in
    let made = subst (λ n. IsWriteProtect world.source.guest (run_guest world first n) (4096 * first) (4096 * n) 1 Nobody) (sym many) (sent_run_protected cpus world first (run_bound count) all is (some_bound count) precopy quiet) in
    subst (λ n. IsWriteProtect world.source.guest (run_guest world first number) addr (4096 * n) 1 Nobody) told.1
    (subst (λ a. IsWriteProtect world.source.guest (run_guest world first number) a (4096 * number) 1 Nobody) told.0 made)))
    answered refl

-- The destination's handler, and Install

pub destination_zeroes : (cpus : ℕ) (world : World) (addr : ℕ) → IsBounded cpus world → outcome world Step.DestAct ≡ Ok (Effect.Zeroed addr) → IsZeroPage world.destination.guest (next world Step.DestAct).destination.guest addr
destination_zeroes cpus world addr all answered =
    holds-effect (λ effect new. effect ≡ Effect.Zeroed addr → IsZeroPage world.destination.guest new.destination.guest addr) world Step.DestAct (Effect.Zeroed addr)
    (holds-made _ world Step.DestAct (λ fault rest is ran quiet h.
    let space = world.destination.guest.space in
    let told = told_zeroed (destination_act world.destination fault) (4096 * fault.page) addr h in
    let there = not_forgotten space fault.page (destination_served (is_forgotten space fault.page) (is_present space fault.page) (get world.destination.owed fault.page) told.0) in
    let made =
    zero_page_made world.destination.guest fault.page (record { enabled = (all.opened.destination ran).enabled; quiet = quiet; inside = (has_memory cpus world all).destination.pages fault.page there.0 }) there.0 there.1
    (destination_zero world fault told.0) in
    subst (λ a. IsZeroPage world.destination.guest (destination_acted_by (destination_act world.destination fault) world.destination fault.page).guest a) told.1
    (subst (λ act. IsZeroPage world.destination.guest (destination_acted_by act world.destination fault.page).guest (4096 * fault.page)) (sym told.0) made))) answered refl

told_installed : (o : Option ℕ) (origin addr source : ℕ) → install_effect o origin ≡ Effect.Installed addr source → (page : ℕ) × (o ≡ Some page) × (4096 * page ≡ addr)
told_installed o origin addr source h = grind (arith, nat_tests)

-- a page was put by UFFDIO_COPY, or by UFFDIO_ZEROPAGE where it is a page of zeros
abbrev pub IsPlaced : Guest → Guest → ℕ → List ℕ → Type 0
IsPlaced old new addr bytes = IsCopy old new addr bytes × (bytes ≡ zero_page → IsZeroPage old new addr)

-- the copy goes where its page is owed: that is registered and missing, and the copy is a whole page
home_copied : (cpus : ℕ) (world : World) (copy : Copy) (rest : List Copy) (page : ℕ) → IsBounded cpus world → world.destination.has_run ≡ true → world.destination.arrivals ≡ copy ∷ rest → ltb 0 (length world.destination.guest.space.object.events) ≡ false →
    home world.destination.owed copy.page ≡ Some page → IsPlaced world.destination.guest (install_by (Some page) world.destination copy rest).guest (4096 * page) copy.bytes
home_copied cpus world copy rest page all ran first quiet found =
    let space = world.destination.guest.space in
    let kept = all.ready.kept in
    let alone = kept.owing.pairs_missing page copy.page (ap (λ events. settled_by events (get world.destination.owed) page) (no_event space.object.events quiet) ∙ home_tells world.destination.owed copy.page page found) in
    let faithful : AreFaithful (space_of world.source).host.bytes (copy ∷ rest) = subst (AreFaithful (space_of world.source).host.bytes) first (kept.owing.arrivals_faithful ran) in
    let registered : is_registered space.object page ≡ true = or_left (contains space.object.missing page) (contains space.object.protect page) alone.0 in
    let mapped = kept.spaces.destination_space.mapped page registered in
    let called : IsCalled space page = record { enabled = (all.opened.destination ran).enabled; quiet = quiet; inside = (has_memory cpus world all).destination.pages page mapped } in (
      copy_made world.destination.guest page copy.bytes called mapped registered alone.1 (kept.spaces.source_space.host.whole copy.page copy.bytes faithful.0),
      λ zeros. subst (λ bytes. IsZeroPage world.destination.guest (resolved world.destination.guest page (installed space page 1 (λ i. bytes) false)) (4096 * page)) (sym zeros) (zero_page_made world.destination.guest page called mapped registered alone.1),
    )

same_first : (one other : Copy) (rest more : List Copy) → one ∷ rest ≡ other ∷ more → one ≡ other
same_first one other rest more h = cc

pub copy_installed : (cpus : ℕ) (world : World) (copy : Copy) (rest : List Copy) (addr source : ℕ) → IsBounded cpus world → world.destination.arrivals ≡ copy ∷ rest → outcome world Step.Install ≡ Ok (Effect.Installed addr source) →
    IsPlaced world.destination.guest (next world Step.Install).destination.guest addr copy.bytes
copy_installed cpus world copy rest addr source all first answered =
    holds-effect (λ effect new. effect ≡ Effect.Installed addr source → IsPlaced world.destination.guest new.destination.guest addr copy.bytes) world Step.Install (Effect.Installed addr source)
    (holds-made _ world Step.Install (λ one more is ran quiet h.
    let told = told_installed (home world.destination.owed one.page) one.page addr source h in
    let made = home_copied cpus world one more told.0 all ran is quiet told.1 in
    subst (λ bytes. IsPlaced world.destination.guest (after_install world one more).destination.guest addr bytes) (ap (λ c. c.bytes) (same_first one copy more rest (sym is ∙ first)))
    (subst (λ a. IsPlaced world.destination.guest (after_install world one more).destination.guest a one.bytes) told.2
    (subst (λ o. IsPlaced world.destination.guest (install_by o world.destination one more).guest (4096 * told.0) one.bytes) (sym told.1) made)))) answered refl

-- Registration

both_modes : mode_of 3 ≡ for_both
unfolding is_one
both_modes = refl

pub missing_mode : mode_of 1 ≡ for_missing
unfolding is_one
missing_mode = refl

all_events : (is_one all_features 2 && is_one all_features 3 && is_one all_features 6) ≡ true
unfolding is_one
all_events = refl

asked_events : (is_one event_features 2 && is_one event_features 3 && is_one event_features 6) ≡ true
unfolding is_one
asked_events = refl

known_features : has_unknown is_feature event_features ≡ false
unfolding is_one none_below
known_features = refl

can_register : (object : Object) (features : ℕ) → IsOpen object features → (is_one features 2 && is_one features 3 && is_one features 6) ≡ true → CanRegister object
can_register object features opened events = record { enabled = opened.enabled; events = ap (λ f. is_one f 2 && is_one f 3 && is_one f 6) opened.asked ∙ events }

-- the source registers its areas in both modes
both_registered : (space : Space) (runs : List Run) → IsSoundSpace space → IsOpen space.object all_features → IsMapping space.host.areas → AreRunsOf space.host.areas runs → AreRegistered space (registered_in space 0 HIGH_PAGE for_both) runs 3
both_registered space runs sound opened mapping are =
    subst (λ new. AreRegistered space new runs 3) (ap (registered_by space (λ page. contains_key space.host.areas page)) both_modes ∙ every_registered space for_both sound)
    (areas_registered space runs 3 sound (can_register space.object all_features opened all_events) refl mapping are)

pub start_registers : (cpus : ℕ) (world : World) (runs : List Run) → IsBounded cpus world → IsOk (outcome world Step.Start) → AreRunsOf (space_of world.source).host.areas runs → AreRegistered (space_of world.source) (space_of (next world Step.Start).source) runs 3
start_registers cpus world runs all ok are =
    leaves-ok (λ new. AreRegistered (space_of world.source) (space_of new.source) runs 3) world Step.Start
    (holds-made _ world Step.Start (λ idle unused. both_registered (space_of world.source) runs all.ready.kept.spaces.source_space (all.opened.source (idle_unreleased world.source.phase idle)) all.mapped are)) ok

pub round_registers : (cpus : ℕ) (world : World) (runs : List Run) → IsBounded cpus world → IsOk (outcome world Step.Round) → AreRunsOf (space_of world.source).host.areas runs → AreRegistered (space_of world.source) (space_of (next world Step.Round).source) runs 3
round_registers cpus world runs all ok are =
    leaves-ok (λ new. AreRegistered (space_of world.source) (space_of new.source) runs 3) world Step.Round
    (holds-made _ world Step.Round (λ precopy quiet.
    both_registered (space_of world.source) runs all.ready.kept.spaces.source_space (source_open cpus world all (precopy_unswitched world.source.phase world.source.switched precopy all.ready.kept.phases.source_phase)) all.mapped are)) ok

-- The run of the destination

neither : {A : Type 0} (one other : Bool) → one ≡ false → other ≡ false → (one || other) ≡ true → A
neither one other a b h = grind (arith, nat_tests)

abbrev opened_space : Host → Space
opened_space host = record fresh_space { host = host; object = enabled_with fresh_object event_features }

opened_sound : (host : Host) → IsSound host → IsSoundSpace (opened_space host)
opened_sound host sound =
    record {
      host = sound;
      mapped = λ page h. neither (contains no_pages page) (contains no_pages page) (contains-empty nat_cmp page) (contains-empty nat_cmp page) h;
      present = λ page h. no_page page h;
      watched = λ page h. no_page page h;
    }

handshake_accepted : (host : Host) → handshake_error (record fresh_space { host = host }) 170 event_features ≡ None
handshake_accepted host = ap (λ unknown. if unknown then Some Einval else None) known_features

handshake_opens : (host : Host) → handshaken (record fresh_space { host = host }) 170 event_features ≡ opened_space host
handshake_opens host = left_new (handshake_error (record fresh_space { host = host }) 170 event_features) (record fresh_space { host = host }) (opened_space host) (handshake_accepted host)

nothing_protected : (protect : Bool) (test : ℕ → Bool) → pages_where (λ page. contains no_pages page && test page) ≡ no_pages
nothing_protected protect test = nothing_below (λ page. contains no_pages page && test page) HIGH_PAGE (λ page l. ap (λ b. b && test page) (contains-empty nat_cmp page))

-- the space with which it runs is one whose object was opened for events, and whose areas were registered for missing faults
assembled_watched : (host : Host) (runs : List Run) → IsSound host → IsMapping host.areas → AreRunsOf host.areas runs → AreWatched host (assembled host.areas host.bytes) runs event_features 1
assembled_watched host runs sound mapping are =
    let opened = opened_space host in
    let same : registered_by opened (λ page. contains_key host.areas page) (mode_of 1) ≡ assembled host.areas host.bytes =
    ap (registered_by opened (λ page. contains_key host.areas page)) missing_mode
    ∙ ap (λ protected. record (assembled host.areas host.bytes) { protected = protected })
    (nothing_protected true (λ page. for_missing.protect || has_modes opened.object page for_missing || not (contains_key host.areas page))) in
    record {
      handshake = handshake_accepted host;
      areas = subst (λ space. AreRegistered space (assembled host.areas host.bytes) runs 1) (sym (handshake_opens host))
          (subst (λ new. AreRegistered opened new runs 1) same
          (areas_registered opened runs 1 (opened_sound host sound) (can_register opened.object event_features (record { enabled = refl; asked = refl }) asked_events) refl mapping are));
    }

abbrev IsAssembled : World → Type 0
IsAssembled new = new.destination.guest.space ≡ assembled new.destination.guest.space.host.areas new.destination.guest.space.host.bytes

frame_assembles : (frame : Frame) (epoch : ℕ) (rest : List Sent) (world : World) (count : ℕ) → frame_effect frame ≡ Effect.TookPackage count → IsAssembled (after_deliver world (record { epoch = epoch; frame = frame }) rest)
frame_assembles frame epoch rest world count h = grind (arith, nat_tests)

no_package : (n count : ℕ) → Effect.Moved n ≡ Effect.TookPackage count → ⊥
no_package n count h = cc

run_assembles : (world : World) (n count : ℕ) → outcome world (Step.Deliver n) ≡ Ok (Effect.TookPackage count) → IsAssembled (next world (Step.Deliver n))
run_assembles world n count answered =
    holds-effect (λ effect new. effect ≡ Effect.TookPackage count → IsAssembled new) world (Step.Deliver n) (Effect.TookPackage count)
    (holds-made _ world (Step.Deliver n) ((λ sent rest is short h. absurd (no_package n count h)), (λ sent rest is full started up free early h. frame_assembles sent.frame sent.epoch rest world count h))) answered refl

pub run_registers : (cpus : ℕ) (world : World) (n count : ℕ) (runs : List Run) → IsBounded cpus world → outcome world (Step.Deliver n) ≡ Ok (Effect.TookPackage count) → AreRunsOf (next world (Step.Deliver n)).destination.guest.space.host.areas runs →
    AreWatched (next world (Step.Deliver n)).destination.guest.space.host (next world (Step.Deliver n)).destination.guest.space runs event_features 1
run_registers cpus world n count runs all answered are =
    let new = bounded-next cpus world (Step.Deliver n) all in
    let host = (next world (Step.Deliver n)).destination.guest.space.host in
    subst (λ space. AreWatched host space runs event_features 1) (sym (run_assembles world n count answered)) (assembled_watched host runs new.ready.kept.spaces.destination_space.host (has_memory cpus _ new).destination are)
