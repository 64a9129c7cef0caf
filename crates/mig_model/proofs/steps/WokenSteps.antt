-- A step that tries no command and reads no message changes no processor, but that it may wake some, and hands over no reply; nor does a
-- frame that the destination takes, unless it is the Package.
use Rattle.std.proofs.lemmas.Bool.Decides.{nat_tests}
use Rattle.std.proofs.Common.{◌≡◌, ℕ, ◌*◌, Bool, true, false, eqb, Option, Some, None, List, [], ◌∷◌, refl, ap, ◌∙◌, length, if◌then◌else◌, arith}
use lib.ListN.{length-map}
use Rattle.foundation.specs.declared.TheConstants.{PAGE_SIZE}
use Rattle.mig_base.specs.declared.cpu_state.CpuState.{CpuState}
use Rattle.mig_base.specs.declared.effect.Effect.{Effect}
use Rattle.mig_base.specs.declared.phase.SourcePhase.{SourcePhase}
use Rattle.mig_base.specs.declared.schedule.Side.{Side}
use Rattle.mig_base.specs.declared.schedule.Step.{Step}
use Rattle.mig_model.specs.Cpus.{all_woken, woken_if}
use Rattle.mig_base.specs.declared.act.Act.{Act}
use Rattle.mig_model.specs.Guest.{Guest}
use Rattle.mig_base.specs.declared.act.Act.TheVariants.{Unprotected, Requested}
use Rattle.mig_model.specs.Wire.{Copy, Frame, Sent, is_zeros}
use Rattle.mig_model.specs.Owed.{home}
use Rattle.mig_model.specs.Source.{Source, bytes_of, is_stopped, source_act, source_acted_by, source_took, space_of}
use Rattle.mig_model.specs.Destination.{Destination, destination_act, destination_acted_by, destination_took, install_by, urgent_took}
use Rattle.mig_model.specs.Migration.{Made, World, answer, guest_of, next}
use Rattle.mig_base.specs.Acts.{act_effect}
use Rattle.mig_model.specs.Effects.{frame_effect, install_effect}
use Rattle.mig_model.proofs.steps.StepWorlds.{after_deliver}
use Rattle.mig_model.specs.Whereabouts.{is_package}
use Rattle.mig_model.specs.Promises.{AreFaults}
use Rattle.mig_model.specs.Invariant.{IsSoundWorld, SwitchedAt}
use Rattle.mig_model.specs.Promises.{is_last}
use Rattle.mig_model.proofs.memory.Facts.{none_absurd}
use Rattle.mig_model.proofs.delivery.FramesTaken.{is_taken_back}
use Rattle.mig_model.proofs.steps.StepCases.{Makes, holds-made}
use Rattle.mig_model.proofs.steps.StepLemmas.{Holds, holds-map, leaves-next}
use Rattle.mig_model.proofs.delivery.Taken.{IsInPlaceBack}

-- the second are the first, some of them woken
pub record IsWoken (old new : List CpuState) : Type 0 where
  pub test : ℕ → Bool
  pub is : new ≡ all_woken test old

-- the processors of a guest, whose unread events stay
pub record Wakes (old new : Guest) : Type 0 where
  pub woken : IsWoken old.cpus new.cpus
  pub events : new.space.object.events ≡ old.space.object.events
  pub faults : AreFaults old.space.object.faults → AreFaults new.space.object.faults

pub record WakesNode (old new : Destination) : Type 0 where
  pub guest : Wakes old.guest new.guest
  pub ran : new.has_run ≡ old.has_run

-- so with a destination that takes a frame, which owes and has asked for the same pages
pub record TakesFrame (old new : Destination) : Type 0 where
  pub node : WakesNode old new
  pub owed : new.owed ≡ old.owed
  pub requests : new.requests ≡ old.requests

pub record WakesBoth (old new : World) : Type 0 where
  pub source : Wakes old.source.guest new.source.guest
  pub node : WakesNode old.destination new.destination
  pub transcript : new.transcript ≡ old.transcript

still_asleep : (p : CpuState) → p ≡ woken_if (λ q. false) p
still_asleep p = grind (arith, nat_tests)

none_woken : (ps : List CpuState) → ps ≡ all_woken (λ q. false) ps
none_woken [] = refl
none_woken (p ∷ ps) = grind (arith, nat_tests, still_asleep, none_woken ps)

still : (ps : List CpuState) → IsWoken ps ps
still ps = record { test = λ q. false; is = none_woken ps }

some_woken : (test : ℕ → Bool) (ps : List CpuState) → IsWoken ps (all_woken test ps)
some_woken test ps = record { test = test; is = refl }

pub woken_many : (old new : List CpuState) → IsWoken old new → length new ≡ length old
woken_many old new w = ap length w.is ∙ length-map old (woken_if w.test)

pub guest_woken : (old new : World) → WakesBoth old new → IsWoken (guest_of old).cpus (guest_of new).cpus
guest_woken old new w = grind (arith, nat_tests)

-- Nodes

acts : (act : Act) (node : Source) (page : ℕ) → Wakes node.guest (source_acted_by act node page).guest
acts Unprotected node page = assumption (some_woken (λ q. eqb q page) node.guest.cpus)
acts _ node page = assumption (some_woken (λ q. eqb q page) node.guest.cpus)

pub handles : (act : Act) (node : Destination) (page : ℕ) → WakesNode node (destination_acted_by act node page)
handles (Requested origin) node page = assumption (still node.guest.cpus)
handles _ node page = assumption (some_woken (λ q. eqb q page) node.guest.cpus)

pub installs : (o : Option ℕ) (node : Destination) (copy : Copy) (rest : List Copy) → WakesNode node (install_by o node copy rest)
installs None node copy rest = assumption (still node.guest.cpus)
installs (Some page) node copy rest = assumption (some_woken (λ q. eqb q page) node.guest.cpus)

pub takes : (frame : Frame) (node : Destination) (epoch : ℕ) → is_package frame ≡ false → TakesFrame node (destination_took node epoch frame)
takes frame node epoch h = grind (arith, nat_tests, still)

pub takes_urgent : (frame : Frame) (node : Destination) → TakesFrame node (urgent_took node frame)
takes_urgent frame node = grind (arith, nat_tests, still)

-- a source that takes the last frame has no unread event
takes_back : (frame : Frame) (node : Source) → (is_last frame ≡ true → (space_of node).object.events ≡ []) → Wakes node.guest (source_took node frame).guest
takes_back frame node quiet = grind (arith, nat_tests, still)

pub stopped_switched : (phase : SourcePhase) (switched : Bool) → is_stopped phase ≡ true → SwitchedAt phase switched → switched ≡ true
stopped_switched phase switched h at = grind (arith, nat_tests)

last_switched : (frame : Frame) (world : World) → IsSoundWorld world → IsInPlaceBack world.source frame → is_last frame ≡ true → world.source.switched ≡ true
last_switched frame world kept place h = grind (arith, nat_tests)

-- Effects that hand no reply over

abbrev pub is_last_read : Effect → Bool
is_last_read (Effect.ReadLast event cpu reply) = true
is_last_read effect = false

page_not_last : (zeros : Bool) (addr : ℕ) → is_last_read (if zeros then Effect.SentZero addr else Effect.SentPage addr) ≡ false
page_not_last zeros addr = grind (arith, nat_tests)

act_not_last : (act : Act) (addr : ℕ) → is_last_read (act_effect act addr) ≡ false
act_not_last act addr = grind (arith, nat_tests)

pub frame_not_last : (frame : Frame) → is_last_read (frame_effect frame) ≡ false
frame_not_last frame = grind (arith, nat_tests)

install_not_last : (o : Option ℕ) (origin : ℕ) → is_last_read (install_effect o origin) ≡ false
install_not_last o origin = grind (arith, nat_tests)

-- Steps

abbrev pub is_quiet : Step → Bool
is_quiet (Step.Issue cpu command) = false
is_quiet (Step.Retry cpu) = false
is_quiet Step.SourceRead = false
is_quiet Step.DestRead = false
is_quiet (Step.Deliver n) = false
is_quiet step = true

abbrev pub IsQuiet : World → Made → Type 0
IsQuiet world made = WakesBoth world made.world × (is_last_read made.effect ≡ false)

quiet_by : (world : World) (step : Step) → IsSoundWorld world → is_quiet step ≡ true → IsWoken world.source.guest.cpus world.source.guest.cpus → IsWoken world.destination.guest.cpus world.destination.guest.cpus → Makes (IsQuiet world) world step
quiet_by world (Step.Issue cpu command) kept h here there = none_absurd h
quiet_by world (Step.Retry cpu) kept h here there = none_absurd h
quiet_by world Step.SourceRead kept h here there = none_absurd h
quiet_by world Step.DestRead kept h here there = none_absurd h
quiet_by world (Step.Deliver n) kept h here there = none_absurd h
quiet_by world Step.Send kept h here there = λ page is precopy up quiet. assumption (page_not_last (is_zeros (bytes_of world.source page)) (PAGE_SIZE * page))
quiet_by world Step.SourceAct kept h here there =
    λ fault rest is started unswitched quiet. assumption (acts (source_act world.source fault) world.source fault.page, act_not_last (source_act world.source fault) (PAGE_SIZE * fault.page))
quiet_by world (Step.DeliverBack n) kept h here there = (
  (assumption),
  (λ sent rest is full started up.
      let ended = takes_back sent.frame world.source (λ last. kept.phases.source_quiet (last_switched sent.frame world kept (is_taken_back world sent rest kept up is) last)) in
      assumption (frame_not_last sent.frame)),
)
quiet_by world Step.DestAct kept h here there =
    λ fault rest is ran quiet. assumption (handles (destination_act world.destination fault) world.destination fault.page, act_not_last (destination_act world.destination fault) (PAGE_SIZE * fault.page))
quiet_by world Step.Install kept h here there =
    λ copy rest is ran quiet.
    let found = home world.destination.owed copy.page in
    assumption (installs found world.destination copy rest, install_not_last found copy.page)
quiet_by world (Step.Push ticket) kept h here there = λ stopped up own present remains. assumption (page_not_last (is_zeros (bytes_of world.source ticket.page)) (PAGE_SIZE * ticket.page))
quiet_by world (Step.PushUrgent ticket) kept h here there = λ stopped up own present remains. assumption (page_not_last (is_zeros (bytes_of world.source ticket.page)) (PAGE_SIZE * ticket.page))
quiet_by world (Step.DeliverUrgent n) kept h here there = ((assumption), (λ sent rest is full ran up. assumption ((takes_urgent sent.frame world.destination).node, frame_not_last sent.frame)))
quiet_by world (Step.Notice Side.Source) kept h here there = assumption
quiet_by world _ kept h here there = assumption

pub quiet : (world : World) (step : Step) → IsSoundWorld world → is_quiet step ≡ true → Holds (IsQuiet world) (answer world step)
quiet world step kept h = holds-made _ world step (quiet_by world step kept h (still world.source.guest.cpus) (still world.destination.guest.cpus))

pub wakes-next : (world : World) (step : Step) → IsSoundWorld world → is_quiet step ≡ true → WakesBoth world (next world step)
wakes-next world step kept h =
    leaves-next (WakesBoth world) world step (assumption (still world.source.guest.cpus, still world.destination.guest.cpus)) (holds-map (IsQuiet world) _ (answer world step) (λ made w. w.0) (quiet world step kept h))

-- a frame that the destination takes
pub wakes-taken : (world : World) (sent : Sent) (rest : List Sent) → is_package sent.frame ≡ false → WakesBoth world (after_deliver world sent rest)
wakes-taken world sent rest h = assumption (still world.source.guest.cpus, (takes sent.frame world.destination sent.epoch h).node)
