-- The userfault objects stay enabled, with the features that were asked for.
use Rattle.std.proofs.lemmas.Bool.Decides.{nat_tests}
use Rattle.std.proofs.Common.{◌≡◌, ℕ, Bool, true, false, Option, List, [], ◌∷◌, refl, ◌∙◌, arith}
use Rattle.std.proofs.lemmas.Bool.{false≢true}
use Rattle.mig_base.specs.declared.command.Access.{Access}
use Rattle.mig_base.specs.declared.command.Command.{Command}
use Rattle.mig_base.specs.declared.command.Reply.{Reply}
use Rattle.mig_base.specs.declared.message.Message.{Message}
use Rattle.mig_base.specs.declared.phase.SourcePhase.{SourcePhase}
use Rattle.mig_base.specs.declared.schedule.Side.{Side}
use Rattle.mig_base.specs.declared.schedule.Step.{Step}
use Rattle.mig_base.specs.Commands.{is_access}
use Rattle.mig_base.specs.Flat.{reply_of}
use Rattle.mig_model.specs.Host.{memory}
use Rattle.mig_base.specs.Userfault.{Object, event_queued}
use Rattle.mig_model.specs.Space.{Space, access_of, accessed_by, all_queued, call_messages, modes_after}
use Rattle.mig_model.specs.Ioctls.{all_features, event_features}
use Rattle.mig_base.specs.declared.act.Act.{Act}
use Rattle.mig_model.specs.Guest.{Guest, read_guest, space_by, tried}
use Rattle.mig_model.specs.Owed.{home}
use Rattle.mig_model.specs.Wire.{Copy, Frame}
use Rattle.mig_model.specs.Source.{is_precopy, is_released, is_source_idle, source_act, source_acted_by, source_took, space_of}
use Rattle.mig_model.specs.Destination.{destination_act, destination_acted_by, destination_took, install_by, urgent_took}
use Rattle.mig_model.specs.Migration.{World, answer, first_world_with, guest_by, next, with_guest_by}
use Rattle.mig_model.specs.Invariant.{IsSoundWorld}
use Rattle.mig_model.proofs.delivery.Taken.{IsInPlaceBack}
use Rattle.mig_model.proofs.delivery.FramesTaken.{is_taken_back}
use Rattle.mig_model.proofs.steps.StepCases.{holds-made}
use Rattle.mig_model.proofs.steps.StepLemmas.{Leaves, leaves-next}

-- an object that is enabled, with these features
pub record IsOpen (object : Object) (features : ℕ) : Type 0 where
  pub enabled : object.enabled ≡ true
  pub asked : object.features ≡ features

-- One object

events_open : (object : Object) (messages : List Message) (cpu features : ℕ) → IsOpen object features → IsOpen (all_queued object messages cpu) features
events_open object [] cpu features open_one = open_one
events_open object (message ∷ messages) cpu features open_one = events_open (event_queued object message cpu) messages cpu features (record { enabled = open_one.enabled; asked = open_one.asked })

modes_open : (object : Object) (command : Command) (reply : Reply) (features : ℕ) → IsOpen object features → IsOpen (modes_after object command reply) features
modes_open object command reply features open_one = grind (arith, nat_tests)

accessed_open : (access : Access) (space : Space) (cpu : ℕ) (command : Command) (features : ℕ) → IsOpen space.object features → IsOpen (accessed_by access space cpu command).object features
accessed_open access space cpu command features open_one = grind (arith, nat_tests)

tried_open : (access : Bool) (space : Space) (cpu : ℕ) (command : Command) (features : ℕ) → IsOpen space.object features → IsOpen (space_by access space cpu command).object features
tried_open true space cpu command features open_one = accessed_open (access_of space command) space cpu command features open_one
tried_open false space cpu command features open_one =
    let reply = reply_of (memory space.host) command in
    events_open (modes_after space.object command reply) (call_messages space.object command reply) cpu features (modes_open space.object command reply features open_one)

read_open : (guest : Guest) (cpu : ℕ) (message : Message) (features : ℕ) → IsOpen guest.space.object features → IsOpen (read_guest guest cpu message).space.object features
read_open guest cpu message features open_one = grind (arith, nat_tests)

-- Both nodes

-- the source's until it is released, the destination's once that has run
pub record AreOpen (released : Bool) (from : Object) (ran : Bool) (to : Object) : Type 0 where
  pub source : released ≡ false → IsOpen from all_features
  pub destination : ran ≡ true → IsOpen to event_features

abbrev pub HasOpenObjects : World → Type 0
HasOpenObjects world = AreOpen (is_released world.source.phase) (space_of world.source).object world.destination.has_run world.destination.guest.space.object

pub open-first : (cpus epoch rounds : ℕ) → HasOpenObjects (first_world_with cpus epoch rounds)
open-first cpus epoch rounds = record { source = λ h. record { enabled = refl; asked = refl }; destination = λ h. absurd (false≢true h) }

-- another object at the source, or at the destination
with_source : {released : Bool} {from : Object} {ran : Bool} {to : Object} (gone : Bool) (new : Object) → (gone ≡ false → released ≡ false) → (IsOpen from all_features → IsOpen new all_features) → AreOpen released from ran to → AreOpen gone new ran to
with_source gone new still opens h = record { source = λ u. opens (h.source (still u)); destination = h.destination }

with_destination : {released : Bool} {from : Object} {ran : Bool} {to : Object} (new : Object) → (IsOpen to event_features → IsOpen new event_features) → AreOpen released from ran to → AreOpen released from ran new
with_destination new opens h = record { source = h.source; destination = λ r. opens (h.destination r) }

same_setup : (object new : Object) (features : ℕ) → new.enabled ≡ object.enabled → new.features ≡ object.features → IsOpen object features → IsOpen new features
same_setup object new features enabled asked open_one = record { enabled = enabled ∙ open_one.enabled; asked = asked ∙ open_one.asked }

guest_open : (ran : Bool) (world : World) (cpu : ℕ) (command : Command) → HasOpenObjects world → HasOpenObjects (with_guest_by ran world (tried (is_access command) (guest_by ran world.source.guest world.destination.guest) cpu command))
guest_open true world cpu command h = with_destination _ (tried_open (is_access command) world.destination.guest.space cpu command event_features) h
guest_open false world cpu command h = with_source _ _ (λ u. u) (tried_open (is_access command) (space_of world.source) cpu command all_features) h

acted_open : (act : Act) (world : World) (page : ℕ) → HasOpenObjects world → HasOpenObjects (record world { source = source_acted_by act world.source page })
acted_open act world page h = grind (arith, nat_tests)

handled_open : (act : Act) (world : World) (page : ℕ) → HasOpenObjects world → HasOpenObjects (record world { destination = destination_acted_by act world.destination page })
handled_open act world page h = grind (arith, nat_tests)

installed_open : (o : Option ℕ) (world : World) (copy : Copy) (rest : List Copy) → HasOpenObjects world → HasOpenObjects (record world { destination = install_by o world.destination copy rest })
installed_open o world copy rest h = grind (arith, nat_tests)

took_open : (frame : Frame) (epoch : ℕ) (world : World) → HasOpenObjects world → HasOpenObjects (record world { destination = destination_took world.destination epoch frame })
took_open frame epoch world h = grind (arith, nat_tests)

urgent_open : (frame : Frame) (world : World) → HasOpenObjects world → HasOpenObjects (record world { destination = urgent_took world.destination frame })
urgent_open frame world h = grind (arith, nat_tests)

-- Phases in which the source is not released

pub idle_unreleased : (phase : SourcePhase) → is_source_idle phase ≡ true → is_released phase ≡ false
idle_unreleased phase h = grind (arith, nat_tests)

precopy_unreleased : (phase : SourcePhase) → is_precopy phase ≡ true → is_released phase ≡ false
precopy_unreleased phase h = grind (arith, nat_tests)

back_open : (frame : Frame) (world : World) → IsInPlaceBack world.source frame → HasOpenObjects world → HasOpenObjects (record world { source = source_took world.source frame })
back_open frame world place h = grind (arith, nat_tests)

-- Steps

open-answer : (world : World) (step : Step) → IsSoundWorld world → HasOpenObjects world → Leaves HasOpenObjects (answer world step)
open-answer world (Step.Issue cpu command) kept h = holds-made _ world (Step.Issue cpu command) (λ there idle may. guest_open world.destination.has_run world cpu command h)
open-answer world (Step.Retry cpu) kept h = holds-made _ world (Step.Retry cpu) (λ command waits woken may. guest_open world.destination.has_run world cpu command h)
open-answer world Step.Start kept h = holds-made _ world Step.Start (λ idle unused. with_source _ _ (λ u. idle_unreleased world.source.phase idle) (same_setup (space_of world.source).object _ all_features refl refl) h)
open-answer world Step.Round kept h = holds-made _ world Step.Round (λ precopy quiet. with_source _ _ (λ u. u) (same_setup (space_of world.source).object _ all_features refl refl) h)
open-answer world Step.Send kept h = holds-made _ world Step.Send (λ page is precopy up quiet. h)
open-answer world (Step.SendRun count) kept h = holds-made _ world (Step.SendRun count) (λ first number is many precopy up quiet. h)
open-answer world Step.SourceRead kept h = holds-made _ world Step.SourceRead (λ noted is started unswitched. with_source _ _ (λ u. u) (read_open world.source.guest noted.cpu noted.message all_features) h)
open-answer world Step.SourceAct kept h = holds-made _ world Step.SourceAct (λ fault rest is started unswitched quiet. acted_open (source_act world.source fault) world fault.page h)
open-answer world Step.Switch kept h =
    holds-made _ world Step.Switch (λ precopy up quiet. with_source _ _ (λ u. precopy_unreleased world.source.phase precopy) (same_setup (space_of world.source).object _ all_features refl refl) h)
open-answer world (Step.Deliver n) kept h = holds-made _ world (Step.Deliver n) ((λ sent rest is short. h), (λ sent rest is full started up free early. took_open sent.frame sent.epoch world h))
open-answer world (Step.DeliverBack n) kept h = holds-made _ world (Step.DeliverBack n) ((λ sent rest is short. h), (λ sent rest is full started up. back_open sent.frame world (is_taken_back world sent rest kept up is) h))
open-answer world Step.DestRead kept h = holds-made _ world Step.DestRead (λ noted is ran. with_destination _ (read_open world.destination.guest noted.cpu noted.message event_features) h)
open-answer world Step.DestAct kept h = holds-made _ world Step.DestAct (λ fault rest is ran quiet. handled_open (destination_act world.destination fault) world fault.page h)
open-answer world Step.Install kept h = holds-made _ world Step.Install (λ copy rest is ran quiet. installed_open (home world.destination.owed copy.page) world copy rest h)
open-answer world (Step.Push ticket) kept h = holds-made _ world (Step.Push ticket) (λ stopped up own present remains. h)
open-answer world (Step.PushUrgent ticket) kept h = holds-made _ world (Step.PushUrgent ticket) (λ stopped up own present remains. h)
open-answer world (Step.DeliverUrgent n) kept h = holds-made _ world (Step.DeliverUrgent n) ((λ sent rest is short. h), (λ sent rest is full ran up. urgent_open sent.frame world h))
open-answer world Step.Serve kept h = holds-made _ world Step.Serve (λ page pages is stopped up. h)
open-answer world Step.End kept h = holds-made _ world Step.End (λ stopped other up none. h)
open-answer world Step.Break kept h = holds-made _ world Step.Break (λ started unreleased up. h)
open-answer world (Step.Notice Side.Source) kept h = holds-made _ world (Step.Notice Side.Source) (λ started unreleased down. with_source _ _ (λ u. unreleased) (λ o. o) h)
open-answer world (Step.Notice Side.Destination) kept h = holds-made _ world (Step.Notice Side.Destination) (λ started unreleased down. h)
open-answer world Step.Resume kept h = holds-made _ world Step.Resume (λ from to down unused. h)

pub open-next : (world : World) (step : Step) → IsSoundWorld world → HasOpenObjects world → HasOpenObjects (next world step)
open-next world step kept h = leaves-next HasOpenObjects world step h (open-answer world step kept h)
