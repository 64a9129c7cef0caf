-- No frame is refused: the first frame of each wire is in place, of the right epoch, and right.
use Rattle.std.proofs.lemmas.Bool.Decides.{nat_tests}
use Rattle.std.proofs.Common.{◌≡◌, ℕ, Bool, true, cond, Option, None, List, [], ◌∷◌, refl, sym, ap, ◌∙◌, subst, arith, is_some}
use Rattle.std.specs.Ordering.{nat_cmp}
use Rattle.std.specs.FinMap as finmap
use Rattle.std.specs.FinMap.{FinMap, get, contains_key, get-empty}
use Rattle.std.specs.FinSet.{FinSet, contains}
use Rattle.mig_base.specs.declared.phase.DestPhase.{DestPhase}
use Rattle.mig_base.specs.declared.phase.SourcePhase.{SourcePhase}
use Rattle.mig_base.specs.declared.Prot.{Prot}
use Rattle.mig_base.specs.declared.command.Command.{Command}
use Rattle.mig_base.proofs.PageLemmas.{same_pages}
use Rattle.foundation.proofs.TestLemmas.{never_some}
use Rattle.mig_model.specs.Host.{IsSound}
use Rattle.std.specs.Prelude.{length}
use Rattle.std.proofs.lemmas.Option.{same_Some}
use lib.ListN.{length-map}
use Rattle.mig_model.specs.Guest.{is_present}
use Rattle.mig_model.specs.Space.{Space}
use Rattle.mig_model.specs.Wire.{Frame, Sent}
use Rattle.mig_model.specs.Wire.Frame.{Advise, Page, Zero, Run, Discard, Package, End, Resume, Request, Recv, Done}
use Rattle.mig_model.specs.Migration.{World}
use Rattle.mig_model.specs.Whereabouts.{IsSwitching}
use Rattle.mig_model.specs.Invariant.{IsSoundWorld, IsFlowing, AreOf, flow_of, AreSoundUrgent}
use Rattle.mig_model.proofs.delivery.Taken.{IsGood, IsTaken, IsInPlaceBack}
use Rattle.mig_model.proofs.invariant.FirstFrame.{comes, nothing_behind}
use Rattle.mig_model.specs.Cpus.{outstanding}
use Rattle.mig_model.specs.Log.{present}
use Rattle.mig_model.specs.Source.{Source, commands_of, space_of}
use Rattle.mig_model.specs.Destination.{Destination}
use Rattle.mig_model.proofs.memory.Facts.{none_absurd}
use Rattle.mig_model.proofs.invariant.UrgentWire.{EndTells, end_tells}
use Rattle.mig_model.proofs.invariant.Delivery.{ended_now, nowhere}

-- Right

areas_in : Frame → FinMap nat_cmp Prot → FinMap nat_cmp Prot
areas_in (Package areas owed commands) other = areas
areas_in frame other = other

unfoldable pub commands_in : Frame → List (Option Command) → List (Option Command)
commands_in (Package areas owed commands) other = commands
commands_in frame other = other

unfoldable pub owed_in : Frame → FinSet nat_cmp → FinSet nat_cmp
owed_in (Package areas owed commands) other = owed
owed_in frame other = other

mapped_of : (space : Space) (page : ℕ) → IsSound space.host → is_present space page ≡ true → contains_key space.host.areas page ≡ true
mapped_of space page sound present = grind (arith, nat_tests)

kept_unless : (owed : Bool) (bytes : Option (List ℕ)) → is_some (cond owed None bytes) ≡ true → is_some bytes ≡ true
kept_unless owed bytes h = grind (arith, nat_tests)

package_good : (source : Source) (node : Destination) (epoch : ℕ) (areas : FinMap nat_cmp Prot) (owed : FinSet nat_cmp) (commands : List (Option Command)) (rest urgent : List Sent) → IsSound (space_of source).host →
    IsSwitching source node.kept (record { epoch = epoch; frame = Package areas owed commands } ∷ rest) urgent → length node.guest.cpus ≡ length source.guest.cpus → IsGood node (Package areas owed commands)
unfolding areas_in owed_in commands_in
package_good source node epoch areas owed commands rest urgent sound told many =
    let plan = same_Some (Package areas owed commands) (Package (space_of source).host.areas told.owed (commands_of source.guest.cpus)) told.plan in
    let same_areas : areas ≡ (space_of source).host.areas = ap (λ f. areas_in f areas) plan in
    let same_owed : owed ≡ told.owed = ap (λ f. owed_in f owed) plan in
    let among = λ (page : ℕ) (h : contains owed page ≡ true). ap (λ s. contains s page) (sym same_owed) ∙ h in (
      λ page h. ap is_some (told.kept_rest page) ∙ ap (λ b. is_some (cond b None (get (space_of source).host.bytes page))) (among page h),
      λ page h. ap (λ m. contains_key m page) same_areas ∙ mapped_of (space_of source) page sound (told.owed_present page (among page h)),
      λ page h. ap (λ m. contains_key m page) same_areas ∙ mapped_of (space_of source) page sound (kept_unless (contains told.owed page) (get (space_of source).host.bytes page) (sym (ap is_some (told.kept_rest page)) ∙ h)),
      ap length (ap (λ f. commands_in f commands) plan) ∙ length-map source.guest.cpus outstanding ∙ sym many,
    )

-- a world in these phases, with this first frame
abbrev pub with_first : SourcePhase → DestPhase → ℕ → Frame → List Sent → World → World
with_first from to epoch frame rest world = record world { source = record world.source { phase = from }; destination = record world.destination { phase = to }; forward = record world.forward { frames = record { epoch = epoch; frame = frame } ∷ rest } }

-- both nodes have as many processors
abbrev pub AreAsMany : World → Type 0
AreAsMany world = length world.destination.guest.cpus ≡ length world.source.guest.cpus

end_good : (epoch count : ℕ) (rest : List Sent) (world : World) → world.up ≡ true → IsSoundWorld (with_first SourcePhase.Stopped DestPhase.Running epoch (End count) rest world) → world.destination.arrivals ≡ [] → world.urgent.frames ≡ [] → world.destination.owed ≡ finmap.empty
end_good epoch count rest world up kept free came =
    let old = with_first SourcePhase.Stopped DestPhase.Running epoch (End count) rest world in
    let w = kept.flight.wires up in
    let last = nothing_behind rest (flow_of old.source) w.0 in
    let ended : old.source.end_epoch ≡ old.source.epoch = ended_now old.source last.1 in
    let flowing : IsFlowing old.source old.destination old.forward.frames old.urgent.frames = w.2 in
    same_pages world.destination.owed finmap.empty (λ page.
    never_some (get world.destination.owed page) (λ origin h. nowhere world.source.remaining rest world.urgent.frames world.destination.arrivals origin (kept.pushing.end_sent ended) last.0 came free (flowing.whereabouts page origin h))
    ∙ sym (get-empty nat_cmp page))

good_of : (from : SourcePhase) (to : DestPhase) (epoch : ℕ) (frame : Frame) (rest : List Sent) (world : World) → comes from to frame ≡ true → world.up ≡ true → IsSoundWorld (with_first from to epoch frame rest world) → AreAsMany world → EndTells frame world → IsGood (with_first from to epoch frame rest world).destination frame
good_of SourcePhase.Stopped DestPhase.Discarding epoch (Package areas owed commands) rest world h up kept many tells = grind (arith, nat_tests, package_good)
good_of SourcePhase.Stopped DestPhase.Running epoch (End count) rest world h up kept many tells = let told = tells count refl in (told.0, λ free all. end_good epoch count rest world up kept free (told.1 all))
good_of SourcePhase.Precopy DestPhase.Idle epoch (End count) rest world h up kept many tells = none_absurd h
good_of SourcePhase.Precopy DestPhase.Idle epoch (Package areas owed commands) rest world h up kept many tells = none_absurd h
good_of SourcePhase.Paused DestPhase.Paused epoch (End count) rest world h up kept many tells = none_absurd h
good_of SourcePhase.Paused DestPhase.Paused epoch (Package areas owed commands) rest world h up kept many tells = none_absurd h
good_of from to epoch Advise rest world h up kept many tells = tt
good_of from to epoch (Page page bytes) rest world h up kept many tells = tt
good_of from to epoch (Zero page) rest world h up kept many tells = tt
good_of from to epoch (Run first pages) rest world h up kept many tells = tt
good_of from to epoch (Discard pages) rest world h up kept many tells = tt
good_of from to epoch Resume rest world h up kept many tells = tt
good_of from to epoch (Request page) rest world h up kept many tells = tt
good_of from to epoch (Recv state owed) rest world h up kept many tells = tt
good_of from to epoch Done rest world h up kept many tells = tt
good_of _ _ epoch _ rest world h up kept many tells = none_absurd h

taken_in : (from : SourcePhase) (to : DestPhase) (epoch : ℕ) (frame : Frame) (rest : List Sent) (world : World) → world.up ≡ true → IsSoundWorld (with_first from to epoch frame rest world) → AreAsMany world → EndTells frame world → IsTaken (with_first from to epoch frame rest world).destination (record { epoch = epoch; frame = frame })
taken_in from to epoch frame rest world up kept many tells = grind (arith, nat_tests, good_of)

-- the first frame on the wire to the destination
pub is_taken : (world : World) (sent : Sent) (rest : List Sent) → IsSoundWorld world → AreSoundUrgent world → AreAsMany world → world.up ≡ true → world.forward.frames ≡ sent ∷ rest → IsTaken world.destination sent
is_taken world sent rest kept urgent many up first =
    taken_in world.source.phase world.destination.phase sent.epoch sent.frame rest world up (subst (λ w. IsSoundWorld (record world { forward = record world.forward { frames = w } })) first kept) many (end_tells world sent rest kept urgent first up)

-- The wire back

-- the first frame on the wire back, and its epoch
pub is_taken_back : (world : World) (sent : Sent) (rest : List Sent) → IsSoundWorld world → world.up ≡ true → world.back.frames ≡ sent ∷ rest → IsInPlaceBack world.source sent.frame
is_taken_back world sent rest kept up first = grind (arith, nat_tests)

pub back_epoch : (world : World) (sent : Sent) (rest : List Sent) → IsSoundWorld world → world.back.frames ≡ sent ∷ rest → sent.epoch ≡ world.source.epoch
back_epoch world sent rest kept first = (subst (λ w. AreOf world.source.epoch w) first kept.epochs.back_epoch).0
