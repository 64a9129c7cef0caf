-- The promises from what every world keeps.
use Rattle.std.proofs.Common.{◌≡◌, ℕ, ◌≤◌, ◌||◌, Bool, true, false, cond, ltb, Option, Some, None, List, refl, sym, ap, ◌∙◌, arith}
use Rattle.std.specs.Option.{option_and_then}
use Rattle.std.specs.Ordering.{nat_cmp}
use Rattle.std.specs.FinMap.{FinMap, get, get-empty}
use Rattle.std.proofs.lemmas.Bool.Decides.{nat_tests}
use Rattle.std.proofs.lemmas.Bool.{false≢true}
use Rattle.std.proofs.lemmas.Option.{none-some}
use Rattle.mig_base.specs.declared.phase.DestPhase.{DestPhase}
use Rattle.mig_base.specs.declared.phase.Received.{Received}
use Rattle.mig_base.specs.declared.phase.SourcePhase.{SourcePhase}
use Rattle.mig_base.specs.declared.TheConstants.{HIGH_PAGE}
use Rattle.mig_base.specs.Pages.{map_below}
use Rattle.mig_base.proofs.PageLemmas.{same_pages, get-map_below}
use Rattle.mig_model.specs.Host.{Host, memory, IsSound}
use Rattle.mig_model.specs.Guest.{Fault, is_present}
use Rattle.mig_base.specs.declared.act.Act.TheVariants.{Zeroed}
use Rattle.mig_model.specs.Migration.{World, runs}
use Rattle.mig_model.specs.Whereabouts.{IsPrecopying, IsSwitching, IsReceiving, seen_bytes, seen_host, current_by, copies_of, has_copy, is_urgent_or_left}
use Rattle.mig_model.specs.Invariant.{IsSoundWorld, AreSoundUrgent}
use Rattle.mig_model.specs.Promises.{IsComplete, IsAlone, ArePaired, AreUnderWay}
use Rattle.mig_model.proofs.invariant.Stopping.{in_phases}
use Rattle.mig_model.proofs.owed.SettledLemmas.{IsOneToOne-settled, values-settled, none-settled}
use Rattle.mig_model.specs.Source.{is_precopy, is_released, is_source_paused, is_stopped, released, source_act, space_of}
use Rattle.mig_model.specs.Destination.{destination_act, is_running, settled}
use Rattle.mig_model.proofs.memory.Facts.{none_absurd}

-- A table without pairs

own_bytes : (o : Option (List ℕ)) (there : FinMap nat_cmp (List ℕ)) (owed : Option ℕ) → owed ≡ None → (elim o [ Some bytes ↦ Some bytes | None ↦ option_and_then (get there) owed ]) ≡ o
own_bytes o there owed h = grind (arith, nat_tests)

all_low : (low : Bool) (o : Option (List ℕ)) → (low ≡ false → o ≡ None) → cond low o None ≡ o
all_low low o h = grind (arith, nat_tests)

not_low : (page : ℕ) → ltb page HIGH_PAGE ≡ false → HIGH_PAGE ≤ page
not_low page h = grind (arith, nat_tests)

-- where nothing is owed the guest sees the destination's own host
seen_own : (here there : Host) (owed : ℕ → Option ℕ) → IsSound here → ((page : ℕ) → owed page ≡ None) → seen_host here there owed ≡ here
seen_own here there owed sound none =
    ap (λ bytes. record { areas = here.areas; bytes = bytes })
    (same_pages (map_below (seen_bytes here there owed) HIGH_PAGE) here.bytes (λ page.
    get-map_below (seen_bytes here there owed) HIGH_PAGE page
    ∙ ap (λ o. cond (ltb page HIGH_PAGE) o None) (own_bytes (get here.bytes page) there.bytes (owed page) (none page))
    ∙ all_low (ltb page HIGH_PAGE) (get here.bytes page) (λ h. sound.mapped page (sound.bound page (not_low page h)))))

-- Completion

ran_in : (from : SourcePhase) (world : World) → is_released from ≡ true → IsSoundWorld (in_phases from world.destination.phase world) → (world.destination.ended ≡ true) × (world.destination.has_run ≡ true)
ran_in from world released kept = grind (arith, nat_tests)

-- the destination of a migration that is complete has run
pub complete_ran : (world : World) → IsSoundWorld world → IsComplete world → world.destination.has_run ≡ true
complete_ran world kept complete = (ran_in world.source.phase world complete kept).1

complete_in : (from : SourcePhase) (world : World) → is_released from ≡ true → IsSoundWorld (in_phases from world.destination.phase world) → IsAlone (in_phases from world.destination.phase world)
complete_in SourcePhase.Released world released kept =
    let told = ran_in SourcePhase.Released world refl kept in
    let ran = told.1 in
    let empty_now = kept.owing.ended_empty told.0 in
    let none_owed = λ (page : ℕ). ap (λ m. get m page) empty_now.0 ∙ get-empty nat_cmp page in
    let none = none-settled world.destination.guest.space.object.events (get world.destination.owed) none_owed in
    let host = world.destination.guest.space.host in
    let there = world.source.guest.space.host in
    record {
      holds =
          ap memory (sym (seen_own host there (settled world.destination) kept.spaces.destination_space.host none))
          ∙ ap memory (ap (λ b. current_by b host there (settled world.destination)) (sym ran))
          ∙ kept.memory.holds;
      alone = (kept.pushing.released_empty refl).0;
      none_owed = empty_now.0;
      none_settled = none;
      none_arrived = empty_now.1;
    }
complete_in SourcePhase.Idle world released kept = none_absurd released
complete_in _ world released kept = none_absurd released

pub is_alone : (world : World) → IsSoundWorld world → IsComplete world → IsAlone world
is_alone world kept complete = complete_in world.source.phase world complete kept

-- Pairs

pub are_paired : (world : World) → IsSoundWorld world → ArePaired world
are_paired world kept = grind (arith, nat_tests, IsOneToOne-settled, values-settled)

-- Whereabouts

whereabouts_in : (from : SourcePhase) (to : DestPhase) (world : World) → is_stopped from ≡ true → world.destination.has_run ≡ true → world.up ≡ true → IsSoundWorld (in_phases from to world) → (page origin : ℕ) → get world.destination.owed page ≡ Some origin →
    (is_urgent_or_left world.source.remaining world.urgent.frames origin || has_copy (copies_of world.forward.frames) origin || has_copy world.destination.arrivals origin) ≡ true
whereabouts_in SourcePhase.Stopped DestPhase.Running world stopped ran up kept page origin owed = (kept.flight.wires up).2.whereabouts page origin owed
whereabouts_in SourcePhase.Stopped DestPhase.Paused world stopped ran up kept page origin owed = absurd (kept.flight.wires up)
whereabouts_in SourcePhase.Stopped DestPhase.Ended world stopped ran up kept page origin owed = absurd (none-some origin (sym (ap (λ m. get m page) (kept.owing.ended_empty kept.phases.destination_phase).0 ∙ get-empty nat_cmp page) ∙ owed))
whereabouts_in SourcePhase.Stopped _ world stopped ran up kept page origin owed = absurd (false≢true (sym kept.phases.destination_phase ∙ ran))
whereabouts_in _ to world stopped ran up kept page origin owed = none_absurd stopped

pub are_under_way : (world : World) → IsSoundWorld world → AreSoundUrgent world → world.destination.has_run ≡ true → AreUnderWay world
are_under_way world kept urgent ran = grind (arith, nat_tests, whereabouts_in)

-- What is in flight

pub is_precopying : (world : World) → IsSoundWorld world → world.up ≡ true → is_precopy world.source.phase ≡ true → IsPrecopying world.source world.destination.kept world.forward.frames
is_precopying world kept up precopy = grind (arith, nat_tests)

switching_in : (from : SourcePhase) (to : DestPhase) (world : World) → is_stopped from ≡ true → world.up ≡ true → world.destination.has_run ≡ false → IsSoundWorld (in_phases from to world) → IsSwitching (in_phases from to world).source world.destination.kept world.forward.frames world.urgent.frames
switching_in SourcePhase.Stopped DestPhase.Running world stopped up ran kept = absurd (false≢true (sym ran ∙ kept.phases.destination_phase.0))
switching_in SourcePhase.Stopped DestPhase.Paused world stopped up ran kept = absurd (kept.flight.wires up)
switching_in SourcePhase.Stopped DestPhase.Ended world stopped up ran kept = absurd (false≢true (sym ran ∙ kept.phases.ended_after_run kept.phases.destination_phase))
switching_in SourcePhase.Stopped _ world stopped up ran kept = (kept.flight.wires up).2
switching_in _ to world stopped up ran kept = none_absurd stopped

pub is_switching : (world : World) → IsSoundWorld world → world.up ≡ true → is_stopped world.source.phase ≡ true → world.destination.has_run ≡ false → IsSwitching world.source world.destination.kept world.forward.frames world.urgent.frames
is_switching world kept up stopped ran = switching_in world.source.phase world.destination.phase world stopped up ran kept

pub is_receiving : (world : World) → IsSoundWorld world → world.up ≡ true → is_source_paused world.source.phase ≡ true → is_running world.destination.phase ≡ true → IsReceiving world.source world.destination Received.Running world.back.frames
is_receiving world kept up paused runs = grind (arith, nat_tests)

-- The zero pages of the handlers

pub source_zero : (world : World) (fault : Fault) → source_act world.source fault ≡ Zeroed → is_present (space_of world.source) fault.page ≡ false
source_zero world fault h = grind (arith, nat_tests)

pub destination_zero : (world : World) (fault : Fault) → destination_act world.destination fault ≡ Zeroed → is_present world.destination.guest.space fault.page ≡ false
destination_zero world fault h = grind (arith, nat_tests)
