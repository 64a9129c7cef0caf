-- The changes of the example happen.
use Rattle.std.proofs.Common.{true, false, List, [], ◌∷◌, ◌++◌, map, refl, subst}
use Rattle.std.specs.Prelude.{ℕ}
use Rattle.std.specs.FinSet as finset
use Rattle.mig_base.specs.declared.effect.Effect.{Effect}
use Rattle.mig_base.specs.declared.phase.Received.{Received}
use Rattle.mig_base.specs.declared.schedule.Side.{Side}
use Rattle.mig_base.specs.declared.schedule.Step.{Step}
use Rattle.mig_model.specs.Log.{no_pages}
use Rattle.mig_model.specs.NodeSteps.{unless}
use Rattle.mig_model.specs.Source.{Source, resumed, source_paused, source_took}
use Rattle.mig_model.specs.Wire.{Frame, Sent}
use Rattle.mig_laws.specs.Example.{a_replacement, with_a_late_notice, with_another_destination}
use Rattle.mig_laws.specs.Processes.{AreEvents, Event, IsHere, IsOpening, IsSettled, Processes, first_processes}
use Rattle.mig_laws.specs.Replacements.{AreChanges, Change, IsReplaced, resume_of, resume_taken}
use Rattle.mig_laws.specs.Sides.{Did, Line}
use Rattle.mig_laws.proofs.ExampleOrder.{e10, gives, late-events, recv, told, wire}

all-happen : (cpus : ℕ) (old mid new : Processes) (events : List Event) (more : List Change) → AreEvents old events mid → AreChanges cpus mid more new → AreChanges cpus old (map (λ event. Change.Happens event) events ++ more) new
all-happen cpus old mid new [] more is last = subst (λ now. AreChanges cpus now more new) is last
all-happen cpus old mid new (event ∷ events) more is last = (is.0, is.1, all-happen cpus is.0 mid new events more is.2 last)

abbrev e11 : Processes
e11 = record e10 { here = false }

abbrev noticed_again : Did Source
noticed_again = gives (Effect.Noticed Side.Source) [] (source_paused told.node)

abbrev e12 : Processes
e12 = record e11 { source = noticed_again.node }

abbrev again_again : Did Source
again_again = gives (Effect.Resumed 3) (Frame.Resume ∷ []) (resumed noticed_again.node)

abbrev e13 : Processes
e13 = record e12 { source = again_again.node; later = wire (resume_of 3 ∷ []) [] ∷ []; here = true }

abbrev sent_in_three : Sent
sent_in_three = record { epoch = 3; frame = recv }

abbrev e14 : Processes
e14 = record e13 { destination = (resume_taken 1 3).node; first = wire [] (sent_in_three ∷ []); later = []; there = true }

abbrev told_again : Did Source
told_again = gives (Effect.TookRecv Received.NotRun (finset.len no_pages)) [] (source_took again_again.node recv)

abbrev e15 : Processes
e15 = record e14 { source = told_again.node; first = wire [] [] }

event-12 : IsHere e11 (Line.Made (Step.Notice Side.Source)) e12
event-12 = (noticed_again, refl, record { may = refl; back = []; takes = refl; channel = wire [] []; puts = refl; is = refl })

event-13 : IsOpening e12 e13
unfolding unless
event-13 = record { did = again_again; gives = refl; lost = refl; is = refl }

change-14 : IsReplaced 1 e13 3 e14
change-14 = record { before = refl; skipped = []; next = wire (resume_of 3 ∷ []) []; rest = []; opened = refl; forward = []; takes = refl; is = refl }

event-15 : IsHere e14 (Line.Took sent_in_three) e15
event-15 = (told_again, refl, record { may = refl; back = []; takes = refl; channel = wire [] []; puts = refl; is = refl })

pub example-replaced : (new : Processes) × AreChanges 1 (first_processes 1 0 0) with_another_destination new × IsSettled new
example-replaced = (
  e15,
  all-happen 1 (first_processes 1 0 0) e10 e15 with_a_late_notice a_replacement late-events (
    e11,
    record { used = refl; under_way = refl; is = refl },
    (
      e12,
      event-12,
      (
        e13,
        event-13,
        (
          e14,
          change-14,
          (e15, event-15, refl),
        ),
      ),
    ),
  ),
  record { joined = refl; under_way = refl },
)
