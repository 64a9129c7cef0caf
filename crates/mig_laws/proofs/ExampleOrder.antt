-- The order of the example is one, and its events happen.
use Rattle.std.proofs.Common.{true, false, List, [], ◌∷◌, refl}
use Rattle.std.specs.FinSet as finset
use Rattle.mig_base.specs.declared.effect.Effect.{Effect}
use Rattle.mig_base.specs.declared.phase.Received.{Received}
use Rattle.mig_base.specs.declared.schedule.Side.{Side}
use Rattle.mig_base.specs.declared.schedule.Step.{Step}
use Rattle.mig_model.specs.Destination.{Destination, destination_paused, destination_took, first_destination}
use Rattle.mig_model.specs.Log.{no_pages}
use Rattle.mig_model.specs.NodeSteps.{unless}
use Rattle.mig_model.specs.Source.{Source, first_source, resumed, source_paused, source_started, source_took}
use Rattle.mig_model.specs.Wire.{Frame, Sent}
use Rattle.mig_laws.specs.Example.{its_effects, with_a_break, with_a_late_notice}
use Rattle.mig_laws.specs.Processes.{AreEvents, Channel, IsHere, IsOpening, IsSettled, IsThere, Processes, first_processes}
use Rattle.mig_laws.specs.Orders.{AreTurns, IsCut, IsDestinationTurn, IsSourceTurn, Pair, first_pair}
use Rattle.mig_laws.specs.Sides.{Did, Line}
use Rattle.mig_laws.proofs.LinesAlone.{after_here, after_there}

abbrev pub gives : {Node : Type 0} → Effect → List Frame → Node → Did Node
gives effect frames node = record { effect = effect; frames = frames; urgent = []; entries = []; node = node }

abbrev sent_in_two : Frame → Sent
sent_in_two frame = record { epoch = 2; frame = frame }

abbrev pub recv : Frame
recv = Frame.Recv Received.NotRun no_pages

abbrev started : Did Source
started = gives (Effect.Started 1) (Frame.Advise ∷ []) (source_started (first_source 1 0 0))

abbrev one : Pair
one = after_here (first_pair 1 0 0) (Line.Made Step.Start) started []

abbrev advised : Did Destination
advised = gives Effect.TookAdvise [] (destination_took (first_destination 1) 1 Frame.Advise)

abbrev two : Pair
two = after_there one advised [] []

abbrev three : Pair
three = record two { forward = []; back = []; urgent = []; up = false }

abbrev noticed : Did Source
noticed = gives (Effect.Noticed Side.Source) [] (source_paused started.node)

abbrev four : Pair
four = after_here three (Line.Made (Step.Notice Side.Source)) noticed []

abbrev noticed_there : Did Destination
noticed_there = gives (Effect.Noticed Side.Destination) [] (destination_paused advised.node)

abbrev five : Pair
five = after_there four noticed_there [] []

abbrev pub again : Did Source
again = gives (Effect.Resumed 2) (Frame.Resume ∷ []) (resumed noticed.node)

abbrev six : Pair
six = after_here five (Line.Made Step.Resume) again []

abbrev again_there : Did Destination
again_there = gives Effect.TookResume (recv ∷ []) (destination_took noticed_there.node 2 Frame.Resume)

abbrev seven : Pair
seven = after_there six again_there [] []

abbrev pub told : Did Source
told = gives (Effect.TookRecv Received.NotRun (finset.len no_pages)) [] (source_took again.node recv)

abbrev eight : Pair
eight = after_here seven (Line.Took (sent_in_two recv)) told []

first-turn : IsSourceTurn (first_pair 1 0 0) (Line.Made Step.Start) started one
unfolding unless
first-turn = record { gives = refl; may = refl; back = []; takes = refl; is = refl }

second-turn : IsDestinationTurn one (Line.Took (record { epoch = 1; frame = Frame.Advise })) advised two
unfolding unless
second-turn = record { gives = refl; may = refl; forward = []; takes = refl; urgent = []; takes_urgent = refl; is = refl }

third-turn : IsCut two three
third-turn = record { was_up = refl; under_way = refl; is = refl }

fourth-turn : IsSourceTurn three (Line.Made (Step.Notice Side.Source)) noticed four
fourth-turn = record { gives = refl; may = refl; back = []; takes = refl; is = refl }

fifth-turn : IsDestinationTurn four (Line.Made (Step.Notice Side.Destination)) noticed_there five
fifth-turn = record { gives = refl; may = refl; forward = []; takes = refl; urgent = []; takes_urgent = refl; is = refl }

sixth-turn : IsSourceTurn five (Line.Made Step.Resume) again six
unfolding unless
sixth-turn = record { gives = refl; may = refl; back = []; takes = refl; is = refl }

seventh-turn : IsDestinationTurn six (Line.Took (sent_in_two Frame.Resume)) again_there seven
unfolding unless
seventh-turn = record { gives = refl; may = refl; forward = []; takes = refl; urgent = []; takes_urgent = refl; is = refl }

eighth-turn : IsSourceTurn seven (Line.Took (sent_in_two recv)) told eight
eighth-turn = record { gives = refl; may = refl; back = []; takes = refl; is = refl }

pub example : (new : Pair) × AreTurns (first_pair 1 0 0) with_a_break its_effects new
example = (
  eight,
  (
    one,
    (started, first-turn, refl),
    (
      two,
      (advised, second-turn, refl),
      (
        three,
        (third-turn, refl),
        (
          four,
          (noticed, fourth-turn, refl),
          (
            five,
            (noticed_there, fifth-turn, refl),
            (
              six,
              (again, sixth-turn, refl),
              (
                seven,
                (again_there, seventh-turn, refl),
                (eight, (told, eighth-turn, refl), refl),
              ),
            ),
          ),
        ),
      ),
    ),
  ),
)

-- The events

abbrev pub wire : List Sent → List Sent → Channel
wire forward back = record { forward = forward; back = back; urgent = [] }

abbrev advise : Sent
advise = record { epoch = 1; frame = Frame.Advise }

abbrev e0 : Processes
e0 = first_processes 1 0 0

abbrev e1 : Processes
e1 = record e0 { source = started.node; first = wire (advise ∷ []) [] }

abbrev e2 : Processes
e2 = record e1 { here = false }

abbrev e3 : Processes
e3 = record e2 { source = noticed.node }

abbrev e4 : Processes
e4 = record e3 { source = again.node; later = wire (sent_in_two Frame.Resume ∷ []) [] ∷ []; here = true }

abbrev e5 : Processes
e5 = record e4 { destination = advised.node; first = wire [] [] }

abbrev e6 : Processes
e6 = record e5 { there = false }

abbrev e7 : Processes
e7 = record e6 { destination = noticed_there.node }

abbrev e8 : Processes
e8 = record e7 { first = wire (sent_in_two Frame.Resume ∷ []) []; later = []; there = true }

abbrev e9 : Processes
e9 = record e8 { destination = again_there.node; first = wire [] (sent_in_two recv ∷ []) }

abbrev pub e10 : Processes
e10 = record e9 { source = told.node; first = wire [] [] }

event-1 : IsHere e0 (Line.Made Step.Start) e1
unfolding unless
event-1 = (started, refl, record { may = refl; back = []; takes = refl; channel = wire (advise ∷ []) []; puts = refl; is = refl })

event-3 : IsHere e2 (Line.Made (Step.Notice Side.Source)) e3
event-3 = (noticed, refl, record { may = refl; back = []; takes = refl; channel = wire (advise ∷ []) []; puts = refl; is = refl })

event-4 : IsOpening e3 e4
unfolding unless
event-4 = record { did = again; gives = refl; lost = refl; is = refl }

event-5 : IsThere e4 (Line.Took advise) e5
unfolding unless
event-5 = (advised, refl, record { may = refl; forward = []; takes = refl; urgent = []; takes_urgent = refl; is = refl })

event-7 : IsThere e6 (Line.Made (Step.Notice Side.Destination)) e7
event-7 = (noticed_there, refl, record { may = refl; forward = []; takes = refl; urgent = []; takes_urgent = refl; is = refl })

event-9 : IsThere e8 (Line.Took (sent_in_two Frame.Resume)) e9
unfolding unless
event-9 = (again_there, refl, record { may = refl; forward = []; takes = refl; urgent = []; takes_urgent = refl; is = refl })

event-10 : IsHere e9 (Line.Took (sent_in_two recv)) e10
event-10 = (told, refl, record { may = refl; back = []; takes = refl; channel = wire [] []; puts = refl; is = refl })

pub late-events : AreEvents e0 with_a_late_notice e10
late-events = (
  e1,
  event-1,
  (
    e2,
    record { used = refl; under_way = refl; is = refl },
    (
      e3,
      event-3,
      (
        e4,
        event-4,
        (
          e5,
          event-5,
          (
            e6,
            record { used = refl; is = refl },
            (
              e7,
              event-7,
              (
                e8,
                record { lost = refl; paused = refl; next = wire (sent_in_two Frame.Resume ∷ []) []; rest = []; opened = refl; is = refl },
                (
                  e9,
                  event-9,
                  (e10, event-10, refl),
                ),
              ),
            ),
          ),
        ),
      ),
    ),
  ),
)

pub example-events : (new : Processes) × AreEvents e0 with_a_late_notice new × IsSettled new
example-events = (e10, late-events, record { joined = refl; under_way = refl })
