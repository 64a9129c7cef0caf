-- An order of two logs with a break, and two processes with these logs: a migration begins, the channel is lost, both sides notice, and they
-- continue over a new one. It is lost again, and another destination takes the place of the first one.
use Rattle.std.specs.Prelude.{List, [], ◌∷◌, ◌++◌, map}
use Rattle.std.specs.FinSet as finset
use Rattle.mig_base.specs.declared.effect.Effect.{Effect}
use Rattle.mig_base.specs.declared.phase.Received.{Received}
use Rattle.mig_base.specs.declared.schedule.Side.{Side}
use Rattle.mig_base.specs.declared.schedule.Step.{Step}
use Rattle.mig_model.specs.Log.{no_pages}
use Rattle.mig_model.specs.Wire.{Frame}
use Rattle.mig_laws.specs.Orders.{Turn}
use Rattle.mig_laws.specs.Processes.{Event}
use Rattle.mig_laws.specs.Replacements.{Change}
use Rattle.mig_laws.specs.Sides.{Line}

-- Start, whose Advise is taken; a loss, which each side notices; Resume, which is taken; and its Recv, which is taken as well
abbrev pub with_a_break : List Turn
with_a_break =
    Turn.AtSource (Line.Made Step.Start)
    ∷ Turn.AtDestination (Line.Took (record { epoch = 1; frame = Frame.Advise }))
    ∷ Turn.Cut
    ∷ Turn.AtSource (Line.Made (Step.Notice Side.Source))
    ∷ Turn.AtDestination (Line.Made (Step.Notice Side.Destination))
    ∷ Turn.AtSource (Line.Made Step.Resume)
    ∷ Turn.AtDestination (Line.Took (record { epoch = 2; frame = Frame.Resume }))
    ∷ Turn.AtSource (Line.Took (record { epoch = 2; frame = Frame.Recv Received.NotRun no_pages }))
    ∷ []

-- what they answer
abbrev pub its_effects : List Effect
its_effects =
    Effect.Started 1 ∷ Effect.TookAdvise ∷ Effect.Broken ∷ Effect.Noticed Side.Source ∷ Effect.Noticed Side.Destination ∷ Effect.Resumed 2 ∷ Effect.TookResume ∷ Effect.TookRecv Received.NotRun (finset.len no_pages) ∷ []

-- the same logs, where the source opens a new channel before the destination has lost the old one
abbrev pub with_a_late_notice : List Event
with_a_late_notice =
    Event.Here (Line.Made Step.Start)
    ∷ Event.LosesHere
    ∷ Event.Here (Line.Made (Step.Notice Side.Source))
    ∷ Event.Opens
    ∷ Event.There (Line.Took (record { epoch = 1; frame = Frame.Advise }))
    ∷ Event.LosesThere
    ∷ Event.There (Line.Made (Step.Notice Side.Destination))
    ∷ Event.Joins
    ∷ Event.There (Line.Took (record { epoch = 2; frame = Frame.Resume }))
    ∷ Event.Here (Line.Took (record { epoch = 2; frame = Frame.Recv Received.NotRun no_pages }))
    ∷ []

-- and then the source loses the channel again, opens another one, and another destination takes the Resume
abbrev pub a_replacement : List Change
a_replacement =
    Change.Happens Event.LosesHere
    ∷ Change.Happens (Event.Here (Line.Made (Step.Notice Side.Source)))
    ∷ Change.Happens Event.Opens
    ∷ Change.Replaced 3
    ∷ Change.Happens (Event.Here (Line.Took (record { epoch = 3; frame = Frame.Recv Received.NotRun no_pages })))
    ∷ []

-- all of it: the first destination has answered a Resume, and has noticed nothing of the second loss
abbrev pub with_another_destination : List Change
with_another_destination = map (λ event. Change.Happens event) with_a_late_notice ++ a_replacement
