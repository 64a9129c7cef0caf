-- The machine: both nodes, the wires between them, and what each step of a world answers. A step of a node is defined on the node, in
-- `GuestSteps`, `SourceSteps` or `DestinationSteps`. Here it becomes a step of the world, which puts the frames on their wire, and asks
-- for the link where the step needs it. Deliveries, the break of a channel, its notice and its resumption are steps as well.
use Rattle.std.specs.Prelude.{ℕ, ◌-◌, ◌||◌, not, nat_lt, ok_or, Bool, true, false, if◌then◌else◌, Result, Ok, Err, List, [], ◌∷◌, ◌++◌}
use Rattle.mig_base.specs.declared.command.Entry.{Entry}
use Rattle.mig_base.specs.declared.effect.Effect.{Effect}
use Rattle.mig_base.specs.declared.refusal.Refusal.{Refusal}
use Rattle.mig_base.specs.declared.schedule.Side.{Side}
use Rattle.mig_base.specs.declared.schedule.Step.{Step}
use Rattle.mig_model.specs.Destination.{Destination, first_destination, is_dest_paused}
use Rattle.mig_model.specs.DestinationSteps as destination
use Rattle.mig_model.specs.Guest.{Guest}
use Rattle.mig_model.specs.GuestSteps.{Tried, issue, retry}
use Rattle.mig_model.specs.Lengths.{text_len}
use Rattle.mig_model.specs.NodeSteps.{Acted, Sends, and_then, first_of, in_phase, rest_of, while_down, while_up}
use Rattle.mig_model.specs.Source.{Source, first_source, is_source_idle, is_under_way}
use Rattle.mig_model.specs.SourceSteps as source
use Rattle.mig_model.specs.Wire.{Frame, Sent, Wire, empty_wire, wire_behind, wire_if, wire_moved, wire_with}

-- A world

-- both nodes, the three wires between them, the link, and the commands that the guest has made
pub record World : Type 0 where
  -- the two nodes
  pub source : Source
  pub destination : Destination
  -- the wire to the destination, the wire back, and the urgent wire to the destination
  pub forward : Wire
  pub back : Wire
  pub urgent : Wire
  -- whether the link is up
  pub up : Bool
  -- the commands that took effect, in that order, with their replies
  pub transcript : List Entry

-- a world of `cpus` processors in which nothing has happened, whose epoch and number of rounds are those given
abbrev pub first_world_with : ℕ → ℕ → ℕ → World
first_world_with cpus epoch rounds =
    record {
      source = first_source cpus epoch rounds;
      destination = first_destination cpus;
      forward = empty_wire;
      back = empty_wire;
      urgent = empty_wire;
      up = true;
      transcript = [];
    }

-- a world of `cpus` processors in which nothing has happened
abbrev pub first_world : ℕ → World
first_world cpus = first_world_with cpus 0 0

-- whether a migration has started: the source is no longer Idle
abbrev pub has_started : World → Bool
has_started world = not (is_source_idle world.source.phase)

-- Which node runs the processors

-- the guest at the node that runs it: the source until Switch, the destination once it has run. In between no node runs it, and its
-- processors are as the source left them
abbrev pub guest_by : Bool → Guest → Guest → Guest
guest_by true from to = to
guest_by false from to = from

-- the guest of a world, on which Issue and Retry act
abbrev pub guest_of : World → Guest
guest_of world = guest_by world.destination.has_run world.source.guest world.destination.guest

-- whether a node runs the processors: none does between Switch and the taking of the Package
abbrev pub runs : World → Bool
runs world = not world.source.switched || world.destination.has_run

-- the world with another guest at the node that runs it
abbrev pub with_guest_by : Bool → World → Guest → World
with_guest_by true world guest = record world { destination = record world.destination { guest = guest } }
with_guest_by false world guest = record world { source = record world.source { guest = guest } }

-- the world with another guest where `guest_of` reads it
abbrev pub with_guest : World → Guest → World
with_guest world guest = with_guest_by world.destination.has_run world guest

-- Answers

-- what an accepted step did, and the world after it
pub record Made : Type 0 where
  pub effect : Effect
  pub world : World

-- the answer of a step: its effect with the world after it, or why it is refused
abbrev pub Answer : Type 0
Answer = Result Made Refusal

-- the step is accepted, with this effect, and leads to this world
abbrev pub made : Effect → World → Answer
made effect world = Ok (record { effect = effect; world = world })

-- Steps of a node in a world

-- a command of the guest: what took effect is entered in the transcript
abbrev pub guest_tries : World → Result Tried Refusal → Answer
guest_tries world step =
    and_then step (λ tried.
    made tried.effect (record (with_guest world tried.guest) { transcript = world.transcript ++ tried.entries }))

-- a step of the source that sends nothing
abbrev pub source_acts : World → Result (Acted Source) Refusal → Answer
source_acts world step = and_then step (λ acted. made acted.effect (record world { source = acted.node }))

-- a step of the source that sends frames to the destination, in its epoch
abbrev pub source_sends : World → Result (Sends Source) Refusal → Answer
source_sends world step =
    and_then step (λ sends.
    made sends.effect (record world { source = sends.node; forward = wire_with world.forward sends.node.epoch sends.frames }))

-- the same on the urgent wire
abbrev pub source_sends_urgently : World → Result (Sends Source) Refusal → Answer
source_sends_urgently world step =
    and_then step (λ sends.
    made sends.effect (record world { source = sends.node; urgent = wire_with world.urgent sends.node.epoch sends.frames }))

-- a step of the destination that sends nothing
abbrev pub destination_acts : World → Result (Acted Destination) Refusal → Answer
destination_acts world step = and_then step (λ acted. made acted.effect (record world { destination = acted.node }))

-- a step of the destination that sends frames back, in its epoch. They are lost while the link is down
abbrev pub destination_sends : World → Result (Sends Destination) Refusal → Answer
destination_sends world step =
    and_then step (λ sends.
    made sends.effect (record world { destination = sends.node; back = wire_if world.up world.back sends.node.epoch sends.frames }))

-- Deliveries

-- whether `n` more bytes do not complete the first frame
abbrev pub is_short : Wire → Frame → ℕ → Bool
is_short wire frame n = nat_lt n (text_len frame - wire.held)

-- `n` more bytes of a wire reach its end: NothingThere if no frame is in flight. Bytes that do not complete the first frame wait at the
-- end; else the node takes the frame. `on` gives the world with this wire
abbrev pub delivered : (on : Wire → World) → Wire → ℕ → (World → Sent → Answer) → Answer
delivered on wire n take =
    and_then (ok_or (first_of wire.frames) Refusal.NothingThere) (λ sent.
    if is_short wire sent.frame n then made (Effect.Moved n) (on (wire_moved wire n))
    else take (on (wire_behind (rest_of wire.frames))) sent)

-- Deliver: refused as Phase before Start, Broken while the link is down, NothingThere if the wire to the destination is empty, and then
-- as the destination refuses the frame
abbrev pub deliver : World → ℕ → Answer
deliver world n =
    while_up world.up
    (in_phase (has_started world)
    (delivered (λ wire. record world { forward = wire }) world.forward n (λ behind sent.
    destination_sends behind (destination.take behind.destination sent.epoch sent.frame))))

-- DeliverBack: refused as Phase before Start, Broken while the link is down, NothingThere if the wire back is empty
abbrev pub deliver_back : World → ℕ → Answer
deliver_back world n =
    while_up world.up
    (in_phase (has_started world)
    (delivered (λ wire. record world { back = wire }) world.back n (λ behind sent.
    source_sends behind (source.take behind.source sent.frame))))

-- DeliverUrgent: refused as Phase until the destination has run, Broken while the link is down, NothingThere if the urgent wire is
-- empty
abbrev pub deliver_urgent : World → ℕ → Answer
deliver_urgent world n =
    while_up world.up
    (in_phase world.destination.has_run
    (delivered (λ wire. record world { urgent = wire }) world.urgent n (λ behind sent.
    destination_acts behind (destination.take_urgent behind.destination sent.frame))))

-- Break, Notice and Resume: the channel breaks, both sides notice it, and they continue over a new one in a new epoch

-- the link is down, and all that was in flight is lost, with the bytes of unfinished frames
abbrev pub cut : World → World
cut world = record world { forward = empty_wire; back = empty_wire; urgent = empty_wire; up = false }

-- Break: refused as Phase before Start and once the source is released, Broken if the link is down already
abbrev pub break : World → Answer
break world = while_up world.up (in_phase (is_under_way world.source) (made Effect.Broken (cut world)))

-- Notice: refused as Phase before Start, once the source is released and where that side is paused already, NotBroken while the link is
-- up
abbrev pub notice : World → Side → Answer
notice world Side.Source = source_acts world (while_down world.up (source.pause world.source))
notice world Side.Destination =
    destination_acts world (while_down world.up (in_phase (is_under_way world.source) (destination.pause world.destination)))

-- Resume: refused as Phase unless both sides are paused, NotBroken while the link is up, CountUsed if no epoch is left. The link is up,
-- and both sides stay paused until they take the Resume or the Recv that answers it
abbrev pub resume : World → Answer
resume world =
    source_sends (record world { up = true })
    (while_down world.up (in_phase (is_dest_paused world.destination.phase) (source.resume world.source)))

-- Steps

-- what a step answers: its effect with the world after it, or why it was refused
abbrev pub answer : World → Step → Answer
answer world (Step.Issue cpu command) = guest_tries world (issue (guest_of world) (runs world) cpu command)
answer world (Step.Retry cpu) = guest_tries world (retry (guest_of world) (runs world) cpu)
answer world Step.Start = source_sends world (source.start world.source)
answer world Step.Round = source_acts world (source.round world.source)
answer world Step.Send = source_sends world (while_up world.up (source.send world.source))
answer world (Step.SendRun count) = source_sends world (while_up world.up (source.send_run world.source count))
answer world Step.SourceRead = source_acts world (source.read world.source)
answer world Step.SourceAct = source_acts world (source.act world.source)
answer world Step.Switch = source_sends world (while_up world.up (source.switch world.source))
answer world (Step.Deliver n) = deliver world n
answer world (Step.DeliverBack n) = deliver_back world n
answer world Step.DestRead = destination_acts world (destination.read world.destination)
answer world Step.DestAct = destination_sends world (destination.act world.destination)
answer world Step.Install = destination_acts world (destination.install world.destination)
answer world (Step.Push ticket) = source_sends world (while_up world.up (source.push world.source ticket))
answer world (Step.PushUrgent ticket) = source_sends_urgently world (while_up world.up (source.push_urgent world.source ticket))
answer world (Step.DeliverUrgent n) = deliver_urgent world n
answer world Step.Serve = source_acts world (while_up world.up (source.serve world.source))
answer world Step.End = source_sends world (while_up world.up (source.end world.source))
answer world Step.Break = break world
answer world (Step.Notice side) = notice world side
answer world Step.Resume = resume world

-- an answer without its world: the effect, or why the step is refused
abbrev pub outcome_by : Answer → Result Effect Refusal
outcome_by (Ok made) = Ok made.effect
outcome_by (Err refusal) = Err refusal

-- the effect of a step in a world, or why it is refused there
unfoldable pub outcome : World → Step → Result Effect Refusal
outcome world step = outcome_by (answer world step)

-- the world after an answer. A refused step changes nothing
abbrev pub next_by : World → Answer → World
next_by world (Ok made) = made.world
next_by world (Err refusal) = world

-- the world after a step, which is the same world if the step is refused
unfoldable pub next : World → Step → World
next world step = next_by world (answer world step)

-- the world after steps made in turn, whether accepted or refused
abbrev pub after_steps : World → List Step → World
after_steps world [] = world
after_steps world (step ∷ steps) = after_steps (next world step) steps
