-- What a step of a node does to a world: what the node gives by itself, and nothing else.
use Rattle.std.proofs.Common.{◌≡◌, ℕ, ◌||◌, Bool, true, false, not, [], ◌++◌, if◌then◌else◌, refl, sym, ap, ◌∙◌}
use Rattle.std.specs.Prelude.{Result, Ok, Err, IsOk}
use Rattle.std.proofs.Math.Bool.{or-true}
use Rattle.std.proofs.lemmas.Bool.{false≢true}
use Rattle.std.proofs.lemmas.List.{append-nil}
use Rattle.mig_base.specs.declared.command.Command.{Command}
use Rattle.mig_base.specs.declared.refusal.Refusal.{Refusal}
use Rattle.mig_base.specs.declared.schedule.Side.{Side}
use Rattle.mig_base.specs.declared.schedule.Step.{Step}
use Rattle.mig_model.specs.Destination.{Destination}
use Rattle.mig_model.specs.DestinationSteps as destination
use Rattle.mig_model.specs.GuestSteps.{Tried, issue, retry}
use Rattle.mig_model.specs.Migration.{Answer, World, answer, destination_acts, destination_sends, guest_by, guest_tries, made, outcome_by, source_acts, source_sends, source_sends_urgently, with_guest_by}
use Rattle.mig_model.specs.NodeSteps.{Acted, Sends, and_then, in_phase, while_down, while_up}
use Rattle.mig_model.specs.Source.{Source, is_under_way}
use Rattle.mig_model.specs.SourceSteps as source
use Rattle.mig_model.specs.Wire.{wire_if, wire_with}
use Rattle.mig_laws.specs.Orders.{needs_link}
use Rattle.mig_laws.specs.Sides.{Did, acts, destination_step, sends, sends_urgently, source_step, tries}
use Rattle.mig_laws.proofs.StepForms.{in_phase-map, while_down-map, while_up-map}

-- The source

-- the world once the source has done something
abbrev pub source_done : World → Did Source → World
source_done world did =
    record world {
      source = did.node;
      forward = wire_with world.forward did.node.epoch did.frames;
      urgent = wire_with world.urgent did.node.epoch did.urgent;
      transcript = world.transcript ++ did.entries;
    }

-- the answer of a world in which the source does something by itself
abbrev pub source_gives : World → Result (Did Source) Refusal → Answer
source_gives world step = and_then step (λ did. made did.effect (source_done world did))

pub acts-gives : (world : World) (step : Result (Acted Source) Refusal) → source_acts world step ≡ source_gives world (acts step)
acts-gives world (Ok acted) = ap (λ entries. made acted.effect (record world { source = acted.node; transcript = entries })) (sym (append-nil world.transcript))
acts-gives world (Err refusal) = refl

pub sends-gives : (world : World) (step : Result (Sends Source) Refusal) → source_sends world step ≡ source_gives world (sends step)
sends-gives world (Ok sent) = ap (λ entries. made sent.effect (record world { source = sent.node; forward = wire_with world.forward sent.node.epoch sent.frames; transcript = entries })) (sym (append-nil world.transcript))
sends-gives world (Err refusal) = refl

urgently-gives : (world : World) (step : Result (Sends Source) Refusal) → source_sends_urgently world step ≡ source_gives world (sends_urgently step)
urgently-gives world (Ok sent) = ap (λ entries. made sent.effect (record world { source = sent.node; urgent = wire_with world.urgent sent.node.epoch sent.frames; transcript = entries })) (sym (append-nil world.transcript))
urgently-gives world (Err refusal) = refl

-- a command where the destination has not run
tries-gives : (ran : Bool) (world : World) (step : Result Tried Refusal) → ran ≡ false →
    and_then step (λ tried. made tried.effect (record (with_guest_by ran world tried.guest) { transcript = world.transcript ++ tried.entries })) ≡ source_gives world (tries (λ guest. record world.source { guest = guest }) step)
tries-gives true world step is = absurd (false≢true (sym is))
tries-gives false world (Ok tried) is = refl
tries-gives false world (Err refusal) is = refl

-- what a step of the source gives while the link is up or down
abbrev pub source_linked : Bool → Source → Step → Result (Did Source) Refusal
source_linked up node (Step.Notice side) = while_down up (source_step node (Step.Notice side))
source_linked up node step = if needs_link step then while_up up (source_step node step) else source_step node step

-- the steps that the source makes by itself, but for commands and Resume
abbrev pub is_source_own : Step → Bool
is_source_own Step.Start = true
is_source_own Step.Round = true
is_source_own Step.Send = true
is_source_own (Step.SendRun count) = true
is_source_own Step.SourceRead = true
is_source_own Step.SourceAct = true
is_source_own Step.Switch = true
is_source_own (Step.Push ticket) = true
is_source_own (Step.PushUrgent ticket) = true
is_source_own Step.Serve = true
is_source_own Step.End = true
is_source_own (Step.Notice Side.Source) = true
is_source_own step = false

linked-sends : (world : World) (step : Result (Sends Source) Refusal) → source_sends world (while_up world.up step) ≡ source_gives world (while_up world.up (sends step))
linked-sends world step = sends-gives world (while_up world.up step) ∙ ap (source_gives world) (sym (while_up-map _ world.up step (sends step) refl))

linked-urgently : (world : World) (step : Result (Sends Source) Refusal) → source_sends_urgently world (while_up world.up step) ≡ source_gives world (while_up world.up (sends_urgently step))
linked-urgently world step = urgently-gives world (while_up world.up step) ∙ ap (source_gives world) (sym (while_up-map _ world.up step (sends_urgently step) refl))

linked-acts : (world : World) (step : Result (Acted Source) Refusal) → source_acts world (while_up world.up step) ≡ source_gives world (while_up world.up (acts step))
linked-acts world step = acts-gives world (while_up world.up step) ∙ ap (source_gives world) (sym (while_up-map _ world.up step (acts step) refl))

noticed-acts : (world : World) (step : Result (Acted Source) Refusal) → source_acts world (while_down world.up step) ≡ source_gives world (while_down world.up (acts step))
noticed-acts world step = acts-gives world (while_down world.up step) ∙ ap (source_gives world) (sym (while_down-map _ world.up step (acts step) refl))

pub source-own : (world : World) (step : Step) → is_source_own step ≡ true → answer world step ≡ source_gives world (source_linked world.up world.source step)
source-own world Step.Start own = sends-gives world (source.start world.source)
source-own world Step.Round own = acts-gives world (source.round world.source)
source-own world Step.Send own = linked-sends world (source.send world.source)
source-own world (Step.SendRun count) own = linked-sends world (source.send_run world.source count)
source-own world Step.SourceRead own = acts-gives world (source.read world.source)
source-own world Step.SourceAct own = acts-gives world (source.act world.source)
source-own world Step.Switch own = linked-sends world (source.switch world.source)
source-own world (Step.Push ticket) own = linked-sends world (source.push world.source ticket)
source-own world (Step.PushUrgent ticket) own = linked-urgently world (source.push_urgent world.source ticket)
source-own world Step.Serve own = linked-acts world (source.serve world.source)
source-own world Step.End own = linked-sends world (source.end world.source)
source-own world (Step.Notice Side.Source) own = noticed-acts world (source.pause world.source)
source-own world (Step.Notice Side.Destination) own = absurd (false≢true own)
source-own world (Step.Issue cpu command) own = absurd (false≢true own)
source-own world (Step.Retry cpu) own = absurd (false≢true own)
source-own world (Step.Deliver n) own = absurd (false≢true own)
source-own world (Step.DeliverBack n) own = absurd (false≢true own)
source-own world (Step.DeliverUrgent n) own = absurd (false≢true own)
source-own world Step.DestRead own = absurd (false≢true own)
source-own world Step.DestAct own = absurd (false≢true own)
source-own world Step.Install own = absurd (false≢true own)
source-own world Step.Break own = absurd (false≢true own)
source-own world Step.Resume own = absurd (false≢true own)

pub or-false : (b : Bool) → (b || false) ≡ b
or-false true = refl
or-false false = refl

issue_by : (ran : Bool) (world : World) (cpu : ℕ) (command : Command) → ran ≡ false → issue (guest_by ran world.source.guest world.destination.guest) (not world.source.switched || ran) cpu command ≡ issue world.source.guest (not world.source.switched) cpu command
issue_by true world cpu command is = absurd (false≢true (sym is))
issue_by false world cpu command is = ap (λ runs. issue world.source.guest runs cpu command) (or-false (not world.source.switched))

retry_by : (ran : Bool) (world : World) (cpu : ℕ) → ran ≡ false → retry (guest_by ran world.source.guest world.destination.guest) (not world.source.switched || ran) cpu ≡ retry world.source.guest (not world.source.switched) cpu
retry_by true world cpu is = absurd (false≢true (sym is))
retry_by false world cpu is = ap (λ runs. retry world.source.guest runs cpu) (or-false (not world.source.switched))

pub source-issue : (world : World) (cpu : ℕ) (command : Command) → world.destination.has_run ≡ false → answer world (Step.Issue cpu command) ≡ source_gives world (source_step world.source (Step.Issue cpu command))
source-issue world cpu command is = ap (guest_tries world) (issue_by world.destination.has_run world cpu command is) ∙ tries-gives world.destination.has_run world (issue world.source.guest (not world.source.switched) cpu command) is

pub source-retry : (world : World) (cpu : ℕ) → world.destination.has_run ≡ false → answer world (Step.Retry cpu) ≡ source_gives world (source_step world.source (Step.Retry cpu))
source-retry world cpu is = ap (guest_tries world) (retry_by world.destination.has_run world cpu is) ∙ tries-gives world.destination.has_run world (retry world.source.guest (not world.source.switched) cpu) is

-- The destination

-- the world once the destination has done something
abbrev pub destination_done : World → Did Destination → World
destination_done world did =
    record world {
      destination = did.node;
      back = wire_if world.up world.back did.node.epoch did.frames;
      transcript = world.transcript ++ did.entries;
    }

-- the answer of a world in which the destination does something by itself
abbrev pub destination_gives : World → Result (Did Destination) Refusal → Answer
destination_gives world step = and_then step (λ did. made did.effect (destination_done world did))

none_sent : (up : Bool) (world : World) (acted : Acted Destination) → made acted.effect (record world { destination = acted.node }) ≡ made acted.effect (record world { destination = acted.node; back = wire_if up world.back acted.node.epoch [] })
none_sent true world acted = refl
none_sent false world acted = refl

pub there_acts-gives : (world : World) (step : Result (Acted Destination) Refusal) → destination_acts world step ≡ destination_gives world (acts step)
there_acts-gives world (Ok acted) =
    none_sent world.up world acted
    ∙ ap (λ entries. made acted.effect (record world { destination = acted.node; back = wire_if world.up world.back acted.node.epoch []; transcript = entries })) (sym (append-nil world.transcript))
there_acts-gives world (Err refusal) = refl

pub there_sends-gives : (world : World) (step : Result (Sends Destination) Refusal) → destination_sends world step ≡ destination_gives world (sends step)
there_sends-gives world (Ok sent) = ap (λ entries. made sent.effect (record world { destination = sent.node; back = wire_if world.up world.back sent.node.epoch sent.frames; transcript = entries })) (sym (append-nil world.transcript))
there_sends-gives world (Err refusal) = refl

ran_sent : (up : Bool) (world : World) (tried : Tried) (node : Destination) → made tried.effect (record world { destination = node; transcript = world.transcript ++ tried.entries }) ≡ made tried.effect (record world { destination = node; back = wire_if up world.back node.epoch []; transcript = world.transcript ++ tried.entries })
ran_sent true world tried node = refl
ran_sent false world tried node = refl

-- a command where the destination has run
there_tries-gives : (ran : Bool) (world : World) (step : Result Tried Refusal) → ran ≡ true →
    and_then step (λ tried. made tried.effect (record (with_guest_by ran world tried.guest) { transcript = world.transcript ++ tried.entries })) ≡ destination_gives world (tries (λ guest. record world.destination { guest = guest }) step)
there_tries-gives false world step is = absurd (false≢true is)
there_tries-gives true world (Ok tried) is = ran_sent world.up world tried (record world.destination { guest = tried.guest })
there_tries-gives true world (Err refusal) is = refl

-- what a step of the destination gives while the link is up or down, and a migration is under way or not
abbrev pub destination_linked : Bool → Bool → Destination → Step → Result (Did Destination) Refusal
destination_linked up under_way node (Step.Notice side) = while_down up (in_phase under_way (destination_step node (Step.Notice side)))
destination_linked up under_way node step = destination_step node step

-- the steps that the destination makes by itself, but for commands
abbrev pub is_destination_own : Step → Bool
is_destination_own Step.DestRead = true
is_destination_own Step.DestAct = true
is_destination_own Step.Install = true
is_destination_own (Step.Notice Side.Destination) = true
is_destination_own step = false

there-noticed : (world : World) (under_way : Bool) (step : Result (Acted Destination) Refusal) → destination_acts world (while_down world.up (in_phase under_way step)) ≡ destination_gives world (while_down world.up (in_phase under_way (acts step)))
there-noticed world under_way step =
    there_acts-gives world (while_down world.up (in_phase under_way step))
    ∙ ap (destination_gives world) (sym (while_down-map _ world.up (in_phase under_way step) (in_phase under_way (acts step)) (in_phase-map _ under_way step (acts step) refl)))

pub destination-own : (world : World) (step : Step) → is_destination_own step ≡ true → answer world step ≡ destination_gives world (destination_linked world.up (is_under_way world.source) world.destination step)
destination-own world Step.DestRead own = there_acts-gives world (destination.read world.destination)
destination-own world Step.DestAct own = there_sends-gives world (destination.act world.destination)
destination-own world Step.Install own = there_acts-gives world (destination.install world.destination)
destination-own world (Step.Notice Side.Destination) own = there-noticed world (is_under_way world.source) (destination.pause world.destination)
destination-own world (Step.Notice Side.Source) own = absurd (false≢true own)
destination-own world (Step.Issue cpu command) own = absurd (false≢true own)
destination-own world (Step.Retry cpu) own = absurd (false≢true own)
destination-own world Step.Start own = absurd (false≢true own)
destination-own world Step.Round own = absurd (false≢true own)
destination-own world Step.Send own = absurd (false≢true own)
destination-own world (Step.SendRun count) own = absurd (false≢true own)
destination-own world Step.SourceRead own = absurd (false≢true own)
destination-own world Step.SourceAct own = absurd (false≢true own)
destination-own world Step.Switch own = absurd (false≢true own)
destination-own world (Step.Push ticket) own = absurd (false≢true own)
destination-own world (Step.PushUrgent ticket) own = absurd (false≢true own)
destination-own world (Step.Deliver n) own = absurd (false≢true own)
destination-own world (Step.DeliverBack n) own = absurd (false≢true own)
destination-own world (Step.DeliverUrgent n) own = absurd (false≢true own)
destination-own world Step.Serve own = absurd (false≢true own)
destination-own world Step.End own = absurd (false≢true own)
destination-own world Step.Break own = absurd (false≢true own)
destination-own world Step.Resume own = absurd (false≢true own)

there_issue_by : (ran : Bool) (world : World) (cpu : ℕ) (command : Command) → ran ≡ true → issue (guest_by ran world.source.guest world.destination.guest) (not world.source.switched || ran) cpu command ≡ issue world.destination.guest ran cpu command
there_issue_by false world cpu command is = absurd (false≢true is)
there_issue_by true world cpu command is = ap (λ runs. issue world.destination.guest runs cpu command) (or-true (not world.source.switched))

there_retry_by : (ran : Bool) (world : World) (cpu : ℕ) → ran ≡ true → retry (guest_by ran world.source.guest world.destination.guest) (not world.source.switched || ran) cpu ≡ retry world.destination.guest ran cpu
there_retry_by false world cpu is = absurd (false≢true is)
there_retry_by true world cpu is = ap (λ runs. retry world.destination.guest runs cpu) (or-true (not world.source.switched))

pub destination-issue : (world : World) (cpu : ℕ) (command : Command) → world.destination.has_run ≡ true → answer world (Step.Issue cpu command) ≡ destination_gives world (destination_step world.destination (Step.Issue cpu command))
destination-issue world cpu command is = ap (guest_tries world) (there_issue_by world.destination.has_run world cpu command is) ∙ there_tries-gives world.destination.has_run world (issue world.destination.guest world.destination.has_run cpu command) is

pub destination-retry : (world : World) (cpu : ℕ) → world.destination.has_run ≡ true → answer world (Step.Retry cpu) ≡ destination_gives world (destination_step world.destination (Step.Retry cpu))
destination-retry world cpu is = ap (guest_tries world) (there_retry_by world.destination.has_run world cpu is) ∙ there_tries-gives world.destination.has_run world (retry world.destination.guest world.destination.has_run cpu) is

-- What is accepted

-- an accepted answer of the source is what it did
pub source_did : (world : World) (step : Result (Did Source) Refusal) → IsOk (outcome_by (source_gives world step)) → (did : Did Source) × (step ≡ Ok did)
source_did world (Ok did) ok = (did, refl)
source_did world (Err refusal) ok = absurd (false≢true ok)

pub destination_did : (world : World) (step : Result (Did Destination) Refusal) → IsOk (outcome_by (destination_gives world step)) → (did : Did Destination) × (step ≡ Ok did)
destination_did world (Ok did) ok = (did, refl)
destination_did world (Err refusal) ok = absurd (false≢true ok)
