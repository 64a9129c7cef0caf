-- Every reached world has whole pages alone.
use Rattle.std.proofs.Common.{◌≡◌, ℕ, zero, suc, ◌+◌, Bool, true, false, cond, Option, Some, None, List, [], ◌∷◌, ◌++◌, map, refl, sym, subst}
use Rattle.std.specs.Ordering.{nat_cmp}
use Rattle.std.specs.FinMap as finmap
use Rattle.std.specs.FinMap.{FinMap}
use Rattle.std.specs.FinSet.{FinSet}
use Rattle.mig_base.specs.Commands.{is_access}
use Rattle.mig_base.specs.Bytes.{zero_page}
use Rattle.mig_base.specs.declared.command.Command.{Command}
use Rattle.mig_base.specs.declared.command.Entry.{Entry}
use Rattle.mig_base.specs.declared.phase.Received.{Received}
use Rattle.mig_base.specs.declared.schedule.Side.{Side}
use Rattle.mig_base.specs.declared.schedule.Step.{Step}
use Rattle.mig_model.specs.Bounds.{ArePageBytes, IsPageBytes}
use Rattle.mig_model.specs.Cpus.{entries_of}
use Rattle.mig_model.specs.Destination.{Destination, act_frames, copy_came, destination_act, destination_acted_by, destination_answers, destination_took, install_by, recv_by, received_of, resumed_by, urgent_took}
use Rattle.mig_base.specs.declared.act.Act.{Act}
use Rattle.mig_model.specs.Guest.{Guest, took_by, tried}
use Rattle.mig_base.specs.declared.act.Act.TheVariants.{Unprotected, Zeroed, Woke, Forgot, Requested}
use Rattle.mig_model.specs.Log.{no_pages, present}
use Rattle.mig_model.specs.Migration.{World, after_steps, first_world_with, guest_by, guest_of, next, with_guest_by}
use Rattle.mig_model.specs.Owed.{home}
use Rattle.mig_model.specs.Promises.{IsReached}
use Rattle.mig_model.specs.Source.{Source, bytes_of, package_frames, run_of, source_act, source_acted_by, source_answers, source_took, space_of, switch_frames}
use Rattle.mig_model.specs.Wire.{Copy, Frame, Sent, is_zeros, kept_with, page_frame, run_copies, sending, sending_if}
use Rattle.mig_model.specs.Wire.Frame.{Advise, Page, Zero, Run, Discard, Package, End, Resume, Request, Recv, Done}
use Rattle.mig_model.proofs.steps.StepCases.{MakesWorld, made-next}
use Rattle.mig_model.proofs.steps.StepWorlds.{after_command}
use Rattle.mig_laws.specs.Contents.{AreWholePages}
use Rattle.mig_laws.specs.Worlds.{AreWholeCopies, AreWholeFrames, HasWholePages, IsWholeFrame}
use Rattle.mig_laws.proofs.WholePages.{contents_whole, inserted_whole, none_whole, put_whole, retained_whole, tried_whole, zeros_whole}

-- Frames that are sent

abbrev pub AllWhole : List Frame → Type 0
AllWhole [] = Unit {0}
AllWhole (frame ∷ frames) = IsWholeFrame frame × AllWhole frames

one_more : (wire : List Sent) (sent : Sent) → AreWholeFrames wire → IsWholeFrame sent.frame → AreWholeFrames (wire ++ sent ∷ [])
one_more [] sent old new = (new, tt)
one_more (first ∷ rest) sent old new = (old.0, one_more rest sent old.1 new)

pub sent_whole : (wire : List Sent) (epoch : ℕ) (frames : List Frame) → AreWholeFrames wire → AllWhole frames → AreWholeFrames (sending wire epoch frames)
sent_whole wire epoch [] old new = old
sent_whole wire epoch (frame ∷ frames) old new = sent_whole (wire ++ record { epoch = epoch; frame = frame } ∷ []) epoch frames (one_more wire (record { epoch = epoch; frame = frame }) old new.0) new.1

pub sent_if_whole : (up : Bool) (wire : List Sent) (epoch : ℕ) (frames : List Frame) → AreWholeFrames wire → AllWhole frames → AreWholeFrames (sending_if up wire epoch frames)
sent_if_whole true wire epoch frames old new = sent_whole wire epoch frames old new
sent_if_whole false wire epoch frames old new = old

page_either : (page : ℕ) (bytes : List ℕ) (zeros : Bool) → is_zeros bytes ≡ zeros → IsPageBytes bytes → IsWholeFrame (cond zeros (Zero page) (Page page bytes))
page_either page bytes true is whole = tt
page_either page bytes false is whole = (whole, is)

pub page_whole : (source : Source) (page : ℕ) → AreWholePages (space_of source).host.bytes → IsWholeFrame (page_frame page (bytes_of source page))
page_whole source page whole = page_either page (bytes_of source page) (is_zeros (bytes_of source page)) refl (contents_whole (space_of source).host.bytes page whole)

pub run_whole : (source : Source) (first count : ℕ) → AreWholePages (space_of source).host.bytes → ArePageBytes (run_of source first count)
run_whole source first zero whole = tt
run_whole source first (suc count) whole = (contents_whole (space_of source).host.bytes first whole, run_whole source (1 + first) count whole)

rebuilt_by : (switched : Bool) (source : Source) (pages : FinSet nat_cmp) (owed : FinSet nat_cmp) → AllWhole (cond switched (package_frames source pages owed) [])
rebuilt_by true source pages owed = (tt, (tt, tt))
rebuilt_by false source pages owed = tt

pub answers_whole : (source : Source) (frame : Frame) → AllWhole (source_answers source frame)
answers_whole source (Recv Received.NotRun owed) = rebuilt_by source.switched source no_pages (present (space_of source))
answers_whole source (Recv Received.Running owed) = tt
answers_whole source (Recv Received.Ended owed) = tt
answers_whole source _ = tt

requests_whole : (requests : List ℕ) → AllWhole (map Request requests)
requests_whole [] = tt
requests_whole (request ∷ requests) = (tt, requests_whole requests)

recv_whole : (state : Received) (node : Destination) → AllWhole (recv_by state node)
recv_whole Received.NotRun node = (tt, tt)
recv_whole Received.Running node = (tt, requests_whole node.requests)
recv_whole Received.Ended node = (tt, tt)

pub there_answers_whole : (node : Destination) (frame : Frame) → AllWhole (destination_answers node frame)
there_answers_whole node (End urgent) = (tt, tt)
there_answers_whole node Resume = recv_whole (received_of node) node
there_answers_whole node _ = tt

asked_whole : (b : Bool) (origin : ℕ) → AllWhole (cond b [] (Request origin ∷ []))
asked_whole true origin = tt
asked_whole false origin = (tt, tt)

pub act_frames_whole : (act : Act) (node : Destination) → AllWhole (act_frames act node)
act_frames_whole (Requested origin) node = asked_whole _ origin
act_frames_whole _ node = tt

-- The source

pub source_acted_whole : (act : Act) (node : Source) (page : ℕ) → AreWholePages (space_of node).host.bytes → AreWholePages (space_of (source_acted_by act node page)).host.bytes
source_acted_whole Zeroed node page old = put_whole (space_of node).host.bytes page zero_page old zeros_whole
source_acted_whole _ node page old = old

rebuilt_whole : (switched : Bool) (a b : Source) → AreWholePages (space_of a).host.bytes → AreWholePages (space_of b).host.bytes → AreWholePages (space_of (cond switched a b)).host.bytes
rebuilt_whole true a b one other = one
rebuilt_whole false a b one other = other

pub source_took_whole : (node : Source) (frame : Frame) → AreWholePages (space_of node).host.bytes → AreWholePages (space_of (source_took node frame)).host.bytes
source_took_whole node (Recv Received.NotRun owed) old = rebuilt_whole node.switched _ _ old old
source_took_whole node (Recv Received.Running owed) old = old
source_took_whole node (Recv Received.Ended owed) old = none_whole
source_took_whole node Done old = none_whole
source_took_whole node _ old = old

-- The destination

-- its memory, the copies that it keeps, and those that have arrived
pub record HasWholeCopies (node : Destination) : Type 0 where
  pub memory : AreWholePages node.guest.space.host.bytes
  pub kept : AreWholePages node.kept
  pub arrivals : AreWholeCopies node.arrivals

one_copy : (copies : List Copy) (copy : Copy) → AreWholeCopies copies → IsPageBytes copy.bytes → AreWholeCopies (copies ++ copy ∷ [])
one_copy [] copy old new = (new, tt)
one_copy (first ∷ rest) copy old new = (old.0, one_copy rest copy old.1 new)

came_whole : (ran : Bool) (node : Destination) (copy : Copy) → HasWholeCopies node → IsPageBytes copy.bytes → HasWholeCopies (copy_came ran node copy)
came_whole true node copy old new = record { memory = old.memory; kept = old.kept; arrivals = one_copy node.arrivals copy old.arrivals new }
came_whole false node copy old new = record { memory = old.memory; kept = inserted_whole node.kept copy.page copy.bytes old.kept new; arrivals = old.arrivals }

run_kept : (kept : FinMap nat_cmp (List ℕ)) (first : ℕ) (pages : List (List ℕ)) → AreWholePages kept → ArePageBytes pages → AreWholePages (kept_with kept (run_copies first pages))
run_kept kept first [] old new = old
run_kept kept first (bytes ∷ pages) old new = run_kept (finmap.insert kept first bytes) (1 + first) pages (inserted_whole kept first bytes old new.0) new.1

resumed_whole : (state : Received) (node : Destination) → HasWholeCopies node → HasWholeCopies (resumed_by state node)
resumed_whole Received.NotRun node old = record { memory = old.memory; kept = none_whole; arrivals = old.arrivals }
resumed_whole Received.Running node old = record { memory = old.memory; kept = old.kept; arrivals = old.arrivals }
resumed_whole Received.Ended node old = record { memory = old.memory; kept = old.kept; arrivals = old.arrivals }

pub took_whole : (node : Destination) (epoch : ℕ) (frame : Frame) → IsWholeFrame frame → HasWholeCopies node → HasWholeCopies (destination_took node epoch frame)
took_whole node epoch Advise new old = record { memory = old.memory; kept = old.kept; arrivals = old.arrivals }
took_whole node epoch (Page page bytes) new old = came_whole node.has_run node (record { page = page; bytes = bytes }) old new.0
took_whole node epoch (Zero page) new old = came_whole node.has_run node (record { page = page; bytes = zero_page }) old zeros_whole
took_whole node epoch (Run first pages) new old = record { memory = old.memory; kept = run_kept node.kept first pages old.kept new; arrivals = old.arrivals }
took_whole node epoch (Discard pages) new old = record { memory = old.memory; kept = retained_whole node.kept _ old.kept; arrivals = old.arrivals }
took_whole node epoch (Package areas owed commands) new old = record { memory = old.kept; kept = none_whole; arrivals = old.arrivals }
took_whole node epoch (End urgent) new old = record { memory = old.memory; kept = old.kept; arrivals = old.arrivals }
took_whole node epoch Resume new old = resumed_whole (received_of node) (record node { epoch = epoch; urgent_taken = 0 }) (record { memory = old.memory; kept = old.kept; arrivals = old.arrivals })
took_whole node epoch (Request page) new old = old
took_whole node epoch (Recv state owed) new old = old
took_whole node epoch Done new old = old

pub urgent_whole : (node : Destination) (frame : Frame) → IsWholeFrame frame → HasWholeCopies node → HasWholeCopies (urgent_took node frame)
urgent_whole node (Page page bytes) new old = record { memory = old.memory; kept = old.kept; arrivals = one_copy node.arrivals (record { page = page; bytes = bytes }) old.arrivals new.0 }
urgent_whole node (Zero page) new old = record { memory = old.memory; kept = old.kept; arrivals = one_copy node.arrivals (record { page = page; bytes = zero_page }) old.arrivals zeros_whole }
urgent_whole node _ new old = old

pub acted_whole : (act : Act) (node : Destination) (page : ℕ) → HasWholeCopies node → HasWholeCopies (destination_acted_by act node page)
acted_whole Zeroed node page old = record { memory = put_whole node.guest.space.host.bytes page zero_page old.memory zeros_whole; kept = old.kept; arrivals = old.arrivals }
acted_whole Unprotected node page old = record { memory = old.memory; kept = old.kept; arrivals = old.arrivals }
acted_whole Woke node page old = record { memory = old.memory; kept = old.kept; arrivals = old.arrivals }
acted_whole Forgot node page old = record { memory = old.memory; kept = old.kept; arrivals = old.arrivals }
acted_whole (Requested origin) node page old = record { memory = old.memory; kept = old.kept; arrivals = old.arrivals }

pub installed_whole : (o : Option ℕ) (node : Destination) (copy : Copy) (rest : List Copy) → AreWholeCopies (copy ∷ rest) → HasWholeCopies node → HasWholeCopies (install_by o node copy rest)
installed_whole (Some page) node copy rest first old = record { memory = put_whole node.guest.space.host.bytes page copy.bytes old.memory first.0; kept = old.kept; arrivals = first.1 }
installed_whole None node copy rest first old = record { memory = old.memory; kept = old.kept; arrivals = first.1 }

-- Worlds

copies_of : (world : World) → HasWholePages world → HasWholeCopies world.destination
copies_of world whole = record { memory = whole.destination; kept = whole.kept; arrivals = whole.arrivals }

-- a world by its parts
from_parts : (world : World) → AreWholePages (space_of world.source).host.bytes → HasWholeCopies world.destination → AreWholeFrames world.forward.frames → AreWholeFrames world.back.frames → AreWholeFrames world.urgent.frames → HasWholePages world
from_parts world source there forward back urgent =
    record { source = source; destination = there.memory; kept = there.kept; arrivals = there.arrivals; forward = forward; back = back; urgent = urgent }

guest_whole : (ran : Bool) (world : World) (guest : Guest) (entries : List Entry) → AreWholePages guest.space.host.bytes → HasWholePages world → HasWholePages (record (with_guest_by ran world guest) { transcript = entries })
guest_whole true world guest entries new old =
    record { source = old.source; destination = new; kept = old.kept; arrivals = old.arrivals; forward = old.forward; back = old.back; urgent = old.urgent }
guest_whole false world guest entries new old =
    record { source = new; destination = old.destination; kept = old.kept; arrivals = old.arrivals; forward = old.forward; back = old.back; urgent = old.urgent }

tried_by : (ran : Bool) (a b : Guest) (cpu : ℕ) (command : Command) → AreWholePages a.space.host.bytes → AreWholePages b.space.host.bytes → AreWholePages (tried (is_access command) (guest_by ran a b) cpu command).space.host.bytes
tried_by true a b cpu command one other = tried_whole (is_access command) b cpu command other
tried_by false a b cpu command one other = tried_whole (is_access command) a cpu command one

command_whole : (world : World) (cpu : ℕ) (command : Command) → HasWholePages world → HasWholePages (after_command world cpu command)
command_whole world cpu command old =
    guest_whole world.destination.has_run world (tried (is_access command) (guest_of world) cpu command)
    (world.transcript ++ entries_of cpu command (took_by (is_access command) (guest_of world).space command))
    (tried_by world.destination.has_run world.source.guest world.destination.guest cpu command old.source old.destination) old

whole-made : (world : World) (step : Step) → HasWholePages world → MakesWorld HasWholePages world step
whole-made world (Step.Issue cpu command) old = λ there idle may. command_whole world cpu command old
whole-made world (Step.Retry cpu) old = λ command waits woken may. command_whole world cpu command old
whole-made world Step.Start old = λ idle unused. from_parts _ old.source (copies_of world old) (sent_whole world.forward.frames _ (Advise ∷ []) old.forward (tt, tt)) old.back old.urgent
whole-made world Step.Round old = λ precopy quiet. from_parts _ old.source (copies_of world old) old.forward old.back old.urgent
whole-made world Step.Send old =
    λ page is precopy up quiet.
    from_parts _ old.source (copies_of world old) (sent_whole world.forward.frames _ (page_frame page (bytes_of world.source page) ∷ []) old.forward (page_whole world.source page old.source, tt)) old.back old.urgent
whole-made world (Step.SendRun count) old =
    λ first number is many precopy up quiet.
    from_parts _ old.source (copies_of world old) (sent_whole world.forward.frames _ (Run first (run_of world.source first number) ∷ []) old.forward (run_whole world.source first number old.source, tt)) old.back old.urgent
whole-made world Step.SourceRead old = λ noted is started unswitched. from_parts _ old.source (copies_of world old) old.forward old.back old.urgent
whole-made world Step.SourceAct old =
    λ fault rest is started unswitched quiet. from_parts _ (source_acted_whole (source_act world.source fault) world.source fault.page old.source) (copies_of world old) old.forward old.back old.urgent
whole-made world Step.Switch old =
    λ precopy up quiet. from_parts _ old.source (copies_of world old) (sent_whole world.forward.frames _ (switch_frames world.source) old.forward (tt, (tt, tt))) old.back old.urgent
whole-made world (Step.Deliver n) old = (
  (λ sent rest is short. from_parts _ old.source (copies_of world old) old.forward old.back old.urgent),
  (λ sent rest is full started up free early.
      let frames = subst AreWholeFrames is old.forward in
      from_parts _ old.source (took_whole world.destination sent.epoch sent.frame frames.0 (copies_of world old)) frames.1
      (sent_if_whole world.up world.back.frames _ (destination_answers world.destination sent.frame) old.back (there_answers_whole world.destination sent.frame)) old.urgent),
)
whole-made world (Step.DeliverBack n) old = (
  (λ sent rest is short. from_parts _ old.source (copies_of world old) old.forward old.back old.urgent),
  (λ sent rest is full started up.
      let frames = subst AreWholeFrames is old.back in
      from_parts _ (source_took_whole world.source sent.frame old.source) (copies_of world old)
      (sent_whole world.forward.frames _ (source_answers world.source sent.frame) old.forward (answers_whole world.source sent.frame)) frames.1 old.urgent),
)
whole-made world Step.DestRead old = λ noted is ran. from_parts _ old.source (record { memory = old.destination; kept = old.kept; arrivals = old.arrivals }) old.forward old.back old.urgent
whole-made world Step.DestAct old =
    λ fault rest is ran quiet.
    from_parts _ old.source (acted_whole (destination_act world.destination fault) world.destination fault.page (copies_of world old)) old.forward
    (sent_if_whole world.up world.back.frames _ (act_frames (destination_act world.destination fault) world.destination) old.back (act_frames_whole (destination_act world.destination fault) world.destination)) old.urgent
whole-made world Step.Install old =
    λ copy rest is ran quiet.
    from_parts _ old.source (installed_whole (home world.destination.owed copy.page) world.destination copy rest (subst AreWholeCopies is old.arrivals) (copies_of world old)) old.forward old.back old.urgent
whole-made world (Step.Push ticket) old =
    λ stopped up own present remains.
    from_parts _ old.source (copies_of world old) (sent_whole world.forward.frames _ (page_frame ticket.page (bytes_of world.source ticket.page) ∷ []) old.forward (page_whole world.source ticket.page old.source, tt)) old.back old.urgent
whole-made world (Step.PushUrgent ticket) old =
    λ stopped up own present remains.
    from_parts _ old.source (copies_of world old) old.forward old.back (sent_whole world.urgent.frames _ (page_frame ticket.page (bytes_of world.source ticket.page) ∷ []) old.urgent (page_whole world.source ticket.page old.source, tt))
whole-made world (Step.DeliverUrgent n) old = (
  (λ sent rest is short. from_parts _ old.source (copies_of world old) old.forward old.back old.urgent),
  (λ sent rest is full ran up.
      let frames = subst AreWholeFrames is old.urgent in
      from_parts _ old.source (urgent_whole world.destination sent.frame frames.0 (copies_of world old)) old.forward old.back frames.1),
)
whole-made world Step.Serve old = λ page pages is stopped up. from_parts _ old.source (copies_of world old) old.forward old.back old.urgent
whole-made world Step.End old =
    λ stopped other up none. from_parts _ old.source (copies_of world old) (sent_whole world.forward.frames _ (End world.source.urgent_sent ∷ []) old.forward (tt, tt)) old.back old.urgent
whole-made world Step.Break old = λ started unreleased up. from_parts _ old.source (copies_of world old) tt tt tt
whole-made world (Step.Notice Side.Source) old = λ started unreleased down. from_parts _ old.source (copies_of world old) old.forward old.back old.urgent
whole-made world (Step.Notice Side.Destination) old =
    λ started unreleased down. from_parts _ old.source (record { memory = old.destination; kept = old.kept; arrivals = old.arrivals }) old.forward old.back old.urgent
whole-made world Step.Resume old = λ from to down unused. from_parts _ old.source (copies_of world old) (sent_whole world.forward.frames _ (Resume ∷ []) old.forward (tt, tt)) old.back old.urgent

pub whole-next : (world : World) (step : Step) → HasWholePages world → HasWholePages (next world step)
whole-next world step old = made-next HasWholePages world step old (whole-made world step old)

whole-after : (world : World) (steps : List Step) → HasWholePages world → HasWholePages (after_steps world steps)
whole-after world [] old = old
whole-after world (step ∷ steps) old = whole-after (next world step) steps (whole-next world step old)

pub whole-first : (cpus epoch rounds : ℕ) → HasWholePages (first_world_with cpus epoch rounds)
whole-first cpus epoch rounds = record { source = none_whole; destination = none_whole; kept = none_whole; arrivals = tt; forward = tt; back = tt; urgent = tt }

pub whole-reached : (world : World) → IsReached world → HasWholePages world
whole-reached world reached = subst HasWholePages (sym reached.is) (whole-after (first_world_with reached.cpus reached.epoch reached.rounds) reached.steps (whole-first reached.cpus reached.epoch reached.rounds))
