-- What every world keeps of the urgent wire is kept by every step.
use Rattle.std.proofs.lemmas.Bool.Decides.{nat_tests}
use Rattle.std.proofs.Common.{◌≡◌, ℕ, ◌+◌, true, false, not, Option, Some, List, [], ◌∷◌, ◌++◌, sym, ap, ◌∙◌, subst, arith, length}
use Rattle.std.specs.FinMap.{get}
use Rattle.std.specs.FinSet.{contains}
use Rattle.std.proofs.lemmas.Bool.{false≢true}
use Rattle.std.proofs.lemmas.List.{length_push}
use Rattle.mig_base.specs.declared.phase.DestPhase.{DestPhase}
use Rattle.mig_base.specs.declared.phase.SourcePhase.{SourcePhase}
use Rattle.mig_base.specs.declared.schedule.Side.{Side}
use Rattle.mig_base.specs.declared.schedule.Step.{Step}
use Rattle.mig_base.specs.declared.command.Command.{Command}
use Rattle.mig_model.specs.Wire.{Frame, Sent, Wire, Copy, page_frame, sending}
use Rattle.mig_model.specs.Wire.Frame.{Run}
use Rattle.mig_model.specs.Migration.{World, first_world_with, is_short, next, runs}
use Rattle.mig_model.proofs.steps.StepWorlds.{after_break, after_command, after_deliver, after_deliver_back, after_deliver_urgent, after_end, after_notice, after_push_urgent, after_resume, after_start, after_switch}
use Rattle.mig_model.specs.Promises.{after_move_urgent}
use Rattle.mig_model.specs.Faults.{is_early}
use Rattle.mig_base.specs.declared.act.Act.{Act}
use Rattle.mig_model.specs.Guest.{is_present}
use Rattle.mig_model.specs.Source.{Source, is_stopped, bytes_of, is_precopy, is_source_idle, source_acted_by, space_of, switch_frames, run_of}
use Rattle.mig_model.specs.Destination.{Destination, destination_act, destination_acted_by, install_by, is_dest_paused}
use Rattle.mig_model.specs.Whereabouts.{AreFaithful, copies_of}
use Rattle.mig_model.specs.Invariant.{AreSoundUrgent, AreTold, IsSoundWorld, Wires}
use Rattle.mig_model.proofs.delivery.Taken.{IsInPlaceBack}
use Rattle.mig_model.specs.Log.{present}
use Rattle.mig_model.specs.Owed.{home}
use Rattle.mig_model.proofs.memory.Facts.{AreFaithful-append, AreOf-one, copies_of-append}
use Rattle.mig_model.proofs.steps.StepCases.{MakesWorld, made-next}
use Rattle.mig_model.proofs.invariant.Stopping.{not_ended, present_bytes}
use Rattle.mig_model.proofs.invariant.UrgentWire.{are_copies-push, is_copy_page, not_stopped, other_bytes, other_forward, precopy_unstopped, stopped_unpaused, told-push, told-sending, told_ended, told_open, told_page}
use Rattle.mig_model.proofs.delivery.FramesTaken.{is_taken_back}
use Rattle.mig_model.proofs.invariant.WireLemmas.{fits-more, copies_of-page}

pub urgent-first : (cpus epoch rounds : ℕ) → AreSoundUrgent (first_world_with cpus epoch rounds)
urgent-first cpus epoch rounds = grind (arith, nat_tests)

-- Processors and handlers

command_urgent : (world : World) (cpu : ℕ) (command : Command) → IsSoundWorld world → runs world ≡ true → AreSoundUrgent world → AreSoundUrgent (after_command world cpu command)
command_urgent world cpu command kept may h = grind (arith, nat_tests)

acted_urgent : (act : Act) (world : World) (page : ℕ) → is_stopped world.source.phase ≡ false → AreSoundUrgent world → AreSoundUrgent (record world { source = source_acted_by act world.source page })
acted_urgent act world page not h = grind (arith, nat_tests)

handled_urgent : (act : Act) (world : World) (page : ℕ) (back : Wire) → AreSoundUrgent world → AreSoundUrgent (record world { destination = destination_acted_by act world.destination page; back = back })
handled_urgent act world page back h = grind (arith, nat_tests)

installed_urgent : (o : Option ℕ) (world : World) (copy : Copy) (rest : List Copy) → AreSoundUrgent world → AreSoundUrgent (record world { destination = install_by o world.destination copy rest })
installed_urgent o world copy rest h = grind (arith, nat_tests)

-- The source

start_urgent : (world : World) → IsSoundWorld world → is_source_idle world.source.phase ≡ true → AreSoundUrgent world → AreSoundUrgent (after_start world)
start_urgent world kept idle h = grind (arith, nat_tests)

switch_urgent : (world : World) → is_precopy world.source.phase ≡ true → AreSoundUrgent world → AreSoundUrgent (after_switch world)
switch_urgent world precopy h =
    let none = h.stopped (precopy_unstopped world.source.phase precopy) in
    assumption (
      told-sending world.source.epoch world.source.end_epoch world.source.urgent_sent world.forward.frames world.source.epoch (switch_frames world.source) h.told (tt, (tt, tt)),
      λ (paused : SourcePhase.Stopped ≡ SourcePhase.Paused). absurd {A = world.source.urgent_sent ≡ 0} (cc),
    )

sent_urgent : (world : World) (page : ℕ) → AreSoundUrgent world → AreTold world.source.epoch world.source.end_epoch world.source.urgent_sent (sending world.forward.frames world.source.epoch (page_frame page (bytes_of world.source page) ∷ []))
sent_urgent world page h =
    told-sending world.source.epoch world.source.end_epoch world.source.urgent_sent world.forward.frames world.source.epoch (page_frame page (bytes_of world.source page) ∷ []) h.told
    (told_page world.source.epoch world.source.end_epoch world.source.urgent_sent page (bytes_of world.source page), tt)

run_urgent : (world : World) (first count : ℕ) → AreSoundUrgent world → AreTold world.source.epoch world.source.end_epoch world.source.urgent_sent (sending world.forward.frames world.source.epoch (Run first (run_of world.source first count) ∷ []))
run_urgent world first count h = told-sending world.source.epoch world.source.end_epoch world.source.urgent_sent world.forward.frames world.source.epoch (Run first (run_of world.source first count) ∷ []) h.told (tt, tt)

end_urgent : (world : World) → AreSoundUrgent world → AreSoundUrgent (after_end world)
end_urgent world h = grind (arith, nat_tests, told-push, told_ended)

-- while the destination has ended End was sent in this epoch
ended_told : (from : SourcePhase) (to : DestPhase) (source : Source) (node : Destination) (forward back urgent : List Sent) → is_stopped from ≡ true → to ≡ DestPhase.Ended →
    Wires (record source { phase = from }) (record node { phase = to }) forward back urgent → source.end_epoch ≡ source.epoch
ended_told from to source node forward back urgent stopped is w = grind (arith, nat_tests)

one_more : (count taken sent more : ℕ) → count ≡ taken + sent → more ≡ sent + 1 → count + 1 ≡ taken + more
one_more count taken sent more h m = omega (arith, h, m)

push_urgent_kept : (world : World) (page : ℕ) → IsSoundWorld world → is_stopped world.source.phase ≡ true → world.up ≡ true → is_present (space_of world.source) page ≡ true → contains world.source.remaining page ≡ true → AreSoundUrgent world → AreSoundUrgent (after_push_urgent world page)
push_urgent_kept world page kept stopped up present remains h =
    let source = world.source in
    let bytes = (space_of source).host.bytes in
    let sent : Sent = record { epoch = source.epoch; frame = page_frame page (bytes_of source page) } in
    let held : get bytes page ≡ Some (bytes_of source page) = present_bytes (get bytes page) present in
    let whole : length (bytes_of source page) ≡ 4096 = kept.spaces.source_space.host.whole page (bytes_of source page) held in
    let other = not_ended source page kept.pushing.end_sent remains in
    let copies : copies_of (world.urgent.frames ++ sent ∷ []) ≡ copies_of world.urgent.frames ++ record { page = page; bytes = bytes_of source page } ∷ [] =
    copies_of-append world.urgent.frames (sent ∷ []) ∙ ap (λ c. copies_of world.urgent.frames ++ c) (copies_of-page source.epoch page (bytes_of source page) whole) in
    record {
      copies = are_copies-push world.urgent.frames sent (is_copy_page page (bytes_of source page)) h.copies;
      of_epoch = AreOf-one source.epoch world.urgent.frames (page_frame page (bytes_of source page)) h.of_epoch;
      faithful = subst (λ c. AreFaithful bytes c) (sym copies) (AreFaithful-append bytes (copies_of world.urgent.frames) _ h.faithful (held, tt));
      stopped = λ s. absurd (false≢true (sym s ∙ stopped));
      down = λ d. absurd (false≢true (sym d ∙ up));
      ended = λ e. absurd (other (ended_told source.phase world.destination.phase source world.destination world.forward.frames world.back.frames world.urgent.frames stopped e (kept.flight.wires up)));
      counted = λ u p. one_more source.urgent_sent world.destination.urgent_taken (length world.urgent.frames) (length (world.urgent.frames ++ sent ∷ [])) (h.counted u p) (length_push world.urgent.frames sent);
      told = told_open source.epoch source.end_epoch source.urgent_sent (source.urgent_sent + 1) world.forward.frames other h.told;
      fresh = λ u paused. absurd (stopped_unpaused source.phase stopped paused);
      none_taken = h.none_taken;
      fits = fits-more world.urgent.frames world.urgent.held source.epoch (page_frame page (bytes_of source page) ∷ []) h.fits;
    }

-- Frames that the destination takes

deliver_urgent_kept : (world : World) (sent : Sent) (rest : List Sent) → IsSoundWorld world → world.forward.frames ≡ sent ∷ rest → world.up ≡ true → is_early world.destination sent.frame ≡ false → AreSoundUrgent world → AreSoundUrgent (after_deliver world sent rest)
deliver_urgent_kept world sent rest kept first up early h = grind (arith, nat_tests)

urgent_delivered : (world : World) (sent : Sent) (rest : List Sent) → world.urgent.frames ≡ sent ∷ rest → world.destination.has_run ≡ true → AreSoundUrgent world → AreSoundUrgent (after_deliver_urgent world sent rest)
urgent_delivered world sent rest first ran h = grind (arith, nat_tests)

urgent_moved : (world : World) (n : ℕ) (sent : Sent) (rest : List Sent) → world.urgent.frames ≡ sent ∷ rest → is_short world.urgent sent.frame n ≡ true → AreSoundUrgent world → AreSoundUrgent (after_move_urgent world n)
urgent_moved world n sent rest first short h = grind (arith, nat_tests)

-- Frames that the source takes

back_urgent : (frame : Frame) (epoch : ℕ) (rest : List Sent) (world : World) → IsSoundWorld world → world.up ≡ true → world.back.frames ≡ record { epoch = epoch; frame = frame } ∷ rest → IsInPlaceBack world.source frame → AreSoundUrgent world →
    AreSoundUrgent (after_deliver_back world (record { epoch = epoch; frame = frame }) rest)
back_urgent frame epoch rest world kept up first place h = grind (arith, nat_tests)

-- The channel

break_urgent : (world : World) → AreSoundUrgent world → AreSoundUrgent (after_break world)
break_urgent world h = grind (arith, nat_tests)

source_notices : (world : World) → world.up ≡ false → AreSoundUrgent world → AreSoundUrgent (after_notice world Side.Source)
source_notices world down h = grind (arith, nat_tests)

destination_notices : (world : World) → world.up ≡ false → AreSoundUrgent world → AreSoundUrgent (after_notice world Side.Destination)
destination_notices world down h = grind (arith, nat_tests)

resume_urgent : (world : World) → IsSoundWorld world → is_dest_paused world.destination.phase ≡ true → world.up ≡ false → AreSoundUrgent world → AreSoundUrgent (after_resume world)
resume_urgent world kept paused down h = grind (arith, nat_tests)

-- Steps

pub urgent-answer : (world : World) (step : Step) → IsSoundWorld world → AreSoundUrgent world → MakesWorld AreSoundUrgent world step
urgent-answer world (Step.Issue cpu command) kept h = λ there idle may. command_urgent world cpu command kept may h
urgent-answer world (Step.Retry cpu) kept h = λ command waits woken may. command_urgent world cpu command kept may h
urgent-answer world Step.Start kept h = λ idle unused. start_urgent world kept idle h
urgent-answer world Step.Round kept h = λ precopy quiet. other_bytes _ (precopy_unstopped world.source.phase precopy) h
urgent-answer world Step.Send kept h = grind (arith, nat_tests, other_bytes, precopy_unstopped, other_forward, sent_urgent)
urgent-answer world (Step.SendRun count) kept h = grind (arith, nat_tests, other_bytes, precopy_unstopped, other_forward, run_urgent)
urgent-answer world Step.SourceRead kept h = λ noted is started unswitched. other_bytes _ (not_stopped world.source.phase world.source.switched kept.phases.source_phase unswitched) h
urgent-answer world Step.SourceAct kept h = grind (arith, nat_tests, acted_urgent, not_stopped)
urgent-answer world Step.Switch kept h = λ precopy up quiet. switch_urgent world precopy h
urgent-answer world (Step.Deliver n) kept h = ((λ sent rest is short. h), (λ sent rest is full started up free early. deliver_urgent_kept world sent rest kept is up early h))
urgent-answer world (Step.DeliverBack n) kept h = grind (arith, nat_tests, back_urgent, is_taken_back)
urgent-answer world Step.DestAct kept h = λ fault rest is ran quiet. handled_urgent (destination_act world.destination fault) world fault.page world.back h
urgent-answer world Step.Install kept h = λ copy rest is ran quiet. installed_urgent (home world.destination.owed copy.page) world copy rest h
urgent-answer world (Step.Push ticket) kept h = λ stopped up own present remains. other_forward _ (sent_urgent world ticket.page h) h
urgent-answer world (Step.PushUrgent ticket) kept h = λ stopped up own present remains. push_urgent_kept world ticket.page kept stopped up present remains h
urgent-answer world (Step.DeliverUrgent n) kept h = ((λ sent rest is short. urgent_moved world n sent rest is short h), (λ sent rest is full ran up. urgent_delivered world sent rest is ran h))
urgent-answer world Step.End kept h = λ stopped other up none. end_urgent world h
urgent-answer world Step.Break kept h = λ started unreleased up. break_urgent world h
urgent-answer world (Step.Notice Side.Source) kept h = λ started unreleased down. source_notices world down h
urgent-answer world (Step.Notice Side.Destination) kept h = λ started unreleased down. destination_notices world down h
urgent-answer world Step.Resume kept h = λ from to down unused. resume_urgent world kept to down h
urgent-answer world _ kept h = assumption

pub urgent-next : (world : World) (step : Step) → IsSoundWorld world → AreSoundUrgent world → AreSoundUrgent (next world step)
urgent-next world step kept h = made-next AreSoundUrgent world step h (urgent-answer world step kept h)
