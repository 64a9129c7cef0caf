-- Each step that is not refused: what its tests tell, and what it makes. A fact about every step is one answer for each of these.
use Rattle.std.proofs.Common.{◌≡◌, ℕ, ◌&&◌, Bool, true, false, not, eqb, Some, None, List, ◌∷◌, ◌+◌, ◌*◌, arith}
use Rattle.std.specs.Prelude.{Ok, IsOk, ok_or}
use Rattle.mig_base.specs.declared.schedule.Side.{Side}
use Rattle.mig_model.specs.NodeSteps.{unless, Sends, first_of, is_used, rest_of, sent, while_up}
use Rattle.mig_model.specs.GuestSteps.{when_quiet}
use Rattle.mig_model.specs.SourceSteps as source
use Rattle.mig_model.specs.SourceSteps.{run_bound}
use Rattle.mig_model.specs.DestinationSteps as destination
use Rattle.mig_model.specs.Cpus.{is_idle, is_woken, outstanding, processor_at}
use Rattle.mig_model.specs.Source.{bytes_of, is_handling, is_precopy, is_released, is_source_idle, is_source_paused, is_stopped, not_clean, source_act, space_of}
use Rattle.mig_model.specs.Destination.{Destination, destination_act, destination_answers, destination_took, is_dest_paused}
use Rattle.mig_model.specs.Wire.{Frame, Sent, Copy}
use Rattle.mig_model.proofs.steps.StepLemmas.{Holds, first_and_rest, holds-and_then, holds-effect, holds-either, holds-in_phase, holds-ok_or, holds-when_quiet, holds-while_up, leaves-next, leaves-ok, outcome-ok}
use Rattle.std.proofs.lemmas.Bool.Decides.{nat_tests}
use Rattle.std.specs.FinSet as finset
use Rattle.std.specs.FinSet.{contains}
use Rattle.foundation.specs.declared.TheConstants.{PAGE_SIZE}
use Rattle.mig_base.specs.declared.command.Command.{Command}
use Rattle.mig_base.specs.declared.effect.Effect.{Effect}
use Rattle.mig_base.specs.declared.schedule.Step.{Step}
use Rattle.mig_base.specs.Sets.{run_length}
use Rattle.foundation.specs.Tests.{is_empty}
use Rattle.mig_base.specs.Commands.{is_access}
use Rattle.mig_base.specs.Userfault.{Noted, next_message}
use Rattle.mig_model.specs.Guest.{Fault, is_present, took_by, is_changing}
use Rattle.mig_model.specs.Migration.{World, Made, answer, next, outcome, guest_of, runs, has_started, is_short}
use Rattle.mig_model.specs.Faults.{is_end, is_early}
use Rattle.mig_base.specs.Acts.{act_effect}
use Rattle.mig_model.specs.Effects.{try_effect, page_effect, read_effect, frame_effect, install_effect}
use Rattle.mig_model.proofs.steps.StepWorlds.{after_run, after_command, after_start, after_round, after_send, after_source_read, after_source_act, after_switch, after_deliver, after_deliver_back, after_dest_read, after_dest_act, after_install, after_push, after_serve, after_end, after_break, after_notice, after_resume, has_no_cpu, after_deliver_urgent, after_push_urgent}
use Rattle.mig_model.specs.Promises.{after_move, after_move_back, after_move_urgent}
use Rattle.mig_model.specs.Log.{least_of, less}
use Rattle.mig_model.specs.Owed.{home}

-- what is to be shown so that Q holds of what a step makes: its tests tell these facts
abbrev pub Makes : (Made → Type 0) → World → Step → Type 0
Makes Q world (Step.Issue cpu command) =
    has_no_cpu world cpu ≡ false → is_idle (processor_at (guest_of world).cpus cpu) ≡ true → runs world ≡ true → Q (record { effect = try_effect cpu (took_by (is_access command) (guest_of world).space command); world = after_command world cpu command })
Makes Q world (Step.Retry cpu) =
    (command : Command) → outstanding (processor_at (guest_of world).cpus cpu) ≡ Some command → is_woken (processor_at (guest_of world).cpus cpu) ≡ true → runs world ≡ true →
    Q (record { effect = try_effect cpu (took_by (is_access command) (guest_of world).space command); world = after_command world cpu command })
Makes Q world Step.Start =
    is_source_idle world.source.phase ≡ true → is_used world.source.epoch ≡ false → Q (record { effect = Effect.Started (world.source.epoch + 1); world = after_start world })
Makes Q world Step.Round =
    is_precopy world.source.phase ≡ true → is_changing world.source.guest ≡ false → Q (record { effect = Effect.RoundMade (world.source.rounds + 1) (finset.len (not_clean world.source)); world = after_round world })
Makes Q world Step.Send =
    (page : ℕ) → least_of world.source.log.todo ≡ Some page → is_precopy world.source.phase ≡ true → world.up ≡ true → is_changing world.source.guest ≡ false → Q (record { effect = page_effect page (bytes_of world.source page); world = after_send world page })
Makes Q world (Step.SendRun count) =
    (first number : ℕ) → least_of world.source.log.todo ≡ Some first → number ≡ run_length world.source.log.todo first (run_bound count) → is_precopy world.source.phase ≡ true → world.up ≡ true → is_changing world.source.guest ≡ false →
    Q (record { effect = Effect.SentRun (PAGE_SIZE * first) number; world = after_run world first number })
Makes Q world Step.SourceRead =
    (noted : Noted) → next_message (space_of world.source).object ≡ Some noted → is_source_idle world.source.phase ≡ false → world.source.switched ≡ false → Q (record { effect = read_effect world.source.guest.cpus noted.cpu noted.message; world = after_source_read world noted })
Makes Q world Step.SourceAct =
    (fault : Fault) (rest : List Fault) → world.source.log.held ≡ fault ∷ rest → is_source_idle world.source.phase ≡ false → world.source.switched ≡ false → is_changing world.source.guest ≡ false →
    Q (record { effect = act_effect (source_act world.source fault) (PAGE_SIZE * fault.page); world = after_source_act world fault })
Makes Q world Step.Switch =
    is_precopy world.source.phase ≡ true → world.up ≡ true → is_changing world.source.guest ≡ false → Q (record { effect = Effect.Switched (finset.len (less world.source.log.sent world.source.log.clean)) (finset.len (not_clean world.source)); world = after_switch world })
Makes Q world (Step.Deliver n) =
    ((sent : Sent) (rest : List Sent) → world.forward.frames ≡ sent ∷ rest → is_short world.forward sent.frame n ≡ true → Q (record { effect = Effect.Moved n; world = after_move world n })) ×
    ((sent : Sent) (rest : List Sent) → world.forward.frames ≡ sent ∷ rest → is_short world.forward sent.frame n ≡ false → has_started world ≡ true → world.up ≡ true → (is_end sent.frame && not (is_empty world.destination.arrivals)) ≡ false → is_early world.destination sent.frame ≡ false →
    Q (record { effect = frame_effect sent.frame; world = after_deliver world sent rest }))
Makes Q world (Step.DeliverBack n) =
    ((sent : Sent) (rest : List Sent) → world.back.frames ≡ sent ∷ rest → is_short world.back sent.frame n ≡ true → Q (record { effect = Effect.Moved n; world = after_move_back world n })) ×
    ((sent : Sent) (rest : List Sent) → world.back.frames ≡ sent ∷ rest → is_short world.back sent.frame n ≡ false → has_started world ≡ true → world.up ≡ true → Q (record { effect = frame_effect sent.frame; world = after_deliver_back world sent rest }))
Makes Q world Step.DestRead =
    (noted : Noted) → next_message world.destination.guest.space.object ≡ Some noted → world.destination.has_run ≡ true → Q (record { effect = read_effect world.destination.guest.cpus noted.cpu noted.message; world = after_dest_read world noted })
Makes Q world Step.DestAct =
    (fault : Fault) (rest : List Fault) → world.destination.held ≡ fault ∷ rest → world.destination.has_run ≡ true → is_changing world.destination.guest ≡ false → Q (record { effect = act_effect (destination_act world.destination fault) (PAGE_SIZE * fault.page); world = after_dest_act world fault })
Makes Q world Step.Install =
    (copy : Copy) (rest : List Copy) → world.destination.arrivals ≡ copy ∷ rest → world.destination.has_run ≡ true → is_changing world.destination.guest ≡ false → Q (record { effect = install_effect (home world.destination.owed copy.page) copy.page; world = after_install world copy rest })
Makes Q world (Step.Push ticket) =
    is_stopped world.source.phase ≡ true → world.up ≡ true → eqb ticket.epoch world.source.epoch ≡ true → is_present (space_of world.source) ticket.page ≡ true → contains world.source.remaining ticket.page ≡ true →
    Q (record { effect = page_effect ticket.page (bytes_of world.source ticket.page); world = after_push world ticket.page })
Makes Q world (Step.PushUrgent ticket) =
    is_stopped world.source.phase ≡ true → world.up ≡ true → eqb ticket.epoch world.source.epoch ≡ true → is_present (space_of world.source) ticket.page ≡ true → contains world.source.remaining ticket.page ≡ true →
    Q (record { effect = page_effect ticket.page (bytes_of world.source ticket.page); world = after_push_urgent world ticket.page })
Makes Q world (Step.DeliverUrgent n) =
    ((sent : Sent) (rest : List Sent) → world.urgent.frames ≡ sent ∷ rest → is_short world.urgent sent.frame n ≡ true → Q (record { effect = Effect.Moved n; world = after_move_urgent world n })) ×
    ((sent : Sent) (rest : List Sent) → world.urgent.frames ≡ sent ∷ rest → is_short world.urgent sent.frame n ≡ false → world.destination.has_run ≡ true → world.up ≡ true → Q (record { effect = frame_effect sent.frame; world = after_deliver_urgent world sent rest }))
Makes Q world Step.Serve =
    (page : ℕ) (pages : List ℕ) → world.source.asked ≡ page ∷ pages → is_stopped world.source.phase ≡ true → world.up ≡ true → Q (record { effect = Effect.Asked (PAGE_SIZE * page); world = after_serve world pages })
Makes Q world Step.End =
    is_stopped world.source.phase ≡ true → eqb world.source.end_epoch world.source.epoch ≡ false → world.up ≡ true → least_of world.source.remaining ≡ None → Q (record { effect = Effect.EndSent; world = after_end world })
Makes Q world Step.Break =
    has_started world ≡ true → is_released world.source.phase ≡ false → world.up ≡ true → Q (record { effect = Effect.Broken; world = after_break world })
Makes Q world (Step.Notice side) =
    has_started world ≡ true → is_released world.source.phase ≡ false → world.up ≡ false → Q (record { effect = Effect.Noticed side; world = after_notice world side })
Makes Q world Step.Resume =
    is_source_paused world.source.phase ≡ true → is_dest_paused world.destination.phase ≡ true → world.up ≡ false → is_used world.source.epoch ≡ false → Q (record { effect = Effect.Resumed (world.source.epoch + 1); world = after_resume world })

-- Tests

-- two tests of which neither may hold
neither : (a b : Bool) → (not a && not b) ≡ true → (a ≡ false) × (b ≡ false)
neither a b h = grind (arith, nat_tests)

-- a frame that does not have to wait
holds-take : (Q : Sends Destination → Type 0) (node : Destination) (epoch : ℕ) (frame : Frame) →
    ((is_end frame && not (is_empty node.arrivals)) ≡ false → is_early node frame ≡ false → Holds Q (sent (frame_effect frame) (destination_answers node frame) (destination_took node epoch frame))) → Holds Q (destination.take node epoch frame)
unfolding unless
holds-take Q node epoch frame h = grind (arith, nat_tests)

-- Every step

pub holds-made : (Q : Made → Type 0) (world : World) (step : Step) → Makes Q world step → Holds Q (answer world step)
unfolding unless
holds-made Q world Step.SourceAct h =
    holds-and_then Q (source.act world.source) _ (holds-in_phase _ (is_handling world.source) _ (λ handling.
    let runs = neither (is_source_idle world.source.phase) world.source.switched handling in
    let held = world.source.log.held in
    holds-and_then _ (when_quiet world.source.guest (first_of held)) _ (holds-when_quiet _ world.source.guest (first_of held) (λ fault is quiet.
    h fault (rest_of held) (first_and_rest held fault is) runs.0 runs.1 quiet))))
holds-made Q world (Step.Deliver n) (moved, taken) =
    let frames = world.forward.frames in
    holds-while_up Q world.up _ (λ up.
    holds-in_phase Q (has_started world) _ (λ started.
    holds-and_then Q (ok_or (first_of frames) _) _ (holds-ok_or _ (first_of frames) _ (λ sent is.
    let first = first_and_rest frames sent is in
    holds-either Q (is_short world.forward sent.frame n) _ _ (moved sent (rest_of frames) first) (λ full.
    holds-and_then Q (destination.take world.destination sent.epoch sent.frame) _ (holds-take _ world.destination sent.epoch sent.frame (λ free early. taken sent (rest_of frames) first full started up free early)))))))
holds-made Q world (Step.DeliverBack n) (moved, taken) =
    let frames = world.back.frames in
    holds-while_up Q world.up _ (λ up.
    holds-in_phase Q (has_started world) _ (λ started.
    holds-and_then Q (ok_or (first_of frames) _) _ (holds-ok_or _ (first_of frames) _ (λ sent is.
    let first = first_and_rest frames sent is in
    holds-either Q (is_short world.back sent.frame n) _ _ (moved sent (rest_of frames) first) (λ full. taken sent (rest_of frames) first full started up)))))
holds-made Q world Step.DestAct h =
    holds-and_then Q (destination.act world.destination) _ (holds-in_phase _ world.destination.has_run _ (λ ran.
    let held = world.destination.held in
    holds-and_then _ (when_quiet world.destination.guest (first_of held)) _ (holds-when_quiet _ world.destination.guest (first_of held) (λ fault is quiet.
    h fault (rest_of held) (first_and_rest held fault is) ran quiet))))
holds-made Q world Step.Install h =
    holds-and_then Q (destination.install world.destination) _ (holds-in_phase _ world.destination.has_run _ (λ ran.
    let arrivals = world.destination.arrivals in
    holds-and_then _ (when_quiet world.destination.guest (first_of arrivals)) _ (holds-when_quiet _ world.destination.guest (first_of arrivals) (λ copy is quiet.
    h copy (rest_of arrivals) (first_and_rest arrivals copy is) ran quiet))))
holds-made Q world (Step.DeliverUrgent n) (moved, taken) =
    let frames = world.urgent.frames in
    holds-while_up Q world.up _ (λ up.
    holds-in_phase Q world.destination.has_run _ (λ ran.
    holds-and_then Q (ok_or (first_of frames) _) _ (holds-ok_or _ (first_of frames) _ (λ sent is.
    let first = first_and_rest frames sent is in
    holds-either Q (is_short world.urgent sent.frame n) _ _ (moved sent (rest_of frames) first) (λ full. taken sent (rest_of frames) first full ran up)))))
holds-made Q world Step.Serve h =
    holds-and_then Q (while_up world.up (source.serve world.source)) _ (holds-while_up _ world.up (source.serve world.source) (λ up.
    holds-in_phase _ (is_stopped world.source.phase) _ (λ stopped.
    let asked = world.source.asked in
    holds-and_then _ (ok_or (first_of asked) _) _ (holds-ok_or _ (first_of asked) _ (λ page is. h page (rest_of asked) (first_and_rest asked page is) stopped up)))))
holds-made Q world (Step.Notice Side.Source) h = grind (arith, nat_tests)
holds-made Q world (Step.Notice Side.Destination) h = grind (arith, nat_tests)
holds-made Q world _ h = grind (arith, nat_tests)

-- of the new world alone
abbrev pub MakesWorld : (World → Type 0) → World → Step → Type 0
MakesWorld P world step = Makes (λ made. P made.world) world step

pub made-next : (P : World → Type 0) (world : World) (step : Step) → P world → MakesWorld P world step → P (next world step)
made-next P world step before h = leaves-next P world step before (holds-made _ world step h)

pub made-ok : (P : World → Type 0) (world : World) (step : Step) → MakesWorld P world step → IsOk (outcome world step) → P (next world step)
made-ok P world step h ok = leaves-ok P world step (holds-made _ world step h) ok

pub made-effect : (P : Effect → World → Type 0) (world : World) (step : Step) (effect : Effect) → Makes (λ made. P made.effect made.world) world step → outcome world step ≡ Ok effect → P effect (next world step)
made-effect P world step effect h is = holds-effect P world step effect (holds-made _ world step h) is

pub made-outcome : (effect : Effect) (world : World) (step : Step) → Makes (λ made. made.effect ≡ effect) world step → IsOk (outcome world step) → outcome world step ≡ Ok effect
made-outcome effect world step h ok = outcome-ok effect world step (holds-made _ world step h) ok
