-- Each step changes only its parts.
use Rattle.std.proofs.lemmas.Bool.Decides.{nat_tests}
use Rattle.std.proofs.Common.{◌≡◌, ℕ, ◌+◌, Bool, true, false, List, [], ◌∷◌, ◌++◌, refl, sym, ap, append-nil, arith}
use Rattle.std.proofs.lemmas.List.{append_assoc}
use Rattle.mig_base.specs.declared.phase.DestPhase.{DestPhase}
use Rattle.mig_base.specs.declared.phase.SourcePhase.{SourcePhase}
use Rattle.mig_base.specs.declared.schedule.Side.{Side}
use Rattle.mig_base.specs.declared.schedule.Step.{Step}
use Rattle.mig_base.specs.declared.command.Command.{Command}
use Rattle.mig_model.specs.Wire.{Frame, Sent, page_frame, sending, Wire, wire_if, wire_with}
use Rattle.mig_model.specs.Wire.Frame.{Advise, Run, End, Resume}
use Rattle.mig_model.specs.Migration.{World, next}
use Rattle.mig_model.proofs.steps.StepWorlds.{after_command, after_deliver, after_deliver_back, after_dest_act, after_deliver_urgent}
use Rattle.mig_model.specs.Promises.{after_move, after_move_back, after_move_urgent}
use Rattle.mig_model.specs.Parts.{Grows, Shrinks, GuestAlone, ChangesParts}
use Rattle.mig_model.proofs.steps.StepCases.{MakesWorld, made-next}
use Rattle.mig_model.specs.Source.{bytes_of, run_of, source_answers, source_took, switch_frames}
use Rattle.mig_model.proofs.memory.Facts.{as_it_was}

none_taken : (wire : Wire) → Shrinks wire wire
none_taken wire = record { taken = []; is = refl }

-- the frames that were put on a wire
record Longer (old new : List Sent) : Type 0 where
  more : List Sent
  is : new ≡ old ++ more

longer_by : (frames : List Sent) (epoch : ℕ) (more : List Frame) → Longer frames (sending frames epoch more)
longer_by frames epoch [] = record { more = []; is = sym (append-nil frames) }
longer_by frames epoch (frame ∷ more) = grind (arith, nat_tests, append_assoc, longer_by (frames ++ record { epoch = epoch; frame = frame } ∷ []) epoch more)

grows_by : (wire : Wire) (epoch : ℕ) (frames : List Frame) → Grows wire (wire_with wire epoch frames)
grows_by wire epoch frames = let longer = longer_by wire.frames epoch frames in record { more = longer.more; is = ap (λ f. record wire { frames = f }) longer.is }

grows_if : (up : Bool) (wire : Wire) (epoch : ℕ) (frames : List Frame) → Grows wire (wire_if up wire epoch frames)
grows_if true wire epoch frames = grows_by wire epoch frames
grows_if false wire epoch frames = as_it_was wire

guest_alone : (world : World) (cpu : ℕ) (command : Command) → GuestAlone world (after_command world cpu command)
guest_alone world cpu command = grind (arith, nat_tests)

-- what a step that is not refused changes, where a wire that it leaves has grown by nothing
made_alone : (world : World) (step : Step) → Grows world.forward world.forward → Grows world.back world.back → MakesWorld (ChangesParts world step) world step
made_alone world (Step.Issue cpu command) forward back = λ there idle may. guest_alone world cpu command
made_alone world (Step.Retry cpu) forward back = λ command waits woken may. guest_alone world cpu command
made_alone world Step.Start forward back = λ idle unused. assumption (grows_by world.forward (world.source.epoch + 1) (Advise ∷ []))
made_alone world Step.Send forward back = λ page is precopy up quiet. assumption (grows_by world.forward world.source.epoch (page_frame page (bytes_of world.source page) ∷ []))
made_alone world (Step.SendRun count) forward back = λ first number is many precopy up quiet. assumption (grows_by world.forward world.source.epoch (Run first (run_of world.source first number) ∷ []))
made_alone world Step.Switch forward back = λ precopy up quiet. assumption (grows_by world.forward world.source.epoch (switch_frames world.source))
made_alone world (Step.Deliver n) forward back = (
  (λ sent rest is short. let taken : Shrinks world.forward (after_move world n).forward = record { taken = []; is = refl } in assumption),
  (λ sent rest is full started up free early.
      let new = after_deliver world sent rest in
      let taken : Shrinks world.forward new.forward = record { taken = sent ∷ []; is = is } in
      let answers : Grows world.back new.back = grows_if world.up world.back _ _ in
      assumption),
)
made_alone world (Step.DeliverBack n) forward back = (
  (λ sent rest is short. let taken : Shrinks world.back (after_move_back world n).back = record { taken = []; is = refl } in assumption),
  (λ sent rest is full started up.
      let taken : Shrinks world.back (after_deliver_back world sent rest).back = record { taken = sent ∷ []; is = is } in
      assumption (grows_by world.forward (source_took world.source sent.frame).epoch (source_answers world.source sent.frame))),
)
made_alone world Step.DestAct forward back = λ fault rest is ran quiet. let asks : Grows world.back (after_dest_act world fault).back = grows_if world.up world.back _ _ in assumption
made_alone world (Step.Push ticket) forward back = λ stopped up own present remains. assumption (grows_by world.forward world.source.epoch (page_frame ticket.page (bytes_of world.source ticket.page) ∷ []))
made_alone world (Step.PushUrgent ticket) forward back = λ stopped up own present remains. assumption (grows_by world.urgent world.source.epoch (page_frame ticket.page (bytes_of world.source ticket.page) ∷ []))
made_alone world (Step.DeliverUrgent n) forward back = (
  (λ sent rest is short. let taken : Shrinks world.urgent (after_move_urgent world n).urgent = record { taken = []; is = refl } in assumption),
  (λ sent rest is full ran up. let taken : Shrinks world.urgent (after_deliver_urgent world sent rest).urgent = record { taken = sent ∷ []; is = is } in assumption),
)
made_alone world Step.End forward back = λ stopped other up none. assumption (grows_by world.forward world.source.epoch (End world.source.urgent_sent ∷ []))
made_alone world (Step.Notice Side.Source) forward back = λ started unreleased down. record { phase = SourcePhase.Paused; is = refl }
made_alone world (Step.Notice Side.Destination) forward back = λ started unreleased down. record { phase = DestPhase.Paused; is = refl }
made_alone world Step.Resume forward back = λ from to down unused. assumption (grows_by world.forward (world.source.epoch + 1) (Resume ∷ []))
made_alone world _ forward back = assumption

-- a refused step changes nothing
refused_alone : (world : World) (step : Step) → ChangesParts world step world
refused_alone world (Step.Notice Side.Source) = record { phase = world.source.phase; is = refl }
refused_alone world (Step.Notice Side.Destination) = record { phase = world.destination.phase; is = refl }
refused_alone world _ = assumption (as_it_was world.forward, as_it_was world.back, as_it_was world.urgent, none_taken world.forward, none_taken world.back, none_taken world.urgent)

pub changes_parts : (world : World) (step : Step) → ChangesParts world step (next world step)
changes_parts world step = made-next (ChangesParts world step) world step (refused_alone world step) (made_alone world step (as_it_was world.forward) (as_it_was world.back))
