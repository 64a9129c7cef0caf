-- Two logs in an order in which they may have happened are a run of one world, and its two sides.
use Rattle.std.proofs.lemmas.Bool.Decides.{nat_tests}
use Rattle.std.proofs.Common.{◌≡◌, ◌⊎◌, inl, inr, append_assoc, ℕ, ◌-◌, ◌||◌, Bool, true, false, not, ltb, Option, Some, None, List, [], ◌∷◌, ◌++◌, map, if◌then◌else◌, refl, sym, ap, subst, ◌∙◌, arith}
use Rattle.std.specs.Prelude.{Result, Ok, Err, ok_or}
use Rattle.std.proofs.lemmas.Bool.{and_parts, false_from_ne_true, false≢true, not-true}
use Rattle.std.proofs.lemmas.List.{append-nil}
use Rattle.mig_base.specs.Bytes.{zero_page}
use Rattle.mig_base.specs.Userfault.{next_message}
use Rattle.mig_base.specs.declared.command.Entry.{Entry}
use Rattle.mig_base.specs.declared.phase.Received.{Received}
use Rattle.mig_base.specs.declared.command.Command.{Command}
use Rattle.mig_base.specs.declared.effect.Effect.{Effect}
use Rattle.mig_base.specs.declared.refusal.Refusal.{Refusal}
use Rattle.mig_base.specs.declared.schedule.Side.{Side}
use Rattle.mig_base.specs.declared.schedule.Step.{Step}
use Rattle.mig_model.specs.Cpus.{idle_answer, woken_answer}
use Rattle.mig_model.specs.Destination.{Destination, copy_came, destination_act, destination_acted_by, destination_took, install_by, is_dest_paused, received_of, resumed_by, urgent_took}
use Rattle.mig_model.specs.DestinationSteps as destination
use Rattle.mig_base.specs.declared.act.Act.{Act}
use Rattle.mig_base.specs.declared.act.Act.TheVariants.{Unprotected, Zeroed, Woke, Forgot, Requested}
use Rattle.mig_model.specs.Guest.{Guest}
use Rattle.mig_model.specs.GuestSteps.{Tried, issue, retry, try_command, when_quiet}
use Rattle.mig_model.specs.Invariant.{IsSoundWorld}
use Rattle.mig_model.specs.Lengths.{text_len}
use Rattle.mig_model.specs.Migration.{World, after_steps, answer, cut, made, next, source_sends}
use Rattle.mig_model.specs.Owed.{home}
use Rattle.mig_model.specs.NodeSteps.{first_of, in_phase, rest_of}
use Rattle.mig_model.specs.Promises.{IsReached}
use Rattle.mig_model.specs.Runs.{outcomes}
use Rattle.mig_model.specs.Source.{Source, is_under_way}
use Rattle.mig_model.specs.SourceSteps as source
use Rattle.mig_model.specs.Wire.Frame.{Advise, Page, Zero, Run, Discard, Package, End, Resume, Request, Recv, Done}
use Rattle.mig_model.specs.Wire.{Copy, Frame, Sent, sending_if, sending, wire_behind}
use Rattle.mig_model.proofs.steps.EveryStep.{kept-reached}
use Rattle.mig_model.proofs.steps.ReachedLemmas.{reached-next}
use Rattle.mig_model.proofs.steps.StepLemmas.{Holds, delivers, delivers_back, delivers_urgent, holds-and_then, holds-in_phase, holds-unless, in-phase, is-down, is-up}
use Rattle.mig_laws.specs.Nodes.{map_ok}
use Rattle.mig_laws.specs.Orders.{AreTurns, IsCut, IsDestinationTurn, IsSourceTurn, IsTurn, Pair, Turn, destination_lines, first_pair, line_of, log_of, logged, makes, source_lines, source_may, step_of, taken_line, world_of}
use Rattle.mig_laws.specs.Sides.{Did, Line, acts, destination_line, destination_step, running_side, sends, source_step}
use Rattle.mig_laws.proofs.AcceptedSteps.{next-made, sends-quiet, source-quiet, ok-holds, outcome-made, started-back, started-forward, under_way-down}
use Rattle.mig_laws.proofs.SideForms.{destination-issue, destination-own, destination-retry, destination_done, destination_gives, destination_linked, is_destination_own, is_source_own, or-false, sends-gives, source-issue, source-own, source-retry, source_done, source_gives, source_linked, there_acts-gives, there_sends-gives}

-- a turn of two processes as a step of their world: its answer, and what it adds to the logs of the two sides
pub record IsStep (old : Pair) (turn : Turn) (effect : Effect) (new : Pair) : Type 0 where
  pub answer_is : answer (world_of old) (step_of turn) ≡ made effect (world_of new)
  pub here : logged Side.Source (world_of old) (step_of turn) (Ok effect) ≡ source_lines (turn ∷ [])
  pub there : logged Side.Destination (world_of old) (step_of turn) (Ok effect) ≡ destination_lines (turn ∷ [])

pub never : {A : Type 0} (refusal : Refusal) (done : A) → Err refusal ≡ Ok done → ⊥
never refusal done is = cc

-- Where the channel carries frames

pub up-if : (up : Bool) → (up || false) ≡ true → up ≡ true
up-if up may = sym (or-false up) ∙ may

-- where it may come a step gives what the source gives by itself
source-may : (pair : Pair) (step : Step) → is_source_own step ≡ true → source_may pair.up (is_dest_paused pair.destination.phase) (Line.Made step) ≡ true → source_linked pair.up pair.source step ≡ source_step pair.source step
source-may pair Step.Start own may = refl
source-may pair Step.Round own may = refl
source-may pair Step.Send own may = is-up pair.up _ (up-if pair.up may)
source-may pair (Step.SendRun count) own may = is-up pair.up _ (up-if pair.up may)
source-may pair Step.SourceRead own may = refl
source-may pair Step.SourceAct own may = refl
source-may pair Step.Switch own may = is-up pair.up _ (up-if pair.up may)
source-may pair (Step.Push ticket) own may = is-up pair.up _ (up-if pair.up may)
source-may pair (Step.PushUrgent ticket) own may = is-up pair.up _ (up-if pair.up may)
source-may pair Step.Serve own may = is-up pair.up _ (up-if pair.up may)
source-may pair Step.End own may = is-up pair.up _ (up-if pair.up may)
source-may pair (Step.Notice side) own may = is-down pair.up _ (not-true pair.up may)
source-may pair (Step.Issue cpu command) own may = absurd (false≢true own)
source-may pair (Step.Retry cpu) own may = absurd (false≢true own)
source-may pair (Step.Deliver n) own may = absurd (false≢true own)
source-may pair (Step.DeliverBack n) own may = absurd (false≢true own)
source-may pair (Step.DeliverUrgent n) own may = absurd (false≢true own)
source-may pair Step.DestRead own may = absurd (false≢true own)
source-may pair Step.DestAct own may = absurd (false≢true own)
source-may pair Step.Install own may = absurd (false≢true own)
source-may pair Step.Break own may = absurd (false≢true own)
source-may pair Step.Resume own may = absurd (false≢true own)

-- Commands

pub each : {A : Type 0} (Q : A → Type 0) (result : Result A Refusal) → ((done : A) → Q done) → Holds Q result
each Q (Ok done) h = h done
each Q (Err refusal) h = tt

through : {A B : Type 0} (P : Type 0) (g : A → B) (result : Result A Refusal) → Holds (λ done. P) result → Holds (λ done. P) (map_ok g result)
through P g (Ok done) h = h
through P g (Err refusal) h = h

-- a command that is accepted is made where its processors run
pub issue-runs : {B : Type 0} (g : Tried → B) (guest : Guest) (runs : Bool) (cpu : ℕ) (command : Command) (done : B) → map_ok g (issue guest runs cpu command) ≡ Ok done → runs ≡ true
issue-runs g guest runs cpu command done is =
    ok-holds (λ d. runs ≡ true) (map_ok g (issue guest runs cpu command)) done
    (through (runs ≡ true) g (issue guest runs cpu command) (holds-and_then _ (idle_answer guest.cpus cpu) _ (each _ (idle_answer guest.cpus cpu) (λ idle. holds-in_phase _ runs _ (λ may. each _ (try_command guest cpu command) (λ tried. may)))))) is

pub retry-runs : {B : Type 0} (g : Tried → B) (guest : Guest) (runs : Bool) (cpu : ℕ) (done : B) → map_ok g (retry guest runs cpu) ≡ Ok done → runs ≡ true
retry-runs g guest runs cpu done is =
    ok-holds (λ d. runs ≡ true) (map_ok g (retry guest runs cpu)) done
    (through (runs ≡ true) g (retry guest runs cpu) (holds-and_then _ (woken_answer guest.cpus cpu) _ (each _ (woken_answer guest.cpus cpu) (λ command. holds-in_phase _ runs _ (λ may. each _ (try_command guest cpu command) (λ tried. may)))))) is

-- the source makes commands only where the destination has not run
not-run : (world : World) → IsSoundWorld world → not world.source.switched ≡ true → world.destination.has_run ≡ false
not-run world sound runs = false_from_ne_true world.destination.has_run (λ has_run. false≢true (ap not (sym (sound.phases.ran_after_switch has_run)) ∙ runs))

-- The source

-- what the source enters comes before what the destination has entered
entered-before : (here there more : List Entry) → (more ≡ []) ⊎ (there ≡ []) → (here ++ there) ++ more ≡ (here ++ more) ++ there
entered-before here there more (inl none) =
    ap (λ entries. (here ++ there) ++ entries) none ∙ append-nil (here ++ there) ∙ sym (ap (λ entries. entries ++ there) (append-nil here)) ∙ sym (ap (λ entries. (here ++ entries) ++ there) none)
entered-before here there more (inr none) =
    ap (λ entries. (here ++ entries) ++ more) none ∙ ap (λ entries. entries ++ more) (append-nil here) ∙ sym (append-nil (here ++ more)) ∙ sym (ap (λ entries. (here ++ more) ++ entries) none)

-- the commands of the destination come after those of the source
abbrev pub IsLater : Pair → Type 0
IsLater pair = pair.destination.has_run ≡ false → pair.at_destination ≡ []

-- the answer where the source has done something
gave : (old : Pair) (did : Did Source) (back : List Sent) (new : Pair) (up : Bool) → (did.entries ≡ []) ⊎ (old.at_destination ≡ []) → back ≡ old.back →
    new ≡ record old { source = did.node; forward = sending old.forward did.node.epoch did.frames; urgent = sending old.urgent did.node.epoch did.urgent; back = back; up = up; at_source = old.at_source ++ did.entries } →
    made did.effect (source_done (record (world_of old) { up = up }) did) ≡ made did.effect (world_of new)
gave old did back new up quiet same_back is =
    ap (λ (wire : List Sent). made did.effect (source_done (record (world_of old) { up = up; back = wire_behind wire }) did)) (sym same_back)
    ∙ ap (λ (entries : List Entry). made did.effect (record (source_done (record (world_of old) { up = up; back = wire_behind back }) did) { transcript = entries })) (entered-before old.at_source old.at_destination did.entries quiet)
    ∙ ap (λ (pair : Pair). made did.effect (world_of pair)) (sym is)

source-made : (old : Pair) (step : Step) (did : Did Source) (back : List Sent) (new : Pair) → is_source_own step ≡ true → source_step old.source step ≡ Ok did → source_may old.up (is_dest_paused old.destination.phase) (Line.Made step) ≡ true → back ≡ old.back →
    new ≡ record old { source = did.node; forward = sending old.forward did.node.epoch did.frames; urgent = sending old.urgent did.node.epoch did.urgent; back = back; up = old.up; at_source = old.at_source ++ did.entries } →
    answer (world_of old) step ≡ made did.effect (world_of new)
source-made old step did back new own gives may takes is =
    let given = source-may old step own may ∙ gives in
    let quiet = ok-holds (λ (d : Did Source). d.entries ≡ []) (source_linked old.up old.source step) did (source-quiet old.up old.source step own) given in
    source-own (world_of old) step own ∙ ap (source_gives (world_of old)) given ∙ gave old did back new old.up (inl quiet) takes is

-- what a step of one side adds to the logs
only_here : (world : World) (step : Step) (lines : List Line) (side : Option Side) → side ≡ Some Side.Source → line_of world step ≡ lines → (if makes Side.Source side then line_of world step else []) ≡ lines
only_here world step lines side is line = ap (λ o. if makes Side.Source o then line_of world step else []) is ∙ line

none_there : (world : World) (step : Step) (side : Option Side) → side ≡ Some Side.Source → (if makes Side.Destination side then line_of world step else []) ≡ []
none_there world step side is = ap (λ o. if makes Side.Destination o then line_of world step else []) is

only_there : (world : World) (step : Step) (lines : List Line) (side : Option Side) → side ≡ Some Side.Destination → line_of world step ≡ lines → (if makes Side.Destination side then line_of world step else []) ≡ lines
only_there world step lines side is line = ap (λ o. if makes Side.Destination o then line_of world step else []) is ∙ line

none_here : (world : World) (step : Step) (side : Option Side) → side ≡ Some Side.Destination → (if makes Side.Source side then line_of world step else []) ≡ []
none_here world step side is = ap (λ o. if makes Side.Source o then line_of world step else []) is

-- a line of the source that it makes by itself
source-turn : (old : Pair) (step : Step) (did : Did Source) (new : Pair) → IsSoundWorld (world_of old) → IsLater old → IsSourceTurn old (Line.Made step) did new → IsStep old (Turn.AtSource (Line.Made step)) did.effect new
source-turn old Step.Start did new sound later turn = record { answer_is = source-made old Step.Start did turn.back new refl turn.gives turn.may turn.takes turn.is; here = refl; there = refl }
source-turn old Step.Round did new sound later turn = record { answer_is = source-made old Step.Round did turn.back new refl turn.gives turn.may turn.takes turn.is; here = refl; there = refl }
source-turn old Step.Send did new sound later turn = record { answer_is = source-made old Step.Send did turn.back new refl turn.gives turn.may turn.takes turn.is; here = refl; there = refl }
source-turn old (Step.SendRun count) did new sound later turn = record { answer_is = source-made old (Step.SendRun count) did turn.back new refl turn.gives turn.may turn.takes turn.is; here = refl; there = refl }
source-turn old Step.SourceRead did new sound later turn = record { answer_is = source-made old Step.SourceRead did turn.back new refl turn.gives turn.may turn.takes turn.is; here = refl; there = refl }
source-turn old Step.SourceAct did new sound later turn = record { answer_is = source-made old Step.SourceAct did turn.back new refl turn.gives turn.may turn.takes turn.is; here = refl; there = refl }
source-turn old Step.Switch did new sound later turn = record { answer_is = source-made old Step.Switch did turn.back new refl turn.gives turn.may turn.takes turn.is; here = refl; there = refl }
source-turn old (Step.Push ticket) did new sound later turn = record { answer_is = source-made old (Step.Push ticket) did turn.back new refl turn.gives turn.may turn.takes turn.is; here = refl; there = refl }
source-turn old (Step.PushUrgent ticket) did new sound later turn = record { answer_is = source-made old (Step.PushUrgent ticket) did turn.back new refl turn.gives turn.may turn.takes turn.is; here = refl; there = refl }
source-turn old Step.Serve did new sound later turn = record { answer_is = source-made old Step.Serve did turn.back new refl turn.gives turn.may turn.takes turn.is; here = refl; there = refl }
source-turn old Step.End did new sound later turn = record { answer_is = source-made old Step.End did turn.back new refl turn.gives turn.may turn.takes turn.is; here = refl; there = refl }
source-turn old (Step.Notice Side.Source) did new sound later turn = record { answer_is = source-made old (Step.Notice Side.Source) did turn.back new refl turn.gives turn.may turn.takes turn.is; here = refl; there = refl }
source-turn old (Step.Notice Side.Destination) did new sound later turn = absurd (never Refusal.Phase did turn.gives)
source-turn old (Step.Issue cpu command) did new sound later turn =
    let ran = not-run (world_of old) sound (issue-runs _ old.source.guest (not old.source.switched) cpu command did turn.gives) in
    let world = world_of old in
    let side = ap (λ r. Some (running_side r)) ran in
    record {
      answer_is = source-issue world cpu command ran ∙ ap (source_gives world) turn.gives ∙ gave old did turn.back new old.up (inr (later ran)) turn.takes turn.is;
      here = only_here world (Step.Issue cpu command) (Line.Made (Step.Issue cpu command) ∷ []) (Some (running_side old.destination.has_run)) side refl;
      there = none_there world (Step.Issue cpu command) (Some (running_side old.destination.has_run)) side;
    }
source-turn old (Step.Retry cpu) did new sound later turn =
    let ran = not-run (world_of old) sound (retry-runs _ old.source.guest (not old.source.switched) cpu did turn.gives) in
    let world = world_of old in
    let side = ap (λ r. Some (running_side r)) ran in
    record {
      answer_is = source-retry world cpu ran ∙ ap (source_gives world) turn.gives ∙ gave old did turn.back new old.up (inr (later ran)) turn.takes turn.is;
      here = only_here world (Step.Retry cpu) (Line.Made (Step.Retry cpu) ∷ []) (Some (running_side old.destination.has_run)) side refl;
      there = none_there world (Step.Retry cpu) (Some (running_side old.destination.has_run)) side;
    }
source-turn old Step.Resume did new sound later turn =
    let world = world_of old in
    let up = record world { up = true } in
    let may = and_parts (not old.up) (is_dest_paused old.destination.phase) turn.may in
    let given = source.resume old.source in
    record {
      answer_is =
          ap (source_sends up) (is-down old.up (in_phase (is_dest_paused old.destination.phase) given) (not-true old.up may.0) ∙ in-phase (is_dest_paused old.destination.phase) given may.1)
          ∙ sends-gives up given ∙ ap (source_gives up) turn.gives
          ∙ gave old did turn.back new true (inl (ok-holds (λ (d : Did Source). d.entries ≡ []) (sends given) did (sends-quiet given) turn.gives)) turn.takes turn.is;
      here = refl;
      there = refl;
    }
source-turn old (Step.Deliver n) did new sound later turn = absurd (never Refusal.Phase did turn.gives)
source-turn old (Step.DeliverBack n) did new sound later turn = absurd (never Refusal.Phase did turn.gives)
source-turn old (Step.DeliverUrgent n) did new sound later turn = absurd (never Refusal.Phase did turn.gives)
source-turn old Step.DestRead did new sound later turn = absurd (never Refusal.Phase did turn.gives)
source-turn old Step.DestAct did new sound later turn = absurd (never Refusal.Phase did turn.gives)
source-turn old Step.Install did new sound later turn = absurd (never Refusal.Phase did turn.gives)
source-turn old Step.Break did new sound later turn = absurd (never Refusal.Phase did turn.gives)

-- Frames that are taken whole

pub whole : (n : ℕ) → ltb n (n - 0) ≡ false
whole n = grind (arith, nat_tests)

-- the line of a delivery of a whole frame
taken-line : (line : Sent → Line) (flight rest : List Sent) (sent : Sent) → flight ≡ sent ∷ rest → taken_line line (wire_behind flight) flight (text_len sent.frame) ≡ line sent ∷ []
taken-line line flight rest sent first =
    ap (λ frames. taken_line line (wire_behind frames) frames (text_len sent.frame)) first ∙ ap (λ (short : Bool). if short then [] else line sent ∷ []) (whole (text_len sent.frame))

-- a line of the source that takes a frame
took-turn : (old : Pair) (sent : Sent) (did : Did Source) (new : Pair) → IsSoundWorld (world_of old) → IsSourceTurn old (Line.Took sent) did new → IsStep old (Turn.AtSource (Line.Took sent)) did.effect new
took-turn old sent did new sound turn =
    let quiet = ok-holds (λ (d : Did Source). d.entries ≡ []) (sends (source.take old.source sent.frame)) did (sends-quiet (source.take old.source sent.frame)) turn.gives in
    let world = world_of old in
    let behind = record world { back = wire_behind turn.back } in
    let given = source.take old.source sent.frame in
    let started = ap not (started-back world sent turn.back sound turn.may turn.takes) in
    record {
      answer_is =
          delivers_back world (text_len sent.frame) sent turn.back false started turn.may turn.takes (whole (text_len sent.frame)) ∙ sends-gives behind given ∙ ap (source_gives behind) turn.gives
          ∙ ap (λ (entries : List Entry). made did.effect (record (source_done behind did) { transcript = entries })) (entered-before old.at_source old.at_destination did.entries (inl quiet))
          ∙ ap (λ (pair : Pair). made did.effect (world_of pair)) (sym turn.is);
      here = taken-line (λ one. Line.Took one) old.back turn.back sent turn.takes;
      there = refl;
    }

-- The destination

-- the answer where the destination has done something
gave-there : (old : Pair) (did : Did Destination) (forward urgent : List Sent) (new : Pair) → forward ≡ old.forward → urgent ≡ old.urgent →
    new ≡ record old { destination = did.node; forward = forward; urgent = urgent; back = sending_if old.up old.back did.node.epoch did.frames; at_destination = old.at_destination ++ did.entries } →
    made did.effect (destination_done (world_of old) did) ≡ made did.effect (world_of new)
gave-there old did forward urgent new same_forward same_urgent is =
    ap (λ (wire : List Sent). made did.effect (destination_done (record (world_of old) { forward = wire_behind wire }) did)) (sym same_forward)
    ∙ ap (λ (wire : List Sent). made did.effect (destination_done (record (world_of old) { forward = wire_behind forward; urgent = wire_behind wire }) did)) (sym same_urgent)
    ∙ ap (λ (entries : List Entry). made did.effect (record (destination_done (record (world_of old) { forward = wire_behind forward; urgent = wire_behind urgent }) did) { transcript = entries })) (append_assoc old.at_source old.at_destination did.entries)
    ∙ ap (λ (pair : Pair). made did.effect (world_of pair)) (sym is)

destination-made : (old : Pair) (step : Step) (did : Did Destination) (new : Pair) → destination_linked old.up (is_under_way old.source) old.destination step ≡ Ok did → is_destination_own step ≡ true →
    (turn : IsDestinationTurn old (Line.Made step) did new) → turn.forward ≡ old.forward → turn.urgent ≡ old.urgent → answer (world_of old) step ≡ made did.effect (world_of new)
destination-made old step did new gives own turn forward urgent =
    destination-own (world_of old) step own ∙ ap (destination_gives (world_of old)) gives ∙ gave-there old did turn.forward turn.urgent new forward urgent turn.is

-- a line of the destination that it makes by itself
destination-turn : (old : Pair) (step : Step) (did : Did Destination) (new : Pair) → IsSoundWorld (world_of old) → IsDestinationTurn old (Line.Made step) did new → IsStep old (Turn.AtDestination (Line.Made step)) did.effect new
destination-turn old Step.DestRead did new sound turn = record { answer_is = destination-made old Step.DestRead did new turn.gives refl turn turn.takes turn.takes_urgent; here = refl; there = refl }
destination-turn old Step.DestAct did new sound turn = record { answer_is = destination-made old Step.DestAct did new turn.gives refl turn turn.takes turn.takes_urgent; here = refl; there = refl }
destination-turn old Step.Install did new sound turn = record { answer_is = destination-made old Step.Install did new turn.gives refl turn turn.takes turn.takes_urgent; here = refl; there = refl }
destination-turn old (Step.Notice Side.Destination) did new sound turn =
    let down = not-true old.up turn.may in
    let under_way = under_way-down (world_of old) sound down in
    let given = acts (destination.pause old.destination) in
    let linked = is-down old.up (in_phase (is_under_way old.source) given) down ∙ in-phase (is_under_way old.source) given under_way ∙ turn.gives in
    record { answer_is = destination-made old (Step.Notice Side.Destination) did new linked refl turn turn.takes turn.takes_urgent; here = refl; there = refl }
destination-turn old (Step.Notice Side.Source) did new sound turn = absurd (never Refusal.Phase did turn.gives)
destination-turn old (Step.Issue cpu command) did new sound turn =
    let ran = issue-runs _ old.destination.guest old.destination.has_run cpu command did turn.gives in
    let world = world_of old in
    let side = ap (λ r. Some (running_side r)) ran in
    record {
      answer_is = destination-issue world cpu command ran ∙ ap (destination_gives world) turn.gives ∙ gave-there old did turn.forward turn.urgent new turn.takes turn.takes_urgent turn.is;
      here = none_here world (Step.Issue cpu command) (Some (running_side old.destination.has_run)) side;
      there = only_there world (Step.Issue cpu command) (Line.Made (Step.Issue cpu command) ∷ []) (Some (running_side old.destination.has_run)) side refl;
    }
destination-turn old (Step.Retry cpu) did new sound turn =
    let ran = retry-runs _ old.destination.guest old.destination.has_run cpu did turn.gives in
    let world = world_of old in
    let side = ap (λ r. Some (running_side r)) ran in
    record {
      answer_is = destination-retry world cpu ran ∙ ap (destination_gives world) turn.gives ∙ gave-there old did turn.forward turn.urgent new turn.takes turn.takes_urgent turn.is;
      here = none_here world (Step.Retry cpu) (Some (running_side old.destination.has_run)) side;
      there = only_there world (Step.Retry cpu) (Line.Made (Step.Retry cpu) ∷ []) (Some (running_side old.destination.has_run)) side refl;
    }
destination-turn old Step.Start did new sound turn = absurd (never Refusal.Phase did turn.gives)
destination-turn old Step.Round did new sound turn = absurd (never Refusal.Phase did turn.gives)
destination-turn old Step.Send did new sound turn = absurd (never Refusal.Phase did turn.gives)
destination-turn old (Step.SendRun count) did new sound turn = absurd (never Refusal.Phase did turn.gives)
destination-turn old Step.SourceRead did new sound turn = absurd (never Refusal.Phase did turn.gives)
destination-turn old Step.SourceAct did new sound turn = absurd (never Refusal.Phase did turn.gives)
destination-turn old Step.Switch did new sound turn = absurd (never Refusal.Phase did turn.gives)
destination-turn old (Step.Push ticket) did new sound turn = absurd (never Refusal.Phase did turn.gives)
destination-turn old (Step.PushUrgent ticket) did new sound turn = absurd (never Refusal.Phase did turn.gives)
destination-turn old (Step.Deliver n) did new sound turn = absurd (never Refusal.Phase did turn.gives)
destination-turn old (Step.DeliverBack n) did new sound turn = absurd (never Refusal.Phase did turn.gives)
destination-turn old (Step.DeliverUrgent n) did new sound turn = absurd (never Refusal.Phase did turn.gives)
destination-turn old Step.Serve did new sound turn = absurd (never Refusal.Phase did turn.gives)
destination-turn old Step.End did new sound turn = absurd (never Refusal.Phase did turn.gives)
destination-turn old Step.Resume did new sound turn = absurd (never Refusal.Phase did turn.gives)
destination-turn old Step.Break did new sound turn = absurd (never Refusal.Phase did turn.gives)

-- a line of the destination that takes a frame
took_there-turn : (old : Pair) (sent : Sent) (did : Did Destination) (new : Pair) → IsSoundWorld (world_of old) → IsDestinationTurn old (Line.Took sent) did new → IsStep old (Turn.AtDestination (Line.Took sent)) did.effect new
took_there-turn old sent did new sound turn =
    let world = world_of old in
    let behind = record world { forward = wire_behind turn.forward } in
    let given = destination.take old.destination sent.epoch sent.frame in
    let started = ap not (started-forward world sent turn.forward sound turn.may turn.takes) in
    record {
      answer_is =
          delivers world (text_len sent.frame) sent turn.forward false started turn.may turn.takes (whole (text_len sent.frame)) ∙ there_sends-gives behind given ∙ ap (destination_gives behind) turn.gives
          ∙ ap (λ (wire : List Sent). made did.effect (destination_done (record behind { urgent = wire_behind wire }) did)) (sym turn.takes_urgent)
          ∙ ap (λ (entries : List Entry). made did.effect (record (destination_done (record behind { urgent = wire_behind turn.urgent }) did) { transcript = entries })) (append_assoc old.at_source old.at_destination did.entries)
          ∙ ap (λ (pair : Pair). made did.effect (world_of pair)) (sym turn.is);
      here = refl;
      there = taken-line (λ one. Line.Took one) old.forward turn.forward sent turn.takes;
    }

pub allowed : {A : Type 0} (may : Bool) (result : Result A Refusal) (done : A) → in_phase may result ≡ Ok done → (may ≡ true) × (result ≡ Ok done)
allowed true result done is = (refl, is)
allowed false result done is = absurd (never Refusal.Phase done is)

-- a line of the destination that takes an urgent frame
took_urgent-turn : (old : Pair) (sent : Sent) (did : Did Destination) (new : Pair) → IsSoundWorld (world_of old) → IsDestinationTurn old (Line.TookUrgent sent) did new → IsStep old (Turn.AtDestination (Line.TookUrgent sent)) did.effect new
took_urgent-turn old sent did new sound turn =
    let world = world_of old in
    let behind = record world { urgent = wire_behind turn.urgent } in
    let given = destination.take_urgent old.destination sent.frame in
    let ran = allowed old.destination.has_run (acts given) did turn.gives in
    record {
      answer_is =
          delivers_urgent world (text_len sent.frame) sent turn.urgent false ran.0 turn.may turn.takes_urgent (whole (text_len sent.frame)) ∙ there_acts-gives behind given ∙ ap (destination_gives behind) ran.1
          ∙ ap (λ (wire : List Sent). made did.effect (destination_done (record behind { forward = wire_behind wire }) did)) (sym turn.takes)
          ∙ ap (λ (entries : List Entry). made did.effect (record (destination_done (record behind { forward = wire_behind turn.forward }) did) { transcript = entries })) (append_assoc old.at_source old.at_destination did.entries)
          ∙ ap (λ (pair : Pair). made did.effect (world_of pair)) (sym turn.is);
      here = refl;
      there = taken-line (λ one. Line.TookUrgent one) old.urgent turn.urgent sent turn.takes_urgent;
    }

-- Every turn

cut-turn : (old new : Pair) → IsCut old new → IsStep old Turn.Cut Effect.Broken new
cut-turn old new turn =
    let world = world_of old in
    record {
      answer_is = is-up old.up _ turn.was_up ∙ in-phase (is_under_way old.source) (made Effect.Broken (cut world)) turn.under_way ∙ ap (λ (pair : Pair). made Effect.Broken (world_of pair)) (sym turn.is);
      here = refl;
      there = refl;
    }

here-turn : (old : Pair) (line : Line) (did : Did Source) (new : Pair) → IsSoundWorld (world_of old) → IsLater old → IsSourceTurn old line did new → IsStep old (Turn.AtSource line) did.effect new
here-turn old (Line.Made step) did new sound later turn = source-turn old step did new sound later turn
here-turn old (Line.Took sent) did new sound later turn = took-turn old sent did new sound turn
here-turn old (Line.TookUrgent sent) did new sound later turn = absurd (never Refusal.Phase did turn.gives)

there-turn : (old : Pair) (line : Line) (did : Did Destination) (new : Pair) → IsSoundWorld (world_of old) → IsDestinationTurn old line did new → IsStep old (Turn.AtDestination line) did.effect new
there-turn old (Line.Made step) did new sound turn = destination-turn old step did new sound turn
there-turn old (Line.Took sent) did new sound turn = took_there-turn old sent did new sound turn
there-turn old (Line.TookUrgent sent) did new sound turn = took_urgent-turn old sent did new sound turn

pub every-turn : (old : Pair) (turn : Turn) (effect : Effect) (new : Pair) → IsSoundWorld (world_of old) → IsLater old → IsTurn old turn effect new → IsStep old turn effect new
every-turn old (Turn.AtSource line) effect new sound later turn = subst (λ e. IsStep old (Turn.AtSource line) e new) (sym turn.2) (here-turn old line turn.0 new sound later turn.1)
every-turn old (Turn.AtDestination line) effect new sound later turn = subst (λ e. IsStep old (Turn.AtDestination line) e new) (sym turn.2) (there-turn old line turn.0 new sound turn.1)
every-turn old Turn.Cut effect new sound later turn = subst (λ e. IsStep old Turn.Cut e new) (sym turn.1) (cut-turn old new turn.0)

-- A destination that has not run has entered nothing

pub over_map : {A B : Type 0} (Q : B → Type 0) (g : A → B) (result : Result A Refusal) → Holds (λ done. Q (g done)) result → Holds Q (map_ok g result)
over_map Q g (Ok done) h = h
over_map Q g (Err refusal) h = h

-- a destination that has not run afterwards had not run before, and has entered nothing
abbrev IsIdleAfter : Destination → Did Destination → Type 0
IsIdleAfter node did = did.node.has_run ≡ false → (node.has_run ≡ false) × (did.entries ≡ [])

acted-ran : (act : Act) (node : Destination) (page : ℕ) → (destination_acted_by act node page).has_run ≡ node.has_run
acted-ran Unprotected node page = refl
acted-ran Zeroed node page = refl
acted-ran Woke node page = refl
acted-ran Forgot node page = refl
acted-ran (Requested origin) node page = refl

installed-ran : (place : Option ℕ) (node : Destination) (copy : Copy) (rest : List Copy) → (install_by place node copy rest).has_run ≡ node.has_run
installed-ran (Some page) node copy rest = refl
installed-ran None node copy rest = refl

came-ran : (ran : Bool) (node : Destination) (copy : Copy) → (copy_came ran node copy).has_run ≡ node.has_run
came-ran true node copy = refl
came-ran false node copy = refl

resumed-ran : (state : Received) (node : Destination) → (resumed_by state node).has_run ≡ node.has_run
resumed-ran Received.NotRun node = refl
resumed-ran Received.Running node = refl
resumed-ran Received.Ended node = refl

took-ran : (node : Destination) (epoch : ℕ) (frame : Frame) → (destination_took node epoch frame).has_run ≡ false → node.has_run ≡ false
took-ran node epoch Advise none = none
took-ran node epoch (Page page bytes) none = sym (came-ran node.has_run node (record { page = page; bytes = bytes })) ∙ none
took-ran node epoch (Zero page) none = sym (came-ran node.has_run node (record { page = page; bytes = zero_page })) ∙ none
took-ran node epoch (Run first pages) none = none
took-ran node epoch (Discard pages) none = none
took-ran node epoch (Package areas owed commands) none = absurd (false≢true (sym none))
took-ran node epoch (End urgent) none = none
took-ran node epoch Resume none = sym (resumed-ran (received_of node) (record node { epoch = epoch; urgent_taken = 0 })) ∙ none
took-ran node epoch (Request page) none = none
took-ran node epoch (Recv state owed) none = none
took-ran node epoch Done none = none

took_urgent-ran : (node : Destination) (frame : Frame) → (urgent_took node frame).has_run ≡ node.has_run
took_urgent-ran node (Page page bytes) = refl
took_urgent-ran node (Zero page) = refl
took_urgent-ran node _ = refl

-- a command is made where the destination has run
never-idle : (node : Destination) (did : Did Destination) → did.node.has_run ≡ node.has_run → node.has_run ≡ true → IsIdleAfter node did
never-idle node did same runs none = absurd (false≢true (sym none ∙ same ∙ runs))

issue-idle : (node : Destination) (cpu : ℕ) (command : Command) (did : Did Destination) → destination_step node (Step.Issue cpu command) ≡ Ok did → IsIdleAfter node did
issue-idle node cpu command did gives =
    let tried = issue node.guest node.has_run cpu command in
    let same = ok-holds (λ (d : Did Destination). d.node.has_run ≡ node.has_run) (destination_step node (Step.Issue cpu command)) did (over_map _ _ tried (each _ tried (λ t. refl))) gives in
    never-idle node did same (issue-runs _ node.guest node.has_run cpu command did gives)

retry-idle : (node : Destination) (cpu : ℕ) (did : Did Destination) → destination_step node (Step.Retry cpu) ≡ Ok did → IsIdleAfter node did
retry-idle node cpu did gives =
    let tried = retry node.guest node.has_run cpu in
    let same = ok-holds (λ (d : Did Destination). d.node.has_run ≡ node.has_run) (destination_step node (Step.Retry cpu)) did (over_map _ _ tried (each _ tried (λ t. refl))) gives in
    never-idle node did same (retry-runs _ node.guest node.has_run cpu did gives)

idle-step : (node : Destination) (step : Step) (did : Did Destination) → destination_step node step ≡ Ok did → IsIdleAfter node did
idle-step node (Step.Issue cpu command) did gives = issue-idle node cpu command did gives
idle-step node (Step.Retry cpu) did gives = retry-idle node cpu did gives
idle-step node Step.DestRead did gives =
    ok-holds (IsIdleAfter node) (acts (destination.read node)) did
    (over_map _ _ (destination.read node) (holds-in_phase _ node.has_run _ (λ ran. holds-and_then _ (ok_or (next_message node.guest.space.object) Refusal.NothingThere) _ (each _ (ok_or (next_message node.guest.space.object) Refusal.NothingThere) (λ noted none. (none, refl)))))) gives
idle-step node Step.DestAct did gives =
    ok-holds (IsIdleAfter node) (sends (destination.act node)) did
    (over_map _ _ (destination.act node)
    (holds-in_phase _ node.has_run _ (λ ran.
    holds-and_then _ (when_quiet node.guest (first_of node.held)) _ (each _ (when_quiet node.guest (first_of node.held)) (λ fault none. (sym (acted-ran (destination_act node fault) node fault.page) ∙ none, refl)))))) gives
idle-step node Step.Install did gives =
    ok-holds (IsIdleAfter node) (acts (destination.install node)) did
    (over_map _ _ (destination.install node)
    (holds-in_phase _ node.has_run _ (λ ran.
    holds-and_then _ (when_quiet node.guest (first_of node.arrivals)) _ (each _ (when_quiet node.guest (first_of node.arrivals)) (λ copy none. (sym (installed-ran (home node.owed copy.page) node copy (rest_of node.arrivals)) ∙ none, refl)))))) gives
idle-step node (Step.Notice Side.Destination) did gives =
    ok-holds (IsIdleAfter node) (acts (destination.pause node)) did (over_map _ _ (destination.pause node) (holds-in_phase _ (not (is_dest_paused node.phase)) _ (λ may none. (none, refl)))) gives
idle-step node _ did gives = absurd (never Refusal.Phase did gives)

idle-line : (node : Destination) (line : Line) (did : Did Destination) → destination_line node line ≡ Ok did → IsIdleAfter node did
idle-line node (Line.Made step) did gives = idle-step node step did gives
idle-line node (Line.Took sent) did gives =
    ok-holds (IsIdleAfter node) (sends (destination.take node sent.epoch sent.frame)) did
    (over_map _ _ (destination.take node sent.epoch sent.frame) (holds-unless _ _ _ (λ none_applies none. (took-ran node sent.epoch sent.frame none, refl)))) gives
idle-line node (Line.TookUrgent sent) did gives =
    let ran = allowed node.has_run (acts (destination.take_urgent node sent.frame)) did gives in
    ok-holds (IsIdleAfter node) (acts (destination.take_urgent node sent.frame)) did (λ none. (sym (took_urgent-ran node sent.frame) ∙ none, refl)) ran.1

pub later-new : (old new : Pair) (turn : Turn) (effect : Effect) → IsTurn old turn effect new → IsLater old → IsLater new
later-new old new (Turn.AtSource line) effect turn later = subst IsLater (sym turn.1.is) later
later-new old new (Turn.AtDestination line) effect turn later =
    subst IsLater (sym turn.1.is) (λ none.
    let before = idle-line old.destination line turn.0 turn.1.gives none in
    ap (λ entries. entries ++ turn.0.entries) (later before.0) ∙ before.1)
later-new old new Turn.Cut effect turn later = subst IsLater (sym turn.0.is) later

-- Every order

-- turns of two processes as a run of their world
pub record IsRunOfBoth (old : Pair) (turns : List Turn) (effects : List Effect) (new : Pair) : Type 0 where
  pub accepted : outcomes (world_of old) (map step_of turns) ≡ map Ok effects
  pub world : after_steps (world_of old) (map step_of turns) ≡ world_of new
  pub here : log_of Side.Source (world_of old) (map step_of turns) ≡ source_lines turns
  pub there : log_of Side.Destination (world_of old) (map step_of turns) ≡ destination_lines turns

pub here_first : (turn : Turn) (turns : List Turn) → source_lines (turn ∷ []) ++ source_lines turns ≡ source_lines (turn ∷ turns)
here_first (Turn.AtSource line) turns = refl
here_first (Turn.AtDestination line) turns = refl
here_first Turn.Cut turns = refl

pub there_first : (turn : Turn) (turns : List Turn) → destination_lines (turn ∷ []) ++ destination_lines turns ≡ destination_lines (turn ∷ turns)
there_first (Turn.AtSource line) turns = refl
there_first (Turn.AtDestination line) turns = refl
there_first Turn.Cut turns = refl

pub run_of_both : (old : Pair) (turns : List Turn) (effects : List Effect) (new : Pair) → IsReached (world_of old) → IsLater old → AreTurns old turns effects new → IsRunOfBoth old turns effects new
run_of_both old [] [] new reached later is = record { accepted = refl; world = sym (ap world_of is); here = refl; there = refl }
run_of_both old [] (effect ∷ effects) new reached later is = absurd is
run_of_both old (turn ∷ turns) [] new reached later is = absurd is
run_of_both old (turn ∷ turns) (effect ∷ effects) new reached later is =
    let mid = is.0 in
    let world = world_of old in
    let step = step_of turn in
    let one = every-turn old turn effect mid (kept-reached world reached) later is.1 in
    let after = next-made world step effect (world_of mid) one.answer_is in
    let told = outcome-made world step effect (world_of mid) one.answer_is in
    let rest = run_of_both mid turns effects new (subst IsReached after (reached-next world step reached)) (later-new old mid turn effect is.1 later) is.2 in
    record {
      accepted = ap (λ o. o ∷ outcomes (next world step) (map step_of turns)) told ∙ ap (λ w. Ok effect ∷ outcomes w (map step_of turns)) after ∙ ap (λ os. Ok effect ∷ os) rest.accepted;
      world = ap (λ w. after_steps w (map step_of turns)) after ∙ rest.world;
      here =
          ap (λ o. logged Side.Source world step o ++ log_of Side.Source (next world step) (map step_of turns)) told ∙ ap (λ w. logged Side.Source world step (Ok effect) ++ log_of Side.Source w (map step_of turns)) after
          ∙ ap (λ lines. lines ++ log_of Side.Source (world_of mid) (map step_of turns)) one.here ∙ ap (λ lines. source_lines (turn ∷ []) ++ lines) rest.here ∙ here_first turn turns;
      there =
          ap (λ o. logged Side.Destination world step o ++ log_of Side.Destination (next world step) (map step_of turns)) told
          ∙ ap (λ w. logged Side.Destination world step (Ok effect) ++ log_of Side.Destination w (map step_of turns)) after
          ∙ ap (λ lines. lines ++ log_of Side.Destination (world_of mid) (map step_of turns)) one.there ∙ ap (λ lines. destination_lines (turn ∷ []) ++ lines) rest.there ∙ there_first turn turns;
    }

-- two nodes to which nothing has happened are a first world
pub first-reached : (cpus epoch rounds : ℕ) → IsReached (world_of (first_pair cpus epoch rounds))
first-reached cpus epoch rounds = record { cpus = cpus; epoch = epoch; rounds = rounds; steps = []; is = refl }

pub first-later : (cpus epoch rounds : ℕ) → IsLater (first_pair cpus epoch rounds)
first-later cpus epoch rounds = λ none. refl

pub run_of_logs : (cpus epoch rounds : ℕ) (turns : List Turn) (effects : List Effect) (new : Pair) → AreTurns (first_pair cpus epoch rounds) turns effects new → IsRunOfBoth (first_pair cpus epoch rounds) turns effects new
run_of_logs cpus epoch rounds turns effects new is = run_of_both (first_pair cpus epoch rounds) turns effects new (first-reached cpus epoch rounds) (first-later cpus epoch rounds) is
