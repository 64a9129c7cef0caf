-- The log of the example, step by step.
use Rattle.std.proofs.lemmas.Bool.{false≢true}
use Rattle.std.proofs.Common.{◌≡◌, ℕ, ◌+◌, ◌&&◌, ◌||◌, Bool, true, false, cond, Option, Some, None, List, [], ◌∷◌, refl, sym, ap, subst, ◌∙◌, arith}
use Rattle.std.specs.Prelude.{IsOk, Result, Ok, is_some}
use Rattle.std.specs.Ordering.{nat_cmp}
use Rattle.std.specs.FinMap as finmap
use Rattle.std.specs.FinMap.{get, get-empty}
use Rattle.std.specs.FinSet as finset
use Rattle.mig_base.specs.declared.Prot.{Prot}
use Rattle.mig_base.specs.declared.Prot.TheVariants.{ReadWrite}
use Rattle.mig_base.specs.declared.Run.{Run}
use Rattle.mig_base.specs.declared.command.Command.{Command}
use Rattle.mig_base.specs.declared.effect.Effect.{Effect}
use Rattle.mig_base.specs.declared.refusal.Refusal.{Refusal}
use Rattle.mig_base.specs.declared.schedule.Step.{Step}
use Rattle.foundation.specs.Bits.{is_one}
use Rattle.mig_base.specs.Commands.{is_access}
use Rattle.foundation.specs.Ranges.{in_range}
use Rattle.mig_base.specs.Userfault.{Noted, next_message}
use Rattle.mig_base.proofs.PageLemmas.{get-set_range}
use Rattle.mig_model.specs.Handlers.{AreRunsOf}
use Rattle.mig_model.specs.Lengths.{text_len}
use Rattle.mig_model.specs.Migration.{World, answer, first_world, made, next, next_by, outcome, outcome_by}
use Rattle.mig_model.specs.Promises.{AreAccepted, IsReached}
use Rattle.mig_model.specs.Space.{Space}
use Rattle.mig_model.specs.Wire.{Frame}
use Rattle.mig_model.proofs.steps.ReachedLemmas.{reached-next}
use Rattle.mig_base.specs.declared.message.Message.{Message}
use Rattle.mig_model.specs.Ioctls.{all_features}
use Rattle.uffd_log.specs.declared.call.Call.TheVariants as call
use Rattle.uffd_log.specs.declared.call.Descriptor.{Descriptor}
use Rattle.uffd_log.specs.declared.call.Message.TheVariants.{Fault}
use Rattle.uffd_log.specs.declared.line.Answer.TheVariants.{Value}
use Rattle.kernel_rules.specs.Ioctls.{has_calls, is_offer}
use Rattle.kernel_laws.specs.Example.{IsOfDestination, its_calls, its_descriptor}
use Rattle.kernel_laws.specs.Logs.{AreFollowed, Arrival, Ended, HaveNoMapCalls, IsFollowed, IsNoMapCall, Node, Written, answered, calls_written, destination, destination_writes, message_written, first_calls, is_followed, issue_written, keeps_off_all, log_of, read_written, then_written, whole_log}
use Rattle.kernel_laws.proofs.LogRuns.{no_thread_ids}
use Rattle.kernel_laws.proofs.MapRuns.{no-map-call}
use Rattle.kernel_laws.proofs.ExampleWorlds.{carried, discard_frame, eighth-step, eleventh-step, fifth-step, first-step, fourth-step, loading, mapping, ninth-step, owed, package_frame, retried, second-step, seventh-step, sixth-step, stored, storing, tenth-step, third-step, thirteenth-step, twelfth-step, w1, w2, w3, w4, w5, w6, w7, w8, w9, w10, w11, w12, w13}

-- A step that is made

is-next : (world new : World) (step : Step) (effect : Effect) → answer world step ≡ made effect new → next world step ≡ new
unfolding next
is-next world new step effect is = ap (next_by world) is

is-outcome : (world new : World) (step : Step) (effect : Effect) → answer world step ≡ made effect new → outcome world step ≡ Ok effect
unfolding outcome
is-outcome world new step effect is = ap outcome_by is

reached : (world new : World) (step : Step) (effect : Effect) → answer world step ≡ made effect new → IsReached world → IsReached new
reached world new step effect is at = subst IsReached (is-next world new step effect is) (reached-next world step at)

accepted : (world new : World) (step : Step) (steps : List Step) (effect : Effect) → answer world step ≡ made effect new → AreAccepted new steps → AreAccepted world (step ∷ steps)
accepted world new step steps effect is rest =
    (subst (λ r. IsOk r) (sym (is-outcome world new step effect is)) refl, subst (λ w. AreAccepted w steps) (sym (is-next world new step effect is)) rest)

abbrev node : Node
node = destination its_descriptor 0x20000 0

logged : (key : ℕ) (world new : World) (step : Step) (steps : List Step) (effect : Effect) (first : Written) → answer world step ≡ made effect new → node.writes key [] world step ≡ first →
    log_of node key [] world (step ∷ steps) ≡ then_written first (log_of node first.key first.begun new steps)
logged key world new step steps effect first is same =
    (λ i. then_written (same i) (log_of node (same i).key (same i).begun (is-next world new step effect is i) steps))

-- The world in which the destination takes the Package

at_package : IsReached w6
at_package =
    reached w5 w6 (Step.Deliver (text_len discard_frame)) _ sixth-step
    (reached w4 w5 (Step.Deliver (text_len Frame.Advise)) _ fifth-step
    (reached w3 w4 Step.Switch _ fourth-step
    (reached w2 w3 Step.Start _ third-step
    (reached w1 w2 (Step.Issue 0 storing) _ second-step
    (reached (first_world 1) w1 (Step.Issue 0 mapping) _ first-step (record { cpus = 1; epoch = 0; rounds = 0; steps = []; is = refl }))))))

abbrev its_runs : List Run
its_runs = record { first = 16; count = 1 } ∷ []

one-run : (inside : Bool) (o : Option Prot) → o ≡ None → (inside || false) ≡ is_some (cond inside (Some ReadWrite) o)
one-run true o none = refl
one-run false o none = sym (ap is_some none)

are-runs : AreRunsOf stored.areas its_runs
are-runs =
    record {
      some = (omega arith, tt);
      pages = λ page. one-run (in_range 16 1 page) (get (finmap.empty {K = ℕ} {X = Prot} {R = nat_cmp}) page) (get-empty nat_cmp page) ∙ ap is_some (sym (get-set_range finmap.empty 16 1 ReadWrite page));
    }

it-runs : next w6 (Step.Deliver (text_len package_frame)) ≡ w7
it-runs = is-next w6 w7 (Step.Deliver (text_len package_frame)) (Effect.TookPackage (finset.len owed)) seventh-step

offer-is : is_offer all_features 0x8000000000000003 ≡ true
unfolding is_one
offer-is = refl

calls-are : has_calls 1 0xc ≡ true
unfolding is_one
calls-are = refl

abbrev fetched : Arrival
fetched =
    record {
      world = w6;
      n = text_len package_frame;
      count = finset.len owed;
      reached = at_package;
      is = is-outcome w6 w7 (Step.Deliver (text_len package_frame)) (Effect.TookPackage (finset.len owed)) seventh-step;
      areas = its_runs;
      are = subst (λ (w : World). AreRunsOf w.destination.guest.space.host.areas (record { first = 16; count = 1 } ∷ [])) (sym it-runs) are-runs;
      offer = 0x8000000000000003;
      offers = offer-is;
      calls = 0xc;
      has = calls-are;
      on = its_descriptor;
      from = 0x20000;
      source = refl;
    }

-- the steps from then on, and those after each of them
abbrev from_retry : List Step
from_retry = Step.Retry 0 ∷ []

abbrev from_install : List Step
from_install = Step.Install ∷ from_retry

abbrev from_delivery : List Step
from_delivery = Step.Deliver (text_len carried) ∷ from_install

abbrev from_push : List Step
from_push = Step.Push (record { epoch = 1; page = 16 }) ∷ from_delivery

abbrev from_act : List Step
from_act = Step.DestAct ∷ from_push

abbrev from_read : List Step
from_read = Step.DestRead ∷ from_act

abbrev its_steps : List Step
its_steps = Step.Issue 0 loading ∷ from_read

-- the calls of the steps, by what they return

abbrev reads : Ended
reads = record { call = call.Read its_descriptor None; out = record { answer = Value 1; messages = Fault 0x10000 0 0 ∷ []; runs = [] } }

abbrev copies : Ended
copies = answered (call.Copy its_descriptor 0x10000 0x20000 4096 0) (Value 4096)

writes-issue : node.writes 3 [] w7 (Step.Issue 0 loading) ≡ calls_written 3 [] []
writes-issue = ap (destination_writes its_descriptor 0x20000 0 3 [] w7 (Step.Issue 0 loading)) (is-outcome w7 w8 (Step.Issue 0 loading) (Effect.Asleep 0) eighth-step)

writes-read : node.writes 3 [] w8 Step.DestRead ≡ calls_written 3 [] (reads ∷ [])
writes-read =
    ap (destination_writes its_descriptor 0x20000 0 3 [] w8 Step.DestRead) (is-outcome w8 w9 Step.DestRead (Effect.ReadFault 0x10000 false) ninth-step)
    ∙ ap (λ b. read_written its_descriptor 3 [] (Some (record { message = Message.PageFault 0x10000 false false (cond b 1 0); cpu = 0 }))) no_thread_ids

writes-act : node.writes 4 [] w9 Step.DestAct ≡ calls_written 4 [] []
writes-act = ap (destination_writes its_descriptor 0x20000 0 4 [] w9 Step.DestAct) (is-outcome w9 w10 Step.DestAct (Effect.Requested 0x10000 0x10000) tenth-step)

writes-install : node.writes 4 [] w12 Step.Install ≡ calls_written 4 [] (copies ∷ [])
writes-install = ap (destination_writes its_descriptor 0x20000 0 4 [] w12 Step.Install) (is-outcome w12 w13 Step.Install (Effect.Installed 0x10000 0x10000) thirteenth-step)

its-log : log_of node 3 [] w7 its_steps ≡ calls_written 3 [] (reads ∷ copies ∷ [])
its-log =
    logged 3 w7 w8 (Step.Issue 0 loading) from_read (Effect.Asleep 0) (calls_written 3 [] []) eighth-step writes-issue
    ∙ logged 3 w8 w9 Step.DestRead from_act (Effect.ReadFault 0x10000 false) (calls_written 3 [] (reads ∷ [])) ninth-step writes-read
    ∙ ap (then_written (calls_written 3 [] (reads ∷ [])))
    (logged 4 w9 w10 Step.DestAct from_push (Effect.Requested 0x10000 0x10000) (calls_written 4 [] []) tenth-step writes-act
    ∙ logged 4 w10 w11 (Step.Push (record { epoch = 1; page = 16 })) from_delivery _ (calls_written 4 [] []) eleventh-step refl
    ∙ logged 4 w11 w12 (Step.Deliver (text_len carried)) from_install _ (calls_written 4 [] []) twelfth-step refl
    ∙ logged 4 w12 w13 Step.Install from_retry (Effect.Installed 0x10000 0x10000) (calls_written 4 [] (copies ∷ [])) thirteenth-step writes-install)

its-whole : whole_log fetched its_steps ≡ calls_written 0 [] its_calls
its-whole =
    ap (λ (w : World). then_written (calls_written 0 [] (first_calls fetched)) (log_of node 3 [] w its_steps)) it-runs
    ∙ ap (then_written (calls_written 0 [] (first_calls fetched))) its-log

are-accepted : AreAccepted w7 its_steps
are-accepted =
    accepted w7 w8 (Step.Issue 0 loading) from_read (Effect.Asleep 0) eighth-step
    (accepted w8 w9 Step.DestRead from_act (Effect.ReadFault 0x10000 false) ninth-step
    (accepted w9 w10 Step.DestAct from_push (Effect.Requested 0x10000 0x10000) tenth-step
    (accepted w10 w11 (Step.Push (record { epoch = 1; page = 16 })) from_delivery _ eleventh-step
    (accepted w11 w12 (Step.Deliver (text_len carried)) from_install _ twelfth-step
    (accepted w12 w13 Step.Install from_retry (Effect.Installed 0x10000 0x10000) thirteenth-step (retried, tt))))))

-- steps without map calls are followed, and none is under way
one-followed : (space : Space) (world : World) (step : Step) → IsNoMapCall step → IsFollowed space [] world step
one-followed space world (Step.Issue cpu command) access = by command access where
  by : (command : Command) → is_access command ≡ true → (is_followed command && keeps_off_all space command []) ≡ true
  by (Command.Load addr width) is = refl
  by (Command.Store addr width value) is = refl
  by (Command.Mmap len prot place) is = refl
  by (Command.Munmap addr len) is = refl
  by (Command.Mremap addr old_len new_len may_move fixed) is = absurd (false≢true is)
  by (Command.DontNeed addr len) is = absurd (false≢true is)
one-followed space world (Step.Retry cpu) access = λ command waits. refl
one-followed space world step access = tt

none-read : (on : Descriptor) (key : ℕ) (next : Option Noted) → (read_written on key [] next).begun ≡ []
none-read on key None = refl
none-read on key (Some noted) = by noted.message where
  by : (message : Message) → (message_written on key [] message).begun ≡ []
  by (Message.PageFault addr write wp tid) = refl
  by (Message.Remap from to len) = refl
  by (Message.Remove start end) = refl
  by (Message.Unmap start end) = refl

none-begun : (on : Descriptor) (from home key : ℕ) (world : World) (step : Step) (result : Result Effect Refusal) → IsNoMapCall step → (destination_writes on from home key [] world step result).begun ≡ []
none-begun on from home key world (Step.Issue cpu command) (Ok effect) access = ap (λ o. (issue_written home key [] world.destination.guest.space cpu command o).begun) (no-map-call command access)
none-begun on from home key world Step.DestRead (Ok effect) access = none-read on key (next_message world.destination.guest.space.object)
none-begun on from home key world step result access = refl

pub all-followed : (on : Descriptor) (from home key : ℕ) (world : World) (steps : List Step) → HaveNoMapCalls steps → AreFollowed (destination on from home) key [] world steps
all-followed on from home key world [] none = tt
all-followed on from home key world (step ∷ steps) none =
    let written = (destination on from home).writes key [] world step in (
      one-followed world.destination.guest.space world step none.0,
      subst (λ begun. AreFollowed (destination on from home) written.key begun (next world step) steps) (sym (none-begun on from home key world step (outcome world step) none.0)) (all-followed on from home written.key (next world step) steps none.1),
    )

pub its : IsOfDestination (calls_written 0 [] its_calls)
its =
    record {
      it = fetched;
      steps = its_steps;
      no_map_calls = (refl, (tt, (tt, (tt, (tt, (tt, (tt, tt)))))));
      accepted = subst (λ w. AreAccepted w its_steps) (sym it-runs) are-accepted;
      is = its-whole;
    }
