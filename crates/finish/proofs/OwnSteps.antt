-- Which steps the strategy has, and that they leave the transcript.
use Rattle.std.proofs.Common.{◌≡◌, ℕ, Bool, true, false, not, Option, None, Some, refl, ap, subst, if◌then◌else◌}
use Rattle.std.specs.Option.{IfSome}
use Rattle.std.specs.Prelude.{◌==◌}
use Rattle.foundation.specs.Tests.{is_empty}
use Rattle.mig_base.specs.declared.phase.DestPhase.{DestPhase}
use Rattle.mig_base.specs.declared.phase.SourcePhase.{SourcePhase}
use Rattle.mig_base.specs.declared.schedule.Side.{Side}
use Rattle.mig_base.specs.declared.schedule.Step.{Step}
use Rattle.mig_model.specs.Destination.{is_dest_paused}
use Rattle.mig_model.specs.Guest.{is_changing}
use Rattle.mig_model.specs.Log.{least_of}
use Rattle.mig_model.specs.Migration.{World, next}
use Rattle.mig_model.specs.NodeSteps.{is_used}
use Rattle.mig_model.specs.Source.{is_source_paused}
use Rattle.mig_model.proofs.steps.PartsChanged.{changes_parts}
use Rattle.finish.specs.Finishing.{IsOfStrategy, all_bytes, delivering_step, down_step, finishing_step, running_step, stopped_by, unless_used, up_step}

-- Which steps it has

-- a claim holds of each step that the strategy may name in a world
pub record OfEach (claim : Step → Type 0) (world : World) : Type 0 where
  pub start : claim Step.Start
  pub source_read : claim Step.SourceRead
  pub switch : claim Step.Switch
  pub push : (page : ℕ) → least_of world.source.remaining ≡ Some page → claim (Step.Push (record { epoch = world.source.epoch; page = page }))
  pub end : claim Step.End
  pub deliver : claim (Step.Deliver all_bytes)
  pub deliver_urgent : claim (Step.DeliverUrgent all_bytes)
  pub deliver_back : claim (Step.DeliverBack all_bytes)
  pub dest_read : claim Step.DestRead
  pub install : claim Step.Install
  pub notice : (side : Side) → claim (Step.Notice side)
  pub resume : claim Step.Resume

either : (claim : Step → Type 0) (test : Bool) (a b : Step) → claim a → claim b → claim (if test then a else b)
either claim true a b p q = p
either claim false a b p q = q

either_some : (claim : Step → Type 0) (test : Bool) (a b : Option Step) → IfSome a claim → IfSome b claim → IfSome (if test then a else b) claim
either_some claim true a b p q = p
either_some claim false a b p q = q

unless : (claim : Step → Type 0) (world : World) (step : Step) → claim step → IfSome (unless_used world step) claim
unless claim world step p = either_some claim (is_used world.source.epoch) None (Some step) tt p

running : (claim : Step → Type 0) (world : World) → OfEach claim world → claim (running_step world)
running claim world of =
    either claim (not (is_empty world.urgent.frames)) (Step.DeliverUrgent all_bytes) _ of.deliver_urgent (
    either claim (is_empty world.destination.arrivals) (Step.Deliver all_bytes) _ of.deliver (
    either claim (is_changing world.destination.guest) Step.DestRead Step.Install of.dest_read of.install)
    )

delivering : (claim : Step → Type 0) (phase : DestPhase) (world : World) → OfEach claim world → claim (delivering_step phase world)
delivering claim DestPhase.Idle world of = of.deliver
delivering claim DestPhase.Advised world of = of.deliver
delivering claim DestPhase.Discarding world of = of.deliver
delivering claim DestPhase.Running world of = running claim world of
delivering claim DestPhase.Paused world of = of.deliver
delivering claim DestPhase.Ended world of = of.deliver_back

stopped : (claim : Step → Type 0) (least : Option ℕ) (world : World) → OfEach claim world → least_of world.source.remaining ≡ least → claim (stopped_by least world)
stopped claim (Some page) world of is = of.push page is
stopped claim None world of is = either claim (world.source.end_epoch == world.source.epoch) _ Step.End (delivering claim world.destination.phase world of) of.end

up : (claim : Step → Type 0) (phase : SourcePhase) (world : World) → OfEach claim world → IfSome (up_step phase world) claim
up claim SourcePhase.Idle world of = unless claim world Step.Start of.start
up claim SourcePhase.Precopy world of = either claim (is_changing world.source.guest) Step.SourceRead Step.Switch of.source_read of.switch
up claim SourcePhase.Stopped world of = stopped claim (least_of world.source.remaining) world of refl
up claim SourcePhase.Paused world of = either claim (is_empty world.forward.frames) (Step.DeliverBack all_bytes) (Step.Deliver all_bytes) of.deliver_back of.deliver
up claim SourcePhase.Released world of = tt

down : (claim : Step → Type 0) (world : World) → OfEach claim world → IfSome (down_step world) claim
down claim world of =
    either_some claim (not (is_source_paused world.source.phase)) (Some (Step.Notice Side.Source)) _ (of.notice Side.Source) (
    either_some claim (not (is_dest_paused world.destination.phase)) (Some (Step.Notice Side.Destination)) _ (of.notice Side.Destination) (
    unless claim world Step.Resume of.resume)
    )

-- a claim on each step that may be named holds of the one that is
pub of_named : (claim : Step → Type 0) (world : World) → OfEach claim world → IfSome (finishing_step world) claim
of_named claim world of = either_some claim world.up _ _ (up claim world.source.phase world of) (down claim world of)

pub of_strategy : (world : World) → IfSome (finishing_step world) IsOfStrategy
of_strategy world =
    of_named IsOfStrategy world
    (record {
      start = tt;
      source_read = tt;
      switch = tt;
      push = λ page is. tt;
      end = tt;
      deliver = tt;
      deliver_urgent = tt;
      deliver_back = tt;
      dest_read = tt;
      install = tt;
      notice = λ side. tt;
      resume = tt;
    })

-- What they leave

entries_stay : (mid : World) (step : Step) → IsOfStrategy step → (next mid step).transcript ≡ mid.transcript
entries_stay mid (Step.Issue cpu command) own = absurd own
entries_stay mid (Step.Retry cpu) own = absurd own
entries_stay mid Step.Start own = (changes_parts mid Step.Start).transcript
entries_stay mid Step.Round own = absurd own
entries_stay mid Step.Send own = absurd own
entries_stay mid (Step.SendRun count) own = absurd own
entries_stay mid Step.SourceRead own = (changes_parts mid Step.SourceRead).transcript
entries_stay mid Step.SourceAct own = absurd own
entries_stay mid Step.Switch own = (changes_parts mid Step.Switch).transcript
entries_stay mid (Step.Deliver n) own = (changes_parts mid (Step.Deliver n)).transcript
entries_stay mid (Step.DeliverBack n) own = (changes_parts mid (Step.DeliverBack n)).transcript
entries_stay mid Step.DestRead own = (changes_parts mid Step.DestRead).transcript
entries_stay mid Step.DestAct own = absurd own
entries_stay mid Step.Install own = (changes_parts mid Step.Install).transcript
entries_stay mid (Step.Push ticket) own = (changes_parts mid (Step.Push ticket)).transcript
entries_stay mid (Step.PushUrgent ticket) own = absurd own
entries_stay mid (Step.DeliverUrgent n) own = (changes_parts mid (Step.DeliverUrgent n)).transcript
entries_stay mid Step.Serve own = absurd own
entries_stay mid Step.End own = (changes_parts mid Step.End).transcript
entries_stay mid Step.Break own = absurd own
entries_stay mid (Step.Notice Side.Source) own = ap (λ w. w.transcript) (changes_parts mid (Step.Notice Side.Source)).is
entries_stay mid (Step.Notice Side.Destination) own = ap (λ w. w.transcript) (changes_parts mid (Step.Notice Side.Destination)).is
entries_stay mid Step.Resume own = (changes_parts mid Step.Resume).transcript

-- a step that is due leaves the transcript
pub entries_next : (mid : World) (step : Step) → finishing_step mid ≡ Some step → (next mid step).transcript ≡ mid.transcript
entries_next mid step named = entries_stay mid step (subst (λ o. IfSome o IsOfStrategy) named (of_strategy mid))
