use Rattle.std.proofs.Common.{◌≡◌, true, false, ap, ◌∙◌, arith}
use Rattle.std.proofs.lemmas.Bool.Decides.{nat_tests}
use Rattle.mig_base.specs.declared.refusal.Refusal.{Refusal}
use Rattle.mig_base.specs.declared.schedule.Side.{Side}
use Rattle.mig_base.specs.declared.schedule.Step.{Step}
use Rattle.mig_model.specs.DestinationSteps as destination
use Rattle.mig_model.specs.Migration.{destination_acts, source_acts}
use Rattle.mig_model.specs.NodeSteps.{in_phase, while_down}
use Rattle.mig_model.specs.Source.{is_under_way}
use Rattle.mig_model.specs.SourceSteps as source
use Rattle.mig_model.proofs.steps.StepLemmas.{is-down}
use Rattle.world.specs.Worlds.{world_of}
use Rattle.world.proofs.StepLemmas.{destination_acts_always, happens_refused, notice_refused, source_acts_always}
use Rattle.world.proofs.parts.Parts.notice.Goals as goal

pub returns-then-self : goal.returns-then-self
returns-then-self c = notice_refused (world_of c.args.self.now) c.args.side _ c.if-self.true c.refused.ensures

pub returns-in-Source : goal.returns-in-Source
returns-in-Source c =
    rw (c.in-Source.is)
    (source_acts_always (world_of c.args.self.now) (Step.Notice Side.Source) (source.pause c.args.self.now.source) c.notice.result c.notice.new.self
    (ap (source_acts (world_of c.args.self.now)) (is-down c.args.self.now.up (source.pause c.args.self.now.source) c.if-self.false)) c.notice.ensures.made c.notice.ensures.refused c.notice.ensures.err)

pub returns-in-Destination : goal.returns-in-Destination
returns-in-Destination c =
    let world = world_of c.args.self.now in
    let tested = c.if-not-is_under_way.true in
    let under_way = c.is_under_way.ensures in
    let is : is_under_way world.source ≡ false = grind (arith, nat_tests, tested, under_way) in
    rw (c.in-Destination.is) (happens_refused world (Step.Notice Side.Destination) Refusal.Phase (ap (λ b. destination_acts world (while_down world.up (in_phase b (destination.pause world.destination)))) is))

pub returns-in-Destination-2 : goal.returns-in-Destination-2
returns-in-Destination-2 c =
    let world = world_of c.args.self.now in
    let pauses = destination.pause world.destination in
    let tested = c.if-not-is_under_way.false in
    let under_way = c.is_under_way.ensures in
    let is : is_under_way world.source ≡ true = grind (arith, nat_tests, tested, under_way) in
    rw (c.in-Destination-2.is)
    (destination_acts_always world (Step.Notice Side.Destination) pauses c.notice-in-Destination-2.result c.notice-in-Destination-2.new.self
    (ap (destination_acts world) (is-down world.up (in_phase (is_under_way world.source) pauses) c.if-self.false ∙ ap (λ b. in_phase b pauses) is))
    c.notice-in-Destination-2.ensures.made c.notice-in-Destination-2.ensures.refused c.notice-in-Destination-2.ensures.err)
