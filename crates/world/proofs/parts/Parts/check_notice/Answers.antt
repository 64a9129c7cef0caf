use Rattle.std.proofs.Common.{◌≡◌, true, ap, refl, sym, ◌∙◌, arith}
use Rattle.std.proofs.lemmas.Bool.Decides.{nat_tests}
use Rattle.mig_model.specs.DestinationSteps as destination
use Rattle.mig_model.specs.NodeSteps.{checked, in_phase}
use Rattle.mig_model.specs.Source.{is_under_way}
use Rattle.mig_model.specs.SourceSteps as source
use Rattle.world.proofs.WouldLemmas.{down_checked}
use Rattle.world.proofs.parts.Parts.check_notice.Goals as goal

pub returns-in-Source : goal.returns-in-Source
returns-in-Source c = rw (c.in-Source.is) (down_checked c.args.self.now.up (source.pause c.args.self.now.source) _ c.check_notice.result _ (λ x. refl) c.check_notice.ensures c.while_down.ensures)

pub returns-in-Destination-2 : goal.returns-in-Destination-2
returns-in-Destination-2 c =
    let pauses = destination.pause c.args.self.now.destination in
    let tested = c.if-not-is_under_way.false in
    let under_way = c.is_under_way.ensures in
    let is : is_under_way c.args.self.now.source ≡ true = grind (arith, nat_tests, tested, under_way) in
    rw (c.in-Destination-2.is)
    (down_checked c.args.self.now.up (in_phase (is_under_way c.args.self.now.source) pauses) _ c.check_notice-in-Destination-2.result _ (λ x. refl)
    (c.check_notice-in-Destination-2.ensures ∙ ap (λ b. checked (in_phase b pauses)) (sym is)) c.while_down-in-Destination-2.ensures)
