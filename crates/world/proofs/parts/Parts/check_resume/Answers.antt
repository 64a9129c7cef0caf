use Rattle.std.proofs.Common.{◌≡◌, true, ap, refl, sym, ◌∙◌, arith}
use Rattle.std.proofs.lemmas.Bool.Decides.{nat_tests}
use Rattle.mig_model.specs.Destination.{is_dest_paused}
use Rattle.mig_model.specs.NodeSteps.{checked, in_phase}
use Rattle.mig_model.specs.SourceSteps as source
use Rattle.world.proofs.WouldLemmas.{down_checked}
use Rattle.world.proofs.parts.Parts.check_resume.Goals as goal

pub returns : goal.returns
returns c =
    let resumes = source.resume c.args.self.now.source in
    let tested = c.if-not-is_dest_paused.false in
    let paused = c.is_dest_paused.ensures in
    let is : is_dest_paused c.args.self.now.destination.phase ≡ true = grind (arith, nat_tests, tested, paused) in
    down_checked c.args.self.now.up (in_phase (is_dest_paused c.args.self.now.destination.phase) resumes) _ c.check_resume.result _ (λ x. refl)
    (c.check_resume.ensures ∙ ap (λ b. checked (in_phase b resumes)) (sym is)) c.while_down.ensures
