use Rattle.std.proofs.Common.{map, option_to_list, refl, ◌∙◌}
use Rattle.std.proofs.lemmas.Result.{err_from_is_err_and}
use Rattle.mig_base.specs.declared.schedule.Step.{Step}
use Rattle.mig_model.specs.DestinationSteps as destination
use Rattle.mig_model.specs.Wire.{wire_if}
use Rattle.page_stream.specs.Frames.{frame_of}
use Rattle.world.specs.Worlds.{world_of}
use Rattle.world.proofs.StepLemmas.{destination_sent, happens_kept, node_refused}
use Rattle.world.proofs.parts.Parts.destination_act.Goals as goal

pub returns-then-is_err : goal.returns-then-is_err
returns-then-is_err c = happens_kept (world_of c.args.self.now) _ Step.DestAct _ (λ i. record (world_of c.args.self.now) { back = c.reserve.ensures.stays i }) refl c.refused.ensures

pub returns-in_err-effect : goal.returns-in_err-effect
returns-in_err-effect c =
    let p = err_from_is_err_and c.from_residual.result c.from_residual.ensures.1 in
    rw (p.1, p.2, c.reserve.ensures.stays, c.in_err-effect.ensures.err)
    (node_refused (world_of c.args.self.now) Step.DestAct (destination.act c.args.self.now.destination) _ _ (λ x. refl) refl refl c.in_err-effect.ensures.refused)

pub returns : goal.returns
returns c =
    destination_sent (world_of c.args.self.now) (world_of c.args.self.now) Step.DestAct (destination.act c.args.self.now.destination) _ (map frame_of (option_to_list c.in_ok-effect.request)) _ _ refl c.in_ok-effect.ensures.made
    (c.send_back.ensures ∙ (λ i. wire_if c.args.self.now.up (c.reserve.ensures.stays i) (c.epoch.ensures i) (map frame_of (option_to_list c.in_ok-effect.request))))
