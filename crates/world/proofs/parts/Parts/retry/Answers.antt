use Rattle.std.proofs.Common.{ap, not, option_to_list, refl, sym, ◌++◌, ◌∙◌}
use Rattle.std.proofs.lemmas.Result.{err_from_is_err_and}
use Rattle.mig_base.specs.declared.schedule.Step.{Step}
use Rattle.mig_model.specs.GuestSteps.{retry}
use Rattle.fault_handler.proofs.WorldLemmas.{retry_in}
use Rattle.precopy.proofs.CommandLemmas.{retried_at}
use Rattle.world.specs.Worlds.{world_of}
use Rattle.world.proofs.StepLemmas.{happens_kept, node_refused, tried_here, tried_there}
use Rattle.world.proofs.parts.Parts.retry.Goals as goal

pub returns-then-is_err : goal.returns-then-is_err
returns-then-is_err c = happens_kept (world_of c.args.self.now) _ (Step.Retry c.args.cpu) _ (λ i. record (world_of c.args.self.now) { transcript = c.try_reserve.ensures.items i }) refl c.refused.ensures

pub returns-in_err-there : goal.returns-in_err-there
returns-in_err-there c =
    let ran = sym c.has_run.ensures ∙ c.if-has_run.true in
    let p = err_from_is_err_and c.from_residual.result c.from_residual.ensures.1 in
    rw (p.1, p.2, c.try_reserve.ensures.items, c.in_err-there.ensures.err)
    (node_refused (world_of c.args.self.now) (Step.Retry c.args.cpu) (retry c.args.self.now.destination.guest c.args.self.now.destination.has_run c.args.cpu) _ _ (λ x. refl) (retry_in (world_of c.args.self.now) c.args.cpu ran) refl c.in_err-there.ensures.refused)

pub returns-then-has_run : goal.returns-then-has_run
returns-then-has_run c =
    let ran = sym c.has_run.ensures ∙ c.if-has_run.true in
    tried_there (world_of c.args.self.now) (Step.Retry c.args.cpu) (retry c.args.self.now.destination.guest c.args.self.now.destination.has_run c.args.cpu) _ (option_to_list c.in_ok-there.there.entry) _ _ ran (retry_in (world_of c.args.self.now) c.args.cpu ran) c.in_ok-there.ensures.made c.in_ok-there.ensures.guest_alone
    (c.enter.ensures ∙ ap (λ entries. entries ++ option_to_list c.in_ok-there.there.entry) c.try_reserve.ensures.items)

pub returns-in_err-again : goal.returns-in_err-again
returns-in_err-again c =
    let ran = sym c.has_run.ensures ∙ c.if-has_run.false in
    let p = err_from_is_err_and c.from_residual-in_err-again.result c.from_residual-in_err-again.ensures.1 in
    rw (p.1, p.2, c.try_reserve.ensures.items, c.in_err-again.ensures.err)
    (node_refused (world_of c.args.self.now) (Step.Retry c.args.cpu) (retry c.args.self.now.source.guest (not c.args.self.now.source.switched) c.args.cpu) _ _ (λ x. refl) (retried_at (world_of c.args.self.now) c.args.cpu ran) refl c.in_err-again.ensures.refused)

pub returns : goal.returns
returns c =
    let ran = sym c.has_run.ensures ∙ c.if-has_run.false in
    tried_here (world_of c.args.self.now) (Step.Retry c.args.cpu) (retry c.args.self.now.source.guest (not c.args.self.now.source.switched) c.args.cpu) _ (option_to_list c.in_ok-again.again.entry) _ _ ran (retried_at (world_of c.args.self.now) c.args.cpu ran) c.in_ok-again.ensures.made c.in_ok-again.ensures.kept
    (c.enter-2.ensures ∙ ap (λ entries. entries ++ option_to_list c.in_ok-again.again.entry) c.try_reserve.ensures.items)
