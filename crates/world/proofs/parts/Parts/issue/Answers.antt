use Rattle.std.proofs.Common.{ap, not, option_to_list, refl, sym, ◌++◌, ◌∙◌}
use Rattle.std.proofs.lemmas.Result.{err_from_is_err_and}
use Rattle.mig_base.specs.declared.schedule.Step.{Step}
use Rattle.mig_model.specs.GuestSteps.{issue}
use Rattle.fault_handler.proofs.WorldLemmas.{issue_in}
use Rattle.precopy.proofs.CommandLemmas.{issued_at}
use Rattle.world.specs.Worlds.{world_of}
use Rattle.world.proofs.StepLemmas.{happens_kept, node_refused, tried_here, tried_there}
use Rattle.world.proofs.parts.Parts.issue.Goals as goal

pub returns-then-is_err : goal.returns-then-is_err
returns-then-is_err c = happens_kept (world_of c.args.self.now) _ (Step.Issue c.args.cpu c.args.command) _ (λ i. record (world_of c.args.self.now) { transcript = c.try_reserve.ensures.items i }) refl c.refused.ensures

pub returns-in_err-there : goal.returns-in_err-there
returns-in_err-there c =
    let ran = sym c.has_run.ensures ∙ c.if-has_run.true in
    let p = err_from_is_err_and c.from_residual.result c.from_residual.ensures.1 in
    rw (p.1, p.2, c.try_reserve.ensures.items, c.in_err-there.ensures.err)
    (node_refused (world_of c.args.self.now) (Step.Issue c.args.cpu c.args.command) (issue c.args.self.now.destination.guest c.args.self.now.destination.has_run c.args.cpu c.args.command) _ _ (λ x. refl) (issue_in (world_of c.args.self.now) c.args.cpu c.args.command ran) refl c.in_err-there.ensures.refused)

pub returns-then-has_run : goal.returns-then-has_run
returns-then-has_run c =
    let ran = sym c.has_run.ensures ∙ c.if-has_run.true in
    tried_there (world_of c.args.self.now) (Step.Issue c.args.cpu c.args.command) (issue c.args.self.now.destination.guest c.args.self.now.destination.has_run c.args.cpu c.args.command) _ (option_to_list c.in_ok-there.there.entry) _ _ ran (issue_in (world_of c.args.self.now) c.args.cpu c.args.command ran) c.in_ok-there.ensures.made c.in_ok-there.ensures.guest_alone
    (c.enter.ensures ∙ ap (λ entries. entries ++ option_to_list c.in_ok-there.there.entry) c.try_reserve.ensures.items)

pub returns-in_err-tried : goal.returns-in_err-tried
returns-in_err-tried c =
    let ran = sym c.has_run.ensures ∙ c.if-has_run.false in
    let p = err_from_is_err_and c.from_residual-in_err-tried.result c.from_residual-in_err-tried.ensures.1 in
    rw (p.1, p.2, c.try_reserve.ensures.items, c.in_err-tried.ensures.err)
    (node_refused (world_of c.args.self.now) (Step.Issue c.args.cpu c.args.command) (issue c.args.self.now.source.guest (not c.args.self.now.source.switched) c.args.cpu c.args.command) _ _ (λ x. refl) (issued_at (world_of c.args.self.now) c.args.cpu c.args.command ran) refl c.in_err-tried.ensures.refused)

pub returns : goal.returns
returns c =
    let ran = sym c.has_run.ensures ∙ c.if-has_run.false in
    tried_here (world_of c.args.self.now) (Step.Issue c.args.cpu c.args.command) (issue c.args.self.now.source.guest (not c.args.self.now.source.switched) c.args.cpu c.args.command) _ (option_to_list c.in_ok-tried.tried.entry) _ _ ran (issued_at (world_of c.args.self.now) c.args.cpu c.args.command ran) c.in_ok-tried.ensures.made c.in_ok-tried.ensures.kept
    (c.enter-2.ensures ∙ ap (λ entries. entries ++ option_to_list c.in_ok-tried.tried.entry) c.try_reserve.ensures.items)
