use Rattle.std.proofs.Common.{◌∙◌, ap}
use Rattle.std.specs.declared.option.Option.TheVariants.{Some}
use Rattle.engine.specs.declared.line_runner.Mode.{Mode}
use Rattle.engine.specs.Engine.{Gathered, Running, tested_mode}
use Rattle.postmig_c.specs.declared.handle.Content.TheVariants.{World}
use Rattle.postmig_c.proofs.Runners.{runner_is}
use Rattle.postmig_c.proofs.worlds.postmig_world_new_with_counts.Goals as goal

pub returns-clause-ok : goal.returns-clause-ok
returns-clause-ok c = λ zero.
    let runner = c.over-runner.result in let state = c.in-Ok.world in
    let works = c.over-runner.ensures.work ∙ ap (λ (mode : Mode). Running mode state) c.mode_of.ensures in
    (state, c.in-Ok.ensures.ok, c.open.ensures.ok zero ∙ ap (λ (g : Gathered). Some (World g)) (runner_is runner (tested_mode c.args.is_transcript) state works c.over-runner.ensures.output))
