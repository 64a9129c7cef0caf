use Rattle.std.proofs.Common.{◌∙◌, ap, sym}
use Rattle.std.specs.declared.option.Option.TheVariants.{Some}
use Rattle.engine.specs.declared.line_runner.Mode.{Mode}
use Rattle.engine.specs.Engine.{Gathered, Running, tested_mode}
use Rattle.mig_model.specs.Migration.{World as Machine}
use Rattle.postmig_c.specs.declared.handle.Content.TheVariants.{World}
use Rattle.postmig_c.proofs.Runners.{runner_is}
use Rattle.postmig_c.proofs.copies.copy_into.Goals as goal

pub returns-clause-copied : goal.returns-clause-copied
returns-clause-copied c = λ zero.
    let twin = c.over-twin.result in let state = c.in-Ok.made in
    let works = c.over-twin.ensures.work ∙ ap (λ (mode : Mode). Running mode state) c.mode_of.ensures in
    record {
      state = state;
      runs = c.in-Some.ensures.some ∙ ap (λ (world : Machine). Some world) (sym c.in-Ok.ensures);
      has = c.open.ensures.ok zero ∙ ap (λ (g : Gathered). Some (World g)) (runner_is twin (tested_mode c.args.is_transcript) state works c.over-twin.ensures.output);
    }
