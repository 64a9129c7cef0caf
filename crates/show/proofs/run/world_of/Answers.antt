use Rattle.std.proofs.Common.{ap, sym, ◌∙◌}
use Rattle.engine.specs.Engine.{Place}
use Rattle.show.proofs.Reached.{handed_leads}
use Rattle.show.proofs.run.world_of.Goals as goal

pub returns-in-Some-clause-ok : goal.returns-in-Some-clause-ok
returns-in-Some-clause-ok c =
    let is = ap (λ (place : Place). place.work) c.new-script_reader.ensures ∙ c.in_ok-runner.ensures.ok.0 in
    handed_leads _ _ _ _ _ _ _ _ is c.in_ok-read_lines.ensures.ok (sym c.in-Some.is ∙ c.into_world.ensures)
