use Rattle.std.proofs.Common.{ap, sym, ◌∙◌}
use Rattle.mig_model.specs.Views.{phase_by}
use Rattle.world.specs.Worlds.{world_of}
use Rattle.world.proofs.HeadlineLemmas.{headline_of}
use Rattle.world.proofs.world.World.phase.Goals as goal

pub returns-in-Released-clause-complete : goal.returns-in-Released-clause-complete
returns-in-Released-clause-complete c = λ told.
    let world = world_of c.self.inside.parts in
    rw (← c.self.view_is) ((headline_of world c.self.invariant).complete (ap (λ phase. phase_by phase world.source.switched world.destination.has_run) (sym c.phase.ensures ∙ c.in-Released.is)))
