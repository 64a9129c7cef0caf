use Rattle.rig.proofs.SectionLemmas.{served}
use Rattle.rig.proofs.locked.LockedTurns.serve.Goals as goal

pub returns-clause-outcome : goal.returns-clause-outcome
returns-clause-outcome g c = served c.args.epoch _ c.serve-world.result.1 c.serve-world.ensures
