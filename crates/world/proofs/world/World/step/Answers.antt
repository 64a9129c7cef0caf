use Rattle.world.specs.Worlds.{world_of}
use Rattle.world.proofs.ReachedLemmas.{world_happens}
use Rattle.world.proofs.CoreLemmas.{core_happens}
use Rattle.world.proofs.HeadlineLemmas.{headline_of}
use Rattle.world.proofs.world.World.step.Goals as goal

pub invariant_of-self : goal.invariant_of-self
invariant_of-self c = world_happens (world_of c.self.inside.parts) _ c.args.step _ c.self.invariant c.step.ensures

pub returns-clause-core : goal.returns-clause-core
returns-clause-core c = rw (← c.self.view_is) (core_happens (world_of c.self.inside.parts) _ c.args.step _ c.self.invariant.reached c.step.ensures)

pub returns-clause-happens : goal.returns-clause-happens
returns-clause-happens c = rw (← c.self.view_is) c.step.ensures

pub returns-clause-headline : goal.returns-clause-headline
returns-clause-headline c = headline_of _ (world_happens (world_of c.self.inside.parts) _ c.args.step _ c.self.invariant c.step.ensures)
