use Rattle.world.specs.Worlds.{world_of}
use Rattle.world.proofs.HeadlineLemmas.{headline_of}
use Rattle.world.proofs.world.World.headline.Goals as goal

pub returns : goal.returns
returns c = rw (← c.self.view_is) (headline_of (world_of c.self.inside.parts) c.self.invariant)
