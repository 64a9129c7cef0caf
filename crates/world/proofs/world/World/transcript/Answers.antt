use Rattle.world.specs.Worlds.{world_of}
use Rattle.world.proofs.HeadlineLemmas.{headline_of}
use Rattle.world.proofs.WithinLemmas.{entries_within}
use Rattle.world.proofs.world.World.transcript.Goals as goal

pub returns-clause-flat : goal.returns-clause-flat
returns-clause-flat c = rw (c.as_slice.ensures.value) ((headline_of (world_of c.self.inside.parts) c.self.invariant).core.flat)

pub returns-clause-within : goal.returns-clause-within
returns-clause-within c = rw (← c.self.view_is, c.as_slice.ensures.value) (entries_within (world_of c.self.inside.parts) c.self.invariant.reached)
