use Rattle.std.proofs.Common.{◌/◌}
use Rattle.slice_laws.specs.Slices.{acts_in, no_memories, place_of}
use Rattle.slice_laws.proofs.Acts.{acts-joined}
use Rattle.slice_laws.proofs.Migrated.{flat-run, holds-alone}
use Rattle.slice_laws.proofs.slices_migrate_side_by_side.Goals as goal

pub returns-clause-run : goal.returns-clause-run
returns-clause-run c cut acts is all migrations = acts-joined cut is no_memories acts all (λ slice. flat-run (acts_in cut slice acts) (migrations slice))

pub returns-clause-held : goal.returns-clause-held
returns-clause-held c cut acts migrations addr released =
    let slice = cut.slice (addr / 4096) in
    λ k. holds-alone (acts_in cut slice acts) (migrations slice) released k (place_of cut addr)
