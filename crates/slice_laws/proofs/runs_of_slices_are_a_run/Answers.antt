use Rattle.slice_laws.specs.Slices.{no_memories, place_of}
use Rattle.std.proofs.Common.{◌/◌}
use Rattle.slice_laws.proofs.Acts.{acts-joined, memories-of}
use Rattle.slice_laws.proofs.runs_of_slices_are_a_run.Goals as goal

pub returns-clause-run : goal.returns-clause-run
returns-clause-run c cut acts is all runs = acts-joined cut is no_memories acts all runs

pub returns-clause-last : goal.returns-clause-last
returns-clause-last c cut acts = λ k addr. memories-of cut no_memories acts (cut.slice (addr / 4096)) k (place_of cut addr)
