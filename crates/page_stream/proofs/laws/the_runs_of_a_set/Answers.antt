use Rattle.page_stream.proofs.RunsAndAreas.{member-runs_of}
use Rattle.page_stream.proofs.RunsInOrder.{runs_of-ordered, runs_of-only}
use Rattle.page_stream.proofs.laws.the_runs_of_a_set.Goals as goal

pub returns-clause-pages : goal.returns-clause-pages
returns-clause-pages c set page below = member-runs_of set below page

pub returns-clause-ordered : goal.returns-clause-ordered
returns-clause-ordered c set = runs_of-ordered set

pub returns-clause-only : goal.returns-clause-only
returns-clause-only c set runs below ordered same = runs_of-only set runs below ordered same
