use Rattle.page_stream.proofs.LengthBounds.{discard-bound, package-bound, recv-bound}
use Rattle.page_stream.proofs.laws.the_greatest_lengths.Goals as goal

pub returns-clause-discard : goal.returns-clause-discard
returns-clause-discard c pages low = discard-bound pages low

pub returns-clause-package : goal.returns-clause-package
returns-clause-package c areas owed commands mapped below few due cpus = package-bound areas owed commands mapped below few due cpus

pub returns-clause-recv : goal.returns-clause-recv
returns-clause-recv c state owed below due = recv-bound state owed below due
