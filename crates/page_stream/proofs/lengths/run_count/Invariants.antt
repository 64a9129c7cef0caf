use Rattle.std.proofs.Common.{◌≡◌, ◌+◌}
use Rattle.mig_model.specs.Lengths.{run_count}
use Rattle.page_stream.proofs.lengths.run_count.Given as goal

abbrev pub invariant-loop-run : goal.invariant-loop-run
invariant-loop-run l = l.count + run_count l._run-iterator ≡ run_count l.pages
