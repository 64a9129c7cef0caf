use Rattle.std.proofs.Common.{◌≡◌, []}
use Rattle.threads.proofs.run.seated.Given as goal

abbrev pub invariant-loop-cpu : goal.invariant-loop-cpu
invariant-loop-cpu l = l.rig.opening ≡ []
