use Rattle.postmig_c.specs.Runs.{Installs}
use Rattle.postmig_c.proofs.runs.do_installs.Given as goal

abbrev pub invariant-loop-index : goal.invariant-loop-index
invariant-loop-index l = Installs l.index l.fn.node l.effect l.node
