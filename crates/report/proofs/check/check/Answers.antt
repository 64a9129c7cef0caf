use Rattle.std.proofs.Common.{ap, ◌∙◌}
use Rattle.mig_model.specs.Host.{memory}
use Rattle.mig_model.proofs.memory.HostLemmas.{memory-empty}
use Rattle.report.proofs.check.check.Goals as goal

pub replay-requires : goal.replay-requires
replay-requires c = ap memory c.new-host.ensures ∙ memory-empty
