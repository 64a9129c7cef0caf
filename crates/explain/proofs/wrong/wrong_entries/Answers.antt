use Rattle.std.proofs.Common.{ap, ◌∙◌}
use Rattle.mig_model.specs.Host.{memory}
use Rattle.mig_model.proofs.memory.HostLemmas.{memory-empty}
use Rattle.explain.proofs.wrong.wrong_entries.Goals as goal

pub replay-requires : goal.replay-requires
replay-requires c = ap memory c.new-host.ensures ∙ memory-empty
