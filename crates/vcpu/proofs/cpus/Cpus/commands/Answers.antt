use Rattle.std.proofs.Common.{rules}
use Rattle.std.proofs.lemmas.Iterator.{YieldsList-from_map, YieldsList-from_slice}
use Rattle.std.proofs.lemmas.Iterator.Adapters.{items_from_extend}
use Rattle.mig_model.specs.Cpus.{outstanding}
use Rattle.vcpu.proofs.cpus.Cpus.commands.Goals as goal

pub returns : goal.returns
returns c = let h = items_from_extend c.extend.result c.extend.ensures.ran (YieldsList-from_map _ outstanding (YieldsList-from_slice c.args.self.now cc) c.map.ensures.closure (λ x r q k. search rules)) in search rules
