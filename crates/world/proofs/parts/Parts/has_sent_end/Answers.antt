use Rattle.std.proofs.Common.{◌∙◌}
use Rattle.world.proofs.EndLemmas.{sent_known}
use Rattle.world.proofs.parts.Parts.has_sent_end.Goals as goal

pub returns-in-Stopped : goal.returns-in-Stopped
returns-in-Stopped c = c.is_out_of_phase.ensures ∙ sent_known c.args.self.now.source c.phase.result c.check_end.result c.phase.ensures c.in-Stopped.is c.check_end.ensures
