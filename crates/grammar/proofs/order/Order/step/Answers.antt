use Rattle.std.proofs.Common.{rules}
use Rattle.grammar.proofs.order.Order.step.Goals as goal

pub returns-in-Progress : goal.returns-in-Progress
returns-in-Progress c = search rules
