use Rattle.std.proofs.Common.{arith}
use Rattle.owed_pages.proofs.TableLemmas.{one_set}
use Rattle.owed_pages.proofs.owed.table.leaf_put.Goals as goal

pub returns : goal.returns
returns c = λ j. one_set c.args.leaf.now c.args.i j c.args.number (omega arith)
