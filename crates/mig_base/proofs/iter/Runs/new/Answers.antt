use Rattle.mig_base.proofs.Left.{from_zero}
use Rattle.mig_base.proofs.iter.Runs.new.Goals as goal

pub returns : goal.returns
returns c = from_zero c.args.pages.now
