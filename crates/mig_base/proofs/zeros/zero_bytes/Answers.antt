use Rattle.std.proofs.Common.{refl}
use Rattle.mig_base.specs.Bytes.{zero_page}
use Rattle.mig_base.proofs.zeros.zero_bytes.Goals as goal

pub returns : goal.returns
unfolding zero_page
returns c = refl
