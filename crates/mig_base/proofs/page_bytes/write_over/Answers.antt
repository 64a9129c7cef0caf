use Rattle.std.proofs.Common.{arith}
use Rattle.mig_base.proofs.ByteLemmas.{overwrite-put_mid}
use Rattle.mig_base.proofs.page_bytes.write_over.Goals as goal

pub returns : goal.returns
returns c = overwrite-put_mid c.args.held.now c.copy_from_slice.new.self c.args.bytes.now c.args.offset _ c.copy_from_slice.ensures.after (omega arith)
