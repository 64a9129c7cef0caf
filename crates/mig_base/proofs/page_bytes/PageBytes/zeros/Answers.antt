use Rattle.std.proofs.Common.{◌∙◌, refl}
use Rattle.mig_base.specs.Bytes.{zero_page}
use Rattle.mig_base.proofs.page_bytes.PageBytes.zeros.Goals as goal

pub returns : goal.returns
unfolding zero_page
returns c = c.in_ok-resize.ensures.items ∙ rw (c.new-bytes.ensures.items, c.new-bytes.ensures.len) refl
