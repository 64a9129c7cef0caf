use Rattle.std.proofs.Common.{◌+◌, ◌*◌, ap}
use Rattle.page_stream.proofs.LengthLemmas.{areas_counted}
use Rattle.page_stream.proofs.lengths.areas_len.Goals as goal

pub returns : goal.returns
returns c = ap (λ count. 4 + 9 * count) (areas_counted c.areas.result.now c.args.areas.now c.areas.ensures.runs c.areas.ensures.pages)
