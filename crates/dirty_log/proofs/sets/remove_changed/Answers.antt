use Rattle.std.proofs.Common.{◌∙◌, ◌+◌, ap, not}
use Rattle.std.specs.FinSet.{retain}
use Rattle.mig_model.specs.Guest.{in_bytes}
use Rattle.dirty_log.proofs.PageLemmas.{none_out, two_out}
use Rattle.dirty_log.proofs.sets.remove_changed.Goals as goal

pub returns-in-PageFault : goal.returns-in-PageFault
returns-in-PageFault c = rw c.in-PageFault.is (none_out c.args.pages.now)

pub returns-in-Remap : goal.returns-in-Remap
returns-in-Remap c =
    let from = c.in-Remap.from in
    let to = c.in-Remap.to in
    let len = c.in-Remap.len in
    rw c.in-Remap.is
    (c.remove_span-in-Remap.ensures ∙ ap (λ s. retain s (λ page. not (in_bytes to (to + len) page))) c.remove_span.ensures ∙ two_out c.args.pages.now (in_bytes from (from + len)) (in_bytes to (to + len)))
