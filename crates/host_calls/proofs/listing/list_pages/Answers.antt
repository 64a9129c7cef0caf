use Rattle.std.proofs.Common.{◌++◌, ◌∷◌, [], ◌+◌, ◌*◌, ap, ◌∙◌}
use Rattle.host_calls.specs.declared.call.Call.{Call}
use Rattle.host_calls.proofs.ListedCalls.{pages_more}
use Rattle.host_calls.proofs.listing.list_pages.Goals as goal

pub loop-index-preserved : goal.loop-index-preserved
loop-index-preserved c =
    pages_more c.args.addr c.loop-index.index c.args.calls.now.items c.loop-index.calls.items c.push.new.self.items c.loop-index.invariant
    (c.in_ok-push.ensures.items ∙ ap (λ n. c.loop-index.calls.items ++ Call.Page (c.args.addr + 4096 * n) ∷ []) c.from.ensures)
