use Rattle.std.proofs.Common.{List, ℕ, ◌++◌, ap, ◌∙◌}
use Rattle.page_stream.proofs.Puts.{puts_then}
use Rattle.page_stream.proofs.writing.encode_page_into.Goals as goal

pub returns-clause-ok : goal.returns-clause-ok
returns-clause-ok c =
    let head = c.page_head-head.result in
    let whole = puts_then c.try_reserve.new.self c.put.new.into c.put-2.new.into head c.args.bytes.now c.put.ensures c.put-2.ensures in
    whole.items ∙ ap (λ (x : List ℕ). x ++ (head ++ c.args.bytes.now)) c.try_reserve.ensures.items ∙ ap (λ (x : List ℕ). c.args.into.now.items ++ x) (c.page_head-head.ensures c.args.bytes.now c.told-bytes)
