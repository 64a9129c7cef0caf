use Rattle.std.proofs.Common.{ℕ, List, [], ◌∷◌, ◌++◌, subst}
use Rattle.std.specs.Int.{w64, to_be_bytes}
use Rattle.page_stream.specs.Writing.{Puts}
use Rattle.page_stream.proofs.Puts.{puts_then}
use Rattle.page_stream.proofs.writing.put_store.Goals as goal

pub returns : goal.returns
returns c =
    let addr = subst (λ (b : List ℕ). Puts c.put.new.into c.put-2.new.into b) c.to_be_bytes.ensures c.put-2.ensures in
    let value = subst (λ (b : List ℕ). Puts c.put-3.new.into c.put-4.new.into b) c.to_be_bytes-2.ensures c.put-4.ensures in
    let front = puts_then c.args.into.now c.put.new.into c.put-2.new.into (2 ∷ []) (to_be_bytes w64 c.args.addr) c.put.ensures addr in
    let load = puts_then c.args.into.now c.put-2.new.into c.put-3.new.into ((2 ∷ []) ++ to_be_bytes w64 c.args.addr) (c.args.width ∷ []) front c.put-3.ensures in
    puts_then c.args.into.now c.put-3.new.into c.put-4.new.into (((2 ∷ []) ++ to_be_bytes w64 c.args.addr) ++ c.args.width ∷ []) (to_be_bytes w64 c.args.value) load value
