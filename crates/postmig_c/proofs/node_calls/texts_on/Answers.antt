use Rattle.std.proofs.Common.{List, ℕ, ap, arith, ◌∙◌}
use Rattle.std.specs.List.{concat}
use Rattle.std.proofs.lemmas.List.{take_all}
use Rattle.postmig_c.proofs.Pieces.{joined}
use Rattle.postmig_c.proofs.node_calls.texts_on.Goals as goal

pub loop-index-preserved : goal.loop-index-preserved
loop-index-preserved c =
    let test = c.loop-index-test.true in
    let end = c.loop-index.auto.index-end in
    let many = c.pieces-index-end.ensures.count in
    c.in_ok-extend_from_slice.ensures.items
    ∙ joined c.args.wire.now.pieces c.loop-index.index c.loop-index.bytes.items c.piece.result.now (omega (arith, test, end, many)) c.loop-index.invariant c.piece.ensures

pub returns : goal.returns
returns c =
    let test = c.loop-index-test.false in
    let end = c.loop-index.auto.index-end in
    let many = c.pieces-index-end.ensures.count in
    c.loop-index.invariant ∙ ap (λ (pieces : List (List ℕ)). concat pieces) (take_all c.loop-index.index c.args.wire.now.pieces (omega (arith, test, end, many))) ∙ c.pieces-index-end.ensures.texts
