use Rattle.std.proofs.Common.{◌∙◌, ℕ, List, ap, arith, get_or, length, sym}
use Rattle.std.specs.List.{concat}
use Rattle.std.proofs.lemmas.List.{drop_all}
use Rattle.world.proofs.PieceLemmas.{in_piece, past_piece}
use Rattle.world.proofs.parts.would.byte_at.Goals as goal

pub returns-then-left-piece : goal.returns-then-left-piece
returns-then-left-piece c =
    let test = c.loop-index-test.true in
    let end = c.loop-index.auto.index-end in
    let many = c.pieces-index-end.ensures.count in
    let inside = c.if-left-piece.true in
    let long = ap length c.piece-piece.ensures in
    ap (λ (piece : List ℕ). get_or piece c.loop-index.left 0) c.piece-piece.ensures
    ∙ sym (in_piece c.args.wire.now.pieces c.loop-index.index c.loop-index.left (omega (arith, test, end, many)) (omega (arith, inside, long)))
    ∙ c.loop-index.invariant.byte
    ∙ ap (λ (bytes : List ℕ). get_or bytes c.args.place 0) c.pieces-index-end.ensures.texts

pub loop-index-preserved : goal.loop-index-preserved
loop-index-preserved c =
    let test = c.loop-index-test.true in
    let end = c.loop-index.auto.index-end in
    let many = c.pieces-index-end.ensures.count in
    record {
      byte = past_piece c.args.wire.now.pieces c.loop-index.index c.loop-index.left (length c.piece-piece.result.now) (omega (arith, test, end, many)) (sym (ap length c.piece-piece.ensures)) c.if-left-piece.false ∙ c.loop-index.invariant.byte;
    }

pub returns : goal.returns
returns c =
    let test = c.loop-index-test.false in
    let end = c.loop-index.auto.index-end in
    let many = c.pieces-index-end.ensures.count in
    sym (ap (λ (some : List (List ℕ)). get_or (concat some) c.loop-index.left 0) (drop_all c.loop-index.index c.args.wire.now.pieces (omega (arith, test, end, many))))
    ∙ c.loop-index.invariant.byte
    ∙ ap (λ (bytes : List ℕ). get_or bytes c.args.place 0) c.pieces-index-end.ensures.texts
