use Rattle.std.proofs.Common.{min, ◌∙◌, List, ℕ, length, drop, ap, subst, arith}
use Rattle.std.specs.Io.KnownBytes.{Appends}
use Rattle.std.proofs.lemmas.List.{take_rest}
use Rattle.wiretap.proofs.Pieces.{behind_more}
use Rattle.wiretap.proofs.taps.write_behind.Goals as goal

pub loop-index-preserved : goal.loop-index-preserved
loop-index-preserved g c =
    let test = c.loop-index-test.true in
    let end = c.loop-index.auto.index-end in
    let many = c.pieces-index-end.ensures.count in
    let fresh =
    subst (λ (bytes : List ℕ). Appends (g.W.Write.contents c.loop-index.writer) (g.W.Write.contents c.write_out.new.writer) bytes) (take_rest c.piece-piece.result.now c.min-skipped.result) c.in_ok-write_out.ensures.ok in
    let is = c.min-skipped.ensures ∙ ap (λ (p : List ℕ). min c.loop-index.left (length p)) c.piece-piece.ensures in
    behind_more c.args.known c.args.wire.now.pieces c.loop-index.index c.loop-index.left c.min-skipped.result _ _ _ _ (omega (arith, test, end, many)) c.loop-index.invariant is (omega (arith, is))
    (subst (λ (p : List ℕ). Appends (g.W.Write.contents c.loop-index.writer) (g.W.Write.contents c.write_out.new.writer) (drop c.min-skipped.result p)) c.piece-piece.ensures fresh)
