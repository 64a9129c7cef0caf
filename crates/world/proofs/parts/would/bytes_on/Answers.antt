use Rattle.std.proofs.Common.{◌≡◌, ap, arith, length, subst, ◌∙◌}
use Rattle.std.specs.List.{concat}
use Rattle.std.proofs.lemmas.List.{take_all}
use Rattle.mig_model.specs.Guest.{counted}
use Rattle.world.proofs.PieceLemmas.{summed, summed_all}
use Rattle.world.proofs.parts.would.bytes_on.Goals as goal

pub loop-index-preserved : goal.loop-index-preserved
loop-index-preserved c =
    let test = c.loop-index-test.true in
    let end = c.loop-index.auto.index-end in
    let many = c.pieces-index-end.ensures.count in
    record {
      sum = c.saturating_add-bytes.ensures ∙ summed c.args.wire.now.pieces c.loop-index.index c.loop-index.bytes (length c.piece.result.now) (omega (arith, test, end, many)) (ap length c.piece.ensures) c.loop-index.invariant.sum;
    }

pub returns : goal.returns
returns c =
    let test = c.loop-index-test.false in
    let end = c.loop-index.auto.index-end in
    let many = c.pieces-index-end.ensures.count in
    summed_all c.args.wire.now.pieces c.args.wire.now.wire.frames c.loop-index.bytes c.pieces-index-end.ensures.sent c.pieces-index-end.ensures.texts
    (subst (λ pieces. c.loop-index.bytes ≡ counted 0 (length (concat pieces))) (take_all c.loop-index.index c.args.wire.now.pieces (omega (arith, test, end, many))) c.loop-index.invariant.sum)
