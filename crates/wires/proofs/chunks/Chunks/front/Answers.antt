use Rattle.std.proofs.Common.{◌∙◌, sym, arith}
use Rattle.std.proofs.lemmas.Bool.{eqb-true}
use Rattle.std.proofs.lemmas.List.{nil_from_length}
use Rattle.wires.specs.Chunks.{pieces}
use Rattle.wires.proofs.PieceLemmas.{next_piece}
use Rattle.wires.proofs.chunks.Chunks.front.Goals as goal

pub loop-bytes-preserved : goal.loop-bytes-preserved
loop-bytes-preserved c =
    next_piece (pieces c.args.self.now) c.loop-bytes.bytes.now c.piece-bytes.result.now c.loop-bytes.at (omega (arith, c.if-at-pieces.true, c.pieces.ensures))
    (nil_from_length c.loop-bytes.bytes.now (eqb-true _ _ (sym c.is_empty.ensures ∙ c.loop-bytes-test.true))) c.piece-bytes.ensures
    ∙ c.loop-bytes.invariant
