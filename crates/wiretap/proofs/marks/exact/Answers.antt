use Rattle.std.proofs.Common.{◌<◌, arith}
use Rattle.wiretap.proofs.Pieces.{counted_bytes}
use Rattle.wiretap.proofs.marks.exact.Goals as goal

pub returns : goal.returns
returns c =
    let below : c.args.count < 18446744073709551615 = grind arith in
    counted_bytes c.args.wire.now.wire.frames c.args.count c.pieces-pieces.ensures.sent c.requires below
