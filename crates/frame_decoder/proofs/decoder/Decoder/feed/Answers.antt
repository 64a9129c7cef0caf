use Rattle.std.proofs.Common.{◌∙◌, ap, arith}
use Rattle.frame_decoder.specs.Streams.{lacks}
use Rattle.frame_decoder.proofs.Feeds.{lacks_some, part_bound}
use Rattle.frame_decoder.proofs.decoder.Decoder.feed.Goals as goal

pub returns-in-Some-clause-bounded : goal.returns-in-Some-clause-bounded
returns-in-Some-clause-bounded c = rw (← c.self.view_is) (part_bound c.self.inside.version c.self.inside.held.items c.self.invariant.0)

pub returns-then-piece-lacking-clause-bounded : goal.returns-then-piece-lacking-clause-bounded
returns-then-piece-lacking-clause-bounded c = part_bound c.self.inside.version c.wait_for_more.new.held.items c.wait_for_more.ensures.part

pub returns-in_default-clause-bounded : goal.returns-in_default-clause-bounded
returns-in_default-clause-bounded c = rw c.in_default.ensures.err (part_bound c.self.inside.version c.self.inside.held.items c.self.invariant.0)

pub returns-clause-bounded : goal.returns-clause-bounded
returns-clause-bounded c = part_bound c.in-Ok-read_piece.taken.version c.read_piece.new.held.items c.in-Ok-read_piece.ensures.part

-- a piece that is not shorter than what is lacking is not empty
pub returns-in_default-clause-memory : goal.returns-in_default-clause-memory
returns-in_default-clause-memory c _ =
    let some = lacks_some c.self.inside.version c.self.inside.held.items c.self.invariant.0 in
    let lacking = c.lacking.ensures ∙ ap (lacks c.self.inside.version) c.deref.ensures.value in
    omega (arith, c.if-piece-lacking.false)
