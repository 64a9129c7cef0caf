use Rattle.std.proofs.Common.{◌++◌, ap, ◌∙◌}
use Rattle.frame_decoder.specs.Streams.{sents}
use Rattle.frame_decoder.proofs.Whole.{holds_left}
use Rattle.frame_decoder.proofs.decoder.read_in_place.Goals as goal

pub returns-clause-ok : goal.returns-clause-ok
returns-clause-ok c =
    let t = c.in_ok-taken.taken in
    holds_left c.args.fixed c.args.piece.now (sents t.frames.items) t.read t.fault t.version c.extend_from_slice.new.self.items c.in_ok-taken.ensures
    (c.in_ok-extend_from_slice.ensures.items ∙ ap (λ bytes. bytes ++ c.left_of.result.now) (c.try_reserve.ensures.items ∙ c.requires) ∙ c.left_of.ensures)
