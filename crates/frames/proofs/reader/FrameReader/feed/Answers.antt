use Rattle.std.proofs.Common.{arith}
use Rattle.std.proofs.lemmas.Result.{err_from_is_err_and}
use Rattle.frame_decoder.specs.Streams.{sents}
use Rattle.frames.proofs.Feeding.{fed_some}
use Rattle.frames.proofs.Lengths.{fed_counted, fed_fits, fed_frames, fed_len}
use Rattle.frames.proofs.reader.FrameReader.feed.Goals as goal

pub len_of-requires : goal.len_of-requires
len_of-requires c =
    rw c.deref.ensures.value
    (fed_fits c.args.self.now.decoder c.args.piece.now (sents c.in_ok-frames.frames.items) c.feed.new.self c.args.self.now.held c.in_ok-frames.ensures.fed c.requires.counted c.requires.short)

pub overflow_sub-self : goal.overflow_sub-self
overflow_sub-self c =
    rw (c.len_of.ensures, c.deref.ensures.value)
    (fed_len c.args.self.now.decoder c.args.piece.now (sents c.in_ok-frames.frames.items) c.feed.new.self c.args.self.now.held c.in_ok-frames.ensures.fed c.requires.counted)

pub take_all-requires : goal.take_all-requires
take_all-requires c = fed_frames c.args.self.now.decoder c.args.piece.now (sents c.in_ok-frames.frames.items) c.feed.new.self c.in_ok-frames.ensures.fed

pub returns-in_err-take_all-clause-fault : goal.returns-in_err-take_all-clause-fault
returns-in_err-take_all-clause-fault c =
    let p = err_from_is_err_and c.from_residual-in_err-take_all.result c.from_residual-in_err-take_all.ensures.1 in
    rw (p.1, p.2) (fed_some c.args.self.now c.args.piece.now (sents c.in_ok-frames.frames.items) c.feed.new.self _ c.in_ok-frames.ensures.fed c.in_err-take_all.ensures.err)

pub returns-clause-counted : goal.returns-clause-counted
returns-clause-counted c =
    rw (c.len_of.ensures, c.deref.ensures.value)
    (fed_counted c.args.self.now.decoder c.args.piece.now (sents c.in_ok-frames.frames.items) c.feed.new.self c.args.self.now.held c.in_ok-frames.ensures.fed c.requires.counted (omega (arith, c.in_ok-frames.ensures.bounded)))
