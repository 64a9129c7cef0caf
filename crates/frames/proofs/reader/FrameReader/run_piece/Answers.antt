use Rattle.std.proofs.Common.{refl}
use Rattle.std.proofs.lemmas.Result.{err_from_is_err_and}
use Rattle.frames.proofs.Feeding.{piece_halts, piece_passes, piece_unwritten}
use Rattle.frames.proofs.reader.FrameReader.run_piece.Goals as goal

pub returns-in_err-write_output-clause-fault : goal.returns-in_err-write_output-clause-fault
returns-in_err-write_output-clause-fault g c =
    let p = err_from_is_err_and c.from_residual.result c.from_residual.ensures.1 in
    rw (p.1, p.2, c.in_err-write_output.ensures.fault)
    (piece_unwritten c.feed-fed.result c.args.self.now c.feed-fed.new.self c.args.piece.now _ _ c.requires.clean c.feed-fed.ensures.ok c.feed-fed.ensures.fault c.in_err-write_output.ensures.front)

pub returns-clause-ok : goal.returns-clause-ok
returns-clause-ok g c =
    piece_passes c.feed-fed.result c.args.self.now c.feed-fed.new.self _ c.args.piece.now _ _ c.requires.clean c.feed-fed.ensures.ok refl c.in_ok-write_output.ensures.same c.in_ok-write_output.ensures.refused c.in_ok-write_output.ensures.ok

pub returns-clause-fault : goal.returns-clause-fault
returns-clause-fault g c =
    piece_halts c.feed-fed.result c.args.self.now c.args.piece.now c.feed-fed.new.self.taker.output.items _ _ c.requires.clean c.feed-fed.ensures.fault c.in_ok-write_output.ensures.ok
