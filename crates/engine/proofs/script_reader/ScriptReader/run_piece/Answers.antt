use Rattle.std.proofs.Common.{ap}
use Rattle.std.proofs.lemmas.Result.{err_from_is_err_and}
use Rattle.engine.specs.Engine.{Place}
use Rattle.engine.proofs.Pieces.{piece_passes, piece_halts, piece_unwritten, cleared}
use Rattle.engine.proofs.script_reader.ScriptReader.run_piece.Goals as goal

pub returns-in_err-write_output-clause-fault : goal.returns-in_err-write_output-clause-fault
returns-in_err-write_output-clause-fault g c =
    let p = err_from_is_err_and c.from_residual.result c.from_residual.ensures.1 in
    let same = ap (λ (x : Place). x.output) c.self.view_is in
    rw (p.1, p.2, c.in_err-write_output.ensures.fault)
    (piece_unwritten c.feed-fed.result c.args.self.now c.feed-fed.new.self c.args.bytes.now _ _ c.requires.clean c.feed-fed.ensures.ok c.feed-fed.ensures.fault (rw same at c.in_err-write_output.ensures.front))

pub returns-clause-ok : goal.returns-clause-ok
returns-clause-ok g c =
    let same = ap (λ (x : Place). x.output) c.self.view_is in
    piece_passes c.feed-fed.result c.args.self.now c.feed-fed.new.self _ c.args.bytes.now _ _ c.requires.clean c.feed-fed.ensures.ok
    (cleared c.feed-fed.new.self _ _ _ _ c.self.view_is c.in_ok-write_output.ensures.none) (rw same at c.in_ok-write_output.ensures.ok)

pub returns-clause-fault : goal.returns-clause-fault
returns-clause-fault g c =
    let same = ap (λ (x : Place). x.output) c.self.view_is in
    piece_halts c.feed-fed.result c.args.self.now c.args.bytes.now c.feed-fed.new.self.output _ _ c.requires.clean c.feed-fed.ensures.fault (rw same at c.in_ok-write_output.ensures.ok)
