use Rattle.wiretap.proofs.OneLine.{moves_line, passes_running}
use Rattle.wiretap.proofs.Whole.{on_ok}
use Rattle.wiretap.proofs.run.run_bytes.Goals as goal

pub write_put-requires : goal.write_put-requires
write_put-requires g c = passes_running c.args.script.now c.run_piece.new.self c.args.bytes.now _ _ c.requires.runs c.in_ok-run_piece.ensures.ok

pub returns-clause-ok : goal.returns-clause-ok
returns-clause-ok g c =
    on_ok _ _ _
    (λ gets.
    moves_line g.T.Write.contents c.args.script.now c.run_piece.new.self c.args.bytes.now _ _ _ _ c.in_ok-before.before c.in_ok-run_piece.ensures.ok c.requires.runs c.requires.open c.requires.one c.in_ok-before.ensures gets)
    c.write_put.ensures

pub returns-clause-runs : goal.returns-clause-runs
returns-clause-runs g c = on_ok _ _ _ (λ gets. passes_running c.args.script.now c.run_piece.new.self c.args.bytes.now _ _ c.requires.runs c.in_ok-run_piece.ensures.ok) c.write_put.ensures
