use Rattle.std.proofs.Common.{rules}
use Rattle.std.proofs.lemmas.Result.{err_from_is_err_and}
use Rattle.engine.proofs.Whole.{at_end}
use Rattle.frames.proofs.Whole.{ran_finished, ran_halts, ran_stopped, ran_then}
use Rattle.frames.proofs.run.read_frames.Goals as goal

pub returns-in-Ok-eq0-clause-ok : goal.returns-in-Ok-eq0-clause-ok
returns-in-Ok-eq0-clause-ok g c =
    let end = at_end _ _ _ c.read.new.buf c.in-Ok-eq0.field-0-test (search rules) c.in-Ok-eq0.ensures.bytes in
    ran_finished c.finish.result c.args.frames.now.taker.destination c.loop.frames c.finish.new.self _ _ _ _ _ _ c.loop.invariant.ran end.0 end.1 c.finish.ensures.ok c.finish.ensures.refused

pub returns-in-Ok-eq0-clause-fault : goal.returns-in-Ok-eq0-clause-fault
returns-in-Ok-eq0-clause-fault g c =
    let end = at_end _ _ _ c.read.new.buf c.in-Ok-eq0.field-0-test (search rules) c.in-Ok-eq0.ensures.bytes in
    ran_stopped c.finish.result c.args.frames.now.taker.destination c.loop.frames c.finish.new.self _ _ _ _ _ _ c.loop.invariant.ran end.0 end.1 c.finish.ensures.fault

pub returns-in_err-run_piece-in-Ok-clause-fault : goal.returns-in_err-run_piece-in-Ok-clause-fault
returns-in_err-run_piece-in-Ok-clause-fault g c =
    let p = err_from_is_err_and c.from_residual.result c.from_residual.ensures.1 in
    rw (p.1, p.2) (ran_halts c.args.frames.now.taker.destination c.loop.frames _ _ _ _ _ _ _ _ c.loop.invariant.ran c.in-Ok.ensures.bytes.0 c.in_err-run_piece-in-Ok.ensures.fault)

pub loop-preserved : goal.loop-preserved
loop-preserved g c = record {
  ran = ran_then c.args.frames.now.taker.destination c.loop.frames _ _ _ _ _ _ _ _ c.loop.invariant.ran c.in-Ok.ensures.bytes.0 c.in_ok-run_piece-in-Ok.ensures.ok;
  counted = c.in_ok-run_piece-in-Ok.ensures.counted;
  clean = c.in_ok-run_piece-in-Ok.ensures.clean;
}
