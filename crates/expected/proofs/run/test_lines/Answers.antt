use Rattle.std.proofs.Common.{◌≡◌, length, arith, rules}
use Rattle.std.proofs.lemmas.Result.{err_from_is_err_and}
use Rattle.std.proofs.KnownBytes.{Keeps-refl}
use Rattle.engine.proofs.Whole.{at_end}
use Rattle.expected.proofs.Whole.{from_then, from_unmet, from_halts, from_read_fault, finished, finish_halts}
use Rattle.expected.proofs.run.test_lines.Goals as goal

pub returns-in-Ok-eq0-clause-ok : goal.returns-in-Ok-eq0-clause-ok
returns-in-Ok-eq0-clause-ok g c =
    finished c.finish.result c.args.name.now _ _ _ _ _ c.args.tester.now c.loop.tester c.loop.invariant.ran (at_end _ _ _ c.read.new.buf c.in-Ok-eq0.field-0-test (search rules) c.in-Ok-eq0.ensures.bytes) c.finish.ensures.ok

pub returns-in-Ok-eq0-clause-fault : goal.returns-in-Ok-eq0-clause-fault
returns-in-Ok-eq0-clause-fault g c =
    finish_halts c.finish.result _ _ _ c.args.tester.now c.loop.tester c.loop.invariant.ran (at_end _ _ _ c.read.new.buf c.in-Ok-eq0.field-0-test (search rules) c.in-Ok-eq0.ensures.bytes) c.finish.ensures.fault

pub returns-in_err-feed-in-Ok-clause-fault : goal.returns-in_err-feed-in-Ok-clause-fault
returns-in_err-feed-in-Ok-clause-fault g c =
    let p = err_from_is_err_and c.from_residual.result c.from_residual.ensures.1 in
    rw (p.1, p.2) (λ cpus ran. from_halts cpus _ _ _ _ _ c.loop.tester (c.loop.invariant.ran cpus ran) c.in-Ok.ensures.bytes.0 (c.in_err-feed-in-Ok.ensures.fault cpus))

pub returns-in-Differs-clause-ok : goal.returns-in-Differs-clause-ok
returns-in-Differs-clause-ok g c = λ cpus ran.
    from_unmet c.args.name.now cpus _ _ _ _ _ _ c.loop.tester (c.loop.invariant.ran cpus ran) c.in-Ok.ensures.bytes.0 ((rw c.in-Differs.is at c.in_ok-feed-in-Ok.ensures.ok) cpus)

pub returns-in-Err-clause-fault : goal.returns-in-Err-clause-fault
returns-in-Err-clause-fault g c = λ cpus ran. from_read_fault cpus _ _ _ c.loop.tester (c.loop.invariant.ran cpus ran) c.in-Err.ensures.bytes

pub returns-clause-fault : goal.returns-clause-fault
returns-clause-fault g c = λ cpus ran. from_read_fault cpus _ _ _ c.loop.tester (c.loop.invariant.ran cpus ran) (Keeps-refl _)

pub loop-preserved : goal.loop-preserved
loop-preserved g c = record {
  ran = λ cpus ran. from_then cpus _ _ _ _ c.loop.tester c.feed.new.self (c.loop.invariant.ran cpus ran) c.in-Ok.ensures.bytes.0 ((rw c.in-Same.is at c.in_ok-feed-in-Ok.ensures.ok) cpus);
  number =
      let size : length c.read.new.buf ≡ 16384 = search rules in
      omega (arith, c.loop.invariant.number, c.in_ok-feed-in-Ok.ensures.number, c.in-Ok.ensures.bound.0, c.in-Ok.ensures.bound.1, size);
}
