use Rattle.std.proofs.Common.{◌+◌, ◌<◌, length, arith}
use Rattle.std.proofs.lemmas.Result.{err_from_is_err_and}
use Rattle.engine.specs.Engine.{Place}
use Rattle.engine.proofs.Runs.{until_long, until_memory}
use Rattle.engine.proofs.script_reader.ScriptReader.hold.Goals as goal

pub returns-then-bytes-len-clause-fault : goal.returns-then-bytes-len-clause-fault
returns-then-bytes-len-clause-fault c =
    let a : Place = record { work = c.self.inside.runner.work; output = c.self.inside.runner.output; line = c.self.inside.line.items; number = c.self.inside.number } in
    let long : 256 < length a.line + length c.args.bytes.now = omega (arith, c.self.inside.line.ok.0, c.self.invariant.0, c.len.ensures, c.if-bytes-len.true) in
    rw (← c.self.view_is) (until_long a c.args.bytes.now c.self.invariant.1 c.requires.feed long)

pub returns-in_err-extend_from_slice-clause-fault : goal.returns-in_err-extend_from_slice-clause-fault
returns-in_err-extend_from_slice-clause-fault c =
    let a : Place = record { work = c.self.inside.runner.work; output = c.self.inside.runner.output; line = c.self.inside.line.items; number = c.self.inside.number } in
    let p = err_from_is_err_and c.from_residual.result c.from_residual.ensures.1 in
    rw (p.1, p.2, ← c.self.view_is) (until_memory a c.args.bytes.now)
