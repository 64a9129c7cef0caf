use Rattle.std.proofs.Common.{◌+◌, ◌<◌, length, arith}
use Rattle.std.proofs.lemmas.Result.{err_from_is_err_and}
use Rattle.expected.proofs.Pieces.{long_fault, memory_fault}
use Rattle.expected.proofs.tester.Tester.hold.Goals as goal

pub returns-then-bytes-saturating_sub-clause-fault : goal.returns-then-bytes-saturating_sub-clause-fault
returns-then-bytes-saturating_sub-clause-fault c = λ cpus front ran.
    let long : 256 < length c.args.self.now.line.items + length c.args.bytes.now = grind (arith, ran.short) in
    long_fault cpus front c.args.bytes.now c.args.self.now c.requires.feed long ran

pub returns-in_err-extend_from_slice-clause-fault : goal.returns-in_err-extend_from_slice-clause-fault
returns-in_err-extend_from_slice-clause-fault c =
    let p = err_from_is_err_and c.from_residual.result c.from_residual.ensures.1 in
    rw (p.1, p.2) (λ cpus front ran. memory_fault cpus front c.args.bytes.now c.args.self.now ran)
