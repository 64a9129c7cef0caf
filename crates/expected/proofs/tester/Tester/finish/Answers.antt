use Rattle.std.proofs.Common.{◌≡◌, ◌<◌, length, arith}
use Rattle.std.proofs.lemmas.List.{nil_from_length}
use Rattle.expected.proofs.Pieces.{none_comes, last_ok, last_err}
use Rattle.expected.proofs.tester.Tester.finish.Goals as goal

pub returns-then-is_empty-clause-ok : goal.returns-then-is_empty-clause-ok
returns-then-is_empty-clause-ok c = λ cpus input ran.
    let none : length c.args.self.now.line.items ≡ 0 = grind arith in
    none_comes c.args.name.now cpus input c.args.self.now c.args.self.now.player.report.items (nil_from_length c.args.self.now.line.items none) ran

pub returns-clause-ok : goal.returns-clause-ok
returns-clause-ok c =
    let some : 0 < length c.args.self.now.line.items = grind arith in
    last_ok c.run_line.result c.args.name.now c.args.self.now _ some c.requires (rw c.deref.ensures.value at c.run_line.ensures.ok)

pub returns-clause-fault : goal.returns-clause-fault
returns-clause-fault c =
    let some : 0 < length c.args.self.now.line.items = grind arith in
    last_err c.run_line.result c.args.self.now some (rw c.deref.ensures.value at c.run_line.ensures.fault)
