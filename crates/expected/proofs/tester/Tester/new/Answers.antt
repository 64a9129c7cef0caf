use Rattle.std.proofs.Common.{◌≡◌, [], refl, rules}
use Rattle.expected.specs.declared.tester.Tester.{Tester}
use Rattle.expected.proofs.Pieces.{ran_none}
use Rattle.expected.proofs.tester.Tester.new.Goals as goal

pub returns-clause-ok : goal.returns-clause-ok
returns-clause-ok c =
    let t : Tester = record { player = c.in_ok-new.field-0; line = c.new-2.result; number = 0 } in
    let none : t.line.items ≡ [] = search rules in
    ran_none c.args.cpus t none refl c.in_ok-new.ensures.ok c.in_ok-new.ensures.answers
