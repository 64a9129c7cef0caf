use Rattle.std.proofs.Common.{◌≡◌, [], arith, vec_len}
use Rattle.std.proofs.lemmas.Bool.Decides.{nat_tests}
use Rattle.std.proofs.lemmas.List.{nil_from_length}
use Rattle.std.proofs.lemmas.Result.{on_ok_weaker}
use Rattle.call_log.proofs.Reading.{finished_none, finished_last}
use Rattle.call_log.proofs.input.LineReader.finish.Goals as goal

pub returns-then-is_empty : goal.returns-then-is_empty
returns-then-is_empty c =
    let len : vec_len c.args.self.now.held ≡ 0 = grind (arith, nat_tests, c.if-is_empty.true, c.is_empty.ensures) in
    let none : c.args.self.now.held.items ≡ [] = nil_from_length c.args.self.now.held.items (omega (arith, len, c.args.self.now.held.ok.0)) in
    on_ok_weaker c.finish.result (λ a name input before w at. finished_none name input before w c.args.self.now _ none a at) c.finish.ensures

pub returns : goal.returns
returns c =
    on_ok_weaker c.finish-2.result
    (λ a name input before w at. finished_last name input before w c.args.self.now c.end_line.new.self _ c.in_ok-end_line.ensures a at)
    c.finish-2.ensures
