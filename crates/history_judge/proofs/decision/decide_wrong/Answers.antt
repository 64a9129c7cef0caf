use Rattle.std.proofs.Common.{◌≡◌, ◌≢◌, [], refl, ap, arith, length, vec_len}
use Rattle.std.proofs.lemmas.Bool.Decides.{nat_tests}
use Rattle.history_judge.proofs.Named.{refuted_by}
use Rattle.history_judge.proofs.decision.decide_wrong.Goals as goal

pub returns : goal.returns
returns c =
    let some : c.in_ok-kept.kept.items ≢ [] =
    λ none.
    let empty : length c.in_ok-kept.kept.items ≡ 0 = ap length none in
    let len : vec_len c.in_ok-kept.kept ≡ 0 = omega (arith, empty, c.in_ok-kept.kept.ok.0) in
    grind (arith, nat_tests, len, c.if-is_empty.false, c.is_empty.ensures)
    in
    record {
      unmoved = refl;
      some = some;
      there = c.in_ok-kept.ensures;
      no_order = refuted_by c.args.clock c.args.operations.now c.in_ok-kept.kept.items some c.in_ok-kept.ensures;
    }
