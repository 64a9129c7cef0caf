use Rattle.std.proofs.Common.{◌≡◌, ◌-◌, ◌++◌, ◌∷◌, [], ◌↔◌, IsTrue, length, take, get_or, rules, ap, sym, ◌∙◌}
use Rattle.expected.proofs.Cuts.{last_parts, is_behind}
use Rattle.expected.proofs.player.is_answer.Goals as goal

pub returns-in-10 : goal.returns-in-10
returns-in-10 c =
    let out = c.args.output.now in
    let answer = c.args.answer.now in
    let last : get_or out (length out - 1) 0 ≡ 10 = search rules in
    let parts = last_parts out c.in-10.len_at_least last in
    let same : IsTrue c.eq.result ↔ (take (length out - 1) out ≡ answer) = search rules in (
      λ is. parts ∙ ap (λ t. t ++ 10 ∷ []) (same.0 is),
      λ e. same.1 (is_behind _ answer (sym parts ∙ e)),
    )
