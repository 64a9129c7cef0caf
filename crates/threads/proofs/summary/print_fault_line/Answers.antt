use Rattle.std.proofs.Common.{ℕ, List, [], ◌∷◌, ◌++◌, ap, ◌∙◌}
use Rattle.std.specs.Prelude.{codes, string_bytes}
use Rattle.threads.proofs.summary.print_fault_line.Goals as goal

pub returns-clause-ok : goal.returns-clause-ok
returns-clause-ok c = c.in_ok-write.ensures.bytes ∙ ap (λ (name : List ℕ). string_bytes c.args.text.now ++ (codes "close fault " ++ (name ++ 10 ∷ []))) c.name_of-name.ensures
