use Rattle.std.proofs.Common.{subst}
use Rattle.explore.specs.Explorations.{IsComment}
use Rattle.explore.proofs.Going.{explored_first, stops_first, on_err}
use Rattle.explore.proofs.run.run_explore.Goals as goal

pub returns-in_default-clause-fault : goal.returns-in_default-clause-fault
returns-in_default-clause-fault g c = stops_first _ _ _ _ _

pub returns-in_err-add_comment-clause-fault : goal.returns-in_err-add_comment-clause-fault
returns-in_err-add_comment-clause-fault g c = on_err _ _ (stops_first _ _ _ _ _)

pub write_script-requires-clause-start : goal.write_script-requires-clause-start
write_script-requires-clause-start g c =
    explored_first _ _ _ (subst (λ before. IsComment before c.add_comment.new.self.output.items) c.new-sheet.ensures c.in_ok-add_comment.ensures)
