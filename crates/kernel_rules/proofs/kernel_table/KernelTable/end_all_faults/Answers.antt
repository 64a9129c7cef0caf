use Rattle.std.proofs.Common.{◌∙◌, ◌++◌, ap, refl, true}
use Rattle.std.specs.Prelude.{filter_map}
use Rattle.kernel_rules.specs.Faults.{left_unanswered}
use Rattle.kernel_rules.specs.declared.fault.Fault.{Fault}
use Rattle.kernel_rules.proofs.Replies.{all_over}
use Rattle.kernel_rules.proofs.kernel_table.KernelTable.end_all_faults.Goals as goal

pub returns-clause-over : goal.returns-clause-over
returns-clause-over c =
    all_over c.args.self.now (record c.args.self.now { faults = c.clear.new.self; unanswered = c.note_all.new.unanswered }) refl c.clear.ensures.items
    (c.in_ok-note_all.ensures ∙ ap (λ fs. c.args.self.now.unanswered.items ++ filter_map (left_unanswered (λ (fault : Fault). true)) fs) c.deref.ensures.value)
