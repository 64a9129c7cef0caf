use Rattle.std.proofs.Common.{◌∙◌, sym, ap, arith}
use Rattle.std.specs.List.{list_any}
use Rattle.std.proofs.lemmas.List.Folds.{list_any_at}
use Rattle.std.proofs.lemmas.List.{take_all}
use Rattle.mig_base.specs.Userfault.{Noted, is_fault_at}
use Rattle.userfault.proofs.QueueLemmas.{any_waits}
use Rattle.userfault.proofs.noted.waits.Goals as goal

pub returns-then-is_fault_at : goal.returns-then-is_fault_at
returns-then-is_fault_at c =
    sym (list_any_at (λ (noted : Noted). is_fault_at noted.message c.args.addr c.args.wp) c.args.faults.now.items c.loop-i.i c.index.result.now (omega arith)
    (ap (λ noted. is_fault_at noted.message c.args.addr c.args.wp) (sym c.index.ensures) ∙ sym c.is_fault_at.ensures ∙ c.if-is_fault_at.true))
    ∙ any_waits c.args.faults.now.items c.args.addr c.args.wp

pub returns : goal.returns
returns c =
    sym c.loop-i.invariant
    ∙ ap (list_any (λ (noted : Noted). is_fault_at noted.message c.args.addr c.args.wp)) (take_all c.loop-i.i c.args.faults.now.items (omega arith))
    ∙ any_waits c.args.faults.now.items c.args.addr c.args.wp
