use Rattle.std.proofs.Common.{◌∙◌, sym}
use Rattle.mig_base.specs.Bytes.{zero_page}
use Rattle.fault_handler.proofs.KeptLemmas.{kept_put, kept_replaced, kept_undone}
use Rattle.fault_handler.proofs.kept.Kept.keep_zero.Goals as goal

pub invariant_of-self : goal.invariant_of-self
invariant_of-self c =
    kept_replaced c.self.inside.pages c.replace_by_zeros.new.self c.self.inside.set c.args.page zero_page c.self.invariant (sym c.contains.ensures ∙ c.if-contains.true) c.replace_by_zeros.ensures.bytes c.replace_by_zeros.ensures.protected

pub invariant_of-self-in-Ok : goal.invariant_of-self-in-Ok
invariant_of-self-in-Ok c = kept_put c.self.inside.pages c.put_zero.new.self c.self.inside.set c.insert.new.self c.args.page zero_page c.self.invariant c.in_ok-insert.ensures.ok c.in-Ok.ensures.ok c.in-Ok.ensures.protected

pub invariant_of-self-in-Err : goal.invariant_of-self-in-Err
invariant_of-self-in-Err c =
    kept_undone c.self.inside.pages c.put_zero.new.self c.self.inside.set c.insert.new.self c.remove.new.self c.args.page c.self.invariant (sym c.contains.ensures ∙ c.if-contains.false) c.in_ok-insert.ensures.ok c.remove.ensures c.in-Err.ensures.fault.0 c.in-Err.ensures.protected
