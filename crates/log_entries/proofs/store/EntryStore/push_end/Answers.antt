use Rattle.log_entries.proofs.Stored.{added_err, added_in, added_ok, kept_err}
use Rattle.log_entries.proofs.store.EntryStore.push_end.Goals as goal

pub returns-in_err-slot-clause-err : goal.returns-in_err-slot-clause-err
returns-in_err-slot-clause-err c = kept_err c.self.inside.tables c.end_slot.new.self c.self.inside.slots.items c.args.self.now c.from_residual.result c.end_slot.ensures.grown c.self.invariant c.self.view_is

pub invariant_of-self-2 : goal.invariant_of-self-2
invariant_of-self-2 c =
    added_in c.self.inside.tables c.end_slot.new.self c.self.inside.slots.items c.add_slot.new.slots.items c.in_ok-slot.slot c.add_slot.result c.end_slot.ensures.grown c.self.invariant c.in_ok-slot.ensures.slot
    c.add_slot.ensures.ok c.add_slot.ensures.err

pub returns-clause-ok : goal.returns-clause-ok
returns-clause-ok c =
    added_ok c.self.inside.tables c.end_slot.new.self c.self.inside.slots.items c.add_slot.new.slots.items c.in_ok-slot.slot c.args.self.now _ c.add_slot.result c.end_slot.ensures.grown c.self.invariant c.self.view_is
    c.in_ok-slot.ensures.event c.add_slot.ensures.ok

pub returns-clause-err : goal.returns-clause-err
returns-clause-err c =
    added_err c.self.inside.tables c.end_slot.new.self c.self.inside.slots.items c.add_slot.new.slots.items c.args.self.now c.add_slot.result c.end_slot.ensures.grown c.self.invariant c.self.view_is c.add_slot.ensures.err
