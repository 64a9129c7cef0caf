use Rattle.std.proofs.Common.{◌≡◌, ◌∙◌, ℕ, ◌<◌, List, Option, Some, None, sym, ap, subst}
use Rattle.std.proofs.lemmas.Option.{slice_get_within}
use Rattle.std.specs.Prelude.{slice_get}
use Rattle.log_entries.specs.declared.slot.Slot.{Slot}
use Rattle.log_entries.proofs.Stored.{in_at, kept_err, set_in, settled_none, settled_set}
use Rattle.log_entries.proofs.store.EntryStore.settle.Goals as goal

-- the slot that a list lends is that of the vector
lent : (items lent : List Slot) (at : ℕ) (found one : Option Slot) → lent ≡ items → found ≡ slice_get lent at → found ≡ one → slice_get items at ≡ one
lent items l at found one same is here = ap (λ (s : List Slot). slice_get s at) (sym same) ∙ sym is ∙ here

pub returns-in_default-clause-ok : goal.returns-in_default-clause-ok
returns-in_default-clause-ok c =
    settled_none c.self.inside.tables c.self.inside.slots.items c.args.self.now c.args.at c.args.space c.args.last
    (lent c.self.inside.slots.items c.deref.result.now c.args.at c.slot_at.result None c.deref.ensures.value c.slot_at.ensures c.in_default.is) c.self.view_is

pub settled_slot-requires : goal.settled_slot-requires
settled_slot-requires c =
    in_at c.self.inside.tables c.self.inside.slots.items c.args.at c.in-Some.slot c.self.invariant
    (lent c.self.inside.slots.items c.deref.result.now c.args.at c.slot_at.result (Some c.in-Some.slot) c.deref.ensures.value c.slot_at.ensures c.in-Some.is)

pub returns-in_err-settled-clause-err : goal.returns-in_err-settled-clause-err
returns-in_err-settled-clause-err c =
    kept_err c.self.inside.tables c.settled_slot.new.self c.self.inside.slots.items c.args.self.now c.from_residual.result c.settled_slot.ensures.grown c.self.invariant c.self.view_is

pub index_mut-requires : goal.index_mut-requires
index_mut-requires c =
    subst (λ (n : ℕ). c.args.at < n) c.deref.ensures.len (slice_get_within c.deref.result.now c.args.at c.in-Some.slot (sym c.slot_at.ensures ∙ c.in-Some.is))

pub invariant_of-self-2 : goal.invariant_of-self-2
invariant_of-self-2 c =
    set_in c.self.inside.tables c.settled_slot.new.self c.self.inside.slots.items c.args.at c.in_ok-settled.settled c.settled_slot.ensures.grown c.self.invariant c.in_ok-settled.ensures.slot

pub returns-clause-ok : goal.returns-clause-ok
returns-clause-ok c =
    settled_set c.self.inside.tables c.settled_slot.new.self c.self.inside.slots.items c.args.at c.args.space c.args.last c.in-Some.slot c.in_ok-settled.settled c.args.self.now c.settled_slot.ensures.grown c.self.invariant
    c.self.view_is (lent c.self.inside.slots.items c.deref.result.now c.args.at c.slot_at.result (Some c.in-Some.slot) c.deref.ensures.value c.slot_at.ensures c.in-Some.is) c.in_ok-settled.ensures.event
