use Rattle.std.proofs.Common.{◌≡◌, ◌∙◌, ℕ, List, Option, ap, subst}
use Rattle.std.specs.Result.{OnOk}
use Rattle.kernel_rules.specs.declared.known.Page.{Page}
use Rattle.kernel_rules.specs.Held.{kernel_of}
use Rattle.kernel_rules.specs.Ioctls.{pages_set}
use Rattle.kernel_rules.specs.State.{Kernel}
use Rattle.kernel_rules.proofs.Replies.{protected_kept, protected_woken}
use Rattle.kernel_rules.proofs.kernel_table.KernelTable.protect_in.Goals as goal

pub returns-then-bits-ne0-clause-protected : goal.returns-then-bits-ne0-clause-protected
returns-then-bits-ne0-clause-protected c =
    protected_kept (kernel_of c.args.self.now) (kernel_of c.change.new.self) (kernel_of c.set_pages.new.self) (kernel_of c.drop_protected.new.self) (kernel_of c.note_if.new.self) c.args.key c.args.name c.args.object
    c.args.first c.args.count c.args.bits c.each_page-hole.result c.has_bit.result c.protects_missing.result c.in_ok-kept.kept.items c.each_page-hole.ensures c.has_bit.ensures c.protects_missing.ensures
    c.in_ok-kept.ensures c.in_ok-change.ensures.changed (c.in_ok-set_pages.ensures.set ∙ ap (λ (ps : List (ℕ × Option Page)). pages_set (kernel_of c.change.new.self) c.args.object.space ps) c.deref.ensures.value) c.drop_protected.ensures.dropped c.in_ok-note_if.ensures.noted c.if-bits-ne0.true

pub returns-clause-protected : goal.returns-clause-protected
returns-clause-protected c =
    subst (λ (k : Kernel). OnOk c.wake.result (kernel_of c.wake.new.self ≡ k))
    (protected_woken (kernel_of c.args.self.now) (kernel_of c.change.new.self) (kernel_of c.set_pages.new.self) (kernel_of c.drop_protected.new.self) (kernel_of c.note_if.new.self) c.args.key c.args.name c.args.object
    c.args.first c.args.count c.args.bits c.each_page-hole.result c.has_bit.result c.protects_missing.result c.in_ok-kept.kept.items c.each_page-hole.ensures c.has_bit.ensures c.protects_missing.ensures
    c.in_ok-kept.ensures c.in_ok-change.ensures.changed (c.in_ok-set_pages.ensures.set ∙ ap (λ (ps : List (ℕ × Option Page)). pages_set (kernel_of c.change.new.self) c.args.object.space ps) c.deref.ensures.value) c.drop_protected.ensures.dropped c.in_ok-note_if.ensures.noted c.if-bits-ne0.false)
    c.wake.ensures.woken
