use Rattle.std.proofs.Common.{◌≡◌, ◌∙◌, subst, ap}
use Rattle.std.specs.Result.{OnOk}
use Rattle.kernel_rules.specs.Held.{kernel_of}
use Rattle.kernel_rules.specs.Ioctls.{end_ranges}
use Rattle.kernel_rules.specs.State.{Kernel}
use Rattle.kernel_rules.proofs.Replies.{closed_is}
use Rattle.kernel_rules.proofs.kernel_table.KernelTable.close.Goals as goal

pub returns-clause-closed : goal.returns-clause-closed
returns-clause-closed c =
    let listed : c.in-Ok.ranges.items ≡ (kernel_of c.args.self.now).ranges = cc (c.in-Ok.ensures.items, c.ranges-2.ensures) in
    subst (λ (k : Kernel). OnOk c.wake.result (kernel_of c.wake.new.self ≡ k))
    (closed_is (kernel_of c.args.self.now) (kernel_of c.note_if.new.self) (kernel_of c.end_ranges.new.self) (kernel_of c.drop_object.new.self) c.args.name c.args.object c.is_watching-watching.result c.in-Ok.ranges.items
    c.is_watching-watching.ensures listed c.in_ok-note_if.ensures.noted
    (c.in_ok-end_ranges.ensures.ended ∙ ap (λ rs. end_ranges (kernel_of c.note_if.new.self) c.args.name c.args.object rs) c.deref.ensures.value) c.drop_object.ensures.gone)
    c.wake.ensures.woken
