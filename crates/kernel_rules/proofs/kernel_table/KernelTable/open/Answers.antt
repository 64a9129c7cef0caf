use Rattle.std.proofs.Common.{◌≡◌, ◌∙◌, false, sym}
use Rattle.std.specs.Prelude.{is_some}
use Rattle.kernel_rules.specs.Held.{kernel_of}
use Rattle.kernel_rules.proofs.Replies.{opened_is}
use Rattle.kernel_rules.proofs.kernel_table.KernelTable.open.Goals as goal

pub returns-in_ok-set_object-in-Opened-clause-step : goal.returns-in_ok-set_object-in-Opened-clause-step
returns-in_ok-set_object-in-Opened-clause-step c =
    let fresh : is_some ((kernel_of c.args.self.now).objects c.in-Opened.on.object) ≡ false = cc (c.object.ensures, c.is_some.ensures, c.if-is_some.false) in
    opened_is (kernel_of c.args.self.now) (kernel_of c.set_object.new.self) c.args.space c.args.program c.args.flags c.args.answer c.in-Opened.on c.has_bit-waits.result c.in-Opened.is fresh (sym c.is_within.ensures ∙ c.if-not-is_within.false) c.has_bit-waits.ensures
    c.in_ok-set_object-in-Opened.ensures.set
