use Rattle.kernel_rules.specs.Held.{kernel_of}
use Rattle.kernel_rules.proofs.Owed.{owed_more, owed_none}
use Rattle.kernel_rules.proofs.kernel_table.KernelTable.note_owed.Goals as goal

pub loop-i-preserved : goal.loop-i-preserved
loop-i-preserved c = (
  c.in_ok-note_page.ensures.tables,
  owed_more (kernel_of c.args.self.now) (kernel_of c.loop-i.self) (kernel_of c.note_page.new.self) c.args.name c.args.object c.args.first c.loop-i.i c.loop-i.invariant.1 c.in_ok-note_page.ensures.noted,
)

pub loop-i-init : goal.loop-i-init
loop-i-init c = (c.requires.tables, owed_none (kernel_of c.args.self.now) c.args.name c.args.object c.args.first)
