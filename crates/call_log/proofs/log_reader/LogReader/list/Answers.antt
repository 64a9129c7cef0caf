use Rattle.std.proofs.Common.{refl}
use Rattle.call_log.proofs.Lines.{adds_one}
use Rattle.call_log.proofs.log_reader.LogReader.list.Goals as goal

pub returns : goal.returns
returns c = (
  c.print_listed.new.listed.items,
  adds_one c.args.self.now _ c.print_listed.new.listed.items (rw c.as_str.ensures.value at c.in_ok-print_listed.ensures) (rw c.deref.ensures.value at c.in_ok-extend_from_slice.ensures.items) refl refl refl,
  refl,
  refl,
)
