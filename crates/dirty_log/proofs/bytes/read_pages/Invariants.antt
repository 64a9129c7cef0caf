use Rattle.std.proofs.Common.{◌≡◌, length, take}
use Rattle.mig_model.specs.Source.{Source, run_of, space_of}
use Rattle.dirty_log.proofs.bytes.read_pages.Given as goal

abbrev pub invariant-loop-i : goal.invariant-loop-i
invariant-loop-i l = record {
  same : length l.into.items ≡ length l.fn.into.items;
  read : (node : Source) → (space_of node).host.bytes ≡ l.space.host.bytes → take l.i l.into.items ≡ run_of node l.first l.i;
}
