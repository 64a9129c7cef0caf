use Rattle.std.proofs.Common.{◌≡◌, length, take}
use Rattle.std.specs.List.{concat}
use Rattle.mig_model.specs.Guest.{counted}
use Rattle.world.proofs.parts.would.bytes_on.Given as goal

abbrev pub invariant-loop-index : goal.invariant-loop-index
invariant-loop-index l = record {
  sum : l.bytes ≡ counted 0 (length (concat (take l.index l.wire.pieces)));
}
