use Rattle.std.proofs.Common.{◌≡◌, drop}
use Rattle.kernel_rules.specs.Certified.{find_of}
use Rattle.kernel_rules.proofs.certify.find_begun.Given as goal

abbrev pub invariant-loop-one : goal.invariant-loop-one
invariant-loop-one l = find_of (drop l.one-index l.begun) l.key ≡ find_of l.begun l.key
