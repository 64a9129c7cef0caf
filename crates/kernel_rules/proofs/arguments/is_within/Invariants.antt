use Rattle.std.proofs.Common.{◌≡◌, ℕ, ◌<◌, false}
use Rattle.std.specs.Prelude.{not, ◌&&◌}
use Rattle.foundation.specs.Bits.{is_one}
use Rattle.kernel_rules.proofs.arguments.is_within.Given as goal

abbrev pub invariant-loop-i : goal.invariant-loop-i
invariant-loop-i l = (k : ℕ) → k < l.i → (is_one l.word k && not (is_one l.other k)) ≡ false
