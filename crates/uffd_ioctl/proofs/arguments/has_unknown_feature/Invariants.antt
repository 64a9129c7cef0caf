use Rattle.std.proofs.Common.{◌≡◌, ℕ, ◌<◌, ◌&&◌, false, not}
use Rattle.foundation.specs.Bits.{is_one}
use Rattle.mig_model.specs.Ioctls.{is_feature}
use Rattle.uffd_ioctl.proofs.arguments.has_unknown_feature.Given as goal

abbrev pub invariant-loop-i : goal.invariant-loop-i
invariant-loop-i l = (k : ℕ) → k < l.i → (is_one l.features k && not (is_feature k)) ≡ false
