-- The spaces of the tests may be lent.
use Rattle.std.proofs.Common.{◌≡◌, Result, Ok, Err, is_some, refl, ap}
use Rattle.std.specs.Result.{OnErr, OnOk}
use Rattle.std.specs.Ordering.{nat_cmp}
use Rattle.std.specs.FinMap.{get-empty}
use Rattle.foundation.specs.Bits.{is_one}
use Rattle.foundation.specs.Ranges.{none_below}
use Rattle.mig_model.specs.Space.{Space, fresh_space}
use Rattle.mig_model.specs.Ioctls.{handshaken}
use Rattle.uffd_ioctl.specs.Lent.{IsLent}

pub opened_lent : IsLent (handshaken fresh_space 170 333)
unfolding is_one none_below
opened_lent = record { enabled = refl; events = refl; low = λ page l. ap is_some (get-empty nat_cmp page) }

-- whether or not a call was refused
pub either_lent : {T E : Type 0} (result : Result T E) (old next new : Space) → OnOk result (new ≡ next) → OnErr result (new ≡ old) → IsLent next → IsLent old → IsLent new
either_lent (Ok answer) old next new made kept after before = rw made after
either_lent (Err fault) old next new made kept after before = rw kept before
